use Rattle.std.proofs.Common.{◌≡◌, ◌+◌, ◌%◌, ◌^◌, ◌∙◌, ℕ, inr, refl, sym, ap, arith}
use Rattle.disk_trait.specs.Numbers.{u64_bytes}
use Rattle.media_journal.specs.Within.Window.{HalfPiece}
use Rattle.media_journal.proofs.ReadingLemmas.{half_found, number_parts}
use Rattle.media_journal.proofs.scan.read_half.Goals as goal

-- No rows of such a length fit the half.
pub returns-then-length-end-clause-half : goal.returns-then-length-end-clause-half
returns-then-length-end-clause-half g c = λ shows.
    let says = rw c.in-Some.is at c.form_of.ensures in (
      refl,
      inr (record {
        form = c.in-Some.form;
        is = says.0;
        size = c.in_ok-number.number % 2 ^ 56;
        short = omega arith;
        text = sym (c.in_ok-number.ensures.number shows) ∙ ap u64_bytes (sym (number_parts c.in-Some.form c.in_ok-number.number says.1));
        passes = omega arith;
      }),
    )

-- The form is one of the two.
pub returns-clause-form : goal.returns-clause-form
returns-clause-form g c = (rw c.in-Some.is at c.form_of.ensures).0

-- The form, the length, the rows and the records were read from the image.
pub returns-clause-half : goal.returns-clause-half
returns-clause-half g c = λ shows.
    let says = rw c.in-Some.is at c.form_of.ensures in
    let first = c.in_ok-number.ensures.reads in
    let second = c.in_ok-rows.ensures.reads in
    let once = first.calls.same.shows ∙ shows in
    let size : ℕ = c.in_ok-number.number % 2 ^ 56 in
    let prefix = ap u64_bytes (number_parts c.in-Some.form c.in_ok-number.number says.1) ∙ c.in_ok-number.ensures.number shows in
    let text = rw first.seen at (c.in_ok-rows.ensures.text once) in
    let place : c.args.start + 8 + size ≡ c.args.start + (8 + size) = omega arith in
    let end = c.in_ok-rows.ensures.end ∙ c.in_ok-number.ensures.end ∙ ap (λ (w : HalfPiece). w.end) c.in_ok-window.ensures in
    let chain = rw (second.seen, first.seen, place, end) at (c.in_ok-chain.ensures.chain (second.calls.same.shows ∙ once)) in
    half_found _ _ _ _ c.in-Some.form size _ _ _ says.0 (omega arith) c.in_ok-rows.ensures.count prefix text chain
