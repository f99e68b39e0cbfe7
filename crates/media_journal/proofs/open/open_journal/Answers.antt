use Rattle.std.proofs.Common.{◌+◌, ◌*◌, ◌∙◌, ℕ, List, Err, sym, subst, arith, rules}
use Rattle.std.proofs.lemmas.Result.{err_from_is_err_and}
use Rattle.media_journal.specs.File.{AreSizes}
use Rattle.media_journal.specs.Within.Scan.{HalfAnswer}
use Rattle.media_journal.proofs.OpeningLemmas.{is_store, damaged-sizes, open_fault}
use Rattle.media_journal.proofs.open.open_journal.Goals as goal

-- The header says that the file is a store, and its numbers don't fit the device.
pub returns-then-not-fits-clause-answer : goal.returns-then-not-fits-clause-answer
returns-then-not-fits-clause-answer g c = λ shows.
    let whole = (g.met.D.Disk.sound c.args.disk.now).length shows in
    let header = rw c.in-Some.is at (c.in_ok-header.ensures.header shows) in
    let size = whole ∙ sym c.len-size.ensures in
    (is_store _ _ header (omega (arith, size)), damaged-sizes _ _ header (λ sizes. let fit = rw size at sizes in search rules))

-- The half can't be read, or a read of it failed.
pub returns-in_err-half-clause-answer : goal.returns-in_err-half-clause-answer
returns-in_err-half-clause-answer g c = λ shows.
    let p = err_from_is_err_and c.from_residual-in_err-half.result c.from_residual-in_err-half.ensures.1 in
    let whole = (g.met.D.Disk.sound c.args.disk.now).length shows in
    let size = whole ∙ sym c.len-size.ensures in
    let header = rw c.in-Some.is at (c.in_ok-header.ensures.header shows) in
    let first = c.in_ok-header.ensures.reads in
    let second = c.in_ok-start.ensures.reads in
    let once = first.calls.same.shows ∙ shows in
    let place = rw first.seen at (c.in_ok-start.ensures.start once) in
    let answer =
    subst (λ (image : List ℕ). HalfAnswer image c.in_ok-start.start (c.in_ok-start.start + 4096 * c.in-Some.header.half) (Err c.in_err-half.field-0.0))
    (second.seen ∙ first.seen) (c.in_err-half.ensures.half (second.calls.same.shows ∙ once)) in
    let sizes : AreSizes c.in-Some.header c.len-size.result = search rules in
    rw (p.1, p.2) (open_fault _ _ _ _ header (omega (arith, size)) (rw size sizes) place answer)

-- The header, the selector and the half were read from the image.
pub returns-clause-answer : goal.returns-clause-answer
returns-clause-answer g c = λ shows.
    let whole = (g.met.D.Disk.sound c.args.disk.now).length shows in
    let size = whole ∙ sym c.len-size.ensures in
    let header = rw c.in-Some.is at (c.in_ok-header.ensures.header shows) in
    let sizes : AreSizes c.in-Some.header c.len-size.result = search rules in
    let first = c.in_ok-header.ensures.reads in
    let second = c.in_ok-start.ensures.reads in
    let once = first.calls.same.shows ∙ shows in
    let place = rw first.seen at (c.in_ok-start.ensures.start once) in
    let half = rw (second.seen, first.seen) at (c.in_ok-half.ensures.half (second.calls.same.shows ∙ once)) in
    c.assembled.ensures.opened _ record {
      store = is_store _ _ header (omega (arith, size));
      header = header;
      sizes = rw size sizes;
      start_is = place;
      found = half;
    }
