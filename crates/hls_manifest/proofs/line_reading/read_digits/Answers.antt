use Rattle.std.proofs.Common.{◌+◌, ◌*◌, ◌∙◌, length, ap, sym, arith}
use Rattle.std.proofs.Math.Nat.{pow-le-pow_right}
use Rattle.std.proofs.lemmas.Grind.{pow_more}
use Rattle.hls_manifest.specs.Playlists.{last_digits}
use Rattle.hls_manifest.proofs.NumberLemmas.{no_digit, digits_more}
use Rattle.hls_manifest.proofs.line_reading.read_digits.Goals as goal
use Rattle.hls_manifest.proofs.line_reading.read_digits.Goals.{then-digit-lt48-via-then-digit-lt48, then-digit-lt48-via-else-digit-lt48+then-digit-gt57}

-- Nine digits have room.
pub overflow_mul-number : goal.overflow_mul-number
overflow_mul-number c =
    let most = pow-le-pow_right {n = 10} (omega arith) {i = c.loop-digit.digit-index} {j = 8}
    (omega arith) in
    omega arith

pub overflow_add-number : goal.overflow_add-number
overflow_add-number c =
    let most = pow-le-pow_right {n = 10} (omega arith) {i = c.loop-digit.digit-index} {j = 8}
    (omega arith) in
    omega arith

-- A digit more is read.
pub loop-digit-preserved : goal.loop-digit-preserved
loop-digit-preserved c =
    let digits = c.args.digits.now in
    let i = c.loop-digit.digit-index in
    let more = digits_more digits i c.loop-digit.number c.loop-digit-test.true
    c.loop-digit.invariant.same c.if-digit-lt48.false c.if-digit-gt57.false in
    let power = pow_more 10 i in
    record {
      same = more
          ∙ ap (λ d. last_digits (i + 1) (c.loop-digit.number * 10 + d)) (sym c.from.ensures);
      fits = omega arith;
    }

-- Another byte is no digit.
pub returns-then-digit-lt48-clause-none : goal.returns-then-digit-lt48-clause-none
returns-then-digit-lt48-clause-none c = λ _ n is.
    let digits = c.args.digits.now in
    elim c.then-digit-lt48.branch [
      | then-digit-lt48-via-then-digit-lt48 w ↦
          no_digit digits c.loop-digit.digit-index (length digits) n c.loop-digit-test.true
          (λ digit. omega (arith, digit.least, w.if-digit-lt48.true)) is
      | then-digit-lt48-via-else-digit-lt48+then-digit-gt57 w ↦
          no_digit digits c.loop-digit.digit-index (length digits) n c.loop-digit-test.true
          (λ digit. omega (arith, digit.most, w.if-digit-gt57.true)) is
    ]
