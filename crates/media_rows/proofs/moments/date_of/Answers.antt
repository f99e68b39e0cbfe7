-- The day number of 1970-01-01 is 0, and adding days moves it by their number, which stays in range.
use Rattle.std.proofs.Common.{◌≡◌, pos, FitsSigned, w32, w64, ◌∙◌, arith, refl}
use Rattle.std.proofs.lemmas.Bool.{false≢true}
use Rattle.std.proofs.lemmas.Int.{to_z-of_z}
use Rattle.jiff.proofs.OnLiterals.{jiff_on_literals}
use Rattle.jiff.proofs.SpanFacts.{signed_arith, date_add-days, can_add-days}
use Rattle.jiff.specs.Words.{epoch_day}
use Rattle.media_rows.proofs.moments.date_of.Goals as goal

pub returns-in-Ok : goal.returns-in-Ok
unfolding jiff_on_literals
returns-in-Ok c =
    let start = c.date-start.result in
    let month : start.month ≡ 1 = omega (arith, signed_arith, c.date-start.ensures.1) in
    let day : start.day ≡ 1 = omega (arith, signed_arith, c.date-start.ensures.2) in
    let zero : epoch_day start ≡ pos 0 = rw (c.date-start.ensures.0, month, day) refl in
    let small : FitsSigned w32 c.args.day = c.ranges.day in
    let fits : FitsSigned w64 c.args.day = omega (arith, signed_arith) in
    let only = simp to_z-of_z at c.days.ensures in
    let e = c.in-Ok.ensures.value ∙ date_add-days start c.args.day c.days.result only in
    omega (arith, signed_arith, e, zero)

pub returns-in-Err : goal.returns-in-Err
unfolding jiff_on_literals
returns-in-Err c =
    let start = c.date-start.result in
    let month : start.month ≡ 1 = omega (arith, signed_arith, c.date-start.ensures.1) in
    let day : start.day ≡ 1 = omega (arith, signed_arith, c.date-start.ensures.2) in
    let zero : epoch_day start ≡ pos 0 = rw (c.date-start.ensures.0, month, day) refl in
    let small : FitsSigned w32 c.args.day = c.ranges.day in
    let fits : FitsSigned w64 c.args.day = omega (arith, signed_arith) in
    let only = simp to_z-of_z at c.days.ensures in
    let can = can_add-days start c.args.day c.days.result only in
    let asked = c.requires in
    absurd (false≢true (c.in-Err.ensures.succeeds.1 (can.1 (omega (arith, signed_arith, zero), omega (arith, signed_arith, zero)))))
