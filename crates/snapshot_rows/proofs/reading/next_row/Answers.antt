use Rattle.std.proofs.Common.{◌≡◌, ◌∙◌, length, sym, ap, subst}
use Rattle.media_rows.specs.declared.row.Row.{Row}
use Rattle.change_codec.specs.Rows.{row_spelling}
use Rattle.snapshot_rows.specs.Within.Places.{IsPlaceOf}
use Rattle.snapshot_rows.proofs.Fronts.{begins_by_length}
use Rattle.snapshot_rows.proofs.reading.next_row.Goals as goal

pub returns-in-Err-Bad-clause-none : goal.returns-in-Err-Bad-clause-none
returns-in-Err-Bad-clause-none c = λ is row later first.
    let none = rw c.in-Err-Bad.field-0-is at c.in-Err-Bad.ensures.none in
    absurd (none row (length ((row_spelling c.args.form).meaning.spell row)) (begins_by_length c.args.form c.args.bytes.now row later first))

-- the row at the front is the only one
pub returns-then-not-follows-clause-none : goal.returns-then-not-follows-clause-none
returns-then-not-follows-clause-none c = λ is row later first.
    let only = c.in-Ok.ensures.only row (length ((row_spelling c.args.form).meaning.spell row)) (begins_by_length c.args.form c.args.bytes.now row later first) in
    let place : IsPlaceOf c.place_of-place.result row =
    subst (λ (r : Row). IsPlaceOf c.place_of-place.result r) (ap (λ p. p.0) only) c.place_of-place.ensures in
    sym (c.follows.ensures row place) ∙ c.if-not-follows.true
