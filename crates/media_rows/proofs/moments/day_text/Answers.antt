-- What the date prints is the text of the date so many days after 1970-01-01.
use Rattle.std.proofs.Common.{◌∙◌, FitsSigned, w32}
use Rattle.std.proofs.lemmas.Int.{to_z-of_z}
use Rattle.std.proofs.lemmas.Result.{IfOk-weaker}
use Rattle.media_rows.proofs.CalendarLemmas.{date_text-civil_date}
use Rattle.media_rows.proofs.moments.day_text.Goals as goal

pub returns : goal.returns
returns c =
    let small : FitsSigned w32 c.args.day = c.ranges.day in
    let number = simp to_z-of_z at c.date_of.ensures in
    IfOk-weaker c.from_bytes.result _ _
    (λ text e n day. e ∙ c.as_bytes.ensures.value ∙ c.in_ok-printed.ensures.ok ∙ date_text-civil_date c.date_of.result n (number ∙ day))
    c.from_bytes.ensures
