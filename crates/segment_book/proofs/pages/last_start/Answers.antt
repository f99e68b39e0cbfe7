use Rattle.std.proofs.Common.{FitsSigned, Some, rules, ap, ◌∙◌}
use mir.Syntax.{w128}
use Rattle.std.specs.Borrow.{Bor}
use Rattle.std.specs.Prelude.{option_map}
use Rattle.std.proofs.lemmas.Int.{to_z-of_z}
use Rattle.media_rows.specs.declared.segment.SegmentRow.{SegmentRow}
use Rattle.media_rows.specs.Segments.{first_point}
use Rattle.segment_book.proofs.Paging.{last_key_is}
use Rattle.segment_book.proofs.pages.last_start.Goals as goal

-- the last one's
pub returns-in-Some : goal.returns-in-Some
returns-in-Some c =
    let fit : FitsSigned w128 c.first_point.result = search rules in
    simp to_z-of_z
    (ap Some c.first_point.ensures ∙ ap (option_map (λ (r : Bor SegmentRow). first_point r.now)) c.in-Some.ensures.value ∙ last_key_is c.args.rows.now)

pub returns-in-None : goal.returns-in-None
returns-in-None c = ap (option_map (λ (r : Bor SegmentRow). first_point r.now)) c.in-None.ensures.value ∙ last_key_is c.args.rows.now
