use Rattle.std.proofs.Common.{ap, ◌∙◌, List, ℤ}
use Rattle.media_rows.specs.declared.segment.SegmentRow.{SegmentRow}
use Rattle.shared_tree.specs.Pairs.{last}
use Rattle.segment_index.specs.Within.Keyed.{row_of}
use Rattle.segment_index.proofs.Hull.{all_up_to}
use Rattle.segment_index.proofs.points.last_segment.Goals as goal

-- each segment begins up to the greatest point
pub returns-in-Some : goal.returns-in-Some
returns-in-Some g c = ap row_of c.in-Some.ensures.pair ∙ ap (λ (l : List (ℤ × SegmentRow)). row_of (last l)) (all_up_to c.args.rows.now c.requires.kept.keyed)

pub returns : goal.returns
returns g c = ap row_of c.in-None.ensures.pair ∙ ap (λ (l : List (ℤ × SegmentRow)). row_of (last l)) (all_up_to c.args.rows.now c.requires.kept.keyed)
