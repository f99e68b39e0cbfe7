use Rattle.std.proofs.Common.{ap, ◌∙◌, List, ℤ}
use Rattle.media_rows.specs.declared.segment.SegmentRow.{SegmentRow}
use Rattle.shared_tree.specs.Pairs.{first}
use Rattle.segment_index.specs.Within.Keyed.{row_of}
use Rattle.segment_index.proofs.Hull.{all_above}
use Rattle.segment_index.proofs.points.first_segment.Goals as goal

-- each segment begins above the least point
pub returns-in-Some : goal.returns-in-Some
returns-in-Some g c = ap row_of c.in-Some.ensures.pair ∙ ap (λ (l : List (ℤ × SegmentRow)). row_of (first l)) (all_above c.args.rows.now c.requires.kept.keyed)

pub returns : goal.returns
returns g c = ap row_of c.in-None.ensures.pair ∙ ap (λ (l : List (ℤ × SegmentRow)). row_of (first l)) (all_above c.args.rows.now c.requires.kept.keyed)
