use Rattle.std.proofs.Common.{ap, sym, ◌∙◌}
use Rattle.media_rows.specs.declared.segment.SegmentRow.{SegmentRow}
use Rattle.media_rows.specs.Ranges.{hull}
use Rattle.media_rows.specs.Segments.{hull_of_segments}
use Rattle.segment_index.proofs.Hull.{hull_ends}
use Rattle.segment_index.proofs.index.SegmentIndex.hull.Goals as goal

-- the hull of the first and the last is that of all
pub returns-in-Some : goal.returns-in-Some
returns-in-Some c =
    let e = hull_ends c.self.inside.rows c.in-Some.first.now _ c.self.invariant.keyed c.self.invariant.apart c.in-Some.ensures c.last_segment-last.ensures in
    c.range_hull.ensures.value
    ∙ ap (λ (r : SegmentRow). hull c.in-Some.first.now.segment.range r.segment.range) c.segment_or.ensures
    ∙ sym e
    ∙ ap hull_of_segments c.self.view_is
