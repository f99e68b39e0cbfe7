use Rattle.std.proofs.Common.{◌≡◌, drop}
use Rattle.media_rows.specs.Ranges.{hull}
use Rattle.media_rows.specs.Segments.{hull_of_segments}
use Rattle.core_registry.proofs.events.hull_if_any.Given as goal

abbrev pub invariant-loop-row : goal.invariant-loop-row
invariant-loop-row l = hull l.hull (hull_of_segments (drop l.row-index l.rows)) ≡ hull_of_segments l.rows
