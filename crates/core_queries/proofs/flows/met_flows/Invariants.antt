use Rattle.std.proofs.Common.{◌≡◌, ◌++◌, drop, filter}
use Rattle.media_rows.specs.Views.{passes_range}
use Rattle.shared_tree.specs.Pairs.{values_of}
use Rattle.core_queries.proofs.flows.met_flows.Given as goal

abbrev pub invariant-loop-row : goal.invariant-loop-row
invariant-loop-row l =
    values_of l.met.items ++ filter (passes_range l.media.media.segments l.range) (values_of (drop l.row-index l.rows))
    ≡ filter (passes_range l.media.media.segments l.range) (values_of l.rows)
