use Rattle.std.proofs.Common.{◌≡◌, ◌++◌, drop, map}
use Rattle.media_rows.specs.Views.{shown_flow}
use Rattle.shared_tree.specs.Pairs.{values_of}
use Rattle.core_queries.proofs.flows.flow_page.Given as goal

abbrev pub invariant-loop-row : goal.invariant-loop-row
invariant-loop-row l =
    l.list ++ map (shown_flow l.media.media.segments) (values_of (drop l.row-index l.page)) ≡ map (shown_flow l.media.media.segments) (values_of l.page)
