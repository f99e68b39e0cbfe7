use Rattle.std.proofs.Common.{nat_lt, ap, ◌∙◌}
use Rattle.media_rows.specs.Lists.{placed_all}
use Rattle.shared_tree.specs.Pairs.{values_of}
use Rattle.object_refs.proofs.Lists.{if_ok}
use Rattle.object_refs.proofs.Counting.{counts_least, listed_once}
use Rattle.object_refs.proofs.flows.FlowCounts.distinct.Goals as goal

-- each key is a flow's
pub all_values-requires : goal.all_values-requires
all_values-requires c = record { least = counts_least c.self.inside.counts c.self.invariant.keyed }

-- each flow has one count
pub returns : goal.returns
returns c =
    if_ok c.flow_list.result
    (λ list is. listed_once c.self.inside.total c.self.inside.counts (values_of c.deref.result.now) list c.keys_rise.ensures c.self.invariant
    (ap values_of c.deref.ensures.value ∙ c.in_ok-counts.ensures) is ∙ ap (placed_all nat_lt) c.self.view_is)
    c.flow_list.ensures
