use Rattle.std.proofs.Common.{◌≡◌, ◌++◌, drop, map}
use Rattle.shared_tree.specs.Pairs.{values_of}
use Rattle.object_refs.proofs.flows.flow_list.Given as goal

abbrev pub invariant-loop-counted : goal.invariant-loop-counted
invariant-loop-counted l = l.list ++ map (λ c. c.flow) (values_of (drop l.counted-index l.counts)) ≡ map (λ c. c.flow) (values_of l.counts)
