use Rattle.std.proofs.Common.{◌≡◌, ◌++◌, drop}
use Rattle.shared_tree.specs.Pairs.{values_of}
use Rattle.flow_book.specs.Listing.{flows_listed}
use Rattle.flow_book.proofs.lists.flows_listed.Given as goal

abbrev pub invariant-loop-row : goal.invariant-loop-row
invariant-loop-row l = l.list ++ flows_listed l.wanted l.after (values_of (drop l.row-index l.flows)) ≡ flows_listed l.wanted l.after (values_of l.flows)
