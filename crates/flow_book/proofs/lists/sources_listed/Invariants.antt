use Rattle.std.proofs.Common.{◌≡◌, ◌++◌, drop}
use Rattle.shared_tree.specs.Pairs.{values_of}
use Rattle.flow_book.specs.Listing.{sources_listed}
use Rattle.flow_book.proofs.lists.sources_listed.Given as goal

abbrev pub invariant-loop-row : goal.invariant-loop-row
invariant-loop-row l = l.list ++ sources_listed l.wanted l.after (values_of (drop l.row-index l.sources)) ≡ sources_listed l.wanted l.after
    (values_of l.sources)
