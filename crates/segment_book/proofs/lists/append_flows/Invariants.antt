use Rattle.std.proofs.Common.{◌≡◌, ◌++◌, drop}
use Rattle.shared_tree.specs.Pairs.{values_of}
use Rattle.segment_book.specs.Within.Flows.{rows_joined}
use Rattle.segment_book.proofs.lists.append_flows.Given as goal

abbrev pub invariant-loop-index : goal.invariant-loop-index
invariant-loop-index l = l.list ++ rows_joined (values_of (drop l.index-index l.flows)) ≡ l.fn.list ++ rows_joined (values_of l.flows)

-- the steps of a walk are counted from a ledger of its own
abbrev pub ghosts-append_rows : goal.ghosts-append_rows
ghosts-append_rows a = record { name = a.blank.name; parts = a.blank.parts }
