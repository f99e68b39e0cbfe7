use Rattle.std.proofs.Common.{◌≡◌, filter, length}
use Rattle.shared_tree.specs.Pairs.{is_above, values}
use Rattle.object_blobs.specs.Within.Keys.{first_start}
use Rattle.object_blobs.proofs.looks.first_fitting.Given as goal

-- what those above the key hold is what all hold
abbrev pub invariant-holes : goal.invariant-holes
invariant-holes g l = first_start l.blocks (values (filter (is_above l.key) l.holes)) ≡ first_start l.blocks (values l.holes)

abbrev pub decreases-holes : goal.decreases-holes
decreases-holes g l = length (filter (is_above l.key) l.holes)
