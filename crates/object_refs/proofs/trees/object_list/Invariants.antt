use Rattle.std.proofs.Common.{◌≡◌, ◌++◌, drop, map}
use Rattle.shared_tree.specs.Pairs.{values_of}
use Rattle.object_refs.specs.References.{objects_in}
use Rattle.object_refs.specs.Within.Apart.{shown_row}
use Rattle.object_refs.proofs.trees.object_list.Given as goal

abbrev pub invariant-loop-object : goal.invariant-loop-object
invariant-loop-object l =
    l.list ++ map (shown_row l.held) (objects_in (values_of (drop l.object-index l.kept))) ≡ map (shown_row l.held) (objects_in (values_of l.kept))
