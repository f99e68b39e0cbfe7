use Rattle.std.proofs.Common.{◌≡◌, ◌+◌, drop}
use Rattle.core_parts.specs.Within.{front_length}
use Rattle.core_parts.proofs.ids.front_length.Given as goal

abbrev pub invariant-loop-index : goal.invariant-loop-index
invariant-loop-index l = l.index + front_length l.prefix (drop l.index l.ids) ≡ front_length l.prefix l.ids
