use Rattle.std.proofs.Common.{◌-◌, drop, length}
use Rattle.delete_work.specs.Within.Keeping.{HoldsJust}
use Rattle.delete_work.proofs.restores.gathered.Given as goal

abbrev pub invariant-loop-placed : goal.invariant-loop-placed
invariant-loop-placed l = HoldsJust (drop (length l.requests - l.placed) l.requests) l.book
