use Rattle.std.proofs.Common.{◌-◌, drop, length}
use Rattle.object_refs.specs.Within.Books.{IsGathered}
use Rattle.object_refs.proofs.restores.gathered.Given as goal

abbrev pub invariant-loop-placed : goal.invariant-loop-placed
invariant-loop-placed l = IsGathered (drop (length l.objects - l.placed) l.objects) l.book
