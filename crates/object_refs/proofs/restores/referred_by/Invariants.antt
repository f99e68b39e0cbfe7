use Rattle.std.proofs.Common.{◌-◌, drop, length}
use Rattle.object_refs.specs.Within.Books.{AreReferred}
use Rattle.object_refs.proofs.restores.referred_by.Given as goal

abbrev pub invariant-loop-passed : goal.invariant-loop-passed
invariant-loop-passed l = AreReferred (drop (length l.segments - l.passed) l.segments) l.bare l.book
