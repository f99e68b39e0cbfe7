use Rattle.std.proofs.Common.{ℕ, length, take}
use Rattle.hook_delivery.specs.Judging.{PassesOver}
use Rattle.hook_delivery.proofs.judging.judge.Given as goal

-- what is left stands behind interim heads
abbrev pub invariant-loop-end : goal.invariant-loop-end
invariant-loop-end l = (count : ℕ) × PassesOver count (take 16384 l.fn.bytes) l.rest

-- each head has a byte
abbrev pub decreases-loop-end : goal.decreases-loop-end
decreases-loop-end l = length l.rest
