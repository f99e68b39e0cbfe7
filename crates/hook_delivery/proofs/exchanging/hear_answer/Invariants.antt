use Rattle.std.proofs.Common.{◌≡◌, ◌-◌, ◌<◌, length, take}
use Rattle.hook_delivery.specs.Within.Conversing.{HearsSoFar}
use Rattle.hook_delivery.proofs.exchanging.hear_answer.Given as goal

-- so many bytes were heard so far, and there is room for more
abbrev pub invariant-loop-heard : goal.invariant-loop-heard
invariant-loop-heard g l = record {
  so_far : HearsSoFar (take l.count l.heard) (g.X.Disk.device l.fn.site) (g.X.Disk.device l.site);
  length_is : length l.heard ≡ 16384;
  room : l.count < 16384;
}

abbrev pub decreases-loop-heard : goal.decreases-loop-heard
decreases-loop-heard g l = 16384 - l.count
