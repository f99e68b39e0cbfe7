use Rattle.std.proofs.Common.{◌≡◌, ◌-◌, drop}
use Rattle.change_codec.specs.Values.{is_rising}
use Rattle.change_codec.proofs.values.are_rising.Given as goal

abbrev pub invariant-loop-at : goal.invariant-loop-at
invariant-loop-at l = is_rising (drop (l.at - 1) l.tags) ≡ is_rising l.tags
