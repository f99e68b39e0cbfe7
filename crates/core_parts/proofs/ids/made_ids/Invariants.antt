use Rattle.std.proofs.Common.{◌≡◌, ◌+◌, map}
use Rattle.media_rows.specs.Answer.{made_id}
use Rattle.media_rows.specs.Lists.{numbers_below}
use Rattle.core_parts.proofs.ids.made_ids.Given as goal

abbrev pub invariant-loop-index : goal.invariant-loop-index
invariant-loop-index l = l.ids ≡ map (λ i. made_id l.store (l.serial + i)) (numbers_below l.index)
