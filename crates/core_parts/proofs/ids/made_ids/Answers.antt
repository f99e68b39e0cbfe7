use Rattle.std.proofs.Common.{◌+◌, ◌++◌, ◌∷◌, List, ℕ, [], ap₂, ◌∙◌}
use Rattle.media_rows.specs.Answer.{made_id}
use Rattle.core_parts.proofs.Fronts.{ids_more, ids_none}
use Rattle.core_parts.proofs.ids.made_ids.Goals as goal

pub loop-index-init : goal.loop-index-init
loop-index-init c = c.new-ids.ensures ∙ ids_none (λ i. made_id c.args.store (c.args.serial + i))

-- one id more
pub loop-index-preserved : goal.loop-index-preserved
loop-index-preserved c =
    c.in_ok-push.ensures.ok
    ∙ ap₂ (λ (ids : List (List ℕ)) (id : List ℕ). ids ++ id ∷ []) c.loop-index.invariant c.in_ok-made_id.ensures
    ∙ ids_more (λ i. made_id c.args.store (c.args.serial + i)) c.loop-index.index
