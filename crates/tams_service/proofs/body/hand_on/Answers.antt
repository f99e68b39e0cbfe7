use Rattle.std.proofs.Common.{◌∙◌, sym}
use Rattle.tams_service.proofs.Taken.{hands_none, may_take, none_handed}
use Rattle.tams_service.proofs.body.hand_on.Goals as goal

pub put_piece-requires-clause-under_way : goal.put_piece-requires-clause-under_way
put_piece-requires-clause-under_way g c = may_take _ _ c.requires.inside (sym c.has_put.ensures ∙ c.if-has_put.true)

pub returns-else-has_put-clause-hands : goal.returns-else-has_put-clause-hands
returns-else-has_put-clause-hands g c = hands_none _ _ _ _ (sym c.has_put.ensures ∙ c.if-has_put.false)

pub returns-else-has_put-clause-handed : goal.returns-else-has_put-clause-handed
returns-else-has_put-clause-handed g c = λ tells. none_handed _ _ _ (sym c.has_put.ensures ∙ c.if-has_put.false)
