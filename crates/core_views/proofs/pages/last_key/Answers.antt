use Rattle.std.proofs.Common.{FitsSigned, rules}
use mir.Syntax.{w128}
use Rattle.std.proofs.lemmas.Int.{to_z-of_z}
use Rattle.core_views.proofs.Paging.{last_none, last_some}
use Rattle.core_views.proofs.pages.last_key.Goals as goal

-- the last one's
pub returns-in-Some : goal.returns-in-Some
returns-in-Some g c =
    let fit : FitsSigned w128 c.key.result = search rules in
    simp to_z-of_z (last_some g.T.Keyed.page_key c.args.rows.now c.in-Some.last.now c.key.result c.key.ensures c.in-Some.ensures.value)

pub returns-in-None : goal.returns-in-None
returns-in-None g c = last_none g.T.Keyed.page_key c.args.rows.now c.in-None.ensures.value
