use Rattle.std.proofs.Common.{ap, ◌∙◌}
use Rattle.shared_tree.specs.Pairs.{values}
use Rattle.id_index.proofs.Ids.{all_from_least}
use Rattle.id_index.proofs.Pairs.{if_ok}
use Rattle.id_index.proofs.rows.all_rows.Goals as goal

-- all rows stand from the least key on
pub returns : goal.returns
returns g c =
    if_ok c.rows_from.result (λ list is. is ∙ ap values (all_from_least c.args.rows.now c.keys_fit.ensures)) c.rows_from.ensures
