use Rattle.std.proofs.Common.{sym, subst, ◌∙◌}
use Rattle.id_index.specs.Within.Steps.{Sets}
use Rattle.id_index.proofs.Linked.{ids_gone, ids_put}
use Rattle.id_index.proofs.Named.{none_there}
use Rattle.id_index.proofs.Pairs.{if_ok}
use Rattle.id_index.proofs.index.with_ids.Goals as goal

pub returns-then-has_pairs : goal.returns-then-has_pairs
returns-then-has_pairs c =
    if_ok c.with_row.result (λ next is. ids_put c.args.to c.args.ids c.args.linked.now next is) c.with_row.ensures

-- where nothing stands, nothing is kept
pub returns-else-has_pairs : goal.returns-else-has_pairs
returns-else-has_pairs c =
    let none = none_there c.args.ids (sym c.has_pairs.ensures ∙ c.if-has_pairs.false) in
    if_ok c.without_row.result (λ next is. subst (λ l. Sets c.args.to l c.args.linked.now next) (sym none) (ids_gone c.args.to c.args.linked.now next is))
    c.without_row.ensures
