use Rattle.std.proofs.Common.{[], unwrap_or, ap, ◌∙◌}
use Rattle.shared_tree.specs.Pairs.{values, values_of}
use Rattle.id_index.specs.Index.{ids_at}
use Rattle.id_index.proofs.Pairs.{if_ok}
use Rattle.id_index.proofs.index.IdIndex.ids.Goals as goal

pub returns-in-Some : goal.returns-in-Some
returns-in-Some c =
    if_ok c.all_rows.result (λ list is. is ∙ ap (λ found. values (unwrap_or found [])) c.in-Some.ensures ∙ ap (λ index. values (ids_at c.args.to index))
    c.self.view_is) c.all_rows.ensures

pub returns-in-None : goal.returns-in-None
returns-in-None c = ap values_of c.new.ensures.items ∙ ap (λ found. values (unwrap_or found [])) c.in-None.ensures ∙ ap
    (λ index. values (ids_at c.args.to index)) c.self.view_is
