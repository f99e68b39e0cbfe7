use Rattle.std.proofs.Common.{[], unwrap_or, ap, ◌∙◌}
use Rattle.id_index.specs.Index.{has_pairs, ids_at}
use Rattle.id_index.proofs.index.IdIndex.has_any.Goals as goal

pub returns-in-Some : goal.returns-in-Some
returns-in-Some c = c.has_pairs.ensures ∙ ap (λ found. has_pairs (unwrap_or found [])) c.in-Some.ensures ∙ ap (λ index. has_pairs (ids_at c.args.to index))
    c.self.view_is

pub returns-in-None : goal.returns-in-None
returns-in-None c = ap (λ found. has_pairs (unwrap_or found [])) c.in-None.ensures ∙ ap (λ index. has_pairs (ids_at c.args.to index)) c.self.view_is
