use Rattle.std.proofs.Common.{◌≡◌, [], ◌∙◌, None, List, ap, sym, length, refl}
use Rattle.std.proofs.lemmas.Bool.{eqb-true}
use Rattle.media_rows.proofs.PostLemmas.{none_of_length, nothing_told}
use Rattle.media_rows.proofs.reply.SortedPosts.unless_refused.Goals as goal

-- nothing is kept, and nothing failed
pub returns-clause-ok : goal.returns-clause-ok
returns-clause-ok c = nothing_told c.args.self c.new.result
    (sym c.items.ensures ∙ none_of_length c.items.result.now (eqb-true (length c.items.result.now) 0
    (sym c.is_empty.ensures ∙ c.if-not-is_empty.false)))
    (sym c.into_first.ensures ∙ c.in-None.is) c.new.ensures.kept c.new.ensures.failed
