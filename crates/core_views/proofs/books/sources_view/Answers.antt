use Rattle.std.proofs.Common.{ap, ◌∙◌}
use Rattle.shared_tree.specs.Pairs.{values_of}
use Rattle.id_index.proofs.Pairs.{if_ok}
use Rattle.core_views.proofs.Listed.{sources_shown}
use Rattle.core_views.proofs.books.sources_view.Goals as goal

-- what lies past the key of all that pass
pub returns : goal.returns
returns c =
    if_ok c.source_page.result
    (λ view is. is ∙ sources_shown c.args.page.now c.args.wanted.now c.id_before.result c.args.catalog.now.sources c.in_ok-listed.listed c.items.result.now
    (values_of c.in_ok-past.past.items) (values_of c.deref.result.now) c.id_before.ensures c.in_ok-listed.ensures.exact c.items.ensures c.in_ok-past.ensures
    (ap values_of c.deref.ensures.value)) c.source_page.ensures
