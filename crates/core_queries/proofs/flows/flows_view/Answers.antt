use Rattle.std.proofs.Common.{ap, ◌∙◌}
use Rattle.media_rows.specs.Catalog.{Catalog}
use Rattle.shared_tree.specs.Pairs.{values_of}
use Rattle.id_index.proofs.Pairs.{if_ok}
use Rattle.media_book.specs.Media.{HeldMedia}
use Rattle.core_registry.specs.Registry.{Registry}
use Rattle.core_queries.proofs.Asked.{flows_shown}
use Rattle.core_queries.proofs.flows.flows_view.Goals as goal

-- what lies past the key of all that pass
pub returns : goal.returns
returns c =
    let segments = ap (λ (m : HeldMedia). m.media.segments) c.media-media.ensures in
    let flows = ap (λ (k : Catalog). k.flows) c.catalog.ensures ∙ ap (λ (r : Registry). r.catalog.flows) c.registry.ensures in
    if_ok c.flow_page.result
    (λ view is. is ∙ flows_shown c.args.parts.now.library c.args.page.now c.args.wanted.now c.args.range.now c.id_before.result c.media-media.result.now.media.segments
    c.catalog.result.now.flows c.in_ok-listed.listed c.items.result.now (values_of c.in_ok-past.past.items) (values_of c.deref.result.now)
    (values_of c.in_ok-met.met.items) (values_of c.deref-2.result.now) segments flows c.id_before.ensures c.in_ok-listed.ensures.exact c.items.ensures
    c.in_ok-past.ensures (ap values_of c.deref.ensures.value) c.in_ok-met.ensures (ap values_of c.deref-2.ensures.value)) c.flow_page.ensures
