use Rattle.std.proofs.Common.{sym, ap, ap₂, ◌∙◌}
use Rattle.media_rows.specs.Catalog.{after_set_source, set_source_refusal}
use Rattle.core_registry.specs.Registry.{with_events_of, within}
use Rattle.core_registry.proofs.registry.Registry.set_source.Goals as goal

-- the catalog, and then its event
pub returns : goal.returns
returns c =
    let source = c.args.source in
    let part = c.args.part.now in
    let now = c.args.now in
    let self = c.args.self.now in
    let kept = c.catalog-kept.ensures in
    let book = c.in_ok-catalog.ensures in (
      ap (λ k. set_source_refusal k source part) (sym kept) ∙ book.0,
      c.in_ok-told.ensures
          ∙ ap₂ (λ h k. within (with_events_of h now (record self { catalog = k })))
          c.in_ok-happened.ensures (book.1 ∙ ap (λ k. after_set_source source part now k) kept),
    )
