use Rattle.std.proofs.Common.{sym, ap, ap₂, ◌∙◌}
use Rattle.media_rows.specs.Catalog.{after_put, put_refusal}
use Rattle.media_rows.specs.Events.{put_events}
use Rattle.media_rows.specs.Lists.{or_else}
use Rattle.core_registry.specs.Registry.{with_events_of, within}
use Rattle.core_registry.proofs.registry.Registry.put_flow.Goals as goal

-- the refusals in order, and then the catalog with its events
pub returns : goal.returns
returns c =
    let body = c.args.body.now in
    let now = c.args.now in
    let self = c.args.self.now in
    let kept = c.catalog-kept.ensures in
    let calm = sym c.deleting_refusal-refusal.ensures ∙ c.in_default.is in
    let book = c.in_ok-catalog.ensures in (
      ap (λ o. or_else o (put_refusal self.catalog body)) calm ∙ ap (λ k. put_refusal k body) (sym kept) ∙ book.0,
      c.in_ok-told.ensures
          ∙ ap₂ (λ h k. within (with_events_of h now (record self { catalog = k })))
          (c.in_ok-happened.ensures ∙ ap (λ k. put_events k body) kept) (book.1 ∙ ap (λ k. after_put body now k) kept),
    )
