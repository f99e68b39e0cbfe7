use Rattle.std.proofs.Common.{[], ◌∷◌, ◌++◌, map, subst, ap, ◌∙◌}
use Rattle.media_rows.specs.declared.row.Row.TheVariants as rows
use Rattle.media_rows.specs.Catalog.{Catalog}
use Rattle.media_rows.specs.Lists.{in_order}
use Rattle.media_rows.specs.Snapshot.{segment_row_before}
use Rattle.media_book.specs.Media.{HeldMedia}
use Rattle.core_registry.specs.Registry.{Registry}
use Rattle.core_rows.specs.Texts.{AddsRows}
use Rattle.core_snapshot.proofs.Joining.{kinds_joined}
use Rattle.core_snapshot.proofs.snapshot.snapshot_text_with.Goals as goal

-- one part behind the other
pub returns : goal.returns
returns c =
    let library = c.args.parts.now.library in
    let first = subst (λ (k : Catalog). AddsRows c.new-text.result (map rows.Source k.sources ++ map rows.Flow k.flows) c.append_catalog.new.text)
    (c.catalog.ensures ∙ ap (λ (r : Registry). r.catalog) c.registry.ensures) c.in_ok-append_catalog.ensures in
    let second = subst (λ (m : HeldMedia). AddsRows c.append_catalog.new.text
    (map rows.Object c.args.objects.now ++ map rows.Segment
    (in_order segment_row_before m.media.segments)) c.append_media.new.text) c.media.ensures c.in_ok-append_media.ensures in
    let third = subst (λ (r : Registry). AddsRows c.append_media.new.text (map rows.Request r.requests ++ map rows.Hook r.outbox.hooks
    ++ map rows.Event r.outbox.events ++ rows.Numbers r.next_serial ∷ []) c.append_others.new.text) c.registry-2.ensures c.in_ok-append_others.ensures in
    kinds_joined c.new-text.result c.append_catalog.new.text c.append_media.new.text c.append_others.new.text
    (map rows.Source library.catalog.sources) (map rows.Flow library.catalog.flows) (map rows.Object c.args.objects.now)
    (map rows.Segment (in_order segment_row_before library.segments))
    (map rows.Request library.requests) (map rows.Hook library.outbox.hooks) (map rows.Event library.outbox.events)
    (rows.Numbers library.next_serial ∷ []) c.new-text.ensures first second third
