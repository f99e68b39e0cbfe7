-- A good library is one whose values, media, registry and ties are good, where the rows of each kind stand in their order.
use Rattle.std.proofs.Common.{◌≡◌, ℕ, true, ◌&&◌, List}
use Rattle.std.specs.Prelude.{nat_le}
use Rattle.std.specs.List.{list_all}
use Rattle.std.proofs.lemmas.Bool.{and_parts, and_from}
use Rattle.media_rows.specs.declared.flow.FlowRow.{FlowRow}
use Rattle.media_rows.specs.declared.object.ObjectRow.{ObjectRow}
use Rattle.media_rows.specs.declared.segment.SegmentRow.{SegmentRow}
use Rattle.media_rows.specs.Catalog.{flow_before, source_before}
use Rattle.media_rows.specs.Collections.{is_kept}
use Rattle.media_rows.specs.Good.{Good, are_collections_good, are_extents_good, are_object_ids_distinct, are_references_good, are_compatible, are_serials_good, are_sources_good, are_texts_good, are_urls_distinct, is_good, is_outbox_good, is_request_good, is_segment_good, rises_by}
use Rattle.media_rows.specs.Library.{Library, serials_of}
use Rattle.media_rows.specs.Lists.{each_pair, rises}
use Rattle.media_rows.specs.Ranges.{has_both_ends}
use Rattle.media_rows.specs.Requests.{done_count, done_kept}
use Rattle.media_rows.specs.Restoring.{can_restore_catalog, can_restore_outbox, can_restore_requests, is_catalog_good}
use Rattle.core_registry.specs.Restoring.{can_restore}
use Rattle.media_book.specs.Media.{MediaAreGood, are_media_good, are_objects_good, are_rows_good, media_of}
use Rattle.library_laws.proofs.ChangesKept.{good_is_tested}
use Rattle.library_laws.proofs.KeptLemmas.{Serials-from, Serials-test}
use Rattle.library_laws.proofs.ListLemmas.{list_all-In, list_all-from_In}
use Rattle.library_laws.proofs.OutboxKept.{Names-from, Names-test}
use Rattle.library_laws.proofs.RestoreLemmas.{books_are_restored}
use Rattle.core_rows.specs.Kinds.{Kinds}
use Rattle.core_restore.specs.Within.{AreInOrder, library_from_kinds, are_parts_good, are_tied, are_values_good, is_rest_good, registry_rows}
use Rattle.library_laws.proofs.SoundLemmas.{same_test}

-- ---- a good library is so in its parts

kept_of : (flows : List FlowRow) (segments : List SegmentRow) → list_all (is_segment_good flows) segments ≡ true
    → list_all (λ (row : SegmentRow). is_kept flows row.flow) segments ≡ true
kept_of flows segments e =
    list_all-from_In (λ (row : SegmentRow). is_kept flows row.flow) segments
    (λ row here. (and_parts (has_both_ends row.segment.range) (is_kept flows row.flow) (list_all-In (is_segment_good flows) segments e row here)).1)

parts_of_good : MediaAreGood → (library : Library) → Good library → are_parts_good library ≡ true
parts_of_good media library good =
    let names = Names-from library good.names in
    let own = books_are_restored.own library good in
    let rows = and_parts (each_pair are_compatible library.segments) (list_all (is_segment_good library.catalog.flows) library.segments) good.segments in
    let asked = and_parts (list_all (is_request_good library.catalog.flows library.segments) library.requests) (nat_le (done_count library.requests) done_kept)
    good.requests in
    and_from (are_values_good library) (are_media_good (media_of library) && is_rest_good library)
    (and_from (are_serials_good library.next_serial (serials_of library)) (are_texts_good library)
    (Serials-test library.next_serial (serials_of library) names.serials names.least names.most) good.texts)
    (and_from (are_media_good (media_of library)) (is_rest_good library) (media library good)
    (and_from (can_restore (registry_rows library)) (are_tied library.catalog.flows library.segments library.requests)
    (and_from _ _ own.can_catalog (and_from _ _ own.can_requests own.can_outbox))
    (and_from (list_all (λ (row : SegmentRow). is_kept library.catalog.flows row.flow) library.segments) _
    (kept_of library.catalog.flows library.segments rows.1) asked.0)))

-- ---- and where its parts are good, so is it

segments_of_both : (flows : List FlowRow) (segments : List SegmentRow) → list_all (λ (row : SegmentRow). has_both_ends row.segment.range) segments ≡ true
    → list_all (λ (row : SegmentRow). is_kept flows row.flow) segments ≡ true → list_all (is_segment_good flows) segments ≡ true
segments_of_both flows segments ends kept =
    list_all-from_In (is_segment_good flows) segments
    (λ row here. and_from (has_both_ends row.segment.range) (is_kept flows row.flow)
    (list_all-In (λ (row : SegmentRow). has_both_ends row.segment.range) segments ends row here)
    (list_all-In (λ (row : SegmentRow). is_kept flows row.flow) segments kept row here))

good_of_parts : (id blocks next : ℕ) (kinds : Kinds) → AreInOrder kinds → are_parts_good (library_from_kinds id blocks next kinds) ≡ true
    → Good (library_from_kinds id blocks next kinds)
good_of_parts id blocks next kinds order e =
    let library = library_from_kinds id blocks next kinds in
    let flows = library.catalog.flows in
    let segments = library.segments in
    let objects = library.objects in
    let a = and_parts (are_values_good library) (are_media_good (media_of library) && is_rest_good library) e in
    let values = and_parts (are_serials_good library.next_serial (serials_of library)) (are_texts_good library) a.0 in
    let b = and_parts (are_media_good (media_of library)) (is_rest_good library) a.1 in
    let media = and_parts (are_objects_good library.blocks objects) (are_rows_good objects segments) b.0 in
    let kept = and_parts (are_extents_good library.blocks objects)
    (are_object_ids_distinct objects && rises_by (λ (row : ObjectRow). row.serial) objects) media.0 in
    let ids = and_parts (are_object_ids_distinct objects) (rises_by (λ (row : ObjectRow). row.serial) objects) kept.1 in
    let pairs = and_parts (each_pair are_compatible segments) _ media.1 in
    let ends = and_parts (list_all (λ (row : SegmentRow). has_both_ends row.segment.range) segments) _ pairs.1 in
    let named = and_parts (are_references_good objects segments) (rises_by (λ (row : SegmentRow). row.serial) segments) ends.1 in
    let rest = and_parts (can_restore (registry_rows library)) (are_tied flows segments library.requests) b.1 in
    let books = and_parts (can_restore_catalog library.catalog.sources flows)
    (can_restore_requests library.requests && can_restore_outbox library.outbox.hooks library.outbox.events) rest.0 in
    let catalog = and_parts _ (is_catalog_good library.catalog) books.0 in
    let placed = and_parts (are_sources_good library.catalog) (are_collections_good flows) catalog.1 in
    let others = and_parts (can_restore_requests library.requests) (can_restore_outbox library.outbox.hooks library.outbox.events) books.1 in
    let asked = and_parts _ (nat_le (done_count library.requests) done_kept) others.0 in
    let outbox = and_parts _ (is_outbox_good library.outbox) others.1 in
    let urls = and_parts (are_urls_distinct library.outbox.hooks) _ outbox.0 in
    let tied = and_parts (list_all (λ (row : SegmentRow). is_kept flows row.flow) segments)
    (list_all (is_request_good flows segments) library.requests) rest.1 in
    let serials = Serials-from library.next_serial (serials_of library) values.0 in
    record {
      segments = and_from (each_pair are_compatible segments) (list_all (is_segment_good flows) segments) pairs.0
          (segments_of_both flows segments ends.0 tied.0);
      references = named.0;
      extents = kept.0;
      names = Names-test library (record {
        catalog = and_from (rises source_before library.catalog.sources) (rises flow_before flows) order.sources order.flows;
        objects = ids.0;
        urls = urls.0;
        objects_rise = order.objects;
        segments_rise = named.1;
        requests_rise = order.requests;
        hooks_rise = order.hooks;
        events_rise = order.events;
        serials = serials.0;
        least = serials.1;
        most = serials.2;
      });
      sources = placed.0;
      collections = placed.1;
      requests = and_from (list_all (is_request_good flows segments) library.requests) (nat_le (done_count library.requests) done_kept) tied.1 asked.1;
      outbox = outbox.1;
      texts = values.1;
    }

-- a library is good just where its parts are
pub good_is_parts : MediaAreGood → (id blocks next : ℕ) (kinds : Kinds) → AreInOrder kinds
    → is_good (library_from_kinds id blocks next kinds) ≡ are_parts_good (library_from_kinds id blocks next kinds)
good_is_parts media id blocks next kinds order =
    let library = library_from_kinds id blocks next kinds in
    same_test (is_good library) (are_parts_good library) (λ e. parts_of_good media library ((good_is_tested library).0 e))
    (λ e. (good_is_tested library).1 (good_of_parts id blocks next kinds order e))
