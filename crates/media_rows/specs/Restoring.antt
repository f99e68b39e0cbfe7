-- Books that are made from rows, as when a file is opened: rows in any order give the same book,
-- and are refused where the book alone can tell that no good library has them. Our own rules.
use Rattle.std.specs.Prelude.{ℕ, nat_lt, nat_le, List, Bool, ◌&&◌, ◌++◌, map}
use Rattle.media_rows.specs.declared.event.EventRow.{EventRow}
use Rattle.media_rows.specs.declared.flow.FlowRow.{FlowRow}
use Rattle.media_rows.specs.declared.hook.HookRow.{HookRow}
use Rattle.media_rows.specs.declared.object.ObjectRow.{ObjectRow}
use Rattle.media_rows.specs.declared.request.DeleteRow.{DeleteRow}
use Rattle.media_rows.specs.declared.segment.SegmentRow.{SegmentRow}
use Rattle.media_rows.specs.declared.source.SourceRow.{SourceRow}
use Rattle.media_rows.specs.Catalog.{Catalog, source_before, flow_before}
use Rattle.media_rows.specs.Good.{are_sources_good, are_collections_good, are_references_good, are_object_ids_distinct, are_urls_distinct, is_outbox_good}
use Rattle.media_rows.specs.Lists.{in_order, are_distinct}
use Rattle.media_rows.specs.Outbox.{Outbox}
use Rattle.media_rows.specs.Requests.{done_count, done_kept}

-- rows by rising serial
abbrev pub by_serial : {X : Type 0} → (X → ℕ) → List X → List X
by_serial serial rows = in_order (λ a b. nat_lt (serial a) (serial b)) rows

-- ---- the catalog

-- the catalog of rows in any order: sources and flows by rising id
abbrev pub catalog_of : List SourceRow → List FlowRow → Catalog
catalog_of sources flows =
    record { sources = in_order source_before sources; flows = in_order flow_before flows }

-- the parts of a good library that speak of the catalog alone: its sources and its collections
abbrev pub is_catalog_good : Catalog → Bool
is_catalog_good catalog = are_sources_good catalog && are_collections_good catalog.flows

-- ids are distinct, each flow has its source and each source a flow, and collections are good
abbrev pub can_restore_catalog : List SourceRow → List FlowRow → Bool
can_restore_catalog sources flows =
    are_distinct (map (λ row. row.id) sources) && are_distinct (map (λ row. row.body.id) flows)
    && is_catalog_good (record { sources = sources; flows = flows })

-- ---- objects and their references

-- the objects of rows in any order, by rising serial
abbrev pub objects_of : List ObjectRow → List ObjectRow
objects_of objects = by_serial (λ row. row.serial) objects

-- ids and serials are distinct, and each object that a segment names is kept and stored
abbrev pub can_restore_objects : List ObjectRow → List SegmentRow → Bool
can_restore_objects objects segments =
    are_object_ids_distinct objects && are_distinct (map (λ row. row.serial) objects)
    && are_references_good objects segments

-- ---- delete requests

-- the delete requests of rows in any order, by rising serial
abbrev pub requests_of : List DeleteRow → List DeleteRow
requests_of requests = by_serial (λ row. row.serial) requests

-- serials are distinct, and not too many are done
abbrev pub can_restore_requests : List DeleteRow → Bool
can_restore_requests requests =
    are_distinct (map (λ row. row.serial) requests) && nat_le (done_count requests) done_kept

-- ---- the outbox

-- the outbox of rows in any order: hooks and events by rising serial
abbrev pub outbox_of : List HookRow → List EventRow → Outbox
outbox_of hooks events =
    record {
      hooks = by_serial (λ row. row.serial) hooks;
      events = by_serial (λ row. row.serial) events;
    }

-- addresses and serials are distinct, and hooks and their events are good
abbrev pub can_restore_outbox : List HookRow → List EventRow → Bool
can_restore_outbox hooks events =
    are_urls_distinct hooks
    && are_distinct (map (λ row. row.serial) hooks ++ map (λ row. row.serial) events)
    && is_outbox_good (record { hooks = hooks; events = events })
