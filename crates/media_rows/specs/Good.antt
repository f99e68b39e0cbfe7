-- What is true of each library that the store comes to, in nine parts, each a test of the whole
-- library. Our own rules.
use Rattle.std.specs.Prelude.{ℕ, ◌+◌, ◌==◌, nat_lt, nat_le, List, Bool, true, false, not, ◌&&◌, ◌||◌, IsTrue, Option, Some, None, map}
use Rattle.std.specs.List.{list_any, list_all}
use Rattle.std.specs.Str.{is_utf8}
use Rattle.media_rows.specs.declared.event.EventRow.{EventRow}
use Rattle.media_rows.specs.declared.flow.FlowBody.{FlowBody}
use Rattle.media_rows.specs.declared.flow.FlowRow.{FlowRow}
use Rattle.media_rows.specs.declared.flow.Member.{Member}
use Rattle.media_rows.specs.declared.flow.Tag.{Tag}
use Rattle.media_rows.specs.declared.hook.HookRow.{HookRow}
use Rattle.media_rows.specs.declared.object.ObjectRow.{ObjectRow}
use Rattle.media_rows.specs.declared.object.ObjectState.{ObjectState}
use Rattle.media_rows.specs.declared.object.ObjectState.TheVariants.{Allocated, Stored}
use Rattle.media_rows.specs.declared.request.DeleteRow.{DeleteRow}
use Rattle.media_rows.specs.declared.segment.SegmentRow.{SegmentRow}
use Rattle.media_rows.specs.declared.source.SourceRow.{SourceRow}
use Rattle.media_rows.specs.Catalog.{Catalog, source_of, source_before, flow_before, has_flow, fits_format}
use Rattle.media_rows.specs.Collections.{is_kept, member_ids, collects_itself}
use Rattle.media_rows.specs.Essence.{is_essence}
use Rattle.media_rows.specs.Ids.{is_object_id}
use Rattle.media_rows.specs.Library.{Library, last_serial, serials_of}
use Rattle.media_rows.specs.Lists.{each_pair, rises, are_distinct, are_distinct_texts}
use Rattle.media_rows.specs.Moments.{is_moment}
use Rattle.media_rows.specs.Objects.{is_stored_object, blocks_of, are_apart}
use Rattle.media_rows.specs.Outbox.{Outbox, most_waiting, waiting_count}
use Rattle.media_rows.specs.Ranges.{overlaps, has_both_ends, is_eternity}
use Rattle.media_rows.specs.Requests.{done_kept, is_unfinished, done_count}

-- ---- 1. segments

-- two segments aren't of one flow, or don't overlap
abbrev pub are_compatible : SegmentRow → SegmentRow → Bool
are_compatible a b = not ((a.flow == b.flow) && overlaps a.segment.range b.segment.range)

-- a segment is bounded at both ends, isn't never, and belongs to a kept flow
abbrev pub is_segment_good : List FlowRow → SegmentRow → Bool
is_segment_good flows row = has_both_ends row.segment.range && is_kept flows row.flow

-- segments of one flow never overlap; each is bounded, isn't never, and belongs to a kept flow
abbrev pub are_segments_good : List FlowRow → List SegmentRow → Bool
are_segments_good flows segments =
    each_pair are_compatible segments && list_all (is_segment_good flows) segments

-- ---- 2. references

-- each object that a segment names is kept and stored
abbrev pub are_references_good : List ObjectRow → List SegmentRow → Bool
are_references_good objects segments =
    list_all (λ row. is_stored_object objects row.segment.object) segments

-- ---- 3. extents

-- an extent lies within the media blocks, and one without bytes begins at block 0
abbrev pub is_extent_good : ℕ → ObjectState → Bool
is_extent_good blocks Allocated = true
is_extent_good blocks (Stored start size digest) =
    nat_le (start + blocks_of size) blocks && (nat_lt 0 size || (start == 0))

-- two states have no block in common
abbrev pub are_states_apart : ObjectState → ObjectState → Bool
are_states_apart Allocated other = true
are_states_apart (Stored start size digest) Allocated = true
are_states_apart (Stored start size digest) (Stored other_start other_size other_digest) =
    are_apart start (blocks_of size) other_start (blocks_of other_size)

-- extents of stored objects are disjoint and lie within the media blocks
abbrev pub are_extents_good : ℕ → List ObjectRow → Bool
are_extents_good blocks objects =
    each_pair (λ a b. are_states_apart a.state b.state) objects
    && list_all (λ row. is_extent_good blocks row.state) objects

-- ---- 4. names, serials and order

-- a list whose rows stand by rising serial
abbrev pub rises_by : {X : Type 0} → (X → ℕ) → List X → Bool
rises_by serial rows = rises (λ a b. nat_lt (serial a) (serial b)) rows

-- objects, segments, delete requests, hooks and events stand by rising serial
abbrev pub are_serials_in_order : Library → Bool
are_serials_in_order library =
    rises_by (λ row. row.serial) library.objects
    && rises_by (λ row. row.serial) library.segments
    && rises_by (λ row. row.serial) library.requests
    && rises_by (λ row. row.serial) library.outbox.hooks
    && rises_by (λ row. row.serial) library.outbox.events

-- serials are at least 1, distinct over all lists, and below the next one, which has a limit
abbrev pub are_serials_good : ℕ → List ℕ → Bool
are_serials_good next serials =
    are_distinct serials && list_all (λ serial. nat_le 1 serial && nat_lt serial next) serials
    && nat_le 1 next && nat_le next last_serial

-- sources and flows stand by rising id, and so each id once
abbrev pub is_catalog_in_order : Catalog → Bool
is_catalog_in_order catalog = rises source_before catalog.sources && rises flow_before catalog.flows

-- no two objects have one id
abbrev pub are_object_ids_distinct : List ObjectRow → Bool
are_object_ids_distinct objects = are_distinct_texts (map (λ row. row.id) objects)

-- no two hooks have one address
abbrev pub are_urls_distinct : List HookRow → Bool
are_urls_distinct hooks = are_distinct_texts (map (λ row. row.hook.url) hooks)

-- ids and addresses are distinct, serials are good, and each list stands in its order
abbrev pub are_names_good : Library → Bool
are_names_good library =
    is_catalog_in_order library.catalog
    && are_object_ids_distinct library.objects
    && are_urls_distinct library.outbox.hooks
    && are_serials_in_order library
    && are_serials_good library.next_serial (serials_of library)

-- ---- 5. sources

-- a flow's source is kept, and the flow's format is the source's or multi
abbrev pub fits_kept : Option SourceRow → FlowRow → Bool
fits_kept None row = false
fits_kept (Some source) row = fits_format source.format row.body.format

-- and each source has a flow
abbrev pub are_sources_good : Catalog → Bool
are_sources_good catalog =
    list_all (λ row. fits_kept (source_of row.body.source catalog.sources) row) catalog.flows
    && list_all (has_flow catalog.flows) catalog.sources

-- ---- 6. collections

-- each flow that this one collects is kept, and no way through collections leads back to it
abbrev pub is_collection_good : List FlowRow → FlowRow → Bool
is_collection_good flows row =
    list_all (is_kept flows) (member_ids row.body.members)
    && not (collects_itself flows row.body.id row.body.members)

-- each collected flow is kept, and no flow reaches itself
abbrev pub are_collections_good : List FlowRow → Bool
are_collections_good flows = list_all (is_collection_good flows) flows

-- ---- 7. delete requests

-- each segment of the flow was there before the request
abbrev pub is_after_segments : List SegmentRow → DeleteRow → Bool
is_after_segments segments row =
    list_all (λ s. not (s.flow == row.flow) || nat_lt s.serial row.serial) segments

-- an unfinished request's flow is kept; one that deletes its flow has all of the line as its range,
-- and was asked for after each of the flow's segments
abbrev pub is_request_good : List FlowRow → List SegmentRow → DeleteRow → Bool
is_request_good flows segments row =
    not (is_unfinished row)
    ||
    (is_kept flows row.flow
    && (not row.delete_flow || (is_eternity row.range && is_after_segments segments row)))

-- and at most 64 requests are done
abbrev pub are_requests_good : List FlowRow → List SegmentRow → List DeleteRow → Bool
are_requests_good flows segments requests =
    list_all (is_request_good flows segments) requests && nat_le (done_count requests) done_kept

-- ---- 8. hooks

-- the hook for which an event waits is kept
abbrev pub has_hook : List HookRow → EventRow → Bool
has_hook hooks event = list_any (λ row. row.serial == event.hook) hooks

-- a hook has at most the most waiting events, and one with so many has failed
abbrev pub is_hook_good : List EventRow → HookRow → Bool
is_hook_good events row =
    nat_le (waiting_count row.serial events) most_waiting
    && (nat_lt (waiting_count row.serial events) most_waiting || row.failed)

-- and each event's hook is kept
abbrev pub is_outbox_good : Outbox → Bool
is_outbox_good outbox =
    list_all (has_hook outbox.hooks) outbox.events
    && list_all (is_hook_good outbox.events) outbox.hooks

-- ---- 9. texts and moments

-- a text that may be absent passes a test
abbrev pub if_there : {X : Type 0} → (X → Bool) → Option X → Bool
if_there test None = true
if_there test (Some x) = test x

-- a tag's name and its values are UTF-8
abbrev pub is_tag_text : Tag → Bool
is_tag_text tag = is_utf8 tag.name && list_all is_utf8 tag.values

-- the role of a collected flow is UTF-8, where it has one
abbrev pub is_member_text : Member → Bool
is_member_text m = if_there is_utf8 m.role

-- what a client says of a flow is UTF-8, and its essence text is one
abbrev pub is_body_text : FlowBody → Bool
is_body_text body =
    if_there is_utf8 body.codec && if_there is_utf8 body.container && if_there is_utf8 body.label
    && if_there is_utf8 body.description && list_all is_tag_text body.tags
    && list_all is_member_text body.members
    && if_there is_essence body.essence

-- a flow's texts are good, and so are the moments of its making, of its last change and of its
-- segments
abbrev pub is_flow_text : FlowRow → Bool
is_flow_text row =
    is_body_text row.body && is_moment row.created && is_moment row.metadata_updated
    && if_there is_moment row.segments_updated

-- a source's texts are UTF-8, and the moments of its making and of its last change are moments
abbrev pub is_source_text : SourceRow → Bool
is_source_text row =
    if_there is_utf8 row.label && if_there is_utf8 row.description && list_all is_tag_text row.tags
    && is_moment row.created && is_moment row.updated

-- an object's id has its form, and the moment since which it is idle is one
abbrev pub is_object_text : ObjectRow → Bool
is_object_text row = is_object_id row.id && is_moment row.idle_since

-- a delete request has no text; when it was asked for and last worked off are moments
abbrev pub is_request_text : DeleteRow → Bool
is_request_text row = is_moment row.created && is_moment row.updated

-- a hook's address is UTF-8, and so are the name and the value of its key, where they are there
abbrev pub is_hook_text : HookRow → Bool
is_hook_text row =
    is_utf8 row.hook.url && if_there is_utf8 row.hook.key_name
    && if_there is_utf8 row.hook.key_value

-- an event has no text; when it happened is a moment
abbrev pub is_event_text : EventRow → Bool
is_event_text row = is_moment row.moment

-- Texts are UTF-8, object ids have their form, essence texts are such, and moments lie in their
-- range. A segment's own text is the id of a kept object, by part 2.
abbrev pub are_texts_good : Library → Bool
are_texts_good library =
    list_all is_source_text library.catalog.sources
    && list_all is_flow_text library.catalog.flows
    && list_all is_object_text library.objects
    && list_all is_request_text library.requests
    && list_all is_hook_text library.outbox.hooks
    && list_all is_event_text library.outbox.events

-- ---- all nine

-- a library to which the store may come: all nine parts hold
pub record Good (library : Library) : Type 0 where
  pub segments : IsTrue (are_segments_good library.catalog.flows library.segments)
  pub references : IsTrue (are_references_good library.objects library.segments)
  pub extents : IsTrue (are_extents_good library.blocks library.objects)
  pub names : IsTrue (are_names_good library)
  pub sources : IsTrue (are_sources_good library.catalog)
  pub collections : IsTrue (are_collections_good library.catalog.flows)
  pub requests : IsTrue (are_requests_good library.catalog.flows library.segments library.requests)
  pub outbox : IsTrue (is_outbox_good library.outbox)
  pub texts : IsTrue (are_texts_good library)

-- the same as one test
abbrev pub is_good : Library → Bool
is_good library =
    are_segments_good library.catalog.flows library.segments
    && are_references_good library.objects library.segments
    && are_extents_good library.blocks library.objects
    && are_names_good library
    && are_sources_good library.catalog
    && are_collections_good library.catalog.flows
    && are_requests_good library.catalog.flows library.segments library.requests
    && is_outbox_good library.outbox
    && are_texts_good library
