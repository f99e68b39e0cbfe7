-- What is shown of sources, flows, segments, objects, delete requests and hooks: the members of
-- each, by rising name in byte order. Our own profile of the Time-addressable Media Store.
use Rattle.std.specs.Prelude.{ℕ, List, [], ◌∷◌, ◌++◌, Option, Some, None, codes, decimal}
use Rattle.json.specs.Token.{Token}
use Rattle.media_rows.specs.Objects.{digest_in_state, is_stored}
use Rattle.media_rows.specs.Ids.{id_text}
use Rattle.media_rows.specs.declared.flow.FlowRow.{FlowRow}
use Rattle.media_rows.specs.declared.object.ObjectRow.{ObjectRow}
use Rattle.media_rows.specs.declared.object.ObjectState.{ObjectState}
use Rattle.media_rows.specs.declared.object.ObjectState.TheVariants.{Allocated, Stored}
use Rattle.media_rows.specs.declared.reply.FlowShown.{FlowShown}
use Rattle.media_rows.specs.declared.reply.HookShown.{HookShown}
use Rattle.media_rows.specs.declared.request.DeleteRow.{DeleteRow}
use Rattle.media_rows.specs.declared.segment.Segment.{Segment}
use Rattle.media_rows.specs.declared.segment.SegmentRow.{SegmentRow}
use Rattle.media_rows.specs.declared.source.SourceRow.{SourceRow}
use Rattle.json_replies.specs.Addresses.{media_address}
use Rattle.json_replies.specs.Shapes.{string_value, number_value, truth_value, list_tokens, object_tokens, ObjectMember, always, where_set, where_any}
use Rattle.json_replies.specs.Values.{id_value, digest_value, moment_value, stamp_value, range_value, format_value, event_value, status_value, hook_status_value, kept_value, tags_value, collection_value}

-- ---- sources

-- the members of a source
abbrev pub source_members : SourceRow → List ObjectMember
source_members row =
    always (codes "created") (moment_value row.created)
    ∷ where_set (codes "description") string_value row.description
    ∷ always (codes "format") (format_value row.format)
    ∷ always (codes "id") (id_value row.id)
    ∷ where_set (codes "label") string_value row.label
    ∷ where_any (codes "tags") tags_value row.tags
    ∷ always (codes "updated") (moment_value row.updated)
    ∷ []

-- a source
unfoldable pub source_value : SourceRow → List Token
source_value row = object_tokens (source_members row)

-- ---- flows

-- the first members of a flow: its rate, its codec, its making and its description
abbrev pub flow_first : FlowRow → List ObjectMember
flow_first row =
    where_set (codes "avg_bit_rate") number_value row.body.avg_bit_rate
    ∷ where_set (codes "codec") string_value row.body.codec
    ∷ where_set (codes "container") string_value row.body.container
    ∷ always (codes "created") (moment_value row.created)
    ∷ where_set (codes "description") string_value row.body.description
    ∷ where_set (codes "essence_parameters") kept_value row.body.essence
    ∷ []

-- the next: what it collects, what it is and its last change
abbrev pub flow_middle : FlowRow → List ObjectMember
flow_middle row =
    where_any (codes "flow_collection") collection_value row.body.members
    ∷ always (codes "format") (format_value row.body.format)
    ∷ always (codes "id") (id_value row.body.id)
    ∷ where_set (codes "label") string_value row.body.label
    ∷ where_set (codes "max_bit_rate") number_value row.body.max_bit_rate
    ∷ always (codes "metadata_updated") (moment_value row.metadata_updated)
    ∷ []

-- the last: the mark, its segments, its source and its tags
abbrev pub flow_last : FlowShown → List ObjectMember
flow_last flow =
    always (codes "read_only") (truth_value flow.row.body.read_only)
    ∷ where_set (codes "segments_updated") moment_value flow.row.segments_updated
    ∷ always (codes "source_id") (id_value flow.row.body.source)
    ∷ where_any (codes "tags") tags_value flow.row.body.tags
    ∷ always (codes "timerange") (range_value flow.hull)
    ∷ []

-- the members of a flow
abbrev pub flow_members : FlowShown → List ObjectMember
flow_members flow = flow_first flow.row ++ (flow_middle flow.row ++ flow_last flow)

-- a flow, with the hull of its segments
unfoldable pub flow_value : FlowShown → List Token
flow_value flow = object_tokens (flow_members flow)

-- ---- segments

-- where the media of an object are got
abbrev pub get_url_members : List ℕ → List ℕ → List ObjectMember
get_url_members base object = always (codes "url") (string_value (media_address base object)) ∷ []

-- the one such address of an object
abbrev pub get_url_value : List ℕ → List ℕ → List Token
get_url_value base object = object_tokens (get_url_members base object)

-- the members of a segment
abbrev pub segment_members : List ℕ → Segment → List ObjectMember
segment_members base segment =
    always (codes "get_urls") (list_tokens (get_url_value base) (segment.object ∷ []))
    ∷ where_set (codes "key_frame_count") number_value segment.key_frames
    ∷ where_set (codes "last_duration") stamp_value segment.last_duration
    ∷ always (codes "object_id") (string_value segment.object)
    ∷ where_set (codes "sample_count") number_value segment.sample_count
    ∷ always (codes "sample_offset") (number_value segment.sample_offset)
    ∷ always (codes "timerange") (range_value segment.range)
    ∷ always (codes "ts_offset") (stamp_value segment.ts_offset)
    ∷ []

-- a segment
unfoldable pub segment_value : List ℕ → SegmentRow → List Token
segment_value base row = object_tokens (segment_members base row.segment)

-- ---- objects

-- the length of a stored object in bytes
abbrev pub stored_length : ObjectState → Option ℕ
stored_length Allocated = None
stored_length (Stored start size digest) = Some size

-- the members of an object, with the flows that refer to it
abbrev pub object_members : ObjectRow → List ℕ → List ObjectMember
object_members row flows =
    where_set (codes "length") number_value (stored_length row.state)
    ∷ always (codes "object_id") (string_value row.id)
    ∷ always (codes "referenced_by_flows") (list_tokens id_value flows)
    ∷ where_set (codes "sha256") digest_value (digest_in_state row.state)
    ∷ always (codes "stored") (truth_value (is_stored row.state))
    ∷ []

-- an object
unfoldable pub object_value : ObjectRow → List ℕ → List Token
object_value row flows = object_tokens (object_members row flows)

-- ---- storage

-- where the media of an object are put
abbrev pub put_url_members : List ℕ → List ℕ → List ObjectMember
put_url_members base object =
    always (codes "content-type") (string_value (codes "application/octet-stream"))
    ∷ always (codes "url") (string_value (media_address base object))
    ∷ []

-- the members of an allocated object
abbrev pub allocated_members : List ℕ → List ℕ → List ObjectMember
allocated_members base object =
    always (codes "object_id") (string_value object)
    ∷ always (codes "put_url") (object_tokens (put_url_members base object))
    ∷ []

-- an allocated object
unfoldable pub allocated_value : List ℕ → List ℕ → List Token
allocated_value base object = object_tokens (allocated_members base object)

-- the one member of what an allocation answers
abbrev pub storage_members : List ℕ → List (List ℕ) → List ObjectMember
storage_members base objects =
    always (codes "media_objects") (list_tokens (allocated_value base) objects) ∷ []

-- what an allocation answers
unfoldable pub storage_value : List ℕ → List (List ℕ) → List Token
storage_value base objects = object_tokens (storage_members base objects)

-- ---- delete requests

-- the id of a delete request: the store's id, `-` and the request's serial
unfoldable pub request_id : ℕ → ℕ → List ℕ
request_id store serial = id_text store ++ 45 ∷ decimal serial

-- the members of a delete request
abbrev pub request_members : ℕ → DeleteRow → List ObjectMember
request_members store row =
    always (codes "created") (moment_value row.created)
    ∷ always (codes "delete_flow") (truth_value row.delete_flow)
    ∷ always (codes "flow_id") (id_value row.flow)
    ∷ always (codes "id") (string_value (request_id store row.serial))
    ∷ always (codes "status") (status_value row.status)
    ∷ always (codes "timerange_to_delete") (range_value row.range)
    ∷ always (codes "updated") (moment_value row.updated)
    ∷ []

-- a delete request
unfoldable pub request_value : ℕ → DeleteRow → List Token
request_value store row = object_tokens (request_members store row)

-- ---- hooks

-- the members of a hook, with the number of its waiting events; the value of its key isn't shown
abbrev pub hook_members : HookShown → List ObjectMember
hook_members shown =
    where_set (codes "api_key_name") string_value shown.row.hook.key_name
    ∷ always (codes "events") (list_tokens event_value shown.row.hook.events)
    ∷ where_set (codes "flow_ids") (list_tokens id_value) shown.row.hook.flow_ids
    ∷ where_set (codes "source_ids") (list_tokens id_value) shown.row.hook.source_ids
    ∷ always (codes "status") (hook_status_value shown.row.failed)
    ∷ always (codes "url") (string_value shown.row.hook.url)
    ∷ always (codes "waiting") (number_value shown.waiting)
    ∷ []

-- a hook
unfoldable pub hook_value : HookShown → List Token
hook_value shown = object_tokens (hook_members shown)
