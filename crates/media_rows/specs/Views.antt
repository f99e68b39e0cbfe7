-- What is shown of a library to a question, or why nothing is. Our own profile of the
-- Time-addressable Media Store.
use Rattle.std.specs.Prelude.{ℕ, ◌==◌, ◌^◌, ℤ, pos, ◌+ℤ◌, ◌-ℤ◌, unsigned_abs, List, Bool, true, false, ◌&&◌, Option, Some, None, is_some, option_map, Result, Ok, Err, if◌then◌else◌, filter, map, length, bytes_eq, codes}
use Rattle.std.specs.Bool.{beq}
use Rattle.std.specs.List.{list_any, list_all}
use Rattle.time_range.specs.declared.ranges.Span.{Span}
use Rattle.media_rows.specs.declared.command.Query.{Query}
use Rattle.media_rows.specs.declared.command.Query.TheVariants as queries
use Rattle.media_rows.specs.declared.command.FlowFilter.{FlowFilter}
use Rattle.media_rows.specs.declared.command.SourceFilter.{SourceFilter}
use Rattle.media_rows.specs.declared.command.Page.{Page}
use Rattle.media_rows.specs.declared.command.TagTest.{TagTest}
use Rattle.media_rows.specs.declared.command.TagTest.TheVariants.{Equals, Exists}
use Rattle.media_rows.specs.declared.flow.FormatKind.{FormatKind}
use Rattle.media_rows.specs.declared.flow.FlowBody.{FlowBody}
use Rattle.media_rows.specs.declared.flow.FlowRow.{FlowRow}
use Rattle.media_rows.specs.declared.flow.Member.{Member}
use Rattle.media_rows.specs.declared.flow.Tag.{Tag}
use Rattle.media_rows.specs.declared.hook.HookRow.{HookRow}
use Rattle.media_rows.specs.declared.object.ObjectRow.{ObjectRow}
use Rattle.media_rows.specs.declared.part.Part.{Part}
use Rattle.media_rows.specs.declared.part.Part.TheVariants as parts
use Rattle.media_rows.specs.declared.part.PartName.{PartName}
use Rattle.media_rows.specs.declared.part.PartName.TheVariants as names
use Rattle.media_rows.specs.declared.refusal.Refusal.{Refusal}
use Rattle.media_rows.specs.declared.refusal.Refusal.TheVariants as refusals
use Rattle.media_rows.specs.declared.reply.FlowShown.{FlowShown}
use Rattle.media_rows.specs.declared.reply.HookShown.{HookShown}
use Rattle.media_rows.specs.declared.reply.View.{View}
use Rattle.media_rows.specs.declared.reply.View.TheVariants as views
use Rattle.media_rows.specs.declared.segment.SegmentRow.{SegmentRow}
use Rattle.media_rows.specs.declared.source.SourceRow.{SourceRow}
use Rattle.media_rows.specs.Catalog.{same_format, tag_of, source_of, flow_of}
use Rattle.media_rows.specs.Library.{Library}
use Rattle.media_rows.specs.Lists.{has_text, page_items, next_key}
use Rattle.media_rows.specs.Objects.{object_of, flows_naming}
use Rattle.media_rows.specs.Outbox.{waiting_count}
use Rattle.media_rows.specs.Ranges.{overlaps}
use Rattle.media_rows.specs.Requests.{request_of}
use Rattle.media_rows.specs.Segments.{first_point, segments_of, overlapping, hull_of_segments}

-- ---- filters

-- a text that may be asked for is the one that is there
abbrev pub matches_text : Option (List ℕ) → Option (List ℕ) → Bool
matches_text None there = true
matches_text (Some asked) None = false
matches_text (Some asked) (Some there) = bytes_eq asked there

-- a format that may be asked for is the one that is there
abbrev pub matches_format : Option FormatKind → FormatKind → Bool
matches_format None there = true
matches_format (Some asked) there = same_format asked there

-- an id that may be asked for is the one that is there
abbrev pub matches_id : Option ℕ → ℕ → Bool
matches_id None there = true
matches_id (Some asked) there = asked == there

-- a tag that may be there has the value
abbrev pub has_value : List ℕ → Option Tag → Bool
has_value value None = false
has_value value (Some tag) = has_text value tag.values

-- the tag of a name has the value, or the tag is there exactly where that is asked for
abbrev pub passes_tag : List Tag → TagTest → Bool
passes_tag tags (Equals name value) = has_value value (tag_of name tags)
passes_tag tags (Exists name there) = beq (is_some (tag_of name tags)) there

-- tags pass each of the tests
abbrev pub passes_tags : List Tag → List TagTest → Bool
passes_tags tags tests = list_all (passes_tag tags) tests

-- a source has the format and the whole label that are asked for, and its tags pass
abbrev pub passes_source : SourceFilter → SourceRow → Bool
passes_source wanted row =
    matches_format wanted.format row.format && matches_text wanted.label row.label
    && passes_tags row.tags wanted.tags

-- a flow has the source, the format and the whole codec and label that are asked for, and its tags
-- pass
abbrev pub passes_flow : FlowFilter → FlowRow → Bool
passes_flow wanted row =
    matches_id wanted.source row.body.source
    && matches_format wanted.format row.body.format
    && matches_text wanted.codec row.body.codec
    && matches_text wanted.label row.body.label
    && passes_tags row.body.tags wanted.tags

-- a segment of the flow overlaps the range, where one is asked for
abbrev pub passes_range : List SegmentRow → Option (Option Span) → FlowRow → Bool
passes_range segments None row = true
passes_range segments (Some range) row =
    list_any (λ s. overlaps s.segment.range range) (segments_of row.body.id segments)

-- ---- lists

-- what a key of a page by ids lies below the id
abbrev pub key_shift : ℕ
key_shift = 2 ^ 127

-- the key of a page by ids
abbrev pub id_key : ℕ → ℤ
id_key id = pos id -ℤ pos key_shift

-- the id of a key of a page by ids, as that of the next page is shown
abbrev pub key_id : ℤ → ℕ
key_id key = unsigned_abs (key +ℤ pos key_shift)

-- the key by which sources come in pages
abbrev pub source_key : SourceRow → ℤ
source_key row = id_key row.id

-- the key by which flows come in pages
abbrev pub flow_key : FlowRow → ℤ
flow_key row = id_key row.body.id

-- the sources that pass, by rising id
abbrev pub listed_sources : Library → SourceFilter → List SourceRow
listed_sources library wanted = filter (passes_source wanted) library.catalog.sources

-- the flows that pass, with a segment in the range where one is asked for, by rising id
abbrev pub listed_flows : Library → FlowFilter → Option (Option Span) → List FlowRow
listed_flows library wanted range =
    filter
    (λ row. passes_flow wanted row && passes_range library.segments range row) library.catalog.flows

-- a flow with the hull of its segments
abbrev pub shown_flow : List SegmentRow → FlowRow → FlowShown
shown_flow segments row =
    record { row = row; hull = hull_of_segments (segments_of row.body.id segments) }

-- a hook with the number of its waiting events
abbrev pub shown_hook : Library → HookRow → HookShown
shown_hook library row =
    record { row = row; waiting = waiting_count row.serial library.outbox.events }

-- ---- parts

-- what is there is shown, and otherwise the part isn't set
abbrev pub part_or : Option Part → List ℕ → Result View Refusal
part_or None name = Err (refusals.NotSet name)
part_or (Some part) name = Ok (views.OnePart part)

-- a text of a flow or of a source as a part, where it is set
abbrev pub text_part : (Option (List ℕ) → Part) → Option (List ℕ) → Option Part
text_part make text = option_map (λ t. make (Some t)) text

-- a bit rate of a flow as a part, where it is set
abbrev pub rate_part : (Option ℕ → Part) → Option ℕ → Option Part
rate_part make rate = option_map (λ r. make (Some r)) rate

-- the tag of a name as a part, where it is set
abbrev pub tag_part : List ℕ → Option Tag → Option Part
tag_part name tag = option_map (λ t. parts.Tag name (Some t)) tag

-- the collected flows as a part, which is set where there are any
abbrev pub collection_part : List Member → Option Part
collection_part members = if length members == 0 then None else Some (parts.Collection members)

-- a part of a flow, where it is set; the mark and the list of all tags are there always
abbrev pub flow_part : FlowBody → PartName → Result View Refusal
flow_part body (names.Tag name) = part_or (tag_part name (tag_of name body.tags)) (codes "tags")
flow_part body names.Tags = Ok (views.AllTags body.tags)
flow_part body names.Label = part_or (text_part parts.Label body.label) (codes "label")
flow_part body names.Description =
    part_or (text_part parts.Description body.description) (codes "description")
flow_part body names.ReadOnly = Ok (views.OnePart (parts.ReadOnly body.read_only))
flow_part body names.Collection = part_or (collection_part body.members) (codes "flow_collection")
flow_part body names.MaxBitRate =
    part_or (rate_part parts.MaxBitRate body.max_bit_rate) (codes "max_bit_rate")
flow_part body names.AvgBitRate =
    part_or (rate_part parts.AvgBitRate body.avg_bit_rate) (codes "avg_bit_rate")

-- a source has tags, a label and a description alone
abbrev pub source_part : SourceRow → PartName → Result View Refusal
source_part row (names.Tag name) = part_or (tag_part name (tag_of name row.tags)) (codes "tags")
source_part row names.Tags = Ok (views.AllTags row.tags)
source_part row names.Label = part_or (text_part parts.Label row.label) (codes "label")
source_part row names.Description =
    part_or (text_part parts.Description row.description) (codes "description")
source_part row names.ReadOnly = Err (refusals.NotSet (codes "read_only"))
source_part row names.Collection = Err (refusals.NotSet (codes "flow_collection"))
source_part row names.MaxBitRate = Err (refusals.NotSet (codes "max_bit_rate"))
source_part row names.AvgBitRate = Err (refusals.NotSet (codes "avg_bit_rate"))

-- ---- each question

-- what is shown of something that is kept, or the refusal
abbrev pub kept_or : {X : Type 0} → Refusal → (X → Result View Refusal) → Option X
    → Result View Refusal
kept_or refusal show None = Err refusal
kept_or refusal show (Some kept) = show kept

-- a page of segments in the page's direction, with the first point after which the next one begins
abbrev pub shown_segments : Page → List SegmentRow → View
shown_segments page rows =
    views.Segments (page_items first_point page rows) (next_key first_point page rows)

-- a page of sources, with the key of the next page
abbrev pub shown_sources : Page → List SourceRow → View
shown_sources page rows =
    views.Sources (page_items source_key page rows) (next_key source_key page rows)

-- a page of flows, each with its hull, with the key of the next page
abbrev pub shown_flows : Library → Page → List FlowRow → View
shown_flows library page rows =
    views.Flows (map (shown_flow library.segments) (page_items flow_key page rows))
    (next_key flow_key page rows)

-- an object with the flows whose segments name it, by rising id
abbrev pub shown_object : Library → ObjectRow → View
shown_object library row = views.Object row (flows_naming library.segments row.id)

-- what is shown to a question, or its refusal
abbrev pub asked : Library → Query → Result View Refusal
asked library queries.Root = Ok views.Root
asked library queries.Service = Ok views.Service
asked library queries.Hooks = Ok (views.Hooks (map (shown_hook library) library.outbox.hooks))
asked library (queries.Sources wanted page) =
    Ok (shown_sources page (listed_sources library wanted))
asked library (queries.Source id) =
    kept_or refusals.NoSource (λ row. Ok (views.Source row))
    (source_of id library.catalog.sources)
asked library (queries.SourcePart id name) =
    kept_or refusals.NoSource (λ row. source_part row name) (source_of id library.catalog.sources)
asked library (queries.Flows wanted range page) =
    Ok (shown_flows library page (listed_flows library wanted range))
asked library (queries.Flow id) =
    kept_or refusals.NoFlow (λ row. Ok (views.Flow (shown_flow library.segments row)))
    (flow_of id library.catalog.flows)
asked library (queries.FlowPart id name) =
    kept_or refusals.NoFlow (λ row. flow_part row.body name) (flow_of id library.catalog.flows)
asked library (queries.Segments id wanted page) =
    kept_or refusals.NoFlow (λ row. Ok (shown_segments page
    (overlapping library.segments id wanted.range wanted.object)))
    (flow_of id library.catalog.flows)
asked library (queries.Object id) =
    kept_or refusals.UnknownObject (λ row. Ok (shown_object library row))
    (object_of id library.objects)
asked library queries.Requests = Ok (views.Requests library.requests)
asked library (queries.Request serial) =
    kept_or refusals.NoRequest (λ row. Ok (views.Request row))
    (request_of serial library.requests)
