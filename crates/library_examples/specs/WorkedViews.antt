-- What questions show of the examples: views of each kind, filters hit and missed, and pages.
use Rattle.std.specs.Prelude.{◌≡◌, ℕ, ◌^◌, ℤ, pos, ◌-ℤ◌, List, [], ◌∷◌, Bool, true, false, Option, Some, None, map, codes}
use Rattle.time_range.specs.declared.ranges.Span.{Span}
use Rattle.media_rows.specs.declared.command.Command.TheVariants as commands
use Rattle.media_rows.specs.declared.command.FlowFilter.{FlowFilter}
use Rattle.media_rows.specs.declared.command.SourceFilter.{SourceFilter}
use Rattle.media_rows.specs.declared.command.Page.{Page}
use Rattle.media_rows.specs.declared.command.Query.{Query}
use Rattle.media_rows.specs.declared.command.Query.TheVariants as queries
use Rattle.media_rows.specs.declared.command.TagTest.{TagTest}
use Rattle.media_rows.specs.declared.command.TagTest.TheVariants.{Equals, Exists}
use Rattle.media_rows.specs.declared.flow.FormatKind.TheVariants.{Audio, Multi, Image}
use Rattle.media_rows.specs.declared.part.Part.{Part}
use Rattle.media_rows.specs.declared.part.Part.TheVariants as parts
use Rattle.media_rows.specs.declared.part.PartName.{PartName}
use Rattle.media_rows.specs.declared.part.PartName.TheVariants as names
use Rattle.media_rows.specs.declared.refusal.Refusal.TheVariants as refusals
use Rattle.media_rows.specs.declared.reply.Reply.{Reply}
use Rattle.media_rows.specs.declared.reply.Reply.TheVariants as replies
use Rattle.media_rows.specs.declared.reply.View.{View}
use Rattle.media_rows.specs.declared.reply.View.TheVariants as views
use Rattle.media_rows.specs.Answer.{answer}
use Rattle.media_rows.specs.Changes.{after}
use Rattle.media_rows.specs.Lists.{page_items, next_key}
use Rattle.media_rows.specs.Library.{Library}
use Rattle.media_rows.specs.Ranges.{eternity}
use Rattle.media_rows.specs.Segments.{first_point, overlapping}
use Rattle.media_rows.specs.Views.{listed_flows, listed_sources}
use Rattle.library_examples.specs.Examples.{first_flow, second_flow, one_source, second, seconds, piece, stored, post, with_pieces}
use Rattle.library_examples.specs.Studio.{third_flow, other_source, place_tag, take_tag, left_source, bare_source, both_body, main_flow, sound_flow, both_flow, object_a, object_b, object_c, later_piece, early_piece, last_piece, open_request, done_request, one_hook, two_hook, studio}

-- the answer to a question on the studio
abbrev pub reply : Query → Reply
reply query = (answer studio (commands.Ask query) 5).reply

-- a view that is shown
abbrev pub shown : View → Reply
shown view = replies.Shown view

-- a page of at most so many items past a key, forwards or backwards
abbrev pub page : Option ℤ → ℕ → Bool → Page
page after limit backwards = record { after = after; limit = limit; reverse = backwards }

-- the first nine items
abbrev pub nine : Page
nine = page None 9 false

-- the key of an id
abbrev pub key_of : ℕ → ℤ
key_of id = pos id -ℤ pos (2 ^ 127)

-- ---- one thing

-- What isn't kept is refused by its kind.
pub record UnknownIsRefused : Type 0 where
  pub no_flow : reply (queries.Flow 99) ≡ replies.Refused refusals.NoFlow
  pub no_flow_part : reply (queries.FlowPart 99 names.Tags) ≡ replies.Refused refusals.NoFlow
  pub no_segments : reply (queries.Segments 99 (record { range = eternity; object = None }) nine)
      ≡ replies.Refused refusals.NoFlow
  pub no_source : reply (queries.Source 99) ≡ replies.Refused refusals.NoSource
  pub no_source_part : reply (queries.SourcePart 99 names.Tags) ≡ replies.Refused refusals.NoSource
  pub no_object : reply (queries.Object (codes "z")) ≡ replies.Refused refusals.UnknownObject
  pub no_request : reply (queries.Request 7) ≡ replies.Refused refusals.NoRequest

-- A flow is shown with the hull of its own segments, an object with the flows that name it, each
-- once, and a hook with the number of events that wait for it.
pub record ThingsAreShown : Type 0 where
  pub root : reply queries.Root ≡ shown views.Root
  pub service : reply queries.Service ≡ shown views.Service
  pub source : reply (queries.Source other_source) ≡ shown (views.Source bare_source)
  pub flow : reply (queries.Flow first_flow)
      ≡ shown (views.Flow (record { row = main_flow; hull = seconds 0 30 }))
  pub other_hull : reply (queries.Flow third_flow)
      ≡ shown (views.Flow (record { row = both_flow; hull = seconds 5 7 }))
  pub no_hull : reply (queries.Flow second_flow)
      ≡ shown (views.Flow (record { row = sound_flow; hull = None }))
  pub object : reply (queries.Object (codes "a"))
      ≡ shown (views.Object object_a (first_flow ∷ third_flow ∷ []))
  pub other_object : reply (queries.Object (codes "b"))
      ≡ shown (views.Object object_b (first_flow ∷ []))
  pub unnamed_object : reply (queries.Object (codes "c")) ≡ shown (views.Object object_c [])
  pub request : reply (queries.Request 9) ≡ shown (views.Request done_request)
  pub requests : reply queries.Requests ≡ shown (views.Requests (open_request ∷ done_request ∷ []))
  pub hooks : reply queries.Hooks ≡ shown (views.Hooks
      (record { row = one_hook; waiting = 2 } ∷ record { row = two_hook; waiting = 1 } ∷ []))

-- ---- parts

-- a part of the first flow
abbrev pub part : PartName → Reply
part name = reply (queries.FlowPart first_flow name)

-- a part of the flow of which nothing is said
abbrev pub bare_part : PartName → Reply
bare_part name = (answer stored (commands.Ask (queries.FlowPart first_flow name)) 5).reply

-- a part of the first source
abbrev pub part_of_source : PartName → Reply
part_of_source name = reply (queries.SourcePart one_source name)

-- a part of the source of which nothing is said
abbrev pub bare_source_part : PartName → Reply
bare_source_part name = reply (queries.SourcePart other_source name)

-- a part that is set
abbrev pub one_part : Part → Reply
one_part value = shown (views.OnePart value)

-- a part that isn't set, by its name
abbrev pub refused_part : List ℕ → Reply
refused_part name = replies.Refused (refusals.NotSet name)

-- Each part of a flow that is set is shown, and each that isn't is refused by its name. The mark
-- and the list of all tags are there always.
pub record FlowPartsAreShown : Type 0 where
  pub tag : part (names.Tag (codes "take")) ≡ one_part (parts.Tag (codes "take") (Some take_tag))
  pub all_tags : part names.Tags ≡ shown (views.AllTags (place_tag ∷ take_tag ∷ []))
  pub label : part names.Label ≡ one_part (parts.Label (Some (codes "main")))
  pub description : part names.Description
      ≡ one_part (parts.Description (Some (codes "the picture")))
  pub mark : part names.ReadOnly ≡ one_part (parts.ReadOnly false)
  pub other_mark : reply (queries.FlowPart second_flow names.ReadOnly)
      ≡ one_part (parts.ReadOnly true)
  pub collection : reply (queries.FlowPart third_flow names.Collection)
      ≡ one_part (parts.Collection both_body.members)
  pub max_rate : part names.MaxBitRate ≡ one_part (parts.MaxBitRate (Some 9000))
  pub avg_rate : part names.AvgBitRate ≡ one_part (parts.AvgBitRate (Some 8000))
  pub no_tag : part (names.Tag (codes "x")) ≡ refused_part (codes "tags")
  pub no_tags : bare_part names.Tags ≡ shown (views.AllTags [])
  pub no_label : bare_part names.Label ≡ refused_part (codes "label")
  pub no_description : bare_part names.Description ≡ refused_part (codes "description")
  pub no_collection : bare_part names.Collection ≡ refused_part (codes "flow_collection")
  pub no_max_rate : bare_part names.MaxBitRate ≡ refused_part (codes "max_bit_rate")
  pub no_avg_rate : bare_part names.AvgBitRate ≡ refused_part (codes "avg_bit_rate")

-- A source has tags, a label and a description alone.
pub record SourcePartsAreShown : Type 0 where
  pub tag : part_of_source (names.Tag (codes "place"))
      ≡ one_part (parts.Tag (codes "place") (Some place_tag))
  pub all_tags : part_of_source names.Tags ≡ shown (views.AllTags (place_tag ∷ []))
  pub label : part_of_source names.Label ≡ one_part (parts.Label (Some (codes "left")))
  pub description : part_of_source names.Description
      ≡ one_part (parts.Description (Some (codes "the left camera")))
  pub no_tag : bare_source_part (names.Tag (codes "place")) ≡ refused_part (codes "tags")
  pub no_tags : bare_source_part names.Tags ≡ shown (views.AllTags [])
  pub no_label : bare_source_part names.Label ≡ refused_part (codes "label")
  pub no_description : bare_source_part names.Description ≡ refused_part (codes "description")
  pub no_mark : part_of_source names.ReadOnly ≡ refused_part (codes "read_only")
  pub no_collection : part_of_source names.Collection ≡ refused_part (codes "flow_collection")
  pub no_max_rate : part_of_source names.MaxBitRate ≡ refused_part (codes "max_bit_rate")
  pub no_avg_rate : part_of_source names.AvgBitRate ≡ refused_part (codes "avg_bit_rate")

-- ---- filters of sources

-- every source
abbrev pub any_source : SourceFilter
any_source = record { format = None; label = None; tags = [] }

-- the ids of the sources that pass
abbrev pub passing_sources : SourceFilter → List ℕ
passing_sources wanted = map (λ row. row.id) (listed_sources studio wanted)

-- Sources are listed by format, by the whole label, and by each test on tags.
pub record SourcesAreListed : Type 0 where
  pub all : passing_sources any_source ≡ one_source ∷ other_source ∷ []
  pub by_format : passing_sources (record any_source { format = Some Audio }) ≡ other_source ∷ []
  pub no_format : passing_sources (record any_source { format = Some Multi }) ≡ []
  pub by_label : passing_sources (record any_source { label = Some (codes "left") })
      ≡ one_source ∷ []
  pub part_of_label : passing_sources (record any_source { label = Some (codes "lef") }) ≡ []
  pub by_value :
      passing_sources (record any_source { tags = Equals (codes "place") (codes "stage") ∷ [] })
      ≡ one_source ∷ []
  pub no_value :
      passing_sources (record any_source { tags = Equals (codes "place") (codes "x") ∷ [] })
      ≡ []
  pub with_tag : passing_sources (record any_source { tags = Exists (codes "place") true ∷ [] })
      ≡ one_source ∷ []
  pub without_tag : passing_sources (record any_source { tags = Exists (codes "place") false ∷ [] })
      ≡ other_source ∷ []
  pub view : reply (queries.Sources any_source nine)
      ≡ shown (views.Sources (left_source ∷ bare_source ∷ []) None)

-- ---- filters of flows

-- every flow
abbrev pub any_flow : FlowFilter
any_flow = record { source = None; format = None; codec = None; label = None; tags = [] }

-- the ids of the flows that pass
abbrev pub passing_flows : FlowFilter → List ℕ
passing_flows wanted = map (λ row. row.body.id) (listed_flows studio wanted None)

-- the ids of the flows with a segment in a range
abbrev pub ids_within : Option Span → List ℕ
ids_within range = map (λ row. row.body.id) (listed_flows studio any_flow (Some range))

-- the flows that pass tests on tags
abbrev pub tagged : List TagTest → FlowFilter
tagged tests = record any_flow { tags = tests }

-- Flows are listed by source, format, whole codec and whole label, by each test on tags, and by a
-- range in which a segment of theirs lies in part.
pub record FlowsAreListed : Type 0 where
  pub all : passing_flows any_flow ≡ first_flow ∷ second_flow ∷ third_flow ∷ []
  pub by_source : passing_flows (record any_flow { source = Some one_source })
      ≡ first_flow ∷ third_flow ∷ []
  pub no_source : passing_flows (record any_flow { source = Some 99 }) ≡ []
  pub by_format : passing_flows (record any_flow { format = Some Multi }) ≡ third_flow ∷ []
  pub no_format : passing_flows (record any_flow { format = Some Image }) ≡ []
  pub by_codec : passing_flows (record any_flow { codec = Some (codes "aac") }) ≡ second_flow ∷ []
  pub part_of_codec : passing_flows (record any_flow { codec = Some (codes "aa") }) ≡ []
  pub by_label : passing_flows (record any_flow { label = Some (codes "both") }) ≡ third_flow ∷ []
  pub no_label : passing_flows (record any_flow { label = Some (codes "x") }) ≡ []
  pub by_value : passing_flows (tagged (Equals (codes "place") (codes "stage") ∷ []))
      ≡ first_flow ∷ []
  pub no_value : passing_flows (tagged (Equals (codes "place") (codes "7") ∷ [])) ≡ []
  pub both_tests :
      passing_flows
      (tagged (Equals (codes "place") (codes "hall") ∷ Equals (codes "take") (codes "8") ∷ []))
      ≡ []
  pub with_tag : passing_flows (tagged (Exists (codes "take") true ∷ [])) ≡ first_flow ∷ []
  pub without_tag : passing_flows (tagged (Exists (codes "take") false ∷ []))
      ≡ second_flow ∷ third_flow ∷ []
  pub within : ids_within (seconds 6 9) ≡ first_flow ∷ third_flow ∷ []
  pub within_one : ids_within (seconds 25 26) ≡ first_flow ∷ []
  pub within_none : ids_within (seconds 30 40) ≡ []
  pub within_all : ids_within eternity ≡ first_flow ∷ third_flow ∷ []
  pub within_never : ids_within None ≡ []
  pub view :
      reply
      (queries.Flows (record any_flow { source = Some one_source }) (Some (seconds 6 9)) nine)
      ≡ shown (views.Flows (record { row = main_flow; hull = seconds 0 30 }
      ∷ record { row = both_flow; hull = seconds 5 7 } ∷ []) None)

-- ---- pages of sources and flows

-- Pages come by rising id, or by falling; the next key is the last item's, and is there where more
-- follow.
pub record IdsInPages : Type 0 where
  pub first : reply (queries.Flows any_flow (Some (seconds 6 9)) (page None 1 false))
      ≡ shown (views.Flows
      (record { row = main_flow; hull = seconds 0 30 } ∷ []) (Some (key_of first_flow)))
  pub second : reply (queries.Sources any_source (page (Some (key_of one_source)) 1 false))
      ≡ shown (views.Sources (bare_source ∷ []) None)
  pub backwards : reply (queries.Sources any_source (page None 1 true))
      ≡ shown (views.Sources (bare_source ∷ []) (Some (key_of other_source)))
  pub backwards_last :
      reply (queries.Sources any_source (page (Some (key_of other_source)) 1 true))
      ≡ shown (views.Sources (left_source ∷ []) None)

-- ---- pages of segments

-- a page of the segments of the first flow
abbrev pub segments_reply : Option Span → Option (List ℕ) → Page → Reply
segments_reply range object asked_page =
    reply (queries.Segments first_flow (record { range = range; object = object }) asked_page)

-- Segments are shown by first point, those that overlap the range in part among them, and only
-- those that name the object where one is asked for.
pub record SegmentsAreShown : Type 0 where
  pub all : segments_reply eternity None nine
      ≡ shown (views.Segments (early_piece ∷ later_piece ∷ last_piece ∷ []) None)
  pub part : segments_reply (seconds 5 15) None nine
      ≡ shown (views.Segments (early_piece ∷ later_piece ∷ []) None)
  pub of_object : segments_reply eternity (Some (codes "a")) nine
      ≡ shown (views.Segments (later_piece ∷ last_piece ∷ []) None)
  pub no_object : segments_reply eternity (Some (codes "z")) nine ≡ shown (views.Segments [] None)
  pub never : segments_reply None None nine ≡ shown (views.Segments [] None)
  pub page_of_object : segments_reply eternity (Some (codes "a")) (page None 1 true)
      ≡ shown (views.Segments (last_piece ∷ []) (Some (pos 40000000000)))

-- the serials of a page of five segments, each of a second, that overlap a range
abbrev pub points : Option Span → Page → List ℕ
points range asked_page =
    map (λ row. row.serial)
    (page_items first_point asked_page (overlapping (with_pieces 5).segments first_flow range None))

-- the key behind that page
abbrev pub key : Page → Option ℤ
key asked_page =
    next_key first_point asked_page (overlapping (with_pieces 5).segments first_flow eternity None)

-- four segments that were posted out of order, each of ten seconds
abbrev pub mixed : Library
mixed = after (post (piece 30 40 ∷ piece 10 20 ∷ piece 20 30 ∷ piece 0 10 ∷ [])) stored

-- a range that begins within a segment and ends with the first point of the next
abbrev pub half_range : Option Span
half_range = Some (record { low = Some (pos 1000000000); high = Some (pos second) })

-- Segments come by rising first point, or by falling. A page that isn't the last has the key of the
-- next one, and a segment that begins before the range is in it all the same. Never overlaps none.
pub record PagesAreCut : Type 0 where
  pub by_first_point :
      map (λ row. row.serial)
      (page_items first_point nine (overlapping mixed.segments first_flow eternity None))
      ≡ 5 ∷ 3 ∷ 4 ∷ 2 ∷ []
  pub first : points eternity (page None 2 false) ≡ 2 ∷ 3 ∷ []
  pub first_key : key (page None 2 false) ≡ Some (pos 2000000000)
  pub next : points eternity (page (Some (pos 2000000000)) 2 false) ≡ 4 ∷ 5 ∷ []
  pub next_key : key (page (Some (pos 2000000000)) 2 false) ≡ Some (pos 6000000000)
  pub last_key : key (page (Some (pos 4000000000)) 2 false) ≡ None
  pub backwards : points eternity (page None 2 true) ≡ 6 ∷ 5 ∷ []
  pub backwards_key : key (page None 2 true) ≡ Some (pos 6000000000)
  pub backwards_next : points eternity (page (Some (pos 6000000000)) 2 true) ≡ 4 ∷ 3 ∷ []
  pub backwards_last : points eternity (page (Some (pos 2000000000)) 2 true) ≡ 2 ∷ []
  pub backwards_end : key (page (Some (pos 2000000000)) 2 true) ≡ None
  pub part : points half_range nine ≡ 2 ∷ 3 ∷ []
  pub never : points None nine ≡ []
