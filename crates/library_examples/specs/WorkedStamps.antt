-- The stamps that each change sets on the examples, each change at a moment of its own, and the
-- rows that it makes.
use Rattle.std.specs.Prelude.{◌≡◌, ℕ, List, [], ◌∷◌, ◌++◌, true, false, Option, Some, None, map, codes}
use Rattle.media_rows.specs.declared.change.Change.{Change}
use Rattle.media_rows.specs.declared.change.Change.TheVariants as changes
use Rattle.media_rows.specs.declared.event.EventKind.TheVariants.{SourceUpdated}
use Rattle.media_rows.specs.declared.flow.FlowBody.{FlowBody}
use Rattle.media_rows.specs.declared.flow.FormatKind.TheVariants.{Video}
use Rattle.media_rows.specs.declared.flow.Tag.{Tag}
use Rattle.media_rows.specs.declared.object.ObjectRow.{ObjectRow}
use Rattle.media_rows.specs.declared.object.ObjectState.TheVariants.{Allocated, Stored}
use Rattle.media_rows.specs.declared.part.Part.{Part}
use Rattle.media_rows.specs.declared.part.Part.TheVariants as parts
use Rattle.media_rows.specs.declared.request.DeleteRow.{DeleteRow}
use Rattle.media_rows.specs.declared.request.DeleteStatus.TheVariants as statuses
use Rattle.media_rows.specs.Changes.{after}
use Rattle.media_rows.specs.Library.{Library}
use Rattle.media_rows.specs.Ranges.{eternity}
use Rattle.library_examples.specs.Examples.{a_list, new_label, after_all, first_flow, second_flow, one_source, body_of, member, put, seconds, piece}
use Rattle.library_examples.specs.Studio.{third_flow, other_source, place_tag, take_tag, left_source, bare_source, main_body, sound_body, both_body, main_flow, sound_flow, both_flow, object_a, object_b, object_c, later_piece, early_piece, third_piece, last_piece, open_request, done_request, one_hook, two_hook, event, studio}

-- when each flow was made, last said anew, and last got or lost a segment
abbrev pub flow_stamps : Library → List (ℕ × ℕ × Option ℕ)
flow_stamps library =
    map (λ row. (row.created, row.metadata_updated, row.segments_updated)) library.catalog.flows

-- when each source was made, and last said anew
abbrev pub source_stamps : Library → List (ℕ × ℕ)
source_stamps library = map (λ row. (row.created, row.updated)) library.catalog.sources

-- since when each object is idle
abbrev pub idle_moments : Library → List ℕ
idle_moments library = map (λ row. row.idle_since) library.objects

-- when each delete request was made, and last worked off
abbrev pub request_stamps : Library → List (ℕ × ℕ)
request_stamps library = map (λ row. (row.created, row.updated)) library.requests

-- the stamps of the studio's flows behind the first
abbrev pub other_stamps : List (ℕ × ℕ × Option ℕ)
other_stamps = (114, 115, None) ∷ (116, 117, Some 118) ∷ []

-- the stamps of the studio's flows
abbrev pub same_stamps : List (ℕ × ℕ × Option ℕ)
same_stamps = (111, 112, Some 113) ∷ other_stamps

-- the studio after a change
abbrev pub studio_after : Change → Library
studio_after change = after change studio

-- a new flow of a new source
abbrev pub new_body : FlowBody
new_body = body_of 244 163 Video []

-- a post of one segment to the first flow
abbrev pub post_at : ℕ → Change
post_at moment = changes.AddSegments moment first_flow (a_list (piece 40 50 ∷ []))

-- a cut of the first flow's first segment
abbrev pub cut_at : ℕ → Change
cut_at moment = changes.CutSegments moment first_flow (seconds 0 10)

-- the request to delete all of the first flow's segments
abbrev pub ask_at : ℕ → Change
ask_at moment = changes.AskDelete moment first_flow eternity false

-- ---- flows

-- A put of a kept flow leaves when it was made and when its segments changed; a part changes when
-- it was last said anew, and segments change their own stamp. Other flows keep theirs, also where
-- an entry leaves them.
pub record FlowStamps : Type 0 where
  pub kept_put : flow_stamps (studio_after (changes.PutFlow 201 main_body))
      ≡ (111, 201, Some 113) ∷ other_stamps
  pub new_put : flow_stamps (studio_after (changes.PutFlow 202 new_body))
      ≡ same_stamps ++ (202, 202, None) ∷ []
  pub part_set : flow_stamps (studio_after (changes.SetFlow 203 first_flow new_label))
      ≡ (111, 203, Some 113) ∷ other_stamps
  pub source_set : flow_stamps (studio_after (changes.SetSource 204 one_source new_label))
      ≡ same_stamps
  pub dropped : flow_stamps (studio_after (changes.DropFlow 205 first_flow)) ≡ other_stamps
  pub allocated : flow_stamps (studio_after (changes.Allocate 206 first_flow (codes "d" ∷ [])))
      ≡ same_stamps
  pub stored : flow_stamps (studio_after (changes.Store 207 (codes "c") 3 5 None)) ≡ same_stamps
  pub posted : flow_stamps (studio_after (post_at 208)) ≡ (111, 112, Some 208) ∷ other_stamps
  pub cut : flow_stamps (studio_after (cut_at 209)) ≡ (111, 112, Some 209) ∷ other_stamps
  pub asked_for : flow_stamps (studio_after (ask_at 210)) ≡ same_stamps
  pub stepped : flow_stamps (studio_after (changes.DeleteStep 211))
      ≡ (111, 112, Some 211) ∷ other_stamps
  pub empty_step : flow_stamps (after (changes.DeleteStep 212) (studio_after (cut_at 209)))
      ≡ (111, 112, Some 209) ∷ other_stamps
  pub swept : flow_stamps (studio_after (changes.SweepStep 86523)) ≡ same_stamps

-- ---- sources

-- A source keeps its stamps while its flows change, and one that comes has the moment twice.
pub record SourceStamps : Type 0 where
  pub kept_put : source_stamps (studio_after (changes.PutFlow 201 main_body))
      ≡ (101, 102) ∷ (103, 104) ∷ []
  pub new_put : source_stamps (studio_after (changes.PutFlow 202 new_body))
      ≡ (101, 102) ∷ (103, 104) ∷ (202, 202) ∷ []
  pub flow_of_kept : source_stamps (studio_after (put 203 244)) ≡ (101, 102) ∷ (103, 104) ∷ []
  pub part_set : source_stamps (studio_after (changes.SetFlow 204 first_flow new_label))
      ≡ (101, 102) ∷ (103, 104) ∷ []
  pub source_set : source_stamps (studio_after (changes.SetSource 205 other_source new_label))
      ≡ (101, 102) ∷ (103, 205) ∷ []
  pub dropped : source_stamps (studio_after (changes.DropFlow 206 second_flow)) ≡ (101, 102) ∷ []

-- ---- objects

-- An object is idle since its allocation, its storing, and the loss of its last reference; the loss
-- of another one changes nothing.
pub record IdleMoments : Type 0 where
  pub allocated : idle_moments (studio_after (changes.Allocate 206 first_flow (codes "d" ∷ [])))
      ≡ 121 ∷ 122 ∷ 123 ∷ 206 ∷ []
  pub stored : idle_moments (studio_after (changes.Store 207 (codes "c") 3 5 None))
      ≡ 121 ∷ 122 ∷ 207 ∷ []
  pub posted : idle_moments (studio_after (post_at 208)) ≡ 121 ∷ 122 ∷ 123 ∷ []
  pub cut_last : idle_moments (studio_after (cut_at 209)) ≡ 121 ∷ 209 ∷ 123 ∷ []
  pub cut_other : idle_moments (studio_after (changes.CutSegments 210 first_flow (seconds 10 20)))
      ≡ 121 ∷ 122 ∷ 123 ∷ []
  pub dropped : idle_moments (studio_after (changes.DropFlow 205 first_flow)) ≡ 121 ∷ 205 ∷ 123 ∷ []
  pub dropped_all :
      idle_moments
      (after_all (changes.DropFlow 205 first_flow ∷ changes.DropFlow 213 third_flow ∷ []) studio)
      ≡ 213 ∷ 205 ∷ 123 ∷ []
  pub stepped : idle_moments (studio_after (changes.DeleteStep 211)) ≡ 121 ∷ 211 ∷ 123 ∷ []
  pub swept : idle_moments (studio_after (changes.SweepStep 86523)) ≡ 121 ∷ 122 ∷ []

-- ---- delete requests

-- A request has the moment twice; a step, and a flow that goes, set when it was last worked off.
pub record RequestStamps : Type 0 where
  pub asked_for : request_stamps (studio_after (ask_at 210))
      ≡ (131, 132) ∷ (133, 134) ∷ (210, 210) ∷ []
  pub stepped : request_stamps (studio_after (changes.DeleteStep 211))
      ≡ (131, 211) ∷ (133, 134) ∷ []
  pub flow_gone : request_stamps (studio_after (changes.DropFlow 205 first_flow))
      ≡ (131, 205) ∷ (133, 134) ∷ []
  pub other_gone : request_stamps (studio_after (changes.DropFlow 206 third_flow))
      ≡ (131, 132) ∷ (133, 134) ∷ []
  pub done_is_left : request_stamps (studio_after (changes.DropFlow 207 second_flow))
      ≡ (131, 132) ∷ (133, 134) ∷ []

-- ---- rows that changes make

-- an object that was allocated
abbrev pub allocated_object : List ℕ → ℕ → ℕ → ObjectRow
allocated_object id serial moment = record {
  id = id;
  serial = serial;
  state = Allocated;
  idle_since = moment;
}

-- a request for all of the first flow's segments
abbrev pub asked_request : DeleteRow
asked_request = record {
  serial = 15;
  flow = first_flow;
  range = eternity;
  delete_flow = false;
  status = statuses.Created;
  created = 210;
  updated = 210;
}

-- Each row that comes has the next serial, and several of one change have them in their order; the
-- next serial then stands behind them.
pub record RowsAreMade : Type 0 where
  pub objects :
      (studio_after (changes.Allocate 206 first_flow (codes "e" ∷ codes "d" ∷ []))).objects
      ≡ object_a ∷ object_b ∷ object_c
      ∷ allocated_object (codes "e") 15 206 ∷ allocated_object (codes "d") 16 206 ∷ []
  pub behind_objects :
      (studio_after (changes.Allocate 206 first_flow (codes "e" ∷ codes "d" ∷ []))).next_serial
      ≡ 17
  pub bytes : (studio_after (changes.Store 207 (codes "c") 3 5 None)).objects
      ≡ object_a ∷ object_b
      ∷ record { id = codes "c"; serial = 3; state = Stored 3 5 None; idle_since = 207 } ∷ []
  pub segments :
      (after
      (changes.AddSegments 208 third_flow (a_list (piece 9 10 ∷ piece 8 9 ∷ []))) studio).segments
      ≡ later_piece ∷ early_piece ∷ third_piece ∷ last_piece
      ∷ record { flow = third_flow; serial = 15; segment = piece 9 10 }
      ∷ record { flow = third_flow; serial = 16; segment = piece 8 9 } ∷ []
  pub request : (studio_after (ask_at 210)).requests
      ≡ open_request ∷ done_request ∷ asked_request ∷ []
  pub behind_request : (studio_after (ask_at 210)).next_serial ≡ 16
  pub hook : map (λ row. row.serial) (studio_after (changes.PutHook 214 one_hook.hook)).outbox.hooks
      ≡ 11 ∷ 15 ∷ []
  pub hook_hears :
      map (λ row. row.serial) (studio_after (changes.PutHook 214 one_hook.hook)).outbox.events
      ≡ 13 ∷ []
  pub behind_hook : (studio_after (changes.PutHook 214 one_hook.hook)).next_serial ≡ 16
  pub hook_gone : (studio_after (changes.DropHook 215 (codes "http://one/"))).outbox
      ≡ record {
        hooks = two_hook ∷ [];
        events = event 13 11 SourceUpdated one_source None 142 ∷ [];
      }
  pub flow : (studio_after (changes.PutFlow 202 new_body)).catalog.flows
      ≡ main_flow ∷ sound_flow ∷ both_flow
      ∷ record { body = new_body; created = 202; metadata_updated = 202; segments_updated = None }
      ∷ []
  pub source : (studio_after (changes.PutFlow 202 new_body)).catalog.sources
      ≡ left_source ∷ bare_source
      ∷ record {
        id = 163;
        format = Video;
        label = None;
        description = None;
        tags = [];
        created = 202;
        updated = 202;
      } ∷ []

-- ---- parts that are set

-- the first flow's body after a part of it was set
abbrev pub body_after : Part → List FlowBody
body_after part =
    map (λ row. row.body) (studio_after (changes.SetFlow 203 first_flow part)).catalog.flows

-- the studio's bodies with another first one
abbrev pub first_body : FlowBody → List FlowBody
first_body new = new ∷ sound_body ∷ both_body ∷ []

-- a tag that stands before the others by its name
abbrev pub early_tag : Tag
early_tag = record { name = codes "band"; single = true; values = codes "x" ∷ [] }

-- another tag of a name that is there
abbrev pub new_take : Tag
new_take = record { name = codes "take"; single = true; values = codes "8" ∷ [] }

-- One part is set, and all else that is said of the flow stays. Tags stand by name.
pub record PartsAreSet : Type 0 where
  pub new_tag : body_after (parts.Tag (codes "band") (Some early_tag))
      ≡ first_body (record main_body { tags = early_tag ∷ place_tag ∷ take_tag ∷ [] })
  pub same_tag : body_after (parts.Tag (codes "take") (Some new_take))
      ≡ first_body (record main_body { tags = place_tag ∷ new_take ∷ [] })
  pub no_tag : body_after (parts.Tag (codes "place") None)
      ≡ first_body (record main_body { tags = take_tag ∷ [] })
  pub label_set : body_after new_label ≡ first_body (record main_body { label = Some (codes "x") })
  pub no_description : body_after (parts.Description None)
      ≡ first_body (record main_body { description = None })
  pub mark : body_after (parts.ReadOnly true) ≡ first_body (record main_body { read_only = true })
  pub collection : body_after (parts.Collection (member second_flow ∷ []))
      ≡ first_body (record main_body { members = member second_flow ∷ [] })
  pub max_rate : body_after (parts.MaxBitRate None)
      ≡ first_body (record main_body { max_bit_rate = None })
  pub avg_rate : body_after (parts.AvgBitRate (Some 7))
      ≡ first_body (record main_body { avg_bit_rate = Some 7 })
  pub source_label : (studio_after (changes.SetSource 204 other_source new_label)).catalog.sources
      ≡ left_source ∷ record bare_source { label = Some (codes "x"); updated = 204 } ∷ []
  pub source_tag : (studio_after
      (changes.SetSource 204 one_source (parts.Tag (codes "place") None))).catalog.sources
      ≡ record left_source { tags = []; updated = 204 } ∷ bare_source ∷ []
  pub source_description :
      (studio_after (changes.SetSource 204 one_source (parts.Description None))).catalog.sources
      ≡ record left_source { description = None; updated = 204 } ∷ bare_source ∷ []
