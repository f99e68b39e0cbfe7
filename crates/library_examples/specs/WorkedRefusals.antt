-- What the definitions refuse on the examples, and in which order.
use Rattle.std.specs.Prelude.{◌≡◌, ℕ, List, [], ◌∷◌, true, false, Option, Some, None, map, codes}
use Rattle.media_rows.specs.declared.change.Change.TheVariants as changes
use Rattle.media_rows.specs.declared.command.Command.{Command}
use Rattle.media_rows.specs.declared.command.Command.TheVariants as commands
use Rattle.media_rows.specs.declared.command.Want.TheVariants.{Count, Named}
use Rattle.media_rows.specs.declared.flow.FormatKind.{FormatKind}
use Rattle.media_rows.specs.declared.flow.FormatKind.TheVariants.{Video, Audio, DataEssence, Multi, Image}
use Rattle.media_rows.specs.declared.flow.Member.{Member}
use Rattle.media_rows.specs.declared.part.Part.{Part}
use Rattle.media_rows.specs.declared.part.Part.TheVariants as parts
use Rattle.media_rows.specs.declared.refusal.Refusal.{Refusal}
use Rattle.media_rows.specs.declared.refusal.Refusal.TheVariants as refusals
use Rattle.media_rows.specs.declared.segment.Segment.{Segment}
use Rattle.media_rows.specs.Answer.{refusal_of, first_taken, is_kept_object}
use Rattle.media_rows.specs.Apply.{applied, is_allowed}
use Rattle.media_rows.specs.Catalog.{is_source_part}
use Rattle.media_rows.specs.Changes.{after}
use Rattle.media_rows.specs.Library.{Library}
use Rattle.media_rows.specs.Posts.{posts_refusal}
use Rattle.media_rows.specs.Ranges.{eternity}
use Rattle.library_examples.specs.Examples.{a_list, alone, no_digest, after_all, first_flow, second_flow, one_source, body, body_of, member, empty_store, put, put_collecting, seconds, piece, piece_of, stored, with_pieces, shared}
use Rattle.library_examples.specs.Studio.{third_flow, other_source, take_tag, main_body, sound_body, open_request, done_request, studio}

-- the first refusal of a command on the studio
abbrev pub refused : Command → Option Refusal
refused command = refusal_of studio command

-- a part isn't set, by its name
abbrev pub not_set : List ℕ → Option Refusal
not_set name = Some (refusals.NotSet name)

-- ---- each refusal in its place

-- a read-only flow
abbrev pub read_only : Library
read_only = after (changes.SetFlow 0 first_flow (parts.ReadOnly true)) stored

-- a read-only flow with 33 segments that an unfinished request deletes
abbrev pub going : Library
going = after_all
    (changes.SetFlow 0 first_flow (parts.ReadOnly true)
    ∷ changes.AskDelete 0 first_flow eternity true ∷ [])
    (with_pieces 33)

-- a PUT of an audio flow that collects one that isn't kept
abbrev pub put_faulty : Command
put_faulty = commands.PutFlow (body first_flow Audio (member second_flow ∷ []))

-- the setting of a part of the first flow
abbrev pub set : Part → Command
set part = commands.SetFlow first_flow part

-- Of several refusals that could stand the first in a command's order is answered: being deleted
-- before read-only, read-only before another format, another format before a missing member. The
-- mark of a read-only flow may be set.
pub record RefusalsStandInOrder : Type 0 where
  pub no_flow : refusal_of empty_store (commands.DropFlow first_flow) ≡ Some refusals.NoFlow
  pub read_only_put : refusal_of read_only put_faulty ≡ Some refusals.ReadOnly
  pub mark_is_set : refusal_of read_only (set (parts.ReadOnly false)) ≡ None
  pub label_is_not : refusal_of read_only (set (parts.Label None)) ≡ Some refusals.ReadOnly
  pub deleting_first : refusal_of going (commands.PutFlow (body first_flow Audio []))
      ≡ Some refusals.Deleting
  pub deleting_mark : refusal_of going (set (parts.ReadOnly false)) ≡ Some refusals.Deleting
  pub flow_changed : refusal_of stored put_faulty ≡ Some refusals.FlowChanged
  pub no_source : refusal_of stored (commands.SetSource 7 (parts.Label None))
      ≡ Some refusals.NoSource
  pub source_stays : refusal_of going (commands.SetSource one_source (parts.Label (Some []))) ≡ None

-- ---- flows that aren't kept, and read-only flows

-- a flow that isn't kept
abbrev pub no_such_flow : ℕ
no_such_flow = 99

-- A flow that isn't kept takes no part, goes nowhere, and gets neither objects nor segments.
pub record FlowsAreKept : Type 0 where
  pub set : refused (commands.SetFlow no_such_flow (parts.ReadOnly true)) ≡ Some refusals.NoFlow
  pub drop : refused (commands.DropFlow no_such_flow) ≡ Some refusals.NoFlow
  pub allocation : refused (commands.Allocate no_such_flow (Count 1)) ≡ Some refusals.NoFlow
  pub post :
      refused (commands.AddSegments no_such_flow (a_list (piece 0 1 ∷ []))) ≡ Some refusals.NoFlow
  pub cut : refused (commands.CutSegments no_such_flow eternity) ≡ Some refusals.NoFlow
  pub source : refused (commands.SetSource no_such_flow (parts.Label (Some [])))
      ≡ Some refusals.NoSource

-- the setting of a part of the second flow, which is read-only
abbrev pub set_second : Part → Option Refusal
set_second part = refused (commands.SetFlow second_flow part)

-- A read-only flow isn't replaced, doesn't go, and gets and loses nothing but its mark. Its source
-- may change.
pub record ReadOnlyStands : Type 0 where
  pub put : refused (commands.PutFlow sound_body) ≡ Some refusals.ReadOnly
  pub drop : refused (commands.DropFlow second_flow) ≡ Some refusals.ReadOnly
  pub allocation : refused (commands.Allocate second_flow (Count 1)) ≡ Some refusals.ReadOnly
  pub post :
      refused (commands.AddSegments second_flow (a_list (piece 0 1 ∷ []))) ≡ Some refusals.ReadOnly
  pub cut : refused (commands.CutSegments second_flow eternity) ≡ Some refusals.ReadOnly
  pub tag : set_second (parts.Tag (codes "take") (Some take_tag)) ≡ Some refusals.ReadOnly
  pub label : set_second (parts.Label (Some (codes "x"))) ≡ Some refusals.ReadOnly
  pub description : set_second (parts.Description (Some (codes "x"))) ≡ Some refusals.ReadOnly
  pub collection : set_second (parts.Collection (member first_flow ∷ [])) ≡ Some refusals.ReadOnly
  pub max_rate : set_second (parts.MaxBitRate (Some 1)) ≡ Some refusals.ReadOnly
  pub avg_rate : set_second (parts.AvgBitRate (Some 1)) ≡ Some refusals.ReadOnly
  pub mark : set_second (parts.ReadOnly false) ≡ None
  pub source : refused (commands.SetSource other_source (parts.Label (Some (codes "x")))) ≡ None

-- ---- parts that aren't set

-- the clearing of a part of a flow of which nothing is said
abbrev pub cleared_flow : Part → Option Refusal
cleared_flow part = refusal_of stored (commands.SetFlow first_flow part)

-- the clearing of a part of a source of which nothing is said
abbrev pub cleared_source : Part → Option Refusal
cleared_source part = refused (commands.SetSource other_source part)

-- What isn't set can't be cleared, and the refusal has the part's name.
pub record UnsetPartsAreNamed : Type 0 where
  pub tag : cleared_flow (parts.Tag (codes "t") None) ≡ not_set (codes "tags")
  pub label : cleared_flow (parts.Label None) ≡ not_set (codes "label")
  pub description : cleared_flow (parts.Description None) ≡ not_set (codes "description")
  pub collection : cleared_flow (parts.Collection []) ≡ not_set (codes "flow_collection")
  pub max_rate : cleared_flow (parts.MaxBitRate None) ≡ not_set (codes "max_bit_rate")
  pub avg_rate : cleared_flow (parts.AvgBitRate None) ≡ not_set (codes "avg_bit_rate")
  pub other_tag : refused (set (parts.Tag (codes "t") None)) ≡ not_set (codes "tags")
  pub source_tag : cleared_source (parts.Tag (codes "place") None) ≡ not_set (codes "tags")
  pub source_label : cleared_source (parts.Label None) ≡ not_set (codes "label")
  pub source_description : cleared_source (parts.Description None) ≡ not_set (codes "description")

-- a part of a flow alone, set to something on a source
abbrev pub set_on_source : Part → Option Refusal
set_on_source part = refused (commands.SetSource one_source part)

-- A source has a tag, a label and a description alone, so that no other part of it is set or
-- cleared.
pub record OtherPartsAreOfFlows : Type 0 where
  pub mark : set_on_source (parts.ReadOnly true) ≡ not_set (codes "read_only")
  pub collection : set_on_source (parts.Collection (member first_flow ∷ []))
      ≡ not_set (codes "flow_collection")
  pub no_collection : set_on_source (parts.Collection []) ≡ not_set (codes "flow_collection")
  pub max_rate : set_on_source (parts.MaxBitRate (Some 1)) ≡ not_set (codes "max_bit_rate")
  pub avg_rate : set_on_source (parts.AvgBitRate (Some 1)) ≡ not_set (codes "avg_bit_rate")
  pub applies_not : applied (changes.SetSource 0 one_source (parts.ReadOnly true)) stored ≡ None
  pub tag_is : is_source_part (parts.Tag (codes "t") None) ≡ true
  pub label_is : is_source_part (parts.Label None) ≡ true
  pub description_is : is_source_part (parts.Description None) ≡ true
  pub mark_isnt : is_source_part (parts.ReadOnly true) ≡ false
  pub collection_isnt : is_source_part (parts.Collection []) ≡ false
  pub max_rate_isnt : is_source_part (parts.MaxBitRate None) ≡ false
  pub avg_rate_isnt : is_source_part (parts.AvgBitRate None) ≡ false

-- What is set can be cleared, and what isn't set can be set.
pub record SetPartsAreCleared : Type 0 where
  pub tag : refused (set (parts.Tag (codes "place") None)) ≡ None
  pub label : refused (set (parts.Label None)) ≡ None
  pub description : refused (set (parts.Description None)) ≡ None
  pub collection : refused (commands.SetFlow third_flow (parts.Collection [])) ≡ None
  pub max_rate : refused (set (parts.MaxBitRate None)) ≡ None
  pub avg_rate : refused (set (parts.AvgBitRate None)) ≡ None
  pub new_label : cleared_flow (parts.Label (Some (codes "x"))) ≡ None
  pub new_rate : cleared_flow (parts.AvgBitRate (Some 1)) ≡ None
  pub source_tag : refused (commands.SetSource one_source (parts.Tag (codes "place") None)) ≡ None
  pub source_label : refused (commands.SetSource one_source (parts.Label None)) ≡ None
  pub source_description : refused (commands.SetSource one_source (parts.Description None)) ≡ None

-- ---- formats and collections

-- the PUT of a new flow of the first source
abbrev pub put_new : FormatKind → List Member → Option Refusal
put_new format members = refused (commands.PutFlow (body 244 format members))

-- the PUT of the first flow with other collected flows
abbrev pub put_main : List Member → Option Refusal
put_main members = refused (commands.PutFlow (record main_body { members = members }))

-- Another format than the source's comes before a flow that is missing, and that before a flow that
-- collects itself, directly or through others.
pub record CollectionsComeLast : Type 0 where
  pub format_first : put_new Audio (member 999 ∷ member 244 ∷ []) ≡ Some refusals.SourceFormat
  pub missing_next : put_new Video (member 244 ∷ member 999 ∷ [])
      ≡ Some (refusals.CollectedMissing 999)
  pub itself_last : put_new Video (member 244 ∷ []) ≡ Some refusals.CollectsItself
  pub first_of_two : put_new Video (member 998 ∷ member 999 ∷ [])
      ≡ Some (refusals.CollectedMissing 998)
  pub changed_first :
      refused (commands.PutFlow (record main_body { format = Audio; members = member 999 ∷ [] }))
      ≡ Some refusals.FlowChanged
  pub other_source : refused (commands.PutFlow (record main_body { source = other_source }))
      ≡ Some refusals.FlowChanged
  pub kept_missing : put_main (member third_flow ∷ member 999 ∷ [])
      ≡ Some (refusals.CollectedMissing 999)
  pub kept_circle : put_main (member third_flow ∷ []) ≡ Some refusals.CollectsItself
  pub kept_fine : put_main (member second_flow ∷ []) ≡ None
  pub long_circle : refusal_of (after (put_collecting 220 244 third_flow) studio)
      (commands.PutFlow (record main_body { members = member 244 ∷ [] }))
      ≡ Some refusals.CollectsItself
  pub set_missing : refused (set (parts.Collection (member third_flow ∷ member 999 ∷ [])))
      ≡ Some (refusals.CollectedMissing 999)
  pub set_circle : refused (set (parts.Collection (member third_flow ∷ [])))
      ≡ Some refusals.CollectsItself
  pub set_fine : refused (set (parts.Collection (member second_flow ∷ []))) ≡ None

-- a source that a multi flow made
abbrev pub multi_made : Library
multi_made = after (changes.PutFlow 221 (body first_flow Multi [])) empty_store

-- A flow has its source's format or is multi, and a source of multi flows has none of another
-- format.
pub record MultiFits : Type 0 where
  pub multi : put_new Multi [] ≡ None
  pub video : put_new Video [] ≡ None
  pub audio : put_new Audio [] ≡ Some refusals.SourceFormat
  pub image : put_new Image [] ≡ Some refusals.SourceFormat
  pub data_essence : put_new DataEssence [] ≡ Some refusals.SourceFormat
  pub new_source : refused (commands.PutFlow (body_of 244 163 Audio [])) ≡ None
  pub under_multi : refusal_of multi_made (commands.PutFlow (body second_flow Video []))
      ≡ Some refusals.SourceFormat
  pub multi_again : refusal_of multi_made (commands.PutFlow (body second_flow Multi [])) ≡ None

-- ---- flows that are being deleted

-- the studio, where a request deletes a flow
abbrev pub deleting : ℕ → Library
deleting flow = record studio {
  requests = record open_request { flow = flow; range = eternity; delete_flow = true } ∷ [];
}

-- the studio, where a request that deleted the first flow is done
abbrev pub deleted : Library
deleted = record studio {
  requests = record done_request { flow = first_flow; delete_flow = true } ∷ [];
}

-- A flow that an unfinished request deletes takes no change, before all else. A request for a range
-- alone, and one that is done, refuse nothing.
pub record DeletingStands : Type 0 where
  pub put :
      refusal_of (deleting first_flow) (commands.PutFlow (record main_body { format = Audio }))
      ≡ Some refusals.Deleting
  pub part : refusal_of (deleting first_flow) (set (parts.Label None)) ≡ Some refusals.Deleting
  pub drop : refusal_of (deleting first_flow) (commands.DropFlow first_flow)
      ≡ Some refusals.Deleting
  pub allocation :
      refusal_of (deleting first_flow) (commands.Allocate first_flow (Named (codes "a" ∷ [])))
      ≡ Some refusals.Deleting
  pub post :
      refusal_of (deleting first_flow) (commands.AddSegments first_flow (a_list (piece 0 1 ∷ [])))
      ≡ Some refusals.Deleting
  pub cut : refusal_of (deleting first_flow) (commands.CutSegments first_flow eternity)
      ≡ Some refusals.Deleting
  pub before_read_only : refusal_of (deleting second_flow) (commands.DropFlow second_flow)
      ≡ Some refusals.Deleting
  pub other_flow : refusal_of (deleting second_flow) (commands.DropFlow first_flow) ≡ None
  pub range_put : refused (commands.PutFlow main_body) ≡ None
  pub range_part : refused (set (parts.Label None)) ≡ None
  pub range_drop : refused (commands.DropFlow first_flow) ≡ None
  pub range_allocation : refused (commands.Allocate first_flow (Count 1)) ≡ None
  pub range_post : refused (commands.AddSegments first_flow (a_list (piece 40 41 ∷ []))) ≡ None
  pub range_cut : refused (commands.CutSegments first_flow eternity) ≡ None
  pub done : refusal_of deleted (commands.DropFlow first_flow) ≡ None

-- ---- posts, allocations and bytes

-- the first refusal of segments that come to the first flow of the studio, all or none
abbrev pub posting : List Segment → Option Refusal
posting segments = posts_refusal studio first_flow segments

-- For each segment in order its object comes before its range. The range in a refusal is that of
-- the segment that begins first, be it posted later. Segments of other flows don't count, and
-- ranges may touch.
pub record PostsAreTested : Type 0 where
  pub within :
      posts_refusal stored first_flow (piece 30 40 ∷ piece 10 20 ∷ piece 39 41 ∷ [])
      ≡ Some (refusals.Overlap (seconds 30 40))
  pub object_first : posting (piece_of (codes "z") 5 6 ∷ []) ≡ Some (refusals.NoObject (codes "z"))
  pub allocated : posting (piece_of (codes "c") 40 41 ∷ []) ≡ Some (refusals.NoObject (codes "c"))
  pub first_segment : posting (piece 5 6 ∷ piece_of (codes "z") 50 51 ∷ [])
      ≡ Some (refusals.Overlap (seconds 0 10))
  pub second_segment : posting (piece 40 41 ∷ piece_of (codes "z") 50 51 ∷ [])
      ≡ Some (refusals.NoObject (codes "z"))
  pub begins_first : posting (piece 5 25 ∷ []) ≡ Some (refusals.Overlap (seconds 0 10))
  pub touching : posting (piece 30 40 ∷ piece 40 50 ∷ []) ≡ None
  pub other_flow : refused (commands.AddSegments third_flow (a_list (piece 10 20 ∷ []))) ≡ None
  pub own_flow : refused (commands.AddSegments third_flow (a_list (piece 6 20 ∷ [])))
      ≡ Some (refusals.Overlap (seconds 5 7))

-- A list is refused by its flow, or as its first segment where none of them is kept. Its change is
-- allowed only where all of its segments are kept.
pub record ListsAreRefused : Type 0 where
  pub none_kept :
      refused
      (commands.AddSegments first_flow (a_list (piece 5 6 ∷ piece_of (codes "z") 50 51 ∷ [])))
      ≡ Some (refusals.Overlap (seconds 0 10))
  pub last_kept :
      refused
      (commands.AddSegments first_flow (a_list (piece 5 6 ∷ piece 40 41 ∷ []))) ≡ None
  pub first_kept :
      refusal_of stored
      (commands.AddSegments first_flow (a_list (piece 30 40 ∷ piece 39 41 ∷ []))) ≡ None
  pub empty : refused (commands.AddSegments first_flow (a_list [])) ≡ None
  pub one : refused (commands.AddSegments first_flow (alone (piece 5 6)))
      ≡ Some (refusals.Overlap (seconds 0 10))
  pub no_flow : refused (commands.AddSegments no_such_flow (a_list [])) ≡ Some refusals.NoFlow
  pub in_part :
      is_allowed stored
      (changes.AddSegments 5 first_flow (a_list (piece 30 40 ∷ piece 39 41 ∷ []))) ≡ false
  pub whole :
      is_allowed stored
      (changes.AddSegments 5 first_flow (a_list (piece 30 40 ∷ piece 40 41 ∷ []))) ≡ true

-- an allocation of named objects for the first flow of the studio
abbrev pub allocating : List (List ℕ) → Option Refusal
allocating ids = refused (commands.Allocate first_flow (Named ids))

-- The first id that is kept, or that stands earlier in the list, counts as taken, be the object
-- stored or not.
pub record IdsAreTaken : Type 0 where
  pub kept : allocating (codes "d" ∷ codes "b" ∷ codes "a" ∷ [])
      ≡ Some (refusals.IdTaken (codes "b"))
  pub allocated : allocating (codes "c" ∷ []) ≡ Some (refusals.IdTaken (codes "c"))
  pub twice : allocating (codes "d" ∷ codes "e" ∷ codes "d" ∷ [])
      ≡ Some (refusals.IdTaken (codes "d"))
  pub free : allocating (codes "d" ∷ codes "e" ∷ []) ≡ None
  pub counted : refused (commands.Allocate first_flow (Count 2)) ≡ None
  pub repeated :
      first_taken (is_kept_object empty_store) []
      (codes "a" ∷ codes "b" ∷ codes "b" ∷ codes "a" ∷ [])
      ≡ Some (codes "b")

-- Bytes are kept once, of an object that is allocated.
pub record BytesAreKeptOnce : Type 0 where
  pub unknown : refused (commands.Keep (codes "z") 3 1 no_digest) ≡ Some refusals.UnknownObject
  pub again : refused (commands.Keep (codes "a") 3 1 no_digest) ≡ Some refusals.OtherBytes
  pub first : refused (commands.Keep (codes "c") 3 1 no_digest) ≡ None

-- ---- sources and entries

-- the ids of the sources, in their order
abbrev pub source_ids : Library → List ℕ
source_ids library = map (λ row. row.id) library.catalog.sources

-- a second flow that collects the first
abbrev pub collecting : Library
collecting = after (put_collecting 0 second_flow first_flow) stored

-- Flows of one source share it, and it goes with the last of them.
pub record SourcesGo : Type 0 where
  pub one_source_for_two :
      source_ids (after_all (put 0 first_flow ∷ put 5 second_flow ∷ []) empty_store)
      ≡ one_source ∷ []
  pub stays_with_one : source_ids (after (changes.DropFlow 20 first_flow) shared) ≡ one_source ∷ []
  pub goes_with_last :
      source_ids
      (after_all (changes.DropFlow 20 first_flow ∷ changes.DropFlow 100 second_flow ∷ []) shared)
      ≡ []
  pub new_stands_by_id : source_ids (after (changes.PutFlow 0 (body_of 244 160 Audio [])) studio)
      ≡ 160 ∷ one_source ∷ other_source ∷ []
  pub other_stays : source_ids (after (changes.DropFlow 0 second_flow) studio) ≡ one_source ∷ []

-- A collected flow has to be kept. A flow that collects itself is refused, directly or through
-- another one. The entries of a flow that goes leave the collections of others, and other entries
-- stay.
pub record CollectionsAreTested : Type 0 where
  pub missing :
      refusal_of stored (commands.PutFlow (body first_flow Video (member second_flow ∷ [])))
      ≡ Some (refusals.CollectedMissing second_flow)
  pub itself :
      refusal_of empty_store (commands.PutFlow (body first_flow Video (member first_flow ∷ [])))
      ≡ Some refusals.CollectsItself
  pub circle :
      refusal_of collecting (commands.PutFlow (body first_flow Video (member second_flow ∷ [])))
      ≡ Some refusals.CollectsItself
  pub entries_go :
      map (λ row. row.body.members) (after (changes.DropFlow 0 first_flow) collecting).catalog.flows
      ≡ [] ∷ []
  pub others_stay :
      map (λ row. row.body.members) (after (changes.DropFlow 0 first_flow) studio).catalog.flows
      ≡ [] ∷ (member second_flow ∷ []) ∷ []
