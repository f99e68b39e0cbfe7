-- Which of the examples are good libraries, each part of it broken alone, and which changes apply.
use Rattle.std.specs.Prelude.{◌≡◌, ℕ, List, [], ◌∷◌, Bool, true, false, Some, None, map, codes}
use Rattle.media_rows.specs.declared.change.Change.TheVariants as changes
use Rattle.media_rows.specs.declared.event.EventKind.TheVariants.{FlowUpdated}
use Rattle.media_rows.specs.declared.event.EventRow.{EventRow}
use Rattle.media_rows.specs.declared.flow.FlowBody.{FlowBody}
use Rattle.media_rows.specs.declared.flow.FlowRow.{FlowRow}
use Rattle.media_rows.specs.declared.flow.FormatKind.TheVariants.{Audio}
use Rattle.media_rows.specs.declared.flow.Member.{Member}
use Rattle.media_rows.specs.declared.hook.Hook.{Hook}
use Rattle.media_rows.specs.declared.hook.HookRow.{HookRow}
use Rattle.media_rows.specs.declared.object.ObjectRow.{ObjectRow}
use Rattle.media_rows.specs.declared.object.ObjectState.TheVariants.{Stored}
use Rattle.media_rows.specs.declared.part.Part.TheVariants as parts
use Rattle.media_rows.specs.declared.request.DeleteRow.{DeleteRow}
use Rattle.media_rows.specs.declared.segment.SegmentRow.{SegmentRow}
use Rattle.media_rows.specs.Apply.{applied, applies, passes_serials, is_allowed}
use Rattle.media_rows.specs.Changes.{after}
use Rattle.media_rows.specs.Good.{is_good, are_segments_good, are_references_good, are_extents_good, are_names_good, are_sources_good, are_collections_good, are_requests_good, is_outbox_good, are_texts_good}
use Rattle.media_rows.specs.Library.{Library, last_serial}
use Rattle.media_rows.specs.Lists.{numbers_below}
use Rattle.media_rows.specs.Ranges.{eternity}
use Rattle.media_rows.specs.Sound.{is_good_command, has_good_values, is_sound}
use Rattle.media_rows.specs.declared.command.Command.TheVariants as commands
use Rattle.media_rows.specs.declared.command.Want.TheVariants.{Count, Named}
use Rattle.library_examples.specs.Examples.{a_list, no_digest, one_source, first_flow, second_flow, member, empty_store, put, seconds, piece, piece_of, stored, allocate, with_pieces, shared, hook, outbox_with}
use Rattle.library_examples.specs.Studio.{third_flow, take_tag, left_source, bare_source, main_body, sound_body, main_flow, sound_flow, both_flow, object_a, object_b, object_c, later_piece, early_piece, open_request, done_request, one_hook, event, studio_events, studio}

-- ---- good libraries

-- The examples are good.
pub record ExamplesAreGood : Type 0 where
  pub empty : is_good empty_store ≡ true
  pub shared_is : is_good shared ≡ true
  pub studio_is : is_good studio ≡ true

-- the studio with other segments
abbrev pub with_segments : List SegmentRow → Library
with_segments segments = record studio { segments = segments }

-- a segment that names an object
abbrev pub naming_object : List ℕ → SegmentRow
naming_object object = record { flow = first_flow; serial = 4; segment = piece_of object 10 20 }

-- the studio with other objects
abbrev pub studio_with_objects : List ObjectRow → Library
studio_with_objects objects = record studio { objects = objects }

-- the studio with other flows
abbrev pub with_flows : List FlowRow → Library
with_flows flows = record studio {
  catalog = record { sources = left_source ∷ bare_source ∷ []; flows = flows };
}

-- the studio with another outbox
abbrev pub with_outbox : List HookRow → List EventRow → Library
with_outbox hooks events = record studio { outbox = record { hooks = hooks; events = events } }

-- Segments of one flow don't overlap, have both ends, and belong to a kept flow.
pub record BadSegments : Type 0 where
  pub overlapping_ones :
      are_segments_good studio.catalog.flows (early_piece ∷ record early_piece { serial = 9 } ∷ [])
      ≡ false
  pub of_two_flows :
      are_segments_good studio.catalog.flows
      (early_piece ∷ record early_piece { flow = third_flow } ∷ [])
      ≡ true
  pub unbounded : are_segments_good studio.catalog.flows
      (record early_piece { segment = record (piece 0 1) { range = eternity } } ∷ []) ≡ false
  pub empty_range : are_segments_good studio.catalog.flows
      (record early_piece { segment = record (piece 0 1) { range = None } } ∷ []) ≡ false
  pub unkept : are_segments_good studio.catalog.flows (record early_piece { flow = 99 } ∷ [])
      ≡ false

-- An object that a segment names is kept and stored.
pub record BadReferences : Type 0 where
  pub fine : are_references_good studio.objects studio.segments ≡ true
  pub unkept : are_references_good studio.objects (naming_object (codes "z") ∷ []) ≡ false
  pub unstored : are_references_good studio.objects (naming_object (codes "c") ∷ []) ≡ false
  pub last_one :
      are_references_good studio.objects
      (naming_object (codes "a") ∷ naming_object (codes "c") ∷ []) ≡ false
  pub no_good_library : is_good (with_segments (naming_object (codes "c") ∷ [])) ≡ false

-- an object at a place
abbrev pub at : ℕ → ℕ → ObjectRow
at start size = record object_a { state = Stored start size None }

-- Extents lie apart and within the media blocks, and an object without bytes begins at block 0.
pub record BadExtents : Type 0 where
  pub fine : are_extents_good 46 studio.objects ≡ true
  pub one_block_shared : are_extents_good 46 (at 2 1 ∷ object_b ∷ []) ≡ false
  pub one_block_apart : are_extents_good 46 (at 3 1 ∷ object_b ∷ []) ≡ true
  pub last_block : are_extents_good 46 (at 45 4096 ∷ []) ≡ true
  pub past_the_end : are_extents_good 46 (at 45 4097 ∷ []) ≡ false
  pub no_bytes : are_extents_good 46 (at 1 0 ∷ []) ≡ false
  pub no_bytes_at_0 : are_extents_good 46 (at 0 0 ∷ at 0 1 ∷ []) ≡ true
  pub no_good_library :
      is_good (studio_with_objects
      (object_a ∷ object_b ∷ record object_c { state = Stored 2 1 None }
      ∷ []))
      ≡ false

-- Ids and addresses are distinct, lists stand in their order, and serials are distinct, at least 1,
-- and below the next one, which has its limit.
pub record BadNames : Type 0 where
  pub fine : are_names_good studio ≡ true
  pub flow_twice : are_names_good (with_flows (main_flow ∷ main_flow ∷ [])) ≡ false
  pub flows_turned : are_names_good (with_flows (sound_flow ∷ main_flow ∷ [])) ≡ false
  pub object_twice : are_names_good
      (studio_with_objects (object_a ∷ record object_a { serial = 2 } ∷ []))
      ≡ false
  pub hook_twice : are_names_good (with_outbox (one_hook ∷ record one_hook { serial = 11 } ∷ []) [])
      ≡ false
  pub serial_twice : are_names_good
      (studio_with_objects (object_a ∷ record object_b { serial = 4 } ∷ []))
      ≡ false
  pub serials_turned : are_names_good (with_segments (early_piece ∷ later_piece ∷ [])) ≡ false
  pub serial_0 : are_names_good (studio_with_objects (record object_a { serial = 0 } ∷ [])) ≡ false
  pub not_below : are_names_good (record studio { next_serial = 14 }) ≡ false
  pub last : are_names_good (record studio { next_serial = 9223372036854775807 }) ≡ true
  pub past_the_last : are_names_good (record studio { next_serial = 9223372036854775808 }) ≡ false

-- Each flow has its source, of its format unless it is multi, and each source a flow.
pub record BadSources : Type 0 where
  pub fine : are_sources_good studio.catalog ≡ true
  pub no_source : are_sources_good (record studio.catalog { sources = left_source ∷ [] }) ≡ false
  pub no_flow : are_sources_good (record studio.catalog { flows = main_flow ∷ both_flow ∷ [] })
      ≡ false
  pub format : are_sources_good (record {
    sources = left_source ∷ [];
    flows = record main_flow { body = record main_body { format = Audio } } ∷ [];
  }) ≡ false

-- the first flow, which collects these
abbrev pub collecting_these : List Member → FlowRow
collecting_these members = record main_flow { body = record main_body { members = members } }

-- Collected flows are kept, and none reaches itself.
pub record BadCollections : Type 0 where
  pub fine : are_collections_good studio.catalog.flows ≡ true
  pub unkept : are_collections_good (main_flow ∷ both_flow ∷ []) ≡ false
  pub circle :
      are_collections_good (collecting_these (member third_flow ∷ []) ∷ sound_flow ∷ both_flow ∷ [])
      ≡ false
  pub itself : are_collections_good (collecting_these (member first_flow ∷ []) ∷ []) ≡ false

-- the studio's delete requests are good with these
abbrev pub requests_good : List DeleteRow → Bool
requests_good requests = are_requests_good studio.catalog.flows studio.segments requests

-- done requests of so many serials
abbrev pub done_ones : ℕ → List DeleteRow
done_ones count = map (λ i. record done_request { serial = i }) (numbers_below count)

-- An unfinished request's flow is kept; one that deletes its flow is for all of the line, and
-- behind each of the flow's segments. 64 requests are done at most.
pub record BadRequests : Type 0 where
  pub fine : requests_good (open_request ∷ done_request ∷ []) ≡ true
  pub unkept : requests_good (record open_request { flow = 99 } ∷ []) ≡ false
  pub done_unkept : requests_good (record done_request { flow = 99 } ∷ []) ≡ true
  pub not_whole : requests_good (record open_request { delete_flow = true } ∷ []) ≡ false
  pub whole : requests_good (record open_request { delete_flow = true; range = eternity } ∷ [])
      ≡ true
  pub before_a_segment :
      requests_good (record open_request { delete_flow = true; range = eternity; serial = 6 } ∷ [])
      ≡ false
  pub sixty_four : requests_good (done_ones 64) ≡ true
  pub sixty_five : requests_good (done_ones 65) ≡ false

-- Each event's hook is kept, 1,000 events wait for a hook at most, and then it has failed.
pub record BadOutboxes : Type 0 where
  pub fine : is_outbox_good studio.outbox ≡ true
  pub no_hook : is_outbox_good (record { hooks = one_hook ∷ []; events = studio_events }) ≡ false
  pub full : is_outbox_good (outbox_with 999) ≡ true
  pub not_failed : is_outbox_good (outbox_with 1000) ≡ false
  pub failed : is_outbox_good (record (outbox_with 1000) {
    hooks = record { serial = 1; hook = hook (codes "h") None; failed = true } ∷ [];
  }) ≡ true
  pub too_many : is_outbox_good (record (outbox_with 1001) {
    hooks = record { serial = 1; hook = hook (codes "h") None; failed = true } ∷ [];
  }) ≡ false

-- the studio with this hook alone, for which no event waits
abbrev pub with_hook : Hook → Library
with_hook new = with_outbox (record one_hook { hook = new } ∷ []) []

-- a text that isn't UTF-8
abbrev pub no_text : List ℕ
no_text = 255 ∷ []

-- the first moment past the last one
abbrev pub too_late : ℕ
too_late = 253402300800

-- the studio with another first flow
abbrev pub with_flow_body : FlowBody → Library
with_flow_body new = with_flows (record main_flow { body = new } ∷ sound_flow ∷ both_flow ∷ [])

-- Texts are UTF-8, object ids and essence texts have their form, and moments lie in their range.
pub record BadTexts : Type 0 where
  pub fine : are_texts_good studio ≡ true
  pub codec : are_texts_good (with_flow_body (record main_body { codec = Some no_text })) ≡ false
  pub container :
      are_texts_good (with_flow_body (record main_body { container = Some no_text })) ≡ false
  pub label : are_texts_good (with_flow_body (record main_body { label = Some no_text })) ≡ false
  pub description :
      are_texts_good (with_flow_body (record main_body { description = Some no_text })) ≡ false
  pub tag_name :
      are_texts_good
      (with_flow_body (record main_body { tags = record take_tag { name = no_text } ∷ [] }))
      ≡ false
  pub tag_value :
      are_texts_good
      (with_flow_body (record main_body { tags = record take_tag { values = no_text ∷ [] } ∷ [] }))
      ≡ false
  pub role :
      are_texts_good
      (with_flow_body
      (record main_body { members = record { flow = 242; role = Some no_text } ∷ [] })) ≡ false
  pub essence :
      are_texts_good (with_flow_body (record main_body { essence = Some no_text })) ≡ false
  pub created : are_texts_good (with_flows (record main_flow { created = too_late } ∷ [])) ≡ false
  pub metadata : are_texts_good (with_flows (record main_flow { metadata_updated = too_late } ∷ []))
      ≡ false
  pub segments :
      are_texts_good (with_flows (record main_flow { segments_updated = Some too_late } ∷ []))
      ≡ false
  pub last_moment : are_texts_good (with_flows (record main_flow { created = 253402300799 } ∷ []))
      ≡ true
  pub source : are_texts_good (record studio {
    catalog = record {
      sources = record bare_source { label = Some no_text } ∷ [];
      flows = [];
    };
  }) ≡ false
  pub source_moment : are_texts_good (record studio {
    catalog = record {
      sources = record bare_source { updated = too_late } ∷ [];
      flows = [];
    };
  }) ≡ false
  pub object : are_texts_good (studio_with_objects (record object_a { id = codes "a b" } ∷ []))
      ≡ false
  pub no_id : are_texts_good (studio_with_objects (record object_a { id = [] } ∷ [])) ≡ false
  pub idle : are_texts_good (studio_with_objects (record object_a { idle_since = too_late } ∷ []))
      ≡ false
  pub request :
      are_texts_good (record studio { requests = record open_request { updated = too_late } ∷ [] })
      ≡ false
  pub url : are_texts_good (with_hook (record one_hook.hook { url = no_text })) ≡ false
  pub key_value : are_texts_good
      (with_hook (record one_hook.hook { key_value = Some no_text })) ≡ false
  pub key_name : are_texts_good
      (with_hook (record one_hook.hook { key_name = Some no_text })) ≡ false
  pub event_moment :
      are_texts_good (with_outbox [] (event 12 10 FlowUpdated first_flow None too_late ∷ []))
      ≡ false

-- ---- changes that apply

-- A change is refused where its moment is no moment, where there is nothing to do, where an object
-- is stored or a block is taken, where too many or too few segments would go, and where the next
-- library wouldn't be good.
pub record ChangesAreTested : Type 0 where
  pub put_applies : applies empty_store (put 0 first_flow) ≡ true
  pub late : applied (put 253402300800 first_flow) empty_store ≡ None
  pub no_step : applied (changes.DeleteStep 0) stored ≡ None
  pub no_sweep : applied (changes.SweepStep 0) stored ≡ None
  pub no_hook : applied (changes.DropHook 0 (codes "h")) stored ≡ None
  pub stored_again : applied (changes.Store 0 (codes "a") 1 1 None) stored ≡ None
  pub block_taken :
      applied (changes.Store 0 (codes "b") 0 1 None) (after (allocate (codes "b")) stored)
      ≡ None
  pub too_many : applied (changes.CutSegments 0 first_flow eternity) (with_pieces 33) ≡ None
  pub too_few : applied (changes.AskDelete 0 first_flow eternity false) (with_pieces 32) ≡ None
  pub drop_many : applied (changes.DropFlow 0 first_flow) (with_pieces 33) ≡ None
  pub cut_nothing : applied (changes.CutSegments 0 first_flow (seconds 40 50)) (with_pieces 33)
      ≡ None
  pub not_whole : applied (changes.AskDelete 0 first_flow (seconds 0 33) true) (with_pieces 33)
      ≡ None
  pub serials_end :
      passes_serials (allocate (codes "b")) (record stored { next_serial = last_serial }) ≡ true
  pub serials_go_on :
      passes_serials (allocate (codes "b")) (record stored { next_serial = 9223372036854775806 })
      ≡ false
  pub bad_label : applied (changes.SetFlow 0 first_flow (parts.Label (Some no_text))) stored ≡ None

-- A change is allowed where the refusals of its command don't stand, and its own size is right. An
-- id that the store itself made is taken only where it is kept.
pub record ChangesAreAllowed : Type 0 where
  pub made_id_again : is_allowed studio
      (changes.Allocate 5 first_flow (codes "00000000-0000-0000-0000-000000000001-9" ∷ [])) ≡ true
  pub kept_id : is_allowed studio (changes.Allocate 5 first_flow (codes "a" ∷ [])) ≡ false
  pub id_twice : is_allowed studio (changes.Allocate 5 first_flow (codes "d" ∷ codes "d" ∷ []))
      ≡ false
  pub read_only_put : is_allowed studio (changes.PutFlow 5 sound_body) ≡ false
  pub read_only_drop : is_allowed studio (changes.DropFlow 5 second_flow) ≡ false
  pub read_only_post :
      is_allowed studio (changes.AddSegments 5 second_flow (a_list (piece 0 1 ∷ [])))
      ≡ false
  pub read_only_cut : is_allowed studio (changes.CutSegments 5 second_flow eternity) ≡ false
  pub read_only_allocation : is_allowed studio (changes.Allocate 5 second_flow (codes "d" ∷ []))
      ≡ false
  pub overlap :
      is_allowed studio (changes.AddSegments 5 first_flow (a_list (piece 0 1 ∷ []))) ≡ false
  pub no_bytes :
      is_allowed studio
      (changes.AddSegments 5 first_flow (a_list (piece_of (codes "c") 40 41 ∷ [])))
      ≡ false
  pub no_source : is_allowed studio (changes.SetSource 5 99 (parts.Label (Some (codes "x"))))
      ≡ false
  pub unset_part : is_allowed studio (changes.SetFlow 5 third_flow (parts.Description None)) ≡ false
  pub higher_place : is_allowed studio (changes.Store 5 (codes "c") 40 1 None) ≡ true
  pub past_the_end : is_allowed studio (changes.Store 5 (codes "c") 45 4097 None) ≡ false
  pub hook : is_allowed studio (changes.DropHook 5 (codes "http://one/")) ≡ true
  pub early_sweep : is_allowed studio (changes.SweepStep 86522) ≡ false
  pub sweep : is_allowed studio (changes.SweepStep 86523) ≡ true
  pub step : is_allowed studio (changes.DeleteStep 5) ≡ true

-- ---- what commands and changes bring

-- the storing of the studio's allocated object
abbrev pub keep : ℕ → ℕ → Bool
keep start size = is_good_command studio (commands.Keep (codes "c") start size no_digest)

-- A command brings good texts, ranges and ids. Bytes come to the least free place for them, of an
-- object that isn't stored.
pub record CommandsAreGood : Type 0 where
  pub least_place : keep 3 5 ≡ true
  pub other_free_place : keep 4 5 ≡ false
  pub taken_place : keep 2 5 ≡ false
  pub no_bytes : keep 0 0 ≡ true
  pub no_bytes_elsewhere : keep 3 0 ≡ false
  pub no_place : keep 3 180225 ≡ false
  pub stored_object : is_good_command studio (commands.Keep (codes "a") 3 5 no_digest) ≡ false
  pub unknown_object : is_good_command studio (commands.Keep (codes "z") 3 5 no_digest) ≡ true
  pub bad_body :
      is_good_command studio (commands.PutFlow (record main_body { label = Some no_text }))
      ≡ false
  pub bad_part : is_good_command studio (commands.SetFlow first_flow (parts.Label (Some no_text)))
      ≡ false
  pub bad_source_part :
      is_good_command studio (commands.SetSource one_source (parts.Label (Some no_text)))
      ≡ false
  pub bad_ids : is_good_command studio (commands.Allocate first_flow (Named (codes "d e" ∷ [])))
      ≡ false
  pub made_ids : is_good_command studio (commands.Allocate first_flow (Count 5)) ≡ true
  pub unbounded :
      is_good_command studio
      (commands.AddSegments first_flow (a_list (record (piece 0 1) { range = eternity } ∷ [])))
      ≡ false
  pub any_cut : is_good_command studio (commands.CutSegments first_flow eternity) ≡ true
  pub bad_hook : is_good_command studio (commands.PutHook (record one_hook.hook { url = no_text }))
      ≡ false
  pub good_hook : is_good_command studio (commands.PutHook one_hook.hook) ≡ true

-- A change brings the same, but for the place, which is tested with what is allowed. A request that
-- deletes its flow has all of the line, and the serials don't end.
pub record ChangesAreSound : Type 0 where
  pub bad_body : has_good_values (changes.PutFlow 5 (record main_body { label = Some no_text }))
      ≡ false
  pub bad_part : has_good_values (changes.SetFlow 5 first_flow (parts.Label (Some no_text))) ≡ false
  pub bad_source_part :
      has_good_values (changes.SetSource 5 one_source (parts.Label (Some no_text)))
      ≡ false
  pub bad_ids : has_good_values (changes.Allocate 5 first_flow (codes "d" ∷ [] ∷ [])) ≡ false
  pub any_place : has_good_values (changes.Store 5 (codes "c") 9 1 None) ≡ true
  pub no_bytes : has_good_values (changes.Store 5 (codes "c") 9 0 None) ≡ false
  pub unbounded :
      has_good_values
      (changes.AddSegments 5 first_flow (a_list (record (piece 0 1) { range = None } ∷ [])))
      ≡ false
  pub whole_line : has_good_values (changes.AskDelete 5 first_flow eternity true) ≡ true
  pub part_with_flow : has_good_values (changes.AskDelete 5 first_flow (seconds 0 9) true) ≡ false
  pub part_alone : has_good_values (changes.AskDelete 5 first_flow (seconds 0 9) false) ≡ true
  pub bad_hook : has_good_values (changes.PutHook 5 (record one_hook.hook { url = no_text }))
      ≡ false
  pub sound : is_sound studio (changes.DeleteStep 253402300799) ≡ true
  pub no_moment : is_sound studio (changes.DeleteStep 253402300800) ≡ false
  pub bad_values : is_sound studio (changes.Store 5 (codes "c") 9 0 None) ≡ false
  pub last_serial_left :
      is_sound (record stored { next_serial = 9223372036854775806 }) (allocate (codes "b"))
      ≡ true
  pub no_serial_left :
      is_sound (record stored { next_serial = 9223372036854775807 }) (allocate (codes "b"))
      ≡ false
