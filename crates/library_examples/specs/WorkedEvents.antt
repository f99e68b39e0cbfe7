-- The events that changes of the examples make, and which hook takes them.
use Rattle.std.specs.Prelude.{◌≡◌, ℕ, ◌+◌, List, [], ◌∷◌, ◌++◌, true, false, Option, Some, None, if◌then◌else◌, map, codes}
use Rattle.media_rows.specs.declared.change.Change.{Change}
use Rattle.media_rows.specs.declared.change.Change.TheVariants as changes
use Rattle.media_rows.specs.declared.event.EventKind.TheVariants.{FlowCreated, SegmentsAdded, SegmentsDeleted, SourceUpdated}
use Rattle.media_rows.specs.declared.part.Part.TheVariants as parts
use Rattle.media_rows.specs.Apply.{is_allowed}
use Rattle.media_rows.specs.Changes.{after}
use Rattle.media_rows.specs.Events.{flow_event}
use Rattle.media_rows.specs.Formats.{event_number}
use Rattle.media_rows.specs.Library.{Library}
use Rattle.media_rows.specs.Outbox.{Posted, after_post, waiting_count}
use Rattle.media_rows.specs.Ranges.{eternity}
use Rattle.library_examples.specs.Examples.{a_list, new_label, after_all, first_flow, second_flow, one_source, empty_store, put, seconds, piece, stored, post, allocate, hook, listen, outbox_with}
use Rattle.library_examples.specs.Studio.{third_flow, other_source, main_body, one_hook, two_hook, event, studio_events, studio}

-- ---- events of each change

-- an empty library with a hook that takes everything
abbrev pub listening : Library
listening = after listen empty_store

-- the kinds of the events that wait
abbrev pub kinds : Library → List ℕ
kinds library = map (λ row. event_number row.kind) library.outbox.events

-- the first flow with two segments, and then a hook that takes everything
abbrev pub at_work : Library
at_work = after_all (post (piece 0 1 ∷ piece 1 2 ∷ []) ∷ listen ∷ []) stored

-- the same without segments
abbrev pub hook_alone : Library
hook_alone = after listen stored

-- the request to delete the first flow with all its segments
abbrev pub ask_for_all : Change
ask_for_all = changes.AskDelete 0 first_flow eternity true

-- a hook that takes everything of the second flow
abbrev pub listen_to_second : Change
listen_to_second = changes.PutHook 0 (hook (codes "h") (Some (second_flow ∷ [])))

-- A change of flows, sources or segments makes its events in order, with rising serials. An
-- allocation and a request to delete make none. A hook that keeps to some flows hears of sources
-- all the same.
pub record EventsAreTold : Type 0 where
  pub new_flow : kinds (after (put 0 first_flow) listening) ≡ 6 ∷ 1 ∷ []
  pub flow_of_kept_source : kinds (after (put 0 second_flow) at_work) ≡ 1 ∷ []
  pub replaced : kinds (after (put 0 first_flow) at_work) ≡ 2 ∷ []
  pub part_set : kinds (after (changes.SetFlow 0 first_flow (parts.ReadOnly true)) at_work) ≡ 2 ∷ []
  pub source_set : kinds (after (changes.SetSource 0 one_source new_label) at_work) ≡ 7 ∷ []
  pub added : kinds (after (post (piece 2 3 ∷ [])) at_work) ≡ 4 ∷ []
  pub cut : kinds (after (changes.CutSegments 0 first_flow (seconds 0 1)) at_work) ≡ 5 ∷ []
  pub dropped : kinds (after (changes.DropFlow 0 first_flow) at_work) ≡ 5 ∷ 3 ∷ 8 ∷ []
  pub dropped_bare : kinds (after (changes.DropFlow 0 first_flow) hook_alone) ≡ 3 ∷ 8 ∷ []
  pub asked_for : kinds (after ask_for_all at_work) ≡ []
  pub last_step : kinds (after_all (ask_for_all ∷ changes.DeleteStep 0 ∷ []) at_work)
      ≡ 5 ∷ 3 ∷ 8 ∷ []
  pub bare_step :
      kinds (after_all (ask_for_all ∷ changes.DeleteStep 0 ∷ []) hook_alone) ≡ 3 ∷ 8 ∷ []
  pub allocated : kinds (after (allocate (codes "b")) at_work) ≡ []
  pub stored_one :
      kinds (after (changes.Store 0 (codes "b") 1 1 None) (after (allocate (codes "b")) at_work))
      ≡ []
  pub swept : kinds (after (changes.SweepStep 90000) hook_alone) ≡ []
  pub hook_comes : kinds (after (changes.PutHook 0 (hook (codes "i") None)) at_work) ≡ []
  pub hulls : map (λ row. row.range) (after (changes.DropFlow 0 first_flow) at_work).outbox.events
      ≡ Some (seconds 0 2) ∷ None ∷ None ∷ []
  pub serials_rise :
      map (λ row. row.serial) (after (changes.DropFlow 0 first_flow) at_work).outbox.events
      ≡ 5 ∷ 6 ∷ 7 ∷ []
  pub other_flow : kinds (after (put 0 first_flow) (after listen_to_second empty_store)) ≡ 6 ∷ []

-- ---- two hooks with lists of flows and sources

-- the studio, where no event waits yet
abbrev pub quiet : Library
quiet = record studio { outbox = record { hooks = one_hook ∷ two_hook ∷ []; events = [] } }

-- the hook, the kind, the subject and the serial of each event of a change
abbrev pub told : Change → List (ℕ × ℕ × ℕ × ℕ)
told change =
    map (λ row. (row.hook, event_number row.kind, row.subject, row.serial))
    (after change quiet).outbox.events

-- the same of two changes
abbrev pub told_of_two : Change → Change → List (ℕ × ℕ × ℕ × ℕ)
told_of_two one other =
    map (λ row. (row.hook, event_number row.kind, row.subject, row.serial))
    (after other (after one quiet)).outbox.events

-- the studio, whose first hook has failed
abbrev pub one_failed : Library
one_failed = record studio {
  outbox = record { hooks = record one_hook { failed = true } ∷ two_hook ∷ []; events = [] };
}

-- Events come one by one, each to the hooks by rising serial. A hook's list of flows and its list
-- of sources both have to have a flow and its source; for an event of a source its list of sources
-- alone. Rows that come in the same change have their serials before. The event of a source that
-- goes is under the source's id.
pub record TwoHooksHear : Type 0 where
  pub part_set : told (changes.SetFlow 203 first_flow new_label)
      ≡ (10, 2, 241, 15) ∷ (11, 2, 241, 16) ∷ []
  pub replaced : told (changes.PutFlow 201 main_body) ≡ (10, 2, 241, 15) ∷ (11, 2, 241, 16) ∷ []
  pub source_not_listed : told (changes.SetFlow 203 second_flow (parts.ReadOnly false)) ≡ []
  pub flow_not_listed : told (changes.SetFlow 203 third_flow new_label) ≡ []
  pub source_set : told (changes.SetSource 204 one_source new_label)
      ≡ (10, 7, 161, 15) ∷ (11, 7, 161, 16) ∷ []
  pub other_source_set : told (changes.SetSource 204 other_source new_label) ≡ []
  pub kind_not_listed :
      told (changes.AddSegments 208 first_flow (a_list (piece 40 50 ∷ piece 50 60 ∷ [])))
      ≡ (10, 4, 241, 17) ∷ []
  pub cut : told (changes.CutSegments 209 first_flow (seconds 0 10))
      ≡ (10, 5, 241, 15) ∷ (11, 5, 241, 16) ∷ []
  pub dropped : told (changes.DropFlow 205 first_flow)
      ≡ (10, 5, 241, 15) ∷ (11, 5, 241, 16) ∷ (10, 3, 241, 17) ∷ (11, 3, 241, 18) ∷ []
  pub source_gone : told_of_two (changes.DropFlow 205 third_flow) (changes.DropFlow 206 first_flow)
      ≡ (10, 5, 241, 15) ∷ (11, 5, 241, 16) ∷ (10, 3, 241, 17) ∷ (11, 3, 241, 18)
      ∷ (10, 8, 161, 19) ∷ (11, 8, 161, 20) ∷ []
  pub whole_rows : (after (changes.CutSegments 209 first_flow (seconds 0 25)) studio).outbox.events
      ≡ studio_events
      ++ event 15 10 SegmentsDeleted first_flow (Some (seconds 0 20)) 209
      ∷ event 16 11 SegmentsDeleted first_flow (Some (seconds 0 20)) 209 ∷ []
  pub hull_of_the_added : map (λ row. row.range) (after (changes.AddSegments 208 first_flow
      (a_list (piece 50 60 ∷ piece 40 45 ∷ []))) quiet).outbox.events ≡ Some (seconds 40 60) ∷ []
  pub failed_hears_nothing :
      map (λ row. row.hook)
      (after (changes.SetFlow 203 first_flow new_label) one_failed).outbox.events
      ≡ 11 ∷ []

-- ---- a hook with 1,000 waiting events

-- an outbox with so many waiting events, once one thing more happened
abbrev pub one_more : ℕ → Posted
one_more count = after_post (flow_event FlowCreated first_flow one_source ∷ []) 0
    (record { outbox = outbox_with count; next = count + 2 })

-- the same once another thing happened behind it
abbrev pub two_more : ℕ → Posted
two_more count = after_post (flow_event FlowCreated second_flow one_source ∷ []) 0 (one_more count)

-- a library with 999 waiting events, once a flow came with its source
abbrev pub flow_came : Library
flow_came =
    after (put 5 first_flow) (record empty_store { outbox = outbox_with 999; next_serial = 1001 })

-- The event that makes 1,000 waiting marks its hook as failed. From then on the hook takes none,
-- also of the same change, and none gets a serial.
pub record HooksFail : Type 0 where
  pub below : map (λ row. row.failed) (one_more 998).outbox.hooks ≡ false ∷ []
  pub failed : map (λ row. row.failed) (one_more 999).outbox.hooks ≡ true ∷ []
  pub full : waiting_count 1 (one_more 999).outbox.events ≡ 1000
  pub takes_no_more : waiting_count 1 (two_more 999).outbox.events ≡ 1000
  pub no_serial_spent : (two_more 999).next ≡ 1002
  pub within_a_change : waiting_count 1 flow_came.outbox.events ≡ 1000
  pub one_serial_spent : flow_came.next_serial ≡ 1002

-- ---- events that were delivered

-- the delivery of the event of a serial
abbrev pub deliver : ℕ → Change
deliver serial = changes.Delivered 210 serial

-- the serials of the events that wait once this one was delivered, where a library allows that
abbrev pub left_of : ℕ → Library → Option (List ℕ)
left_of serial library =
    if is_allowed library (deliver serial)
    then Some (map (λ row. row.serial) (after (deliver serial) library).outbox.events) else None

-- Only the first event that waits for its hook is delivered. It goes, all else stays, and nothing
-- happens.
pub record FirstAreDelivered : Type 0 where
  pub first : left_of 12 studio ≡ Some (13 ∷ 14 ∷ [])
  pub first_of_other : left_of 13 studio ≡ Some (12 ∷ 14 ∷ [])
  pub second : left_of 14 studio ≡ None
  pub second_behind_first : left_of 14 (after (deliver 12) studio) ≡ Some (13 ∷ [])
  pub again : left_of 12 (after (deliver 12) studio) ≡ None
  pub no_event : left_of 10 studio ≡ None
  pub whole : after (deliver 12) studio
      ≡ record studio {
        outbox = record {
          hooks = one_hook ∷ two_hook ∷ [];
          events = event 13 11 SourceUpdated one_source None 142
              ∷ event 14 10 SegmentsAdded first_flow (Some (seconds 10 20)) 143 ∷ [];
        };
      }
