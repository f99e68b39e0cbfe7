-- The steps of turns on the examples: deletes in steps, sweeps, and which of them comes first.
use Rattle.std.specs.Prelude.{◌≡◌, ℕ, ◌+◌, ◌==◌, List, [], ◌∷◌, true, false, Option, Some, None, if◌then◌else◌, map, length, reverse, codes}
use Rattle.media_rows.specs.declared.change.Change.{Change}
use Rattle.media_rows.specs.declared.change.Change.TheVariants as changes
use Rattle.media_rows.specs.declared.event.EventKind.TheVariants.{SegmentsAdded, SegmentsDeleted}
use Rattle.media_rows.specs.declared.object.ObjectRow.{ObjectRow}
use Rattle.media_rows.specs.declared.object.ObjectState.TheVariants.{Allocated}
use Rattle.media_rows.specs.Apply.{turn}
use Rattle.media_rows.specs.Changes.{after}
use Rattle.media_rows.specs.Formats.{status_number}
use Rattle.media_rows.specs.Library.{Library}
use Rattle.media_rows.specs.Lists.{numbers_below}
use Rattle.media_rows.specs.Objects.{free_place, swept_objects}
use Rattle.media_rows.specs.Ranges.{eternity}
use Rattle.media_rows.specs.Requests.{asked_row, is_finished_by_step}
use Rattle.media_rows.specs.declared.request.DeleteRow.{DeleteRow}
use Rattle.media_rows.specs.Segments.{covered}
use Rattle.library_examples.specs.Examples.{a_list, segment_serials, after_all, first_flow, second_flow, empty_store, put, seconds, piece, stored, pieces, post, with_pieces, shared, hook}
use Rattle.library_examples.specs.Studio.{third_flow, open_request, done_request, event, studio}

-- the serials and the statuses of the delete requests, in their order
abbrev pub numbers : Library → List (ℕ × ℕ)
numbers library = map (λ row. (row.serial, status_number row.status)) library.requests

-- the library after a change, where there is one
abbrev pub after_turn : Option Change → Library → Library
after_turn None library = library
after_turn (Some change) library = after change library

-- the changes of turns at these moments
abbrev pub turns : List ℕ → Library → List (Option Change)
turns [] library = []
turns (moment ∷ later) library =
    turn library moment ∷ turns later (after_turn (turn library moment) library)

-- ---- 33 segments

-- 33 segments, and the request to delete all of them
abbrev pub ask_all : Library
ask_all = after (changes.AskDelete 7 first_flow eternity false) (with_pieces 33)

-- the same after the first step, with a segment that was posted behind it
abbrev pub half_done : Library
half_done = after (post (piece 0 1 ∷ [])) (after (changes.DeleteStep 7) ask_all)

-- the same after the second step
abbrev pub all_done : Library
all_done = after (changes.DeleteStep 9) half_done

-- the same request, with as many segments of another flow too
abbrev pub two_flows : ℕ → Library
two_flows count = after_all
    (put 0 second_flow ∷ changes.AddSegments 0 second_flow (a_list (pieces count)) ∷ [])
    (with_pieces count)

-- a request to delete all of the first flow's segments, behind all others
abbrev pub behind_all : DeleteRow
behind_all =
    asked_row (record { flow = first_flow; range = eternity; delete_flow = false }) 100 0

-- A range that covers 32 of 33 segments leaves one. A request for all of them takes two steps, of
-- which the first removes 32, and a segment that was posted after it stays.
pub record DeletesInSteps : Type 0 where
  pub at_once : length (covered (with_pieces 33).segments first_flow (seconds 0 32)) ≡ 32
  pub one_left :
      segment_serials (after (changes.CutSegments 0 first_flow (seconds 0 32)) (with_pieces 33))
      ≡ 34 ∷ []
  pub request : numbers ask_all ≡ (35, 1) ∷ []
  pub due : turn ask_all 7 ≡ Some (changes.DeleteStep 7)
  pub after_first : segment_serials (after (changes.DeleteStep 7) ask_all) ≡ 34 ∷ []
  pub started : numbers (after (changes.DeleteStep 7) ask_all) ≡ (35, 2) ∷ []
  pub later_post_stays : segment_serials all_done ≡ 36 ∷ []
  pub done : numbers all_done ≡ (35, 3) ∷ []
  pub no_more : turn all_done 10 ≡ None
  pub last_step : is_finished_by_step (two_flows 32).segments behind_all ≡ true
  pub not_the_last : is_finished_by_step (two_flows 33).segments behind_all ≡ false

-- ---- posts out of order

-- a hook, 34 segments that were posted from the last to the first, and the request to delete all
-- but the first
abbrev pub backwards : Library
backwards = after_all
    (put 1 first_flow ∷ changes.Allocate 2 first_flow (codes "a" ∷ [])
    ∷ changes.Store 3 (codes "a") 0 3 None
    ∷ changes.PutHook 4 (hook (codes "h") None)
    ∷ changes.AddSegments 5 first_flow (a_list (reverse (pieces 34)))
    ∷ changes.AskDelete 6 first_flow (seconds 1 34) false ∷ []) empty_store

-- the same after the first step
abbrev pub backwards_once : Library
backwards_once = after (changes.DeleteStep 12) backwards

-- the same after the second step
abbrev pub backwards_twice : Library
backwards_twice = after (changes.DeleteStep 13) backwards_once

-- A step removes the first segments by first point and not by serial, and its event has the hull of
-- those.
pub record StepsGoByFirstPoint : Type 0 where
  pub left_once : segment_serials backwards_once ≡ 3 ∷ 36 ∷ []
  pub started : numbers backwards_once ≡ (38, 2) ∷ []
  pub left_twice : segment_serials backwards_twice ≡ 36 ∷ []
  pub done : numbers backwards_twice ≡ (38, 3) ∷ []
  pub events : backwards_twice.outbox.events
      ≡ event 37 2 SegmentsAdded first_flow (Some (seconds 0 34)) 5
      ∷ event 39 2 SegmentsDeleted first_flow (Some (seconds 1 33)) 12
      ∷ event 40 2 SegmentsDeleted first_flow (Some (seconds 33 34)) 13 ∷ []

-- ---- two requests, and a flow that goes

-- the studio with two unfinished requests
abbrev pub two_open : Library
two_open = record studio {
  requests = open_request ∷ record open_request { serial = 9; range = seconds 20 30 } ∷ [];
}

-- the studio, where a request deletes the first flow
abbrev pub flow_goes : Library
flow_goes = record studio {
  requests = record open_request { range = eternity; delete_flow = true } ∷ done_request ∷ [];
}

-- The request of least serial is worked off first. The last step of one that deletes its flow
-- removes the flow.
pub record RequestsInOrder : Type 0 where
  pub first_one : numbers (after (changes.DeleteStep 211) two_open) ≡ (8, 3) ∷ (9, 2) ∷ []
  pub first_left : segment_serials (after (changes.DeleteStep 211) two_open) ≡ 4 ∷ 6 ∷ 7 ∷ []
  pub both : turns (211 ∷ 212 ∷ 213 ∷ []) two_open
      ≡ Some (changes.DeleteStep 211) ∷ Some (changes.DeleteStep 212) ∷ None ∷ []
  pub flow_gone : map (λ row. row.body.id) (after (changes.DeleteStep 211) flow_goes).catalog.flows
      ≡ second_flow ∷ third_flow ∷ []
  pub flow_stays : map (λ row. row.body.id) (after (changes.DeleteStep 211) studio).catalog.flows
      ≡ first_flow ∷ second_flow ∷ third_flow ∷ []
  pub flow_left : segment_serials (after (changes.DeleteStep 211) flow_goes) ≡ 6 ∷ []
  pub done : numbers (after (changes.DeleteStep 211) flow_goes) ≡ (8, 3) ∷ (9, 3) ∷ []

-- ---- sweeping

-- the one object without a segment since moment 100
abbrev pub idle : Library
idle = after_all (changes.DropFlow 20 first_flow ∷ changes.DropFlow 100 second_flow ∷ []) shared

-- An object is due 86,400 seconds after it lost its last reference, and not one second earlier. One
-- that a segment names is never due. The block of a swept one is free again.
pub record SweepsWhenDue : Type 0 where
  pub idle_since : map (λ row. row.idle_since) idle.objects ≡ 100 ∷ []
  pub not_yet : turn idle 86499 ≡ None
  pub due : turn idle 86500 ≡ Some (changes.SweepStep 86500)
  pub gone : length (after (changes.SweepStep 86500) idle).objects ≡ 0
  pub named_stays : length (swept_objects shared.segments shared.objects 1000000) ≡ 0
  pub place : free_place stored.objects stored.blocks 1 ≡ Some 1
  pub no_place : free_place stored.objects stored.blocks 46 ≡ None
  pub place_again : free_place (after (changes.SweepStep 86500) idle).objects 46 46 ≡ Some 0

-- 17 objects without segments, of which the last one is idle longest and all others since one
-- moment
abbrev pub seventeen : List ObjectRow
seventeen = map (λ i. record {
  id = (65 + i) ∷ [];
  serial = i + 1;
  state = Allocated;
  idle_since = if i == 16 then 10 else 50;
}) (numbers_below 17)

-- a library with these objects
abbrev pub crowded : Library
crowded = record empty_store { objects = seventeen; next_serial = 18 }

-- The objects that are idle longest go first, and of those that are idle equally long the ones of
-- least serial; 16 go in one step.
pub record SweepsInOrder : Type 0 where
  pub order : map (λ row. row.serial) (swept_objects [] seventeen 90000)
      ≡ 17 ∷ map (λ i. i + 1) (numbers_below 15)
  pub left : map (λ row. row.serial) (after (changes.SweepStep 90000) crowded).objects ≡ 16 ∷ []
  pub one_due : map (λ row. row.serial) (swept_objects [] seventeen 86449) ≡ 17 ∷ []
  pub two_sweeps : turns (90000 ∷ 90001 ∷ 90002 ∷ []) crowded
      ≡ Some (changes.SweepStep 90000) ∷ Some (changes.SweepStep 90001) ∷ None ∷ []

-- ---- turns

-- A delete step comes before a sweep that is due too. Three turns work off 33 segments and the
-- object that they named, and then there is none.
pub record TurnsInOrder : Type 0 where
  pub both_due : turns (86523 ∷ 86524 ∷ 86525 ∷ []) studio
      ≡ Some (changes.DeleteStep 86523) ∷ Some (changes.SweepStep 86524) ∷ None ∷ []
  pub three_turns : turns (8 ∷ 9 ∷ 86409 ∷ 86410 ∷ []) ask_all
      ≡ Some (changes.DeleteStep 8) ∷ Some (changes.DeleteStep 9) ∷ Some (changes.SweepStep 86409)
      ∷ None ∷ []
  pub not_due_yet : turns (8 ∷ 9 ∷ 86408 ∷ []) ask_all
      ≡ Some (changes.DeleteStep 8) ∷ Some (changes.DeleteStep 9) ∷ None ∷ []
  pub nothing_due : turn stored 5 ≡ None
