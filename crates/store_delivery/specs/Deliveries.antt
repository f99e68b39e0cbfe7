-- What a delivery of a store's waiting events comes to. Our own profile of the Time-addressable
-- Media Store.
use Rattle.std.specs.Prelude.{◌≡◌, ◌≤◌, ◌+◌, ◌⊎◌, ℕ, Bool, true, false, List, [], ◌∷◌, ◌++◌, Some, None, All, Contains, length, map, take, Result, Ok, Err}
use Rattle.disk_trait.specs.Device.{Device, Dials, Left}
use Rattle.site_edge.specs.Clocks.{IsMoment}
use Rattle.site_edge.specs.Saying.{IsPrefix}
use Rattle.media_rows.specs.declared.change.Change.TheVariants.{Delivered}
use Rattle.media_rows.specs.declared.event.EventRow.{EventRow}
use Rattle.media_rows.specs.declared.hook.HookRow.{HookRow}
use Rattle.media_rows.specs.Library.{Library}
use Rattle.media_rows.specs.Outbox.{waiting_for}
use Rattle.change_codec.specs.Fitting.{fits}
use Rattle.shared_tree.specs.Pairs.{first}
use Rattle.store_states.specs.States.{StoreState}
use Rattle.store_commits.specs.Carrying.{HasArchive}
use Rattle.run_history.specs.Runs.{Beginning}
use Rattle.run_history.specs.Steps.{last_or}
use Rattle.tams_machine.specs.Answers.{journal_of_state, state_with_change}
use Rattle.media_store.specs.declared.fault.StoreFault.{StoreFault}
use Rattle.media_store.specs.declared.fault.StoreFault.TheVariants as faults
use Rattle.hook_delivery.specs.Posting.{request_of}
use Rattle.store_delivery.specs.declared.delivering.Deliveries.{Deliveries}
use Rattle.store_delivery.specs.Attempts.{AreInTurn, Attempt, IsAttempt, accepted_events, accepted_in, connections_of, dials_by, is_accepted}

-- ---- the changes

-- These events went, one after the other, each at a moment of its own by a change that fits the
-- journal, and left these states.
abbrev pub HaveGone : StoreState → List EventRow → List ℕ → List StoreState → Type 0
HaveGone s [] moments states = (moments ≡ []) × (states ≡ [])
HaveGone s (event ∷ events) [] states = ⊥
HaveGone s (event ∷ events) (moment ∷ moments) [] = ⊥
HaveGone s (event ∷ events) (moment ∷ moments) (next ∷ states) =
    (fits (journal_of_state s) (Delivered moment event.serial) ≡ true)
    × (next ≡ state_with_change s (Delivered moment event.serial) [])
    × HaveGone next events moments states

-- ---- what a crash leaves

-- what was told of the next attempt: nothing, or a part of its request on a connection of its own
abbrev pub IsPartTold : List Attempt → List (List ℕ) → Type 0
IsPartTold back [] = Unit {0}
IsPartTold [] (sent ∷ told) = ⊥
IsPartTold (x ∷ back) (sent ∷ told) = IsPrefix sent x.out.bytes × (told ≡ [])

-- A crash leaves what stands behind a number of whole attempts, and at most a part of the next one
-- told. No more events have gone than these attempts had accepted, and at most the last of those
-- hasn't.
pub record IsLeftBy (b : Beginning StoreState) (attempts : List Attempt) (states : List StoreState)
    (p : Left) : Type 0 where
  pub front : List Attempt
  pub back : List Attempt
  pub parts : attempts ≡ front ++ back
  pub begun : List (List ℕ)
  pub part : IsPartTold back begun
  pub told : p.told ≡ map (λ c. c.told) (b.before ++ connections_of front) ++ begun
  pub count : ℕ
  pub within : count ≤ length states
  pub most : count ≤ length (accepted_in front)
  pub least : length (accepted_in front) ≤ count + 1
  pub stands : HasArchive b.state.half (last_or b.state (take count states)).archive p.image

-- the file stands for the last state; or for the one before it, where the disk failed in the last
-- change
abbrev pub StandsAtEnd : Bool → StoreState → List StoreState → List ℕ → Type 0
StandsAtEnd false s states image = HasArchive s.half (last_or s states).archive image
StandsAtEnd true s states image =
    (count : ℕ) × (count ≤ length states) × (length states ≤ count + 1)
    × HasArchive s.half (last_or s (take count states)).archive image

-- ---- what is left

-- an event was sent to its hook, and not accepted
abbrev pub WasRefused : List Attempt → HookRow → EventRow → Type 0
WasRefused attempts hook event =
    (x : Attempt) × Contains attempts x × (x.hook ≡ hook) × (x.event ≡ event)
    × (is_accepted x ≡ false)

-- Each event that is the first that waits for its hook doesn't go to the hook's address, or it was
-- sent, and not accepted.
abbrev pub AllTried : Library → List Attempt → Type 0
AllTried library attempts =
    (hook : HookRow) → Contains library.outbox.hooks hook → (event : EventRow)
    → first (waiting_for hook.serial library.outbox.events) ≡ Some event
    → (request_of library.id hook event ≡ None) ⊎ WasRefused attempts hook event

-- an event that wasn't accepted still is the first that waits for its hook
abbrev pub IsStillFirst : Library → Attempt → Type 0
IsStillFirst library x =
    is_accepted x ≡ false
    → first (waiting_for x.hook.serial library.outbox.events) ≡ Some x.event

-- ---- how it ends

-- An event was accepted and hasn't gone, and this moment was taken for its change.
pub record HasOneLeft (events : List EventRow) (moments : List ℕ) (event : EventRow) (moment : ℕ)
    : Type 0 where
  pub events_are : events ≡ event ∷ []
  pub moments_are : moments ≡ moment ∷ []

-- such an event is left since its change doesn't fit the journal
abbrev pub IsFull : StoreState → List EventRow → List ℕ → Type 0
IsFull last events moments =
    (event : EventRow) × (moment : ℕ) × HasOneLeft events moments event moment
    × (fits (journal_of_state last) (Delivered moment event.serial) ≡ false)

-- How a delivery ends, behind so many events that went, from the last state, by what was accepted
-- and hasn't gone and the moments taken for it, and by whether the disk failed in the last change:
-- all is tried; the change of an accepted event has no room; the disk failed; or memory was
-- wanting, be it for the change of an accepted event.
abbrev pub DeliveryEnds : StoreState → List Attempt → ℕ → List EventRow → List ℕ → Bool
    → Result Deliveries StoreFault → Type 0
DeliveryEnds last attempts gone pending idle torn (Err faults.Disk) =
    (torn ≡ true) × (pending ≡ []) × (idle ≡ [])
DeliveryEnds last attempts gone pending idle torn (Err faults.Memory) =
    (torn ≡ false) × (((pending ≡ []) × (idle ≡ []))
    ⊎ ((event : EventRow) × (moment : ℕ) × HasOneLeft pending idle event moment))
DeliveryEnds last attempts gone pending idle torn (Ok done) =
    (torn ≡ false) × (done.delivered ≡ gone)
    × (((done.full ≡ false) × (pending ≡ []) × (idle ≡ []) × AllTried last.archive.library attempts)
    ⊎ ((done.full ≡ true) × IsFull last pending idle))

-- ---- all together

-- A delivery has ended, by its attempts: those that were made, one after the other, each with its
-- connection; the events that went, which are those that were accepted, but for the last where its
-- change wasn't made; the states behind each. Of each hook the events that went stood in front of
-- those that still wait. At each moment a crash left what stands behind a number of the attempts.
pub record HasDelivered (b : Beginning StoreState) (dials : Dials) (new : Device) (given : List ℕ)
    (end : Result Deliveries StoreFault) : Type 0 where
  pub attempts : List Attempt
  pub made : All (IsAttempt b.state.archive.library) attempts
  pub turns : AreInTurn 0 attempts
  pub connections : new.link.connections ≡ b.before ++ connections_of attempts
  pub dials_are : new.link.dials ≡ dials_by (length b.before) attempts dials
  pub events : List EventRow
  pub pending : List EventRow
  pub accepted : accepted_events attempts ≡ events ++ pending
  pub times : List ℕ
  pub states : List StoreState
  pub gone : HaveGone b.state events times states
  pub removed : (hook : ℕ) → waiting_for hook b.state.archive.library.outbox.events
      ≡ waiting_for hook events
      ++ waiting_for hook (last_or b.state states).archive.library.outbox.events
  pub kept : All (IsStillFirst (last_or b.state states).archive.library) attempts
  pub idle : List ℕ
  pub given_is : given ≡ b.given ++ (times ++ idle)
  pub are_moments : All IsMoment (times ++ idle)
  pub torn : Bool
  pub moments : (p : Left) → new.left_since b.moment p → IsLeftBy b attempts states p
  pub exit : StandsAtEnd torn b.state states new.seen
  pub causes : DeliveryEnds (last_or b.state states) attempts (length events) pending idle torn end
