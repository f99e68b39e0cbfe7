-- A delivery under way.
use Rattle.std.specs.Prelude.{◌≡◌, ◌≤◌, ◌<◌, ◌+◌, ◌^◌, ◌⊎◌, ℕ, Bool, true, false, List, [], ◌∷◌, ◌++◌, Some, None, All, Contains, length, Result, Ok, Err, IsFalse}
use Rattle.connection_loop.specs.Endings.{TellsAll}
use Rattle.disk_trait.specs.Calls.{SameDevice}
use Rattle.disk_trait.specs.Device.{Device, Dials, Left}
use Rattle.site_edge.specs.Clocks.{IsMoment}
use Rattle.media_rows.specs.declared.change.Change.TheVariants.{Delivered}
use Rattle.media_rows.specs.declared.event.EventRow.{EventRow}
use Rattle.media_rows.specs.declared.hook.HookRow.{HookRow}
use Rattle.media_rows.specs.Changes.{after}
use Rattle.media_rows.specs.Library.{Library, last_serial}
use Rattle.media_rows.specs.Outbox.{waiting_for}
use Rattle.store_states.specs.Kept.{AgreesWith, kept_state}
use Rattle.store_states.specs.States.{StoreState}
use Rattle.run_history.specs.Runs.{Beginning}
use Rattle.run_history.specs.Steps.{last_or}
use Rattle.webhook_outbox.specs.Ordered.{next_hook}
use Rattle.media_store.specs.declared.fault.StoreFault.{StoreFault}
use Rattle.media_store.specs.Stores.{StoreSeen, size_of}
use Rattle.hook_delivery.specs.Posting.{request_of}
use Rattle.store_delivery.specs.declared.sending.Sent.{Sent}
use Rattle.store_delivery.specs.declared.sending.Sent.TheVariants.{Gone, Kept, Full}
use Rattle.store_delivery.specs.Attempts.{AreInTurn, Attempt, IsAttempt, accepted_events, connections_of, dials_by, is_accepted, least_behind}
use Rattle.store_delivery.specs.Deliveries.{HasDelivered, HaveGone, IsLeftBy, IsStillFirst, WasRefused}
use Rattle.store_delivery.specs.Within.Due.{first_event}

-- so many moments at most were given before a delivery begins, and before one of its attempts
abbrev pub most_begun : ℕ
most_begun = 2 ^ 62

abbrev pub most_given : ℕ
most_given = 2 ^ 62 + 2 ^ 63

-- the attempts so far, the events that went, at which moments, and the states behind each
pub record Progress : Type 0 where
  pub attempts : List Attempt
  pub events : List EventRow
  pub times : List ℕ
  pub states : List StoreState

-- the beginning
abbrev pub no_progress : Progress
no_progress = record { attempts = []; events = []; times = []; states = [] }

-- the least serial that the hook of a next attempt may have, behind some
abbrev pub least_after : ℕ → List Attempt → ℕ
least_after least [] = least
least_after least (x ∷ xs) = least_after (least_behind x) xs

-- an event that wasn't accepted is one of a hook up to this serial
abbrev pub IsBehind : ℕ → Attempt → Type 0
IsBehind after x = is_accepted x ≡ false → x.hook.serial ≤ after

-- the hook of a first event was tried, where its serial is at most this one
abbrev pub AllTriedTo : ℕ → Library → List Attempt → Type 0
AllTriedTo after library attempts =
    (hook : HookRow) → Contains library.outbox.hooks hook → hook.serial ≤ after → (event : EventRow)
    → first_event library hook ≡ Some event
    → (request_of library.id hook event ≡ None) ⊎ WasRefused attempts hook event

-- what a delivery keeps of the library
pub record KeepsHooks (old now : Library) : Type 0 where
  pub hooks : now.outbox.hooks ≡ old.outbox.hooks
  pub id : now.id ≡ old.id

-- A store keeps this state.
pub record StandsIn (store : StoreSeen) (d : Device) (s : StoreState) : Type 0 where
  pub agrees : AgreesWith d store.kept s.archive.held
  pub state : s ≡ kept_state store.kept s.archive.held

-- where a delivery begins
pub record Begins (b : Beginning StoreState) (d : Device) (given : List ℕ) (store : StoreSeen)
    : Type 0 where
  pub begun : b.moment ≤ d.moment
  pub given_is : given ≡ b.given
  pub connections : d.link.connections ≡ b.before
  pub stands : StandsIn store d b.state
  pub moments : (p : Left) → d.left_since b.moment p → IsLeftBy b [] [] p

-- All hooks up to a serial were tried, and these attempts were made. All events that were accepted
-- have gone.
pub record IsUnderway (b : Beginning StoreState) (dials : Dials) (d : Device) (given : List ℕ)
    (store : StoreSeen) (after : ℕ) (h : Progress) : Type 0 where
  pub made : All (IsAttempt b.state.archive.library) h.attempts
  pub turns : AreInTurn 0 h.attempts
  pub ahead : (hook : HookRow) → next_hook after store.kept.library.outbox.hooks ≡ Some hook
      → least_after 0 h.attempts ≤ hook.serial
  pub connections : d.link.connections ≡ b.before ++ connections_of h.attempts
  pub dials_are : d.link.dials ≡ dials_by (length b.before) h.attempts dials
  pub accepted : accepted_events h.attempts ≡ h.events
  pub gone : HaveGone b.state h.events h.times h.states
  pub removed : (hook : ℕ) → waiting_for hook b.state.archive.library.outbox.events
      ≡ waiting_for hook h.events ++ waiting_for hook store.kept.library.outbox.events
  pub kept : All (IsStillFirst store.kept.library) h.attempts
  pub behind : All (IsBehind after) h.attempts
  pub tried : AllTriedTo after store.kept.library h.attempts
  pub same : KeepsHooks b.state.archive.library store.kept.library
  pub given_is : given ≡ b.given ++ h.times
  pub are_moments : All IsMoment h.times
  pub begun : b.moment ≤ d.moment
  pub moments : (p : Left) → d.left_since b.moment p → IsLeftBy b h.attempts h.states p
  pub stands : StandsIn store d (last_or b.state h.states)

-- what an attempt leaves of the store: an event that went is left out of the library, and nothing
-- else changes
abbrev pub LeavesStore : ℕ → StoreSeen → StoreSeen → Result Sent StoreFault → Type 0
LeavesStore event old new (Ok Gone) =
    (new.spent ≡ false) × (new.put ≡ None) × (new.kept.journal.blocks ≡ old.kept.journal.blocks)
    × ((moment : ℕ) × (new.kept.library ≡ after (Delivered moment event) old.kept.library))
LeavesStore event old new (Ok Kept) = new ≡ old
LeavesStore event old new (Ok Full) = Unit {0}
LeavesStore event old new (Err fault) = Unit {0}

-- the same of what is due to a hook: fewer events wait, if the library changes
abbrev pub LeavesFewer : StoreSeen → StoreSeen → Result Sent StoreFault → Type 0
LeavesFewer old new (Ok Gone) =
    (new.spent ≡ false) × (new.put ≡ None) × (new.kept.journal.blocks ≡ old.kept.journal.blocks)
    × (new.kept.library.outbox.hooks ≡ old.kept.library.outbox.hooks)
    × (length new.kept.library.outbox.events < length old.kept.library.outbox.events)
LeavesFewer old new (Ok Kept) = new ≡ old
LeavesFewer old new (Ok Full) = Unit {0}
LeavesFewer old new (Err fault) = Unit {0}

-- what an attempt to send to the hook of a serial leaves of a delivery: it goes on, with one event
-- more that went or with this hook tried, or it has ended
abbrev pub HasSent : Beginning StoreState → Dials → Device → Bool → List ℕ → StoreSeen → ℕ
    → Progress → ℕ → Result Sent StoreFault → Type 0
HasSent b dials d clock given store after h hook (Ok Gone) =
    (clock ≡ true) × ((next : Progress) × IsUnderway b dials d given store after next
    × (length next.events ≡ length h.events + 1))
HasSent b dials d clock given store after h hook (Ok Kept) =
    (clock ≡ true) × ((next : Progress) × IsUnderway b dials d given store hook next
    × (length next.events ≡ length h.events))
HasSent b dials d clock given store after h hook (Ok Full) =
    HasDelivered b dials d given (Ok (record { delivered = length h.events; full = true }))
HasSent b dials d clock given store after h hook (Err fault) =
    HasDelivered b dials d given (Err fault)

-- A delivery since a device and a clock: so many events went, and all hooks up to a serial were
-- tried.
pub record GoesOn (old now : Device) (told tells : Bool) (begun given : List ℕ)
    (first store : StoreSeen) (after delivered : ℕ) : Type 0 where
  pub unspent : store.spent ≡ false
  pub idle : store.put ≡ None
  pub size_is : size_of store.kept ≤ now.size
  pub same : SameDevice old now
  pub faults : now.faults ≡ old.faults
  pub peers : now.link.peer_faults ≡ old.link.peer_faults
  pub under_way : IsFalse old.link.under_way → IsFalse now.link.under_way
  pub few : delivered + length store.kept.library.outbox.events ≤ last_serial
  pub working : TellsAll old told → length begun ≤ most_begun → (b : Beginning StoreState)
      → Begins b old begun first
      → (tells ≡ true) × ((h : Progress) × IsUnderway b old.link.dials now given store after h
      × (length h.events ≡ delivered))
