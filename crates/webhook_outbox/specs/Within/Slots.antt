-- Hooks with the events that wait for them, and all events, at the keys of their serials.
use Rattle.std.specs.Prelude.{◌≡◌, ◌+◌, ℕ, ◌==◌, nat_le, nat_lt, ◌&&◌, ℤ, ◌≤ℤ◌, pos, List, [], ◌∷◌, ◌++◌, Bool, ◌||◌, IsTrue, filter, length, map}
use Rattle.std.specs.List.{AllByRecursion, list_any}
use Rattle.media_rows.specs.declared.event.EventRow.{EventRow}
use Rattle.media_rows.specs.declared.hook.HookRow.{HookRow}
use Rattle.media_rows.specs.declared.reply.HookShown.{HookShown}
use Rattle.media_rows.specs.Outbox.{Outbox, most_waiting}
use Rattle.shared_tree.specs.Pairs.{values}
use Rattle.shared_tree.specs.Rows.{IsKeyedBy}
use Rattle.webhook_outbox.specs.declared.outbox.Slot.{Slot}

-- the serial of a hook
abbrev pub hook_serial : Slot → ℕ
hook_serial slot = slot.row.value.serial

-- the keys of hooks and events
abbrev pub slot_key : Slot → ℤ
slot_key slot = pos (hook_serial slot)

abbrev pub event_key : EventRow → ℤ
event_key row = pos row.serial

-- the rows of hooks
abbrev pub hook_rows : List Slot → List HookRow
hook_rows slots = map (λ slot. slot.row.value) slots

-- the hooks
abbrev pub hooks_of : List (ℤ × Slot) → List HookRow
hooks_of slots = hook_rows (values slots)

-- the outbox of these hooks and events
abbrev pub seen_outbox : List (ℤ × Slot) → List (ℤ × EventRow) → Outbox
seen_outbox slots events = record { hooks = hooks_of slots; events = values events }

-- the outbox with a hook at the end
abbrev pub with_last_hook : HookRow → Outbox → Outbox
with_last_hook row outbox = record outbox { hooks = outbox.hooks ++ row ∷ [] }

-- no key is below that of serial 0
abbrev pub HasSerials : {V : Type 0} → List (ℤ × V) → Type 0
HasSerials ps = AllByRecursion (λ p. pos 0 ≤ℤ p.0) ps

-- an event waits for the hook of a serial
abbrev pub is_for : ℕ → ℤ × EventRow → Bool
is_for hook pair = pair.1.hook == hook

-- the hook of an event is kept
abbrev pub has_slot : List (ℤ × Slot) → ℤ × EventRow → Bool
has_slot slots pair = list_any (λ p. hook_serial p.1 == pair.1.hook) slots

-- a hook for which so many events wait, once it is marked where they are too many
abbrev pub marked_by : ℕ → HookRow → HookRow
marked_by count row = record row { failed = row.failed || nat_le most_waiting count }

-- a hook with the number of its events
abbrev pub shown_slot : Slot → HookShown
shown_slot slot = record { row = slot.row.value; waiting = length slot.waiting }

-- one more event may wait for a hook
abbrev pub slot_has_room : Slot → Bool
slot_has_room slot =
    nat_lt (length slot.waiting) most_waiting
    && (nat_lt (length slot.waiting + 1) most_waiting || slot.row.value.failed)

-- a hook for which the most events wait has failed
abbrev pub HasFailedWhenFull : Slot → Type 0
HasFailedWhenFull slot =
    IsTrue (nat_le most_waiting (length slot.waiting)) → IsTrue slot.row.value.failed

-- each hook has just the events that wait for it, and each event waits for a hook
pub record AreSlots (slots : List (ℤ × Slot)) (events : List (ℤ × EventRow)) : Type 0 where
  pub slots_keyed : IsKeyedBy slot_key slots
  pub events_keyed : IsKeyedBy event_key events
  pub waiting : AllByRecursion (λ p. p.1.waiting ≡ filter (is_for (hook_serial p.1)) events) slots
  pub hooked : AllByRecursion (λ p. IsTrue (has_slot slots p)) events
  pub full : AllByRecursion (λ p. HasFailedWhenFull p.1) slots
