-- The order of hooks and events. Our own profile of the Time-addressable Media Store.
use Rattle.std.specs.Prelude.{◌≡◌, ◌<◌, ◌≤◌, ℕ, List, Option, IsTrue, filter, nat_lt}
use Rattle.std.specs.List.{AllByRecursion}
use Rattle.media_rows.specs.declared.event.EventRow.{EventRow}
use Rattle.media_rows.specs.declared.hook.HookRow.{HookRow}
use Rattle.media_rows.specs.Good.{rises_by}
use Rattle.media_rows.specs.Outbox.{waiting_for}
use Rattle.shared_tree.specs.Pairs.{first}

-- hooks stand by rising serial, and so each serial once
abbrev pub HooksRise : List HookRow → Type 0
HooksRise hooks = IsTrue (rises_by (λ row. row.serial) hooks)

-- so do events
abbrev pub EventsRise : List EventRow → Type 0
EventsRise events = IsTrue (rises_by (λ row. row.serial) events)

-- an event waits for the hook of a serial, and none that does has a lower serial
pub record IsLeastFor (hook : ℕ) (events : List EventRow) (row : EventRow) : Type 0 where
  pub waits : row.hook ≡ hook
  pub least : AllByRecursion (λ other. row.serial ≤ other.serial) (waiting_for hook events)

-- the hook of least serial above another one, if there is one
abbrev pub next_hook : ℕ → List HookRow → Option HookRow
next_hook after hooks = first (filter (λ row. nat_lt after row.serial) hooks)

-- a hook's serial is above another one, and no other that is above it is lower
pub record IsNextHook (after : ℕ) (hooks : List HookRow) (row : HookRow) : Type 0 where
  pub above : after < row.serial
  pub least : AllByRecursion (λ other. after < other.serial → row.serial ≤ other.serial) hooks
