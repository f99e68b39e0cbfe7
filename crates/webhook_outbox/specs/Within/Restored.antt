-- Rows that come to an outbox one after the other, the last one first.
use Rattle.std.specs.Prelude.{ℕ, ◌==◌, nat_lt, List, [], ◌∷◌, Bool, true, not, ◌&&◌, ◌||◌}
use Rattle.std.specs.List.{list_all, list_any}
use Rattle.media_rows.specs.declared.event.EventRow.{EventRow}
use Rattle.media_rows.specs.declared.hook.HookRow.{HookRow}
use Rattle.media_rows.specs.Good.{has_hook, is_hook_good}
use Rattle.media_rows.specs.Lists.{inserted}
use Rattle.media_rows.specs.Outbox.{Outbox}

-- what rows make of a start, the last one first
abbrev pub folded : {R T : Type 0} → (R → T → T) → List R → T → T
folded step [] start = start
folded step (row ∷ rows) start = step row (folded step rows start)

-- each row may come where it does
abbrev pub all_fit : {R T : Type 0} → (R → T → Bool) → (R → T → T) → List R → T → Bool
all_fit fits step [] start = true
all_fit fits step (row ∷ rows) start =
    fits row (folded step rows start) && all_fit fits step rows start

-- an outbox without hooks and events
abbrev pub no_rows : Outbox
no_rows = record { hooks = []; events = [] }

-- rows stand by rising serial
abbrev pub hook_before : HookRow → HookRow → Bool
hook_before a b = nat_lt a.serial b.serial

abbrev pub event_before : EventRow → EventRow → Bool
event_before a b = nat_lt a.serial b.serial

-- a hook's serial is new, and the outbox with the hook at its place
abbrev pub may_join : HookRow → Outbox → Bool
may_join row outbox = not (list_any (λ hook. hook.serial == row.serial) outbox.hooks)

abbrev pub with_hook_joined : HookRow → Outbox → Outbox
with_hook_joined row outbox = record outbox { hooks = inserted hook_before row outbox.hooks }

-- a hook is another one, or stays good with these events
abbrev pub has_room : EventRow → List EventRow → HookRow → Bool
has_room row events hook = not (hook.serial == row.hook) || is_hook_good (row ∷ events) hook

-- no hook and no event has a serial
abbrev pub has_no_serial : ℕ → Outbox → Bool
has_no_serial serial outbox =
    not (list_any (λ hook. hook.serial == serial) outbox.hooks)
    && not (list_any (λ row. row.serial == serial) outbox.events)

-- an event's serial is new, and its hook is kept and stays good
abbrev pub may_wait : EventRow → Outbox → Bool
may_wait row outbox =
    has_no_serial row.serial outbox && has_hook outbox.hooks row
    && list_all (has_room row outbox.events) outbox.hooks

-- the outbox with the event at its place
abbrev pub waits : EventRow → Outbox → Outbox
waits row outbox = record outbox { events = inserted event_before row outbox.events }
