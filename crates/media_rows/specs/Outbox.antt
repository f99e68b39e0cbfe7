-- The outbox: webhooks and the events that wait for them, each by rising serial. Our own profile of
-- the Time-addressable Media Store.
use Rattle.std.specs.Prelude.{ℕ, ◌+◌, ◌==◌, nat_le, List, [], ◌∷◌, ◌++◌, Bool, true, false, not, ◌&&◌, ◌||◌, Option, Some, None, filter, map, find, length, bytes_eq}
use Rattle.std.specs.List.{list_any, list_all}
use Rattle.media_rows.specs.declared.event.EventKind.{EventKind}
use Rattle.media_rows.specs.declared.event.EventKind.TheVariants.{FlowCreated, FlowUpdated, FlowDeleted, SegmentsAdded, SegmentsDeleted, SourceCreated, SourceUpdated, SourceDeleted}
use Rattle.media_rows.specs.declared.event.EventRow.{EventRow}
use Rattle.media_rows.specs.declared.event.Happened.{Happened}
use Rattle.media_rows.specs.declared.hook.Hook.{Hook}
use Rattle.media_rows.specs.declared.hook.HookRow.{HookRow}
use Rattle.media_rows.specs.Formats.{event_number}
use Rattle.media_rows.specs.Lists.{has_number}

-- the hooks, and the events that wait for them, each by rising serial
pub record Outbox : Type 0 where
  pub hooks : List HookRow
  pub events : List EventRow

-- the most events that wait for one hook
abbrev pub most_waiting : ℕ
most_waiting = 1000

-- a hook has this address, which no other hook of a good library has
abbrev pub has_url : List ℕ → HookRow → Bool
has_url url row = bytes_eq row.hook.url url

-- the hook of an address, if there is one
abbrev pub hook_of : List ℕ → List HookRow → Option HookRow
hook_of url hooks = find (has_url url) hooks

-- the events that wait for the hook of a serial
abbrev pub waiting_for : ℕ → List EventRow → List EventRow
waiting_for hook events = filter (λ row. row.hook == hook) events

-- no event that waits for the same hook has a lower serial
abbrev pub is_least_waiting : List EventRow → EventRow → Bool
is_least_waiting events row =
    list_all (λ other. nat_le row.serial other.serial) (waiting_for row.hook events)

-- the event of a serial waits, and it is the one of least serial of its hook
abbrev pub waits_first : ℕ → List EventRow → Bool
waits_first event events =
    list_any (λ row. (row.serial == event) && is_least_waiting events row) events

-- the number of events that wait for the hook of a serial
abbrev pub waiting_count : ℕ → List EventRow → ℕ
waiting_count hook events = length (waiting_for hook events)

-- ---- which hook takes what

-- two kinds of event are the same, which their numbers tell
abbrev pub same_event : EventKind → EventKind → Bool
same_event a b = event_number a == event_number b

-- whether an event is one of a source
abbrev pub is_of_source : EventKind → Bool
is_of_source FlowCreated = false
is_of_source FlowUpdated = false
is_of_source FlowDeleted = false
is_of_source SegmentsAdded = false
is_of_source SegmentsDeleted = false
is_of_source SourceCreated = true
is_of_source SourceUpdated = true
is_of_source SourceDeleted = true

-- whether a list that may be absent admits an id
abbrev pub admits : Option (List ℕ) → ℕ → Bool
admits None id = true
admits (Some ids) id = has_number id ids

-- A hook takes what its list of events names. For an event of a flow its list of flows, where there
-- is one, has the flow; and for each event its list of sources, where there is one, has the source.
-- A hook that has failed takes nothing.
abbrev pub takes : Happened → HookRow → Bool
takes happened row =
    not row.failed
    && list_any (same_event happened.kind) row.hook.events
    && (is_of_source happened.kind || admits row.hook.flow_ids happened.subject)
    && admits row.hook.source_ids happened.source

-- ---- posting

-- what happened, as an event that waits for one hook under a serial of its own
abbrev pub event_row : Happened → ℕ → HookRow → ℕ → EventRow
event_row happened moment row serial = record {
  serial = serial;
  hook = row.serial;
  kind = happened.kind;
  subject = happened.subject;
  range = happened.range;
  moment = moment;
}

-- the events that one happening makes: one for each hook that takes it, with rising serials
abbrev pub events_for : Happened → ℕ → ℕ → List HookRow → List EventRow
events_for happened moment serial [] = []
events_for happened moment serial (row ∷ later) =
    event_row happened moment row serial ∷ events_for happened moment (serial + 1) later

-- the events of one happening for the hooks that take it, by rising serial of the hooks
abbrev pub new_events : Happened → ℕ → ℕ → List HookRow → List EventRow
new_events happened moment serial hooks =
    events_for happened moment serial (filter (takes happened) hooks)

-- a hook for which the most events wait has failed
abbrev pub marked : List EventRow → HookRow → HookRow
marked events row =
    record row { failed = row.failed || nat_le most_waiting (waiting_count row.serial events) }

-- the outbox once these events wait too
abbrev pub with_events : List EventRow → Outbox → Outbox
with_events new outbox =
    record {
      hooks = map (marked (outbox.events ++ new)) outbox.hooks;
      events = outbox.events ++ new;
    }

-- the outbox once one thing happened: its events wait, and hooks that are full have failed
abbrev pub after_one : Happened → ℕ → ℕ → Outbox → Outbox
after_one happened moment serial outbox =
    with_events (new_events happened moment serial outbox.hooks) outbox

-- an outbox and the next serial
pub record Posted : Type 0 where
  pub outbox : Outbox
  pub next : ℕ

-- happenings one after the other, each to the hooks by rising serial, with the next serials in that
-- order
abbrev pub after_post : List Happened → ℕ → Posted → Posted
after_post [] moment posted = posted
after_post (happened ∷ later) moment posted =
    after_post later moment (record {
      outbox = after_one happened moment posted.next posted.outbox;
      next = posted.next + length (new_events happened moment posted.next posted.outbox.hooks);
    })

-- ---- hooks that come and go

-- the serials of the hooks of an address, by which their events are known
abbrev pub gone_serials : List ℕ → List HookRow → List ℕ
gone_serials url hooks = map (λ row. row.serial) (filter (has_url url) hooks)

-- the outbox without the hook of an address and its events
abbrev pub after_drop_hook : List ℕ → Outbox → Outbox
after_drop_hook url outbox = record {
  hooks = filter (λ row. not (has_url url row)) outbox.hooks;
  events = filter (λ row. not (has_number row.hook (gone_serials url outbox.hooks))) outbox.events;
}

-- a hook that comes under a serial and hasn't failed
abbrev pub hook_row : Hook → ℕ → HookRow
hook_row hook serial = record { serial = serial; hook = hook; failed = false }

-- the hook in place of the one of its address, whose events go
abbrev pub after_put_hook : Hook → ℕ → Outbox → Outbox
after_put_hook hook serial outbox =
    record
    (after_drop_hook hook.url outbox) {
      hooks = (after_drop_hook hook.url outbox).hooks ++ hook_row hook serial ∷ [];
    }

-- ---- events that were delivered

-- the outbox without the event of a serial
abbrev pub after_delivered : ℕ → Outbox → Outbox
after_delivered event outbox =
    record outbox { events = filter (λ row. not (row.serial == event)) outbox.events }
