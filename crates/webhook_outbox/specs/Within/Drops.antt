-- Hooks that go one by one, each with its events one by one.
use Rattle.std.specs.Prelude.{ℕ, ◌==◌, ℤ, List, [], ◌∷◌, not, filter, if◌then◌else◌}
use Rattle.media_rows.specs.declared.event.EventRow.{EventRow}
use Rattle.media_rows.specs.declared.hook.HookRow.{HookRow}
use Rattle.media_rows.specs.Outbox.{Outbox, has_url}
use Rattle.shared_tree.specs.Pairs.{without_key}
use Rattle.webhook_outbox.specs.Within.Slots.{event_key}

-- events without these
abbrev pub without_event_rows : List EventRow → List (ℤ × EventRow) → List (ℤ × EventRow)
without_event_rows [] events = events
without_event_rows (row ∷ rows) events = without_event_rows rows
    (without_key (event_key row) events)

-- the outbox without the hook of a serial and its events
abbrev pub without_serial : ℕ → Outbox → Outbox
without_serial serial outbox = record {
  hooks = filter (λ row. not (row.serial == serial)) outbox.hooks;
  events = filter (λ row. not (row.hook == serial)) outbox.events;
}

-- the outbox without those of these hooks that have an address
abbrev pub dropped : List ℕ → List HookRow → Outbox → Outbox
dropped url [] outbox = outbox
dropped url (row ∷ rows) outbox =
    dropped url rows (if has_url url row then without_serial row.serial outbox else outbox)
