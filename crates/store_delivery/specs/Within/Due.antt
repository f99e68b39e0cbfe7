-- What is to be sent next.
use Rattle.std.specs.Prelude.{◌≡◌, ℕ, Option, Some, None}
use Rattle.media_rows.specs.declared.event.EventRow.{EventRow}
use Rattle.media_rows.specs.declared.hook.HookRow.{HookRow}
use Rattle.media_rows.specs.Library.{Library}
use Rattle.media_rows.specs.Outbox.{waiting_for}
use Rattle.shared_tree.specs.Pairs.{first}
use Rattle.webhook_outbox.specs.Ordered.{IsLeastFor, IsNextHook, next_hook}
use Rattle.hook_delivery.specs.Posting.{request_of}
use Rattle.store_delivery.specs.declared.due.HookDue.{HookDue}
use Rattle.store_delivery.specs.declared.due.Sending.{Sending}

-- the first event that waits for a hook
abbrev pub first_event : Library → HookRow → Option EventRow
first_event library hook = first (waiting_for hook.serial library.outbox.events)

-- a hook is the next one above a serial
pub record IsNext (library : Library) (after : ℕ) (hook : HookRow) : Type 0 where
  pub is : next_hook after library.outbox.hooks ≡ Some hook
  pub least : IsNextHook after library.outbox.hooks hook

-- an event is the first that waits for the next hook, and this is its request
pub record IsSending (library : Library) (after : ℕ) (hook : HookRow) (sending : Sending) : Type 0
  where
    pub next : IsNext library after hook
    pub event : EventRow
    pub first : first_event library hook ≡ Some event
    pub least : IsLeastFor hook.serial library.outbox.events event
    pub serial : sending.event ≡ event.serial
    pub request : request_of library.id hook event ≡ Some sending.out

-- no event waits for a hook that goes to its address, as the first
abbrev pub SendsNone : Library → HookRow → Type 0
SendsNone library hook =
    (event : EventRow) → first_event library hook ≡ Some event
    → request_of library.id hook event ≡ None

-- what is to be sent to the next hook, if something is
abbrev pub IsSendingIf : Library → ℕ → HookRow → Option Sending → Type 0
IsSendingIf library after hook None = SendsNone library hook
IsSendingIf library after hook (Some sending) = IsSending library after hook sending

-- the next hook, and what is to be sent to it
pub record IsHookDue (library : Library) (after : ℕ) (due : HookDue) : Type 0 where
  pub hook : HookRow
  pub next : IsNext library after hook
  pub serial : due.hook ≡ hook.serial
  pub sending : IsSendingIf library after hook due.sending

-- there is none exactly where no hook has a higher serial
abbrev pub IsNextDue : Library → ℕ → Option HookDue → Type 0
IsNextDue library after None = next_hook after library.outbox.hooks ≡ None
IsNextDue library after (Some due) = IsHookDue library after due
