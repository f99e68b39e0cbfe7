-- Worked values of the crate's own definitions.
use Rattle.std.proofs.Common.{◌≡◌, ℕ, [], ◌∷◌, None, Some, true, false, refl}
use Rattle.media_rows.specs.declared.event.EventKind.TheVariants.{FlowCreated}
use Rattle.media_rows.specs.declared.event.EventRow.{EventRow}
use Rattle.media_rows.specs.declared.hook.HookRow.{HookRow}
use Rattle.media_rows.specs.Outbox.{Outbox, after_delivered, waits_first}
use Rattle.webhook_outbox.specs.Posting.{posted_within, shown_in}

-- an event of hook 1
abbrev event : ℕ → EventRow
event serial = record { serial = serial; hook = 1; kind = FlowCreated; subject = 7; range = None; moment = 0 }

-- a hook that hasn't failed
abbrev hook : HookRow
hook = record {
  serial = 1;
  hook = record { url = 104 ∷ []; events = FlowCreated ∷ []; key_name = None; key_value = None; flow_ids = None; source_ids = None };
  failed = false;
}

-- an outbox in which two events wait
abbrev both : Outbox
both = record { hooks = hook ∷ []; events = event 2 ∷ event 3 ∷ [] }

-- the last serial may be the next one, and none behind it
the_last_serial : posted_within both (record { outbox = both; next = 9223372036854775807 }) ≡ record { outbox = both; next = Some 9223372036854775807 }
the_last_serial = refl

past_the_last : (made : Outbox) → posted_within both (record { outbox = made; next = 9223372036854775808 }) ≡ record { outbox = both; next = None }
past_the_last made = refl

-- the first event is delivered, and the other one waits
first_is : waits_first 2 both.events ≡ true
first_is = refl

second_is_not : waits_first 3 both.events ≡ false
second_is_not = refl

one_left : (after_delivered 2 both).events ≡ event 3 ∷ []
one_left = refl

-- the hook is shown with both
both_shown : shown_in both hook ≡ record { row = hook; waiting = 2 }
both_shown = refl
