-- Posting, as far as it has come.
use Rattle.std.proofs.Common.{◌≡◌, Bool, true, false, Some, None, refl}
use Rattle.std.specs.Prelude.{nat_le, if◌then◌else◌}
use Rattle.media_rows.specs.Library.{last_serial}
use Rattle.media_rows.specs.Outbox.{Posted as Made}
use Rattle.webhook_outbox.specs.declared.outbox.Posted.{Posted}
use Rattle.webhook_outbox.specs.Posting.{posted_within}
use Rattle.core_registry.specs.Registry.{Registry, within}
use Rattle.core_registry.specs.Within.{registry_reached}

-- what posting gives is a registry unless serials have ended
pub posting_reaches : (registry : Registry) (made : Made)
    → registry_reached registry (posted_within registry.outbox made) ≡ within (record registry { outbox = made.outbox; next_serial = made.next })
posting_reaches registry made = by (nat_le made.next last_serial)
  where
    by : (t : Bool)
        → registry_reached registry (if t then record { outbox = made.outbox; next = Some made.next } else record { outbox = registry.outbox; next = None })
        ≡ (if t then Some (record registry { outbox = made.outbox; next_serial = made.next }) else None)
    by true = refl
    by false = refl
