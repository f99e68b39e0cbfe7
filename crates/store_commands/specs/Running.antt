-- The ends of `replay` and `serve` as they are proved, which proofs alone need.
use Rattle.std.specs.Prelude.{◌≡◌, ◌≢◌, ◌≤◌, ◌⊎◌, ℕ, Bool, true, false, List}
use Rattle.disk_trait.specs.Device.{Device}
use Rattle.disk_trait.specs.Calls.{IsCounted, Rose}
use Rattle.store_states.specs.States.{StoreState}
use Rattle.tams_outcomes.specs.Statuses.{exit_of}
use Rattle.tams_outcomes.specs.Touching.{ServesNobody}
use Rattle.tams_outcomes.specs.declared.outcome.RunOutcome.{RunOutcome}
use Rattle.tams_outcomes.specs.declared.outcome.RunOutcome.TheVariants.{Cut, LinkFault, NoMemory}
use Rattle.store_commands.specs.Beginning.{BeginsFrom, beginning}
use Rattle.store_commands.specs.Opening.{OpenedCause}
use Rattle.store_commands.specs.ServeEnds.{LinkFaults, StarvedAs, no_peer_fault}
use Rattle.store_commands.specs.Histories.{Replayed, ServedAll}

-- The ends of `replay`, each with its cause, and the one history of all that was heard, told and
-- left. No connection is left open, and nobody is dialled.
pub record ReplayRun (base : List ℕ) (old new : Device) (clock : Bool) (begun given : List ℕ)
    (o : RunOutcome) : Type 0 where
  pub cause : OpenedCause old new o
  pub link : LinkFaults o old.link.faults new.link.faults
  pub history : (from : StoreState) → BeginsFrom from old clock begun
      → Replayed base (beginning from old begun) new given o
  pub starved : o ≡ NoMemory → StarvedAs base old new clock begun given o
  pub closed : old.link.under_way ≡ false → new.link.under_way ≡ false
  pub dials : new.link.dials ≡ old.link.dials
  pub unread : exit_of o ≡ 2 → given ≡ begun

-- The same of `serve`. It ends with a link fault where waiting for a peer failed; the link of each
-- connection may fail too, which ends that connection alone. Want of memory ends it before the
-- first peer.
pub record ServeRun (base : List ℕ) (old new : Device) (clock : Bool) (begun given : List ℕ)
    (connections : ℕ) (o : RunOutcome) : Type 0 where
  pub cause : OpenedCause old new o
  pub peers : IsCounted (no_peer_fault o) old.link.peer_faults new.link.peer_faults
  pub link : o ≡ LinkFault → Rose old.link.faults new.link.faults
  pub history : (from : StoreState) → BeginsFrom from old clock begun
      → ServedAll base (beginning from old begun) old new given connections o
  pub starved : o ≡ NoMemory → ServesNobody old new begun given
  pub uncut : o ≢ Cut
  pub closed : old.link.under_way ≡ false → new.link.under_way ≡ false
  pub dials : new.link.dials ≡ old.link.dials
  pub unread : exit_of o ≡ 2 → given ≡ begun
