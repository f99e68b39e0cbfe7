-- The ends of `replay` and of `serve`.
use Rattle.std.specs.Prelude.{◌≡◌, ◌≢◌, ◌≤◌, ◌⊎◌, ℕ, Bool, true, false, List}
use Rattle.disk_trait.specs.Device.{Device}
use Rattle.disk_trait.specs.Calls.{IsCounted, Rose}
use Rattle.store_states.specs.States.{StoreState}
use Rattle.tams_outcomes.specs.Statuses.{exit_of}
use Rattle.tams_outcomes.specs.Touching.{NoneRose, ServesNobody}
use Rattle.tams_outcomes.specs.declared.outcome.RunOutcome.{RunOutcome}
use Rattle.tams_outcomes.specs.declared.outcome.RunOutcome.TheVariants.{Cut, DiskFault, LinkFault, NoMemory}
use Rattle.store_commands.specs.Beginning.{BeginsFrom, beginning}
use Rattle.store_commands.specs.Opening.{OpenedCause}
use Rattle.store_commands.specs.Completeness.{AreServedWhole, IsServedWhole}
use Rattle.store_commands.specs.Histories.{OnePeer, Replayed, ServedAll}

-- ---- `replay`

-- The count of link faults over a run of `replay` by its end. Want of memory and a disk fault come
-- before it: behind them the link may have failed too.
abbrev pub LinkFaults : RunOutcome → ℕ → ℕ → Type 0
LinkFaults LinkFault before now = (before ≤ now) × Rose before now
LinkFaults DiskFault before now = before ≤ now
LinkFaults NoMemory before now = before ≤ now
LinkFaults _ before now = now ≡ before

-- Where a run of `replay` ended for want of memory nobody was served, or a request of the one
-- connection wanted it, or its turn.
abbrev pub StarvedAs : List ℕ → Device → Device → Bool → List ℕ → List ℕ → RunOutcome → Type 0
StarvedAs base old new clock begun given o = ServesNobody old new begun given
    ⊎ ((from : StoreState) → BeginsFrom from old clock begun
    → OnePeer base (beginning from old begun) new given o)

-- Each outcome of `replay` has its cause: in the file, in the count of link faults, and where there
-- was no memory. Where the file refuses it no clock was read.
pub record ReplayCauses (base : List ℕ) (old new : Device) (clock : Bool) (begun given : List ℕ)
    (o : RunOutcome) : Type 0 where
  pub file : OpenedCause old new o
  pub link : LinkFaults o old.link.faults new.link.faults
  pub memory : o ≡ NoMemory → StarvedAs base old new clock begun given o
  pub unread : exit_of o ≡ 2 → given ≡ begun

-- The ends of `replay`: each outcome has its cause; over a file that stands for a state one history
-- of its connection gives its answers, its moments, its exit and its line; where no call failed and
-- there was memory each request that was heard whole was answered whole, and the exit is by the
-- input alone. No connection is left open, and nobody is dialled.
pub record ReplayEnds (base : List ℕ) (old new : Device) (clock : Bool) (begun given : List ℕ)
    (o : RunOutcome) : Type 0 where
  pub causes : ReplayCauses base old new clock begun given o
  pub history : (from : StoreState) → BeginsFrom from old clock begun
      → Replayed base (beginning from old begun) new given o
  pub completeness : (from : StoreState) → BeginsFrom from old clock begun → NoneRose old new
      → exit_of o ≢ 4 → IsServedWhole base from old new begun given (exit_of o)
  pub closed : old.link.under_way ≡ false → new.link.under_way ≡ false
  pub dials : new.link.dials ≡ old.link.dials

-- ---- `serve`

-- waiting for each peer succeeded
abbrev pub no_peer_fault : RunOutcome → Bool
no_peer_fault LinkFault = false
no_peer_fault _ = true

-- Each outcome of `serve` has its cause. It ends with a link fault where waiting for a peer failed;
-- the link of each connection may fail too, which ends that connection alone. Want of memory ends
-- it before the first peer, and an input that is cut never does.
pub record ServeCauses (old new : Device) (begun given : List ℕ) (o : RunOutcome) : Type 0 where
  pub file : OpenedCause old new o
  pub peers : IsCounted (no_peer_fault o) old.link.peer_faults new.link.peer_faults
  pub link : o ≡ LinkFault → Rose old.link.faults new.link.faults
  pub memory : o ≡ NoMemory → ServesNobody old new begun given
  pub uncut : o ≢ Cut
  pub unread : exit_of o ≡ 2 → given ≡ begun

-- The ends of `serve`, like those of `replay`, of at most so many connections.
pub record ServeEnds (base : List ℕ) (old new : Device) (clock : Bool) (begun given : List ℕ)
    (connections : ℕ) (o : RunOutcome) : Type 0 where
  pub causes : ServeCauses old new begun given o
  pub history : (from : StoreState) → BeginsFrom from old clock begun
      → ServedAll base (beginning from old begun) old new given connections o
  pub completeness : (from : StoreState) → BeginsFrom from old clock begun → NoneRose old new
      → exit_of o ≢ 4 → AreServedWhole base from old new begun given connections (exit_of o)
  pub closed : old.link.under_way ≡ false → new.link.under_way ≡ false
  pub dials : new.link.dials ≡ old.link.dials
