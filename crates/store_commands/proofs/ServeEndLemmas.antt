-- What the statuses of `replay` and `serve` say of their ends. A status of another end is another number.
use Rattle.std.proofs.Common.{◌≡◌, ◌≢◌, ◌<◌, ◌⊎◌, ℕ, Bool, true, false, IsTrue, List, refl, ap, subst, inl, inr, arith}
use Rattle.disk_trait.specs.Device.{Device, IsDevice, Link}
use Rattle.disk_trait.specs.Calls.{IsCounted, Rose}
use Rattle.connection_loop.proofs.Turning.{counted_none}
use Rattle.tams_outcomes.specs.Statuses.{exit_of, no_disk_fault}
use Rattle.tams_outcomes.specs.Touching.{Untouched}
use Rattle.tams_outcomes.specs.declared.outcome.RunOutcome.{RunOutcome}
use Rattle.tams_outcomes.specs.declared.outcome.RunOutcome.TheVariants.{DiskFault, LinkFault, NoMemory}
use Rattle.tams_outcomes.proofs.TouchingLemmas.{none_dialled, stays_idle}
use Rattle.store_commands.specs.ServeEnds.{LinkFaults, ReplayEnds, ServeEnds, no_peer_fault}
use Rattle.store_commands.specs.Running.{ReplayRun, ServeRun}
use Rattle.store_commands.proofs.CompletenessLemmas.{all_served_whole, served_whole}
use Rattle.store_commands.proofs.RunningLemmas.{no_peer}

-- the count of link faults by the end of `replay`
pub replay_linked : (o : RunOutcome) (before now : ℕ) → LinkFaults o before now → o ≡ LinkFault → Rose before now
replay_linked o before now faults is = (subst (λ (p : RunOutcome). LinkFaults p before now) is faults).1

pub replay_linked_only : (o : RunOutcome) (before now : ℕ) → LinkFaults o before now → before < now
    → (exit_of o ≡ 3) ⊎ ((exit_of o ≡ 4) ⊎ (exit_of o ≡ 5))
replay_linked_only LinkFault before now faults rose = inr (inr refl)
replay_linked_only DiskFault before now faults rose = inl refl
replay_linked_only NoMemory before now faults rose = inr (inl refl)
replay_linked_only _ before now faults rose = absurd (omega (arith, faults, rose))

-- that of peer faults by the end of `serve`
peers_failed : (o : RunOutcome) → no_peer_fault o ≡ false → exit_of o ≡ 5
peers_failed LinkFault e = refl
peers_failed _ e = absurd cc

pub peers_rose : (o : RunOutcome) (held : Bool) (before now : ℕ) → no_peer_fault o ≡ held → (IsTrue held → now ≡ before) → before < now → exit_of o ≡ 5
peers_rose o true before now e stays rose = absurd (omega (arith, stays refl, rose))
peers_rose o false before now e stays rose = peers_failed o e

module _ (base : List ℕ) (old new : Device) (clock : Bool) (begun given : List ℕ) (o : RunOutcome)
    (disk : IsCounted (no_disk_fault o) old.faults new.faults) where
  -- the record of the ends of `replay`
  pub replay_whole : ReplayRun base old new clock begun given o → ReplayEnds base old new clock begun given o
  replay_whole run = record {
    causes = record { file = run.cause; link = run.link; memory = run.starved; unread = run.unread };
    history = run.history;
    completeness = λ from start none fed.
        served_whole base from old new begun given o disk none (replay_linked o old.link.faults new.link.faults run.link) fed (run.history from start);
    closed = run.closed;
    dials = run.dials;
  }

  -- and of those of `serve`
  pub serve_whole : (connections : ℕ) → ServeRun base old new clock begun given connections o → ServeEnds base old new clock begun given connections o
  serve_whole connections run = record {
    causes = record { file = run.cause; peers = run.peers; link = run.link; memory = run.starved; uncut = run.uncut; unread = run.unread };
    history = run.history;
    completeness = λ from start none fed. all_served_whole base from old new begun given o disk none run.link fed connections (run.history from start);
    closed = run.closed;
    dials = run.dials;
  }

-- ---- there was no memory before it began

module _ (base : List ℕ) (old new : Device) (clock : Bool) (begun : List ℕ) (sound : IsDevice old) (untouched : Untouched old new) where
  closed_still : old.link.under_way ≡ false → new.link.under_way ≡ false
  closed_still = stays_idle old new untouched.link

  pub replay_starved : ReplayEnds base old new clock begun begun NoMemory
  replay_starved = record {
    causes = record {
      file = tt;
      link = omega (arith, ap (λ (l : Link). l.faults) untouched.link);
      memory = λ e. inl (record { link = untouched.link; given_is = refl });
      unread = λ s. refl;
    };
    history = λ from start. inr (no_peer base old new clock begun NoMemory sound untouched tt from start);
    completeness = λ from start none fed. absurd (fed refl);
    closed = closed_still;
    dials = none_dialled old new untouched.link;
  }

  pub serve_starved : (connections : ℕ) → ServeEnds base old new clock begun begun connections NoMemory
  serve_starved connections = record {
    causes = record {
      file = tt;
      peers = counted_none old.link.peer_faults new.link.peer_faults (ap (λ (l : Link). l.peer_faults) untouched.link);
      link = λ e. absurd cc;
      memory = λ e. record { link = untouched.link; given_is = refl };
      uncut = λ e. absurd cc;
      unread = λ s. refl;
    };
    history = λ from start. inr (no_peer base old new clock begun NoMemory sound untouched tt from start);
    completeness = λ from start none fed. absurd (fed refl);
    closed = closed_still;
    dials = none_dialled old new untouched.link;
  }
