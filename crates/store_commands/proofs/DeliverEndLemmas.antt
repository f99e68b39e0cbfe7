-- What the status of `deliver` says of its end. A status of another end is another number.
use Rattle.std.proofs.Common.{◌≡◌, ◌≢◌, ◌⊎◌, ℕ, Bool, true, false, List, Err, refl, inl, inr, arith, ap, ◌∙◌}
use Rattle.disk_trait.specs.Device.{Device, IsDevice}
use Rattle.disk_trait.specs.Calls.{IsCounted}
use Rattle.media_store.specs.declared.fault.StoreFault.TheVariants.{Memory}
use Rattle.store_opening.specs.Laws.{RefusedStandForNone}
use Rattle.tams_outcomes.specs.Statuses.{exit_of, no_disk_fault}
use Rattle.tams_outcomes.specs.Touching.{IsDoneOrRefused, Untouched}
use Rattle.tams_outcomes.specs.declared.outcome.RunOutcome.{RunOutcome}
use Rattle.tams_outcomes.specs.declared.outcome.RunOutcome.TheVariants.{Delivered, BadWords, NotStore, AlreadyStore, TooSmall, Damaged, DamagedObject, OldForm, DiskFault, NoMemory, LinkFault}
use Rattle.store_commands.specs.Opening.{StandsForNone}
use Rattle.store_commands.specs.DeliverEnds.{DeliverCause, DeliverEnds, DeliverRun}
use Rattle.store_commands.proofs.OpeningLemmas.{damage_found, none_found, other_found}
use Rattle.store_commands.proofs.DeliverLemmas.{nothing_sent}

module _ (old new : Device) where
  pub deliver_refused : RefusedStandForNone → (o : RunOutcome) → DeliverCause old new o → exit_of o ≡ 2
      → Untouched old new × (old.shows ≡ true → StandsForNone old.seen)
  deliver_refused none NotStore cause s = none_found old new cause
  deliver_refused none (Damaged at) cause s = damage_found old new none at cause
  deliver_refused none OldForm cause s = other_found old new none cause
  deliver_refused none AlreadyStore cause s = absurd cause
  deliver_refused none TooSmall cause s = absurd cause
  deliver_refused none (DamagedObject damaged) cause s = absurd cause
  deliver_refused none _ cause s = absurd (omega (arith, s))

  pub deliver_only : (o : RunOutcome) → DeliverCause old new o → old.shows ≡ true → StandsForNone old.seen
      → (exit_of o ≡ 2) ⊎ ((exit_of o ≡ 3) ⊎ (exit_of o ≡ 4))
  deliver_only (Delivered delivered waiting full) cause shows none = let stood = cause shows in absurd (none stood.0 stood.1)
  deliver_only NotStore cause shows none = inl refl
  deliver_only (Damaged at) cause shows none = inl refl
  deliver_only OldForm cause shows none = inl refl
  deliver_only DiskFault cause shows none = inr (inl refl)
  deliver_only NoMemory cause shows none = inr (inr refl)
  deliver_only _ cause shows none = absurd cause

  -- where no call of the disk failed
  deliver_whole : (o : RunOutcome) → DeliverCause old new o → (o ≡ DiskFault → ⊥) → IsDoneOrRefused o
  deliver_whole (Delivered delivered waiting full) cause held = inl refl
  deliver_whole NotStore cause held = inr (inl refl)
  deliver_whole (Damaged at) cause held = inr (inl refl)
  deliver_whole OldForm cause held = inr (inl refl)
  deliver_whole NoMemory cause held = inr (inr refl)
  deliver_whole DiskFault cause held = absurd (held refl)
  deliver_whole _ cause held = absurd cause

  -- words were read, and the link didn't fail
  pub deliver_words : (o : RunOutcome) → DeliverCause old new o → exit_of o ≢ 1
  deliver_words BadWords cause s = cause
  deliver_words _ cause s = omega (arith, s)

  pub deliver_unlinked : (o : RunOutcome) → DeliverCause old new o → exit_of o ≢ 5
  deliver_unlinked LinkFault cause s = cause
  deliver_unlinked _ cause s = omega (arith, s)

  -- the record of its ends
  pub deliver_ends : (clock : Bool) (begun given : List ℕ) (o : RunOutcome) → IsCounted (no_disk_fault o) old.faults new.faults
      → DeliverRun old new clock begun given o → DeliverEnds old new clock begun given o
  deliver_ends clock begun given o disk run = record {
    causes = run.cause;
    history = run.history;
    completeness = λ none. deliver_whole o run.cause (λ is. none (disk.rises (ap no_disk_fault is)));
    closed = run.closed;
    peers = run.peers;
    unread = run.unread;
  }

  -- there was no memory before it began
  pub deliver_starved : (clock : Bool) (begun : List ℕ) → IsDevice old → Untouched old new → DeliverEnds old new clock begun begun NoMemory
  deliver_starved clock begun sound untouched = record {
    causes = tt;
    history = λ from start. record {
      end = Err Memory;
      delivered = nothing_sent old new clock begun (Err Memory) false sound untouched from start (refl, inl (refl, refl));
      line = refl;
    };
    completeness = λ none. inr (inr refl);
    closed = λ before. ap (λ l. l.under_way) untouched.link ∙ before;
    peers = ap (λ l. l.peer_faults) untouched.link;
    unread = λ s. refl;
  }
