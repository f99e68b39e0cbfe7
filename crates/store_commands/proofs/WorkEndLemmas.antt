-- What the status of `work` says of its end. A status of another end is another number.
use Rattle.std.proofs.Common.{◌≡◌, ◌≢◌, ◌⊎◌, ℕ, Bool, true, List, Err, refl, inl, inr, arith}
use Rattle.disk_trait.specs.Device.{Device, IsDevice}
use Rattle.disk_trait.specs.Calls.{IsCounted}
use Rattle.media_store.specs.declared.fault.StoreFault.TheVariants.{Memory}
use Rattle.store_opening.specs.Laws.{RefusedStandForNone}
use Rattle.tams_outcomes.specs.Statuses.{exit_of, no_disk_fault}
use Rattle.tams_outcomes.specs.Touching.{IsDoneOrRefused, Untouched}
use Rattle.tams_outcomes.specs.declared.outcome.RunOutcome.{RunOutcome}
use Rattle.tams_outcomes.specs.declared.outcome.RunOutcome.TheVariants.{Worked, BadWords, NotStore, AlreadyStore, TooSmall, Damaged, DamagedObject, OldForm, DiskFault, NoMemory, LinkFault}
use Rattle.tams_outcomes.proofs.TouchingLemmas.{no_disk}
use Rattle.store_commands.specs.Opening.{StandsForNone}
use Rattle.store_commands.proofs.OpeningLemmas.{damage_found, none_found, other_found}
use Rattle.store_commands.specs.WorkEnds.{WorkCause, WorkEnds}
use Rattle.store_commands.specs.Turning.{WorkRun}
use Rattle.store_commands.proofs.WorkingLemmas.{no_turns}

module _ (old new : Device) where
  pub work_refused : RefusedStandForNone → (o : RunOutcome) → WorkCause old new o → exit_of o ≡ 2
      → Untouched old new × (old.shows ≡ true → StandsForNone old.seen)
  work_refused none NotStore cause s = none_found old new cause
  work_refused none (Damaged at) cause s = damage_found old new none at cause
  work_refused none OldForm cause s = other_found old new none cause
  work_refused none AlreadyStore cause s = absurd cause
  work_refused none TooSmall cause s = absurd cause
  work_refused none (DamagedObject damaged) cause s = absurd cause
  work_refused none _ cause s = absurd (omega (arith, s))

  pub work_only : (o : RunOutcome) → WorkCause old new o → old.shows ≡ true → StandsForNone old.seen
      → (exit_of o ≡ 2) ⊎ ((exit_of o ≡ 3) ⊎ (exit_of o ≡ 4))
  work_only (Worked turns) cause shows none = let stood = cause shows in absurd (none stood.0 stood.1)
  work_only NotStore cause shows none = inl refl
  work_only (Damaged at) cause shows none = inl refl
  work_only OldForm cause shows none = inl refl
  work_only DiskFault cause shows none = inr (inl refl)
  work_only NoMemory cause shows none = inr (inr refl)
  work_only _ cause shows none = absurd cause

  -- where no call of the disk failed
  work_whole : (o : RunOutcome) → WorkCause old new o → (o ≡ DiskFault → ⊥) → IsDoneOrRefused o
  work_whole (Worked turns) cause held = inl refl
  work_whole NotStore cause held = inr (inl refl)
  work_whole (Damaged at) cause held = inr (inl refl)
  work_whole OldForm cause held = inr (inl refl)
  work_whole NoMemory cause held = inr (inr refl)
  work_whole DiskFault cause held = absurd (held refl)
  work_whole _ cause held = absurd cause

  -- words were read, and the link didn't fail
  pub work_words : (o : RunOutcome) → WorkCause old new o → exit_of o ≢ 1
  work_words BadWords cause s = cause
  work_words _ cause s = omega (arith, s)

  pub work_unlinked : (o : RunOutcome) → WorkCause old new o → exit_of o ≢ 5
  work_unlinked LinkFault cause s = cause
  work_unlinked _ cause s = omega (arith, s)

  -- the record of its ends
  pub work_ends : (clock : Bool) (begun given : List ℕ) (o : RunOutcome) → IsCounted (no_disk_fault o) old.faults new.faults
      → WorkRun old new clock begun given o → WorkEnds old new clock begun given o
  work_ends clock begun given o disk run = record {
    causes = run.cause;
    history = run.history;
    completeness = λ none. work_whole o run.cause (no_disk old new o disk none);
    link = run.link;
    unread = run.unread;
  }

  -- there was no memory before it began
  pub work_starved : (clock : Bool) (begun : List ℕ) → IsDevice old → Untouched old new → WorkEnds old new clock begun begun NoMemory
  work_starved clock begun sound untouched = record {
    causes = tt;
    history = λ from start. record {
      end = Err Memory;
      worked = no_turns old new clock begun (Err Memory) sound untouched from start (refl, inl (refl, refl));
      line = refl;
    };
    completeness = λ none. inr (inr refl);
    link = untouched.link;
    unread = λ s. refl;
  }
