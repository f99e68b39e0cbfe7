-- What the status of `manifest` says of its end. A status of another end is another number.
use Rattle.std.proofs.Common.{◌≡◌, ◌≢◌, ◌⊎◌, ◌∙◌, true, refl, inl, inr, arith, ap}
use Rattle.disk_trait.specs.Device.{Device, Link}
use Rattle.disk_trait.specs.Calls.{IsCounted, Rose}
use Rattle.store_manifest.specs.Telling.{PlaylistAsked}
use Rattle.store_opening.specs.Laws.{RefusedStandForNone}
use Rattle.tams_outcomes.specs.Statuses.{exit_of, no_disk_fault}
use Rattle.tams_outcomes.specs.Touching.{Untouched}
use Rattle.tams_outcomes.specs.declared.outcome.RunOutcome.{RunOutcome}
use Rattle.tams_outcomes.specs.declared.outcome.RunOutcome.TheVariants.{Playlist, NoPlaylist, BadWords, Cut, NotStore, AlreadyStore, TooSmall, Damaged, DamagedObject, OldForm, DiskFault, NoMemory, LinkFault}
use Rattle.store_commands.specs.Opening.{StandsForNone}
use Rattle.store_commands.specs.ManifestEnds.{IsDoneOrNamed, ManifestCause, ManifestEnds, ManifestRun}
use Rattle.store_commands.specs.ServeEnds.{LinkFaults}
use Rattle.store_commands.proofs.ManifestLemmas.{unwritten}
use Rattle.store_commands.proofs.OpeningLemmas.{damage_found, none_found, other_found}

module _ (old new : Device) where
  pub manifest_refused : RefusedStandForNone → (o : RunOutcome) → ManifestCause old new o → exit_of o ≡ 2
      → Untouched old new × (old.shows ≡ true → StandsForNone old.seen)
  manifest_refused none NotStore cause s = none_found old new cause
  manifest_refused none (Damaged at) cause s = damage_found old new none at cause
  manifest_refused none OldForm cause s = other_found old new none cause
  manifest_refused none AlreadyStore cause s = absurd cause
  manifest_refused none TooSmall cause s = absurd cause
  manifest_refused none (DamagedObject damaged) cause s = absurd cause
  manifest_refused none _ cause s = absurd (omega (arith, s))

  pub manifest_only : (o : RunOutcome) → ManifestCause old new o → old.shows ≡ true → StandsForNone old.seen
      → (exit_of o ≡ 2) ⊎ ((exit_of o ≡ 3) ⊎ (exit_of o ≡ 4))
  manifest_only (Playlist objects) cause shows none = let stood = cause shows in absurd (none stood.0 stood.1)
  manifest_only (NoPlaylist refusal) cause shows none = let stood = cause shows in absurd (none stood.0 stood.1)
  manifest_only LinkFault cause shows none = let stood = cause shows in absurd (none stood.0 stood.1)
  manifest_only NotStore cause shows none = inl refl
  manifest_only (Damaged at) cause shows none = inl refl
  manifest_only OldForm cause shows none = inl refl
  manifest_only DiskFault cause shows none = inr (inl refl)
  manifest_only NoMemory cause shows none = inr (inr refl)
  manifest_only _ cause shows none = absurd cause

  -- where no call failed
  manifest_whole : (o : RunOutcome) → ManifestCause old new o → (o ≡ DiskFault → ⊥) → (o ≡ LinkFault → ⊥) → IsDoneOrNamed o
  manifest_whole (Playlist objects) cause held linked = inl (inl refl)
  manifest_whole (NoPlaylist refusal) cause held linked = inr refl
  manifest_whole NotStore cause held linked = inl (inr (inl refl))
  manifest_whole (Damaged at) cause held linked = inl (inr (inl refl))
  manifest_whole OldForm cause held linked = inl (inr (inl refl))
  manifest_whole NoMemory cause held linked = inl (inr (inr refl))
  manifest_whole DiskFault cause held linked = absurd (held refl)
  manifest_whole LinkFault cause held linked = absurd (linked refl)
  manifest_whole _ cause held linked = absurd cause

  -- words were read, and no request was heard
  pub manifest_words : (o : RunOutcome) → ManifestCause old new o → exit_of o ≢ 1
  manifest_words BadWords cause s = cause
  manifest_words _ cause s = omega (arith, s)

  pub manifest_uncut : (o : RunOutcome) → ManifestCause old new o → exit_of o ≢ 6
  manifest_uncut Cut cause s = cause
  manifest_uncut _ cause s = omega (arith, s)

  -- there was no memory
  pub manifest_untouched : (o : RunOutcome) → ManifestCause old new o → exit_of o ≡ 4 → Untouched old new
  manifest_untouched NoMemory cause s = cause
  manifest_untouched _ cause s = absurd (omega (arith, s))

  -- the link failed exactly at a link fault, unless a disk fault or want of memory comes before it
  pub manifest_linked : (o : RunOutcome) → LinkFaults o old.link.faults new.link.faults → exit_of o ≡ 5 → Rose old.link.faults new.link.faults
  manifest_linked LinkFault link s = link.1
  manifest_linked _ link s = absurd (omega (arith, s))

  -- the record of its ends
  pub manifest_ends : (asked : PlaylistAsked) (o : RunOutcome) → IsCounted (no_disk_fault o) old.faults new.faults → ManifestRun asked old new o
      → ManifestEnds asked old new o
  manifest_ends asked o disk run = record {
    causes = run.cause;
    told = run.told;
    link = run.link;
    completeness = λ none. manifest_whole o run.cause (λ is. none.disk (disk.rises (ap no_disk_fault is)))
        (λ is. none.link (manifest_linked o run.link (ap exit_of is)));
    unwritten = run.unwritten;
    closed = run.closed;
    dials = run.dials;
  }

  -- there was no memory before it began
  pub manifest_starved : (asked : PlaylistAsked) → Untouched old new → ManifestEnds asked old new NoMemory
  manifest_starved asked untouched = record {
    causes = untouched;
    told = λ shows from stands. tt;
    link = omega (arith, ap (λ (l : Link). l.faults) untouched.link);
    completeness = λ none. inl (inr (inr refl));
    unwritten = unwritten old new untouched;
    closed = λ idle. ap (λ (l : Link). l.under_way) untouched.link ∙ idle;
    dials = ap (λ (l : Link). l.dials) untouched.link;
  }
