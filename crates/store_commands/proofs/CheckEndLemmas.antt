-- What the status of `check` says of its end. A status of another end is another number.
use Rattle.std.proofs.Common.{◌≡◌, ◌≢◌, ◌⊎◌, ℕ, true, refl, ap, inl, inr, arith}
use Rattle.disk_trait.specs.Device.{Device}
use Rattle.disk_trait.specs.Calls.{IsCounted}
use Rattle.store_opening.specs.Laws.{RefusedStandForNone}
use Rattle.store_states.specs.States.{StandsFor, StoreState}
use Rattle.tams_outcomes.specs.Statuses.{exit_of, no_disk_fault}
use Rattle.tams_outcomes.specs.Touching.{IsDoneOrRefused, Untouched}
use Rattle.tams_outcomes.specs.declared.outcome.RunOutcome.{RunOutcome}
use Rattle.tams_outcomes.specs.declared.outcome.RunOutcome.TheVariants.{Formatted, Checked, Migrated, AlreadyMigrated, Worked, Delivered, Served, Playlist, Generated, BadWords, NotStore, AlreadyStore, TooSmall, Damaged, DamagedObject, OldForm, DiskFault, NoMemory, LinkFault}
use Rattle.tams_outcomes.proofs.TouchingLemmas.{no_disk}
use Rattle.store_commands.proofs.OpeningLemmas.{damage_found, none_found, other_found}
use Rattle.store_commands.specs.CheckEnds.{CheckCause, CheckEnds, RefusesCheck, counts_in}
use Rattle.store_commands.specs.Probing.{AreWhole}
use Rattle.store_commands.proofs.ProbingLemmas.{damaged_not_whole}

module _ (old new : Device) where
  -- it writes nothing
  check_untouched : (o : RunOutcome) → CheckCause old new o → Untouched old new
  check_untouched (Checked counts) ends = ends.1
  check_untouched NotStore ends = ends.1
  check_untouched (Damaged at) ends = ends.1
  check_untouched (DamagedObject damaged) ends = ends.1
  check_untouched OldForm ends = ends.1
  check_untouched DiskFault ends = ends
  check_untouched NoMemory ends = ends
  check_untouched _ ends = absurd ends

  pub check_refused : RefusedStandForNone → (o : RunOutcome) → CheckCause old new o → exit_of o ≡ 2
      → Untouched old new × (old.shows ≡ true → RefusesCheck old.seen)
  check_refused none NotStore ends s = let found = none_found old new ends in (found.0, λ shows. inl (found.1 shows))
  check_refused none (Damaged at) ends s = let found = damage_found old new none at ends in (found.0, λ shows. inl (found.1 shows))
  check_refused none OldForm ends s = let found = other_found old new none ends in (found.0, λ shows. inl (found.1 shows))
  check_refused none (DamagedObject damaged) ends s = (
    ends.1,
    λ shows.
        let has = ends.0 shows in
        let (from, stands) = has.stands in
        inr (record { from = from; stands = stands; damaged = damaged_not_whole from.archive damaged (has.first from stands) }),
  )
  check_refused none AlreadyStore ends s = absurd ends
  check_refused none TooSmall ends s = absurd ends
  check_refused none _ ends s = absurd (omega (arith, s))

  pub check_only : (o : RunOutcome) → CheckCause old new o → old.shows ≡ true → RefusesCheck old.seen
      → (exit_of o ≡ 2) ⊎ ((exit_of o ≡ 3) ⊎ (exit_of o ≡ 4))
  check_only (Checked counts) ends shows (inl none) = let stood = (ends.0 shows).stands in absurd (none stood.0 stood.1)
  check_only (Checked counts) ends shows (inr has) = absurd (has.damaged ((ends.0 shows).whole has.from has.stands))
  check_only NotStore ends shows refuses = inl refl
  check_only (Damaged at) ends shows refuses = inl refl
  check_only (DamagedObject damaged) ends shows refuses = inl refl
  check_only OldForm ends shows refuses = inl refl
  check_only DiskFault ends shows refuses = inr (inl refl)
  check_only NoMemory ends shows refuses = inr (inr refl)
  check_only _ ends shows refuses = absurd ends

  -- a store that was checked has the counts of the state for which the file stands
  check_done : (o : RunOutcome) → CheckCause old new o → exit_of o ≡ 0 → old.shows ≡ true → (from : StoreState) → StandsFor old.seen from
      → o ≡ Checked (counts_in from)
  check_done (Checked counts) ends s shows from stands = ap Checked ((ends.0 shows).counts_are from stands)
  check_done (Formatted blocks half media) ends s shows from stands = absurd ends
  check_done (Worked turns) ends s shows from stands = absurd ends
  check_done (Delivered delivered waiting full) ends s shows from stands = absurd ends
  check_done (Playlist objects) ends s shows from stands = absurd ends
  check_done (Migrated objects rows) ends s shows from stands = absurd ends
  check_done AlreadyMigrated ends s shows from stands = absurd ends
  check_done (Served requests changes skipped) ends s shows from stands = absurd ends
  check_done (Generated run) ends s shows from stands = absurd ends
  check_done _ ends s shows from stands = absurd (omega (arith, s))

  -- and each object of it is whole
  check_probed : (o : RunOutcome) → CheckCause old new o → exit_of o ≡ 0 → old.shows ≡ true → (from : StoreState) → StandsFor old.seen from
      → AreWhole from.archive
  check_probed (Checked counts) ends s shows from stands = (ends.0 shows).whole from stands
  check_probed (Formatted blocks half media) ends s shows from stands = absurd ends
  check_probed (Worked turns) ends s shows from stands = absurd ends
  check_probed (Delivered delivered waiting full) ends s shows from stands = absurd ends
  check_probed (Playlist objects) ends s shows from stands = absurd ends
  check_probed (Migrated objects rows) ends s shows from stands = absurd ends
  check_probed AlreadyMigrated ends s shows from stands = absurd ends
  check_probed (Served requests changes skipped) ends s shows from stands = absurd ends
  check_probed (Generated run) ends s shows from stands = absurd ends
  check_probed _ ends s shows from stands = absurd (omega (arith, s))

  -- where no call of the disk failed
  check_whole : (o : RunOutcome) → CheckCause old new o → (o ≡ DiskFault → ⊥) → IsDoneOrRefused o
  check_whole (Checked counts) ends held = inl refl
  check_whole NotStore ends held = inr (inl refl)
  check_whole (Damaged at) ends held = inr (inl refl)
  check_whole (DamagedObject damaged) ends held = inr (inl refl)
  check_whole OldForm ends held = inr (inl refl)
  check_whole NoMemory ends held = inr (inr refl)
  check_whole DiskFault ends held = absurd (held refl)
  check_whole _ ends held = absurd ends

  -- words were read, and the link didn't fail
  pub check_words : (o : RunOutcome) → CheckCause old new o → exit_of o ≢ 1
  check_words BadWords ends s = ends
  check_words _ ends s = omega (arith, s)

  pub check_unlinked : (o : RunOutcome) → CheckCause old new o → exit_of o ≢ 5
  check_unlinked LinkFault ends s = ends
  check_unlinked _ ends s = omega (arith, s)

  -- the record of its ends
  pub check_ends : (o : RunOutcome) → IsCounted (no_disk_fault o) old.faults new.faults → CheckCause old new o → CheckEnds old new o
  check_ends o disk cause = record {
    causes = cause;
    line = check_done o cause;
    whole = check_probed o cause;
    completeness = λ none. check_whole o cause (no_disk old new o disk none);
    untouched = check_untouched o cause;
  }

  -- there was no memory before it began
  pub check_starved : Untouched old new → CheckEnds old new NoMemory
  check_starved untouched = record {
    causes = untouched;
    line = λ s. absurd (omega (arith, s));
    whole = λ s. absurd (omega (arith, s));
    completeness = λ none. inr (inr refl);
    untouched = untouched;
  }
