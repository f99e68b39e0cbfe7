-- What the status of `format` says of its end. A status of another end is another number.
use Rattle.std.proofs.Common.{◌≡◌, ◌≢◌, ◌⊎◌, true, length, refl, inl, inr, arith}
use Rattle.disk_trait.specs.Device.{Device}
use Rattle.disk_trait.specs.Calls.{IsCounted}
use Rattle.media_journal.specs.declared.header.Header.{Header}
use Rattle.media_journal.specs.File.{HasOpenHeader}
use Rattle.media_journal.specs.Formatting.{FitsStore}
use Rattle.store_states.specs.States.{StandsFor}
use Rattle.tams_outcomes.specs.Statuses.{exit_of, no_disk_fault}
use Rattle.tams_outcomes.specs.Touching.{IsDoneOrRefused, Untouched}
use Rattle.tams_outcomes.specs.declared.outcome.RunOutcome.{RunOutcome}
use Rattle.tams_outcomes.specs.declared.outcome.RunOutcome.TheVariants.{Formatted, Checked, Migrated, AlreadyMigrated, Worked, Delivered, Served, Playlist, Generated, BadWords, NotStore, AlreadyStore, TooSmall, Damaged, DamagedObject, OldForm, DiskFault, NoMemory, LinkFault}
use Rattle.tams_outcomes.proofs.TouchingLemmas.{no_disk}
use Rattle.store_commands.specs.FormatEnds.{FormatCause, FormatEnds, FormatMoments}
use Rattle.store_commands.specs.Formatting.{empty_rows, formatted_state}
use Rattle.store_commands.proofs.FormattingLemmas.{untouched_bare}

module _ (old new : Device) (h : Header) where
  pub format_refused : (o : RunOutcome) → FormatCause old new h o → exit_of o ≡ 2
      → Untouched old new × (old.shows ≡ true → HasOpenHeader old.seen ⊎ ¬ (FitsStore h (length old.seen) empty_rows))
  format_refused AlreadyStore ends s = (ends.1, λ shows. inl (ends.0 shows))
  format_refused TooSmall ends s = (ends.1, λ shows. inr ((ends.0 shows).1))
  format_refused NotStore ends s = absurd ends
  format_refused (Damaged at) ends s = absurd ends
  format_refused (DamagedObject damaged) ends s = absurd ends
  format_refused OldForm ends s = absurd ends
  format_refused _ ends s = absurd (omega (arith, s))

  format_done : (o : RunOutcome) → FormatCause old new h o → exit_of o ≡ 0 → old.shows ≡ true → StandsFor new.seen (formatted_state h)
  format_done (Formatted blocks half media) ends s = ends.stands
  format_done (Checked counts) ends s = absurd ends
  format_done (Worked turns) ends s = absurd ends
  format_done (Delivered delivered waiting full) ends s = absurd ends
  format_done (Playlist objects) ends s = absurd ends
  format_done (Migrated objects rows) ends s = absurd ends
  format_done AlreadyMigrated ends s = absurd ends
  format_done (Served requests changes skipped) ends s = absurd ends
  format_done (Generated run) ends s = absurd ends
  format_done _ ends s = absurd (omega (arith, s))

  pub format_untouched : (o : RunOutcome) → FormatCause old new h o → exit_of o ≡ 4 → Untouched old new
  format_untouched NoMemory ends s = ends
  format_untouched LinkFault ends s = absurd ends
  format_untouched _ ends s = absurd (omega (arith, s))

  pub format_only : (o : RunOutcome) → FormatCause old new h o → old.shows ≡ true → HasOpenHeader old.seen ⊎ ¬ (FitsStore h (length old.seen) empty_rows)
      → (exit_of o ≡ 2) ⊎ ((exit_of o ≡ 3) ⊎ (exit_of o ≡ 4))
  format_only (Formatted blocks half media) ends shows cause =
      absurd (elim cause [ inl header ↦ ends.none shows header | inr misfit ↦ misfit (ends.fits shows) ])
  format_only AlreadyStore ends shows cause = inl refl
  format_only TooSmall ends shows cause = inl refl
  format_only DiskFault ends shows cause = inr (inl refl)
  format_only NoMemory ends shows cause = inr (inr refl)
  format_only _ ends shows cause = absurd ends

  -- where no call of the disk failed
  format_whole : (o : RunOutcome) → FormatCause old new h o → (o ≡ DiskFault → ⊥) → IsDoneOrRefused o
  format_whole (Formatted blocks half media) ends held = inl refl
  format_whole AlreadyStore ends held = inr (inl refl)
  format_whole TooSmall ends held = inr (inl refl)
  format_whole NoMemory ends held = inr (inr refl)
  format_whole DiskFault ends held = absurd (held refl)
  format_whole _ ends held = absurd ends

  -- words were read, and the link didn't fail
  pub format_words : (o : RunOutcome) → FormatCause old new h o → exit_of o ≢ 1
  format_words BadWords ends s = ends
  format_words _ ends s = omega (arith, s)

  pub format_unlinked : (o : RunOutcome) → FormatCause old new h o → exit_of o ≢ 5
  format_unlinked LinkFault ends s = ends
  format_unlinked _ ends s = omega (arith, s)

  -- the record of its ends
  pub format_ends : (o : RunOutcome) → IsCounted (no_disk_fault o) old.faults new.faults → FormatCause old new h o → FormatMoments old new h o
      → new.link ≡ old.link → FormatEnds h old new o
  format_ends o disk cause moments link = record {
    causes = cause;
    moments = moments;
    exit = format_done o cause;
    completeness = λ none. format_whole o cause (no_disk old new o disk none);
    link = link;
  }

  -- there was no memory before it began
  pub format_starved : Untouched old new → FormatEnds h old new NoMemory
  format_starved untouched = record {
    causes = untouched;
    moments = record {
      each = λ honest shows settled bare p left. inl (untouched_bare old new untouched.time settled bare p left);
      settled = λ honest s. absurd (omega (arith, s));
    };
    exit = λ s. absurd (omega (arith, s));
    completeness = λ none. inr (inr refl);
    link = untouched.link;
  }
