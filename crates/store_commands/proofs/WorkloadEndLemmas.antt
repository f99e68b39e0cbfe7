-- What the status of `workload` says of its end. A status of another end is another number.
use Rattle.std.proofs.Common.{◌≡◌, ◌⊎◌, ℕ, refl, inl, inr, arith}
use Rattle.tams_outcomes.specs.Statuses.{exit_of}
use Rattle.tams_outcomes.specs.declared.outcome.RunOutcome.{RunOutcome}
use Rattle.tams_outcomes.specs.declared.outcome.RunOutcome.TheVariants.{Formatted, Checked, Migrated, AlreadyMigrated, Worked, Delivered, Served, Playlist, Generated, NoMemory}
use Rattle.tams_outcomes.specs.declared.outcome.WorkloadRun.{WorkloadRun}
use Rattle.store_commands.specs.WorkloadEnds.{WorkloadCause, WorkloadEnds}
use Rattle.store_commands.specs.Generating.{IsWorkloadRun}

module _ (number count : ℕ) where
  -- the run whose numbers it ended with
  workload_done : (o : RunOutcome) → WorkloadCause number count o → exit_of o ≡ 0
      → (run : WorkloadRun) × IsWorkloadRun number count run × (o ≡ Generated run)
  workload_done (Generated run) ends s = (run, ends, refl)
  workload_done (Formatted blocks half media) ends s = absurd ends
  workload_done (Checked counts) ends s = absurd ends
  workload_done (Worked turns) ends s = absurd ends
  workload_done (Delivered delivered waiting full) ends s = absurd ends
  workload_done (Playlist objects) ends s = absurd ends
  workload_done (Migrated objects rows) ends s = absurd ends
  workload_done AlreadyMigrated ends s = absurd ends
  workload_done (Served requests changes skipped) ends s = absurd ends
  workload_done _ ends s = absurd (omega (arith, s))

  workload_whole : (o : RunOutcome) → WorkloadCause number count o → (exit_of o ≡ 0) ⊎ (exit_of o ≡ 4)
  workload_whole (Generated run) ends = inl refl
  workload_whole NoMemory ends = inr refl
  workload_whole _ ends = absurd ends

  -- the record of its ends
  pub workload_ends : (o : RunOutcome) → WorkloadCause number count o → WorkloadEnds number count o
  workload_ends o cause = record { causes = cause; line = workload_done o cause; completeness = workload_whole o cause }

  -- there was no memory before it began
  pub workload_starved : WorkloadEnds number count NoMemory
  workload_starved = workload_ends NoMemory tt
