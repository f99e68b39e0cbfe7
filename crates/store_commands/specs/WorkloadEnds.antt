-- The ends of `workload`.
use Rattle.std.specs.Prelude.{◌≡◌, ◌⊎◌, ℕ}
use Rattle.tams_outcomes.specs.Statuses.{exit_of}
use Rattle.tams_outcomes.specs.declared.outcome.RunOutcome.{RunOutcome}
use Rattle.tams_outcomes.specs.declared.outcome.RunOutcome.TheVariants.{Generated, NoMemory}
use Rattle.tams_outcomes.specs.declared.outcome.WorkloadRun.{WorkloadRun}
use Rattle.store_commands.specs.Generating.{IsWorkloadRun}

-- Each outcome has its cause: one history of the generated requests, or there was no memory.
abbrev pub WorkloadCause : ℕ → ℕ → RunOutcome → Type 0
WorkloadCause number count (Generated run) = IsWorkloadRun number count run
WorkloadCause number count NoMemory = Unit {0}
WorkloadCause number count _ = ⊥

-- The ends of `workload`: each outcome has its cause; at exit 0 its line has the numbers of one
-- history of its requests over an empty store in memory; and it is done, or there was no memory.
pub record WorkloadEnds (number count : ℕ) (o : RunOutcome) : Type 0 where
  pub causes : WorkloadCause number count o
  pub line : exit_of o ≡ 0
      → (run : WorkloadRun) × IsWorkloadRun number count run × (o ≡ Generated run)
  pub completeness : (exit_of o ≡ 0) ⊎ (exit_of o ≡ 4)
