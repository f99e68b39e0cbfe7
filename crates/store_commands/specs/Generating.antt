-- What a run of `workload` comes to: generated requests over an empty store in memory.
use Rattle.std.specs.Prelude.{◌≡◌, ℕ, true, List, [], ◌∷◌, All, codes}
use Rattle.disk_trait.specs.Device.{Connection}
use Rattle.generated_workload.specs.StoredBytes.{stored_total}
use Rattle.generated_workload.specs.Workload.{workload_requests}
use Rattle.run_history.specs.Sessions.{Session, run_effect}
use Rattle.run_history.specs.Traces.{counts_of_run, start_of, state_now, trace_of}
use Rattle.store_core.specs.Prepared as core
use Rattle.store_states.specs.States.{StoreState}
use Rattle.tams_machine.specs.Machine.{tams_machine}
use Rattle.tams_machine.specs.Requests.{TamsRequest}
use Rattle.store_commands.specs.Completeness.{IsAnswered}
use Rattle.store_commands.specs.Formatting.{formatted_state}
use Rattle.store_commands.specs.Opening.{line_counts}
use Rattle.tams_outcomes.specs.declared.outcome.WorkloadRun.{WorkloadRun}

-- the address under which its peer sees the store
abbrev pub workload_base : List ℕ
workload_base = codes "http://s"

-- the state in which the store begins
abbrev pub workload_start : StoreState
workload_start =
    formatted_state record { blocks = 2048; half = 256; id = 302240678275694148452353 }

-- The numbers of a run of one connection over that store: its answers, its changes, what the store
-- keeps at its end, and the bytes of all its stored objects.
abbrev pub workload_numbers : ℕ → ℕ → Session TamsRequest → WorkloadRun
workload_numbers number count session =
    let machine = tams_machine workload_base in
    let n = counts_of_run machine workload_start (session ∷ []) in
    let last = state_now (trace_of machine workload_start (session ∷ [])) in
    record {
      number = number;
      count = count;
      requests = n.answers;
      changes = n.changes;
      kept = line_counts (core.counts_of last.archive.library);
      bytes = stored_total last.archive.library.objects;
    }

-- The generated requests were heard to their end on one connection over the empty store. Each was
-- answered by the machine at moment 0, and each answer was said whole; none wanted memory, and no
-- turn was skipped. The numbers are those of this history.
pub record IsWorkloadRun (number count : ℕ) (run : WorkloadRun) : Type 0 where
  pub session : Session TamsRequest
  pub connection : Connection
  pub heard : connection.heard ≡ workload_requests number count
  pub ended : connection.ended ≡ true
  pub answered : IsAnswered workload_base workload_start connection session 0
  pub still : All (λ moment. moment ≡ 0)
      (run_effect (tams_machine workload_base) (start_of workload_start) (session ∷ [])).moments
  pub numbers : run ≡ workload_numbers number count session
