-- A clock that stands, and a store in memory under way, which proofs alone need.
use Rattle.std.specs.Prelude.{◌≡◌, ℕ, zero, suc, Bool, true, List, [], ◌∷◌, ◌++◌, All, is_some, unwrap_or}
use Rattle.disk_trait.specs.Device.{Connection, Device}
use Rattle.generated_workload.specs.StoredBytes.{stored_total}
use Rattle.media_rows.specs.Library.{Library}
use Rattle.run_history.specs.Sessions.{Session}
use Rattle.run_history.specs.Traces.{counts_of_run, start_of, state_now, trace_of}
use Rattle.run_history.specs.Parts.{all_moments}
use Rattle.store_core.specs.Prepared as core
use Rattle.tams_machine.specs.Machine.{tams_machine}
use Rattle.tams_machine.specs.Requests.{TamsRequest}
use Rattle.store_commands.specs.Completeness.{IsAnswered}
use Rattle.store_commands.specs.Generating.{workload_base, workload_start}
use Rattle.store_commands.specs.Beginning.{BeginsFrom}
use Rattle.store_commands.specs.Opening.{line_counts}
use Rattle.store_commands.specs.declared.still_clock.StillClock.{StillClock}
use Rattle.store_commands.specs.declared.generating.StoreSizes.{StoreSizes}
use Rattle.store_commands.specs.declared.generating.Answered.{Answered}

-- so many times moment 0
abbrev pub zeros : ℕ → List ℕ
zeros zero = []
zeros (suc n) = zeros n ++ 0 ∷ []

-- whether a clock that stands tells the moments that it gave
abbrev pub tells_zeros : StillClock → Bool
tells_zeros clock = is_some clock.calls

-- these moments
abbrev pub zeros_given : StillClock → List ℕ
zeros_given clock = zeros (unwrap_or clock.calls 0)

-- A store was made in memory, no call of which failed, and no peer has come.
pub record IsMadeInMemory (d : Device) : Type 0 where
  pub begins : BeginsFrom workload_start d true []
  pub faults : d.faults ≡ 0
  pub link_faults : d.link.faults ≡ 0
  pub connections : d.link.connections ≡ []

-- one connection began, which heard these bytes to their end
pub record HeardToItsEnd (bytes : List ℕ) (connections : List Connection) : Type 0 where
  pub connection : Connection
  pub one : connections ≡ connection ∷ []
  pub heard : connection.heard ≡ bytes
  pub ended : connection.ended ≡ true

-- One connection heard these bytes to their end over the store, and each of its requests was
-- answered at moment 0; the device stands for the state behind them.
pub record HasAnswered (bytes : List ℕ) (d : Device) (n : Answered) : Type 0 where
  pub session : Session TamsRequest
  pub connection : Connection
  pub heard : connection.heard ≡ bytes
  pub ended : connection.ended ≡ true
  pub answered : IsAnswered workload_base workload_start connection session 0
  pub still : All (λ moment. moment ≡ 0)
      (all_moments (tams_machine workload_base) (start_of workload_start) (session ∷ []))
  pub requests : n.requests
      ≡ (counts_of_run (tams_machine workload_base) workload_start (session ∷ [])).answers
  pub changes : n.changes
      ≡ (counts_of_run (tams_machine workload_base) workload_start (session ∷ [])).changes
  pub stands : (tams_machine workload_base).stands d.seen
      (state_now (trace_of (tams_machine workload_base) workload_start (session ∷ [])))

-- what a store keeps of this library, and the bytes of its objects
abbrev pub kept_of_library : Library → StoreSizes
kept_of_library library =
    record { counts = line_counts (core.counts_of library); bytes = stored_total library.objects }
