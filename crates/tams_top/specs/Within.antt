-- The end of a run as it is proved, which proofs alone need: what came of the words, with its end.
use Rattle.std.specs.Prelude.{◌≡◌, ◌⊎◌, ℕ, Bool, List}
use Rattle.disk_trait.specs.Device.{Device}
use Rattle.disk_trait.specs.Calls.{IsCounted}
use Rattle.store_commands.specs.CheckEnds.{CheckEnds}
use Rattle.store_commands.specs.DeliverEnds.{DeliverEnds}
use Rattle.store_commands.specs.FormatEnds.{FormatEnds}
use Rattle.store_commands.specs.ManifestEnds.{ManifestEnds}
use Rattle.store_commands.specs.MigrateEnds.{MigrateEnds}
use Rattle.store_commands.specs.ServeEnds.{ReplayEnds, ServeEnds}
use Rattle.tams_outcomes.specs.Statuses.{no_disk_fault}
use Rattle.tams_outcomes.specs.Touching.{Untouched}
use Rattle.tams_outcomes.specs.declared.outcome.RunOutcome.{RunOutcome}
use Rattle.tams_outcomes.specs.declared.outcome.RunOutcome.TheVariants.{BadWords, NoMemory}
use Rattle.tams_words.specs.Words.{IsCommand, IsNoCommand}
use Rattle.tams_words.specs.declared.words.Invocation.{Invocation}
use Rattle.tams_words.specs.declared.words.Invocation.TheVariants.{Format, Check, Migrate, Work, Deliver, Replay, Serve, Manifest, Workload}
use Rattle.store_commands.specs.WorkEnds.{WorkEnds}
use Rattle.store_commands.specs.WorkloadEnds.{WorkloadEnds}

-- the ends of a command
abbrev pub EndsBy : Device → Device → Bool → List ℕ → List ℕ → RunOutcome → Invocation → Type 0
EndsBy old new clock begun given o (Format path blocks half id) =
    FormatEnds record { blocks = blocks; half = half; id = id } old new o × (given ≡ begun)
EndsBy old new clock begun given o (Check path) = CheckEnds old new o × (given ≡ begun)
EndsBy old new clock begun given o (Migrate path) = MigrateEnds old new o × (given ≡ begun)
EndsBy old new clock begun given o (Work path) = WorkEnds old new clock begun given o
EndsBy old new clock begun given o (Deliver path) = DeliverEnds old new clock begun given o
EndsBy old new clock begun given o (Replay path base) =
    ReplayEnds base old new clock begun given o
EndsBy old new clock begun given o (Serve path port base connections) =
    ServeEnds base old new clock begun given connections o
EndsBy old new clock begun given o (Manifest path base flow range) =
    ManifestEnds record { base = base; flow = flow; range = range } old new o × (given ≡ begun)
EndsBy old new clock begun given o (Workload number count) =
    WorkloadEnds number count o × Untouched old new × (given ≡ begun)

-- no memory to read the words, or words that are no command, which leave the site and the clock as
-- they were; or the end of their command
abbrev pub EndCause : List (List ℕ) → Device → Device → Bool → List ℕ → List ℕ → RunOutcome → Type 0
EndCause words old new clock begun given o =
    ((o ≡ NoMemory) × (given ≡ begun) × Untouched old new)
    ⊎ (((o ≡ BadWords) × IsNoCommand words × Untouched old new × (given ≡ begun))
    ⊎ ((command : Invocation) × IsCommand words command
    × EndsBy old new clock begun given o command))

-- a run: the count of disk faults by its end, and the end's cause
pub record EndsWithCause (words : List (List ℕ)) (old new : Device) (clock : Bool)
    (begun given : List ℕ)
    (o : RunOutcome) : Type 0 where
  pub disk : IsCounted (no_disk_fault o) old.faults new.faults
  pub cause : EndCause words old new clock begun given o
