-- Laws of outcomes and their statuses.
use Rattle.std.specs.Prelude.{◌≡◌, ◌≤◌}
use Rattle.tams_outcomes.specs.Statuses.{exit_of, number_of}
use Rattle.tams_outcomes.specs.declared.status.Status.{Status}
use Rattle.tams_outcomes.specs.declared.outcome.PlaylistRefusal.{PlaylistRefusal}
use Rattle.tams_outcomes.specs.declared.outcome.RunOutcome.{RunOutcome}
use Rattle.tams_outcomes.specs.declared.outcome.RunOutcome.TheVariants.{BadWords, Cut, DiskFault, NoMemory, NoPlaylist, LinkFault}

-- The statuses are 0 to 7, and 7 is that of a playlist that isn't said.
pub record NamedAreRefusals : Type 0 where
  pub most : (o : RunOutcome) → exit_of o ≤ 7
  pub named : (o : RunOutcome) → exit_of o ≡ 7
      → (refusal : PlaylistRefusal) × (o ≡ NoPlaylist refusal)

-- a number is that of one status at most
abbrev pub StatusesDiffer : Type 0
StatusesDiffer = (status other : Status) → number_of status ≡ number_of other → status ≡ other

-- The number of bad words, of each fault and of an input that was cut is that of one outcome alone.
pub record FaultsHaveOneOutcome : Type 0 where
  pub bad_words : (o : RunOutcome) → exit_of o ≡ 1 → o ≡ BadWords
  pub disk : (o : RunOutcome) → exit_of o ≡ 3 → o ≡ DiskFault
  pub memory : (o : RunOutcome) → exit_of o ≡ 4 → o ≡ NoMemory
  pub link : (o : RunOutcome) → exit_of o ≡ 5 → o ≡ LinkFault
  pub cut : (o : RunOutcome) → exit_of o ≡ 6 → o ≡ Cut
