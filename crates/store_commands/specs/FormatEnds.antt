-- The ends of `format`.
use Rattle.std.specs.Prelude.{◌≡◌, ◌-◌, ◌+◌, ◌*◌, ◌⊎◌, ℕ, true, length}
use Rattle.disk_trait.specs.Device.{Device, Left}
use Rattle.media_journal.specs.declared.header.Header.{Header}
use Rattle.media_journal.specs.File.{HasOpenHeader}
use Rattle.media_journal.specs.Formatting.{FitsStore}
use Rattle.store_states.specs.States.{StandsFor}
use Rattle.tams_outcomes.specs.Statuses.{exit_of}
use Rattle.tams_outcomes.specs.Touching.{IsDoneOrRefused, IsSettled, NoneRose, Untouched}
use Rattle.tams_outcomes.specs.declared.outcome.RunOutcome.{RunOutcome}
use Rattle.tams_outcomes.specs.declared.outcome.RunOutcome.TheVariants.{Formatted, AlreadyStore, TooSmall, DiskFault, NoMemory}
use Rattle.store_commands.specs.Formatting.{empty_rows, formatted_state}

-- A store was made of a device that had none, and the outcome has its numbers.
pub record IsMade (old new : Device) (h : Header) (blocks half media : ℕ) : Type 0 where
  pub blocks_is : blocks ≡ h.blocks
  pub half_is : half ≡ h.half
  pub media_is : media ≡ h.blocks - (2 * h.half + 2)
  pub none : old.shows ≡ true → ¬ (HasOpenHeader old.seen)
  pub fits : old.shows ≡ true → FitsStore h (length old.seen) empty_rows
  pub stands : old.shows ≡ true → StandsFor new.seen (formatted_state h)

-- Each outcome has its cause: the store was made, there is one already, its numbers or rows don't
-- fit, the disk failed, or there was no memory.
abbrev pub FormatCause : Device → Device → Header → RunOutcome → Type 0
FormatCause old new h (Formatted blocks half media) = IsMade old new h blocks half media
FormatCause old new h AlreadyStore =
    (old.shows ≡ true → HasOpenHeader old.seen) × Untouched old new
FormatCause old new h TooSmall =
    (old.shows ≡ true → (¬ (HasOpenHeader old.seen))
    × (¬ (FitsStore h (length old.seen) empty_rows))) × Untouched old new
FormatCause old new h DiskFault = Unit {0}
FormatCause old new h NoMemory = Untouched old new
FormatCause old new h _ = ⊥

-- What a crash at each moment leaves of an honest device that had no store, with nothing pending:
-- no store, or the new one. Once it was made nothing is pending.
pub record FormatMoments (old new : Device) (h : Header) (o : RunOutcome) : Type 0 where
  pub each : old.honest ≡ true → old.shows ≡ true → IsSettled old → ¬ (HasOpenHeader old.seen)
      → (p : Left) → new.left_since old.moment p → (¬ (HasOpenHeader p.image))
      ⊎ StandsFor p.image (formatted_state h)
  pub settled : old.honest ≡ true → exit_of o ≡ 0 → IsSettled new

-- The ends of `format` with the numbers of its words: each outcome has its cause, which fixes the
-- numbers of its line; at each moment a crash leaves no store or the new one; at exit 0 the file
-- stands for the empty library; where no call failed it is done, or refused by its cause. It waits
-- for no peer.
pub record FormatEnds (h : Header) (old new : Device) (o : RunOutcome) : Type 0 where
  pub causes : FormatCause old new h o
  pub moments : FormatMoments old new h o
  pub exit : exit_of o ≡ 0 → old.shows ≡ true → StandsFor new.seen (formatted_state h)
  pub completeness : NoneRose old new → IsDoneOrRefused o
  pub link : new.link ≡ old.link
