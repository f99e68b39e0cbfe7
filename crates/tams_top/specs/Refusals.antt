-- Why a file refuses a command.
use Rattle.std.specs.Prelude.{◌⊎◌, ℕ, List, length}
use Rattle.media_journal.specs.File.{HasOpenHeader}
use Rattle.media_journal.specs.Formatting.{FitsStore}
use Rattle.store_commands.specs.CheckEnds.{RefusesCheck}
use Rattle.store_commands.specs.Formatting.{empty_rows}
use Rattle.store_commands.specs.MigrateEnds.{RefusesMigrate}
use Rattle.store_commands.specs.Opening.{StandsForNone}
use Rattle.tams_words.specs.declared.words.Invocation.{Invocation}
use Rattle.tams_words.specs.declared.words.Invocation.TheVariants.{Format, Check, Migrate, Work, Deliver, Replay, Serve, Manifest, Workload}

-- There is a store already, or the numbers make none of the file's length; and the file stands for
-- no state, or for `check` for one with an object that isn't whole. A `migrate` is refused where it
-- stands for none by a half of form 1 either, or its rows have no room. A `workload` never is.
abbrev pub RefusedFor : List ℕ → Invocation → Type 0
RefusedFor image (Format path blocks half id) = HasOpenHeader image
    ⊎ ¬ (FitsStore record { blocks = blocks; half = half; id = id } (length image) empty_rows)
RefusedFor image (Check path) = RefusesCheck image
RefusedFor image (Migrate path) = RefusesMigrate image
RefusedFor image (Work path) = StandsForNone image
RefusedFor image (Deliver path) = StandsForNone image
RefusedFor image (Replay path base) = StandsForNone image
RefusedFor image (Serve path port base connections) = StandsForNone image
RefusedFor image (Manifest path base flow range) = StandsForNone image
RefusedFor image (Workload number count) = ⊥
