-- What is answered where a change doesn't fit the journal, and the room that its record needs. Our
-- own rules.
use Rattle.std.specs.Prelude.{◌≤◌, ◌+◌, ◌*◌, ℕ, List, length, Option, Some, None, if◌then◌else◌}
use Rattle.media_rows.specs.declared.change.Change.{Change}
use Rattle.media_rows.specs.declared.refusal.Refusal.TheVariants.{JournalFull}
use Rattle.media_rows.specs.declared.reply.Reply.TheVariants.{Refused}
use Rattle.media_rows.specs.Answer.{Outcome, unchanged}
use Rattle.change_codec.specs.Fitting.{State, fits}
use Rattle.media_journal.specs.Journal.{Position}

-- an outcome, by its change: one that doesn't fit the journal is refused after all else
abbrev pub fitted_by : State → Outcome → Option Change → Outcome
fitted_by journal outcome None = outcome
fitted_by journal outcome (Some change) =
    if fits journal change then outcome else unchanged (Refused JournalFull)

-- an outcome, where its change fits the journal, if it has one
abbrev pub fitted : State → Outcome → Outcome
fitted journal outcome = fitted_by journal outcome outcome.change

-- The journal has room for a record: what is left of its half, or the other half behind the rows of
-- a checkpoint. A record takes 5 bytes beside its payload and needs one more for the gate behind
-- it, and the length of rows takes 8.
abbrev pub FitsJournal : Position → Option (List ℕ) → List ℕ → Type 0
FitsJournal p None payload = length payload + 6 ≤ p.room
FitsJournal p (Some rows) payload = length rows + length payload + 14 ≤ 4096 * p.half
