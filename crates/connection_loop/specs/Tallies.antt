-- The numbers of a run as they are plus_answer, answer by answer.
use Rattle.std.specs.Prelude.{◌≤◌, ◌+◌, ◌*◌, ℕ, Bool, if◌then◌else◌}
use Rattle.run_history.specs.Serving.{RunCounts}

-- an answer has at most two changes, its own and its turn's, and skips at most one turn
pub record IsTally (answers changes skipped : ℕ) : Type 0 where
  pub changes_few : changes ≤ 2 * answers
  pub skipped_few : skipped ≤ answers

-- the numbers of a run that hasn't begun
abbrev pub nothing_counted : RunCounts
nothing_counted = record { answers = 0; changes = 0; skipped = 0 }

-- the numbers with an answer more
abbrev pub plus_answer : ℕ → Bool → RunCounts → RunCounts
plus_answer changes skipped n = record {
  answers = n.answers + 1;
  changes = n.changes + changes;
  skipped = n.skipped + (if skipped then 1 else 0);
}
