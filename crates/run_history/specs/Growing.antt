-- How a trace grows, call by call. The proofs speak in these; whoever reads the claim may pass over
-- them.
use Rattle.std.specs.Prelude.{◌≤◌, ℕ, List, [], ◌∷◌, ◌++◌}
use Rattle.std.specs.List.{AllByRecursion}
use Rattle.site_edge.specs.Links.{change_last}
use Rattle.run_history.specs.Steps.{Effect, Piece, Interim, Reply}
use Rattle.run_history.specs.Traces.{Trace}

-- by a change, before its answer
abbrev pub then_change : {State : Type 0} → State → Trace State → Trace State
then_change s t = record t { changes = t.changes ++ s ∷ [] }

-- by a piece of the connection under way
abbrev pub with_piece : {State : Type 0} → Piece → Trace State → Trace State
with_piece p t = record t { scripts = change_last (λ script. script ++ p ∷ []) t.scripts }

-- by a connection
abbrev pub with_connection : {State : Type 0} → Trace State → Trace State
with_connection t = record t { scripts = t.scripts ++ [] ∷ [] }

-- by what a step comes to
abbrev pub with_effect : {State : Type 0} → Effect State → Trace State → Trace State
with_effect e t = record t {
  scripts = change_last (λ script. script ++ e.pieces) t.scripts;
  changes = t.changes ++ e.changes;
}

-- the number of changes that a piece counts
abbrev pub counted_by : Piece → ℕ
counted_by (Interim bytes) = 0
counted_by (Reply bytes made) = made

-- each piece counts at most so many changes
abbrev pub CountAtMost : ℕ → List (List Piece) → Type 0
CountAtMost n = AllByRecursion (AllByRecursion (λ p. counted_by p ≤ n))
