-- What a run has told and changed so far, and what a crash may leave of it.
use Rattle.std.specs.Prelude.{◌≤◌, ◌-◌, ℕ, zero, suc, max, List, [], ◌∷◌, length, map, take}
use Rattle.site_edge.specs.Saying.{ArePrefixes}
use Rattle.run_history.specs.Machine.{Machine}
use Rattle.run_history.specs.Steps.{Piece, Interim, Reply, Stage, last_or}
use Rattle.run_history.specs.Sessions.{Session, answers_in, bytes_of_pieces, run_effect, session_effects}

-- What a run comes to, without its steps: the script of each connection, the first state, and the
-- state after each change.
pub record Trace (State : Type 0) : Type 0 where
  pub scripts : List (List Piece)
  pub first : State
  pub changes : List State

-- the beginning of a run from a state
abbrev pub start_of : {State : Type 0} → State → Stage State
start_of from = record { made = 0; state = from }

-- the trace of connections, from a state
abbrev pub trace_of : {State Request : Type 0} → Machine State Request → State
    → List (Session Request) → Trace State
trace_of m from sessions = record {
  scripts = map (λ e. e.pieces) (session_effects m (start_of from) sessions);
  first = from;
  changes = (run_effect m (start_of from) sessions).changes;
}

-- its states, the first one and one after each change
abbrev pub states_of : {State : Type 0} → Trace State → List State
states_of t = t.first ∷ t.changes

-- the last of them
abbrev pub state_now : {State : Type 0} → Trace State → State
state_now t = last_or t.first t.changes

-- the state after so many of the changes
abbrev pub state_after : {State : Type 0} → ℕ → Trace State → State
state_after n t = last_or t.first (take n t.changes)

-- The number of changes at or before the last of these answers of which a byte was told, of so many
-- bytes that were told. An interim is no answer.
abbrev pub begun_in : List Piece → ℕ → ℕ
begun_in [] told = 0
begun_in (Interim bytes ∷ pieces) told = begun_in pieces (told - length bytes)
begun_in (Reply bytes made ∷ pieces) zero = 0
begun_in (Reply bytes made ∷ pieces) (suc n) = max made (begun_in pieces (suc n - length bytes))

-- the same over all connections
abbrev pub begun : List (List Piece) → List (List ℕ) → ℕ
begun [] told = 0
begun (script ∷ scripts) [] = 0
begun (script ∷ scripts) (t ∷ told) = max (begun_in script (length t)) (begun scripts told)

-- A crash left an image, and what was told: the image stands for the state after some number of the
-- changes, in order, among them each whose answer had begun, and what was told of each connection
-- is a prefix of its script.
pub record IsLeft {State Request : Type 0} (m : Machine State Request) (t : Trace State)
    (told : List (List ℕ)) (image : List ℕ) : Type 0 where
  pub count : ℕ
  pub within : count ≤ length t.changes
  pub stands : m.stands image (state_after count t)
  pub acknowledged : begun t.scripts told ≤ count
  pub prefixes : ArePrefixes told (map bytes_of_pieces t.scripts)

-- how many answers a run gave, how many changes it made, and how many turns it skipped
pub record RunCounts : Type 0 where
  pub answers : ℕ
  pub changes : ℕ
  pub skipped : ℕ

-- the numbers of connections, from a state
abbrev pub counts_of_run : {State Request : Type 0} → Machine State Request → State
    → List (Session Request) → RunCounts
counts_of_run m from sessions =
    let all = run_effect m (start_of from) sessions in
    record { answers = answers_in all.pieces; changes = length all.changes; skipped = all.skipped }
