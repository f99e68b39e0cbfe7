-- The laws by which a run keeps its invariant, and those by which a history grows.
use Rattle.std.specs.Prelude.{◌≡◌, ◌≤◌, ◌+◌, ◌↔◌, ℕ, Bool, true, false, List, [], ◌∷◌, ◌++◌, length}
use Rattle.disk_trait.specs.Device.{Device, IsDevice, Left, may_leave}
use Rattle.disk_trait.specs.Calls.{Elapses, Unchanged}
use Rattle.site_edge.specs.Links.{AddsConnection, Tells}
use Rattle.run_history.specs.Machine.{Machine}
use Rattle.run_history.specs.Steps.{Piece, Reply, Stage, Step, stage_after, effect, last_or, piece_bytes, step_text}
use Rattle.run_history.specs.Sessions.{Session, LinkEnd, after_steps, bytes_of_pieces, texts_of}
use Rattle.run_history.specs.Traces.{Trace, begun_in, start_of, trace_of}
use Rattle.run_history.specs.Parts.{after_sessions, all_moments, changes_of, moments_of, pieces_of}
use Rattle.run_history.specs.Growing.{counted_by, then_change, with_connection, with_effect, with_piece}
use Rattle.run_history.specs.Runs.{AllRight, Beginning, IsRight, StandsNow}
use Rattle.run_history.specs.Reaching.{Reached, sure_changes}

-- ---- how pairs stay right

-- What a crash left stays right while the trace grows.
pub record StaysRight {State Request : Type 0} (m : Machine State Request) (b : Beginning State)
    (t : Trace State) (p : Left) : Type 0 where
  pub change : (s : State) → IsRight m b (then_change s t) p
  pub piece : (piece : Piece) → IsRight m b (with_piece piece t) p
  pub connection : IsRight m b (with_connection t) p

abbrev pub RightGrows : Type 1
RightGrows = (State Request : Type 0) (m : Machine State Request) (b : Beginning State)
    (t : Trace State) (p : Left) → IsRight m b t p → StaysRight m b t p

-- The pairs since the start are those up to a call and those since then.
abbrev pub CallsAddUp : Type 1
CallsAddUp = (State Request : Type 0) (m : Machine State Request) (b : Beginning State)
    (t : Trace State) (within ended : Left → Left → Type 0) (old new : Device)
    → AllRight m b t old → Elapses within ended old new
    → ((q p : Left) → may_leave old q → within q p → IsRight m b t p) → AllRight m b t new

-- ---- how a run goes on

-- A run begins on an honest device each of whose images stands for the first state, before any
-- connection of its own.
abbrev pub RunsBegin : Type 1
RunsBegin = (State Request : Type 0) (m : Machine State Request) (b : Beginning State) (d : Device)
    → IsDevice d → d.honest ≡ true → d.tells ≡ true → d.link.connections ≡ b.before
    → d.moment ≡ b.moment → ((p : Left) → may_leave d p → m.stands p.image b.state)
    → Reached m b (trace_of m b.state []) false false d

-- what was told whole was told in part
abbrev pub PartsSuffice : Type 1
PartsSuffice = (State Request : Type 0) (m : Machine State Request) (b : Beginning State)
    (t : Trace State) (whole writing : Bool) (d : Device) → Reached m b t whole writing d
    → Reached m b t false writing d

-- a call that changes nothing of what a crash leaves
abbrev pub QuietCalls : Type 1
QuietCalls = (State Request : Type 0) (m : Machine State Request) (b : Beginning State)
    (t : Trace State) (whole writing : Bool) (old new : Device)
    → Reached m b t whole writing old → Elapses Unchanged Unchanged old new
    → Reached m b t whole writing new

-- What writing the record of a change may do to what a crash leaves: it tells nothing, and the
-- image stands for the last state or for the one after the change.
pub record Writes {State Request : Type 0} (m : Machine State Request) (t : Trace State)
    (s : State) (q p : Left) : Type 0 where
  pub told : p.told ≡ q.told
  pub image : StandsNow m p.image (then_change s t) true

-- a record that was written whole
pub record Wrote {State Request : Type 0} (m : Machine State Request) (s : State)
    (q p : Left) : Type 0 where
  pub told : p.told ≡ q.told
  pub image : m.stands p.image s

-- A change became durable: a state more, and no piece.
abbrev pub DurableChanges : Type 1
DurableChanges = (State Request : Type 0) (m : Machine State Request) (b : Beginning State)
    (t : Trace State) (s : State) (whole : Bool) (old new : Device)
    → Reached m b t whole false old → Elapses (Writes m t s) (Wrote m s) old new
    → Reached m b (then_change s t) whole false new

-- The disk failed while the record of a change was being written: either state may stand.
abbrev pub TornChanges : Type 1
TornChanges = (State Request : Type 0) (m : Machine State Request) (b : Beginning State)
    (t : Trace State) (s : State) (whole : Bool) (old new : Device)
    → Reached m b t whole false old → Elapses (Writes m t s) (Writes m t s) old new
    → Reached m b (then_change s t) whole true new

-- Bytes were said: a piece more, or a prefix of it where the call failed. The piece counts no
-- change that may not stand.
abbrev pub SaidPieces : Type 1
SaidPieces = (State Request : Type 0) (m : Machine State Request) (b : Beginning State)
    (t : Trace State) (piece : Piece) (ok writing : Bool) (old new : Device)
    → counted_by piece ≤ sure_changes t writing
    → Reached m b t true writing old
    → Elapses (Tells false (piece_bytes piece)) (Tells ok (piece_bytes piece)) old new
    → Reached m b (with_piece piece t) ok writing new

-- A peer came: a connection more, which was told nothing yet.
abbrev pub PeersCome : Type 1
PeersCome = (State Request : Type 0) (m : Machine State Request) (b : Beginning State)
    (t : Trace State) (whole writing : Bool) (old new : Device)
    → Reached m b t whole writing old → Elapses AddsConnection AddsConnection old new
    → Reached m b (with_connection t) true writing new

-- ---- how a history grows

-- What one step more adds to steps: to each fold its effect, and nothing else.
pub record StepMore {State Request : Type 0} (m : Machine State Request) (at : Stage State)
    (steps : List (Step Request)) (step : Step Request) : Type 0 where
  pub pieces : pieces_of m at (steps ++ step ∷ [])
      ≡ pieces_of m at steps ++ (effect m (after_steps m at steps) step).pieces
  pub changes : changes_of m at (steps ++ step ∷ [])
      ≡ changes_of m at steps ++ (effect m (after_steps m at steps) step).changes
  pub moments : moments_of m at (steps ++ step ∷ [])
      ≡ moments_of m at steps ++ (effect m (after_steps m at steps) step).moments
  pub stage : after_steps m at (steps ++ step ∷ []) ≡ stage_after m (after_steps m at steps) step
  pub texts : texts_of (steps ++ step ∷ []) ≡ texts_of steps ++ step_text step

abbrev pub StepsGrow : Type 1
StepsGrow = (State Request : Type 0) (m : Machine State Request) (at : Stage State)
    (steps : List (Step Request)) (step : Step Request) → StepMore m at steps step

-- a stage is the changes so far
abbrev pub StagesCount : Type 1
StagesCount = (State Request : Type 0) (m : Machine State Request) (at : Stage State)
    (steps : List (Step Request)) →
    ((after_steps m at steps).made ≡ at.made + length (changes_of m at steps))
    × ((after_steps m at steps).state ≡ last_or at.state (changes_of m at steps))

-- a connection by its steps so far
abbrev pub under_way : {Request : Type 0} → List (Step Request) → LinkEnd → Session Request
under_way steps link = record { steps = steps; link = link }

-- The trace of connections grows by a connection, and by the effect of a step of the last one.
pub record TraceMore {State Request : Type 0} (m : Machine State Request) (from : State)
    (finished : List (Session Request)) (steps : List (Step Request)) (step : Step Request)
    (link link_after : LinkEnd) : Type 0 where
  pub opened : trace_of m from (finished ++ under_way [] link ∷ [])
      ≡ with_connection (trace_of m from finished)
  pub grown : trace_of m from (finished ++ under_way (steps ++ step ∷ []) link_after ∷ [])
      ≡ with_effect
      (effect m (after_steps m (after_sessions m (start_of from) finished) steps) step)
      (trace_of m from (finished ++ under_way steps link ∷ []))
  pub moments : all_moments m (start_of from)
      (finished ++ under_way (steps ++ step ∷ []) link_after ∷ [])
      ≡ all_moments m (start_of from) (finished ++ under_way steps link ∷ [])
      ++ (effect m (after_steps m (after_sessions m (start_of from) finished) steps) step).moments

abbrev pub TracesGrow : Type 1
TracesGrow = (State Request : Type 0) (m : Machine State Request) (from : State)
    (finished : List (Session Request)) (steps : List (Step Request)) (step : Step Request)
    (link link_after : LinkEnd) → TraceMore m from finished steps step link link_after

-- ---- what had begun

-- an answer of which a byte is among so many bytes told, and the changes that it counts
pub record ReplyHasBegun (script : List Piece) (told made : ℕ) : Type 0 where
  pub front : List Piece
  pub bytes : List ℕ
  pub rear : List Piece
  pub script_is : script ≡ front ++ Reply bytes made ∷ rear
  pub reached : length (bytes_of_pieces front) + 1 ≤ told

-- The number of what had begun is at most another exactly where each answer that had begun counts
-- at most so many changes.
abbrev pub BegunIsGreatest : Type 0
BegunIsGreatest = (script : List Piece) (told n : ℕ) →
    (begun_in script told ≤ n) ↔ ((made : ℕ) → ReplyHasBegun script told made → made ≤ n)
