-- Connections by their steps: what they come to, and how one is served.
use Rattle.std.specs.Prelude.{◌≡◌, ◌≢◌, ◌≤◌, ◌+◌, ◌-◌, ◌↔◌, ℕ, suc, Bool, true, false, List, [], ◌∷◌, ◌++◌, length, map, Option, Some, None, IsTrue}
use Rattle.std.specs.List.{AllByRecursion, flat_map}
use Rattle.disk_trait.specs.Device.{Connection, HearCall, Unheard}
use Rattle.site_edge.specs.Saying.{IsPrefix}
use Rattle.run_history.specs.Machine.{Cutting, Failure, Machine, WireRefusal, BeforeAnswer, InAnswer, InTurn}
use Rattle.run_history.specs.Steps.{Effect, Step, Answered, Refused, Starved, Stopped, Cut, Piece, Interim, Reply, Stage, effect, interim_pieces, last_or, stage_after, piece_bytes, step_text, telling, is_last, IsStep}

-- ---- effects in a row, from a stage of the run

-- what each of these steps comes to
abbrev pub effects_of : {State Request : Type 0} → Machine State Request → Stage State
    → List (Step Request) → List (Effect State)
effects_of m at [] = []
effects_of m at (step ∷ steps) = effect m at step ∷ effects_of m (stage_after m at step) steps

-- effects one behind another, as one
abbrev pub together : {State : Type 0} → List (Effect State) → Effect State
together [] = telling [] []
together (e ∷ later) = record {
  pieces = e.pieces ++ (together later).pieces;
  changes = e.changes ++ (together later).changes;
  moments = e.moments ++ (together later).moments;
  skipped = e.skipped + (together later).skipped;
  handed = e.handed + (together later).handed;
  cut = e.cut + (together later).cut;
}

-- what the steps of a connection come to
abbrev pub steps_effect : {State Request : Type 0} → Machine State Request → Stage State
    → List (Step Request) → Effect State
steps_effect m at steps = together (effects_of m at steps)

-- the stage after them
abbrev pub after_steps : {State Request : Type 0} → Machine State Request → Stage State
    → List (Step Request) → Stage State
after_steps m at [] = at
after_steps m at (step ∷ steps) = after_steps m (stage_after m at step) steps

-- the bytes of pieces in a row
abbrev pub bytes_of_pieces : List Piece → List ℕ
bytes_of_pieces = flat_map piece_bytes

-- the bytes that steps took of what was heard
abbrev pub texts_of : {Request : Type 0} → List (Step Request) → List ℕ
texts_of = flat_map step_text

-- a piece that is an answer
abbrev pub answers_by : Piece → ℕ
answers_by (Interim bytes) = 0
answers_by (Reply bytes made) = 1

-- the number of answers among pieces
abbrev pub answers_in : List Piece → ℕ
answers_in [] = 0
answers_in (p ∷ ps) = answers_by p + answers_in ps

-- ---- one connection

-- which call of its link failed on a connection, if one did
pub data LinkEnd : Type 0 where
  Whole : LinkEnd
  Hearing : LinkEnd
  Saying : LinkEnd

-- a connection by its steps, and the call of its link that failed
pub record Session (Request : Type 0) : Type 0 where
  pub steps : List (Step Request)
  pub link : LinkEnd

-- a connection has at most so many answers
abbrev pub most_answers : ℕ
most_answers = 1000000

-- Steps in a row, behind n requests of their connection: each is one, and one that ends the
-- connection comes last.
abbrev pub AreSteps : {State Request : Type 0} → Machine State Request → ℕ → Stage State
    → List (Step Request) → Type 0
AreSteps m n at [] = Unit {0}
AreSteps m n at (step ∷ steps) =
    IsStep m n at.state step × (is_last m step ≡ true → steps ≡ [])
    × AreSteps m (suc n) (stage_after m at step) steps

-- No whole request stands in front of these bytes, and nothing that the wire refuses.
pub record IsUnfinished {State Request : Type 0} (m : Machine State Request) (n : ℕ)
    (text : List ℕ) : Type 0 where
  pub request : (front rest : List ℕ) (r : Request) → text ≡ front ++ rest → ¬ (m.spells n front r)
  pub refusal : (front rest : List ℕ) (r : WireRefusal) → text ≡ front ++ rest
      → ¬ (m.refuses front r)

-- ---- how a connection ends, by its last step

-- the last of some steps, where there is one
abbrev pub last_step : {Request : Type 0} → List (Step Request) → Option (Step Request)
last_step steps = last_or None (map Some steps)

-- the failure of the disk in which a step stopped, where it did
abbrev pub stop_of : {Request : Type 0} → Option (Step Request) → Option Failure
stop_of (Some (Stopped ask failure)) = Some failure
stop_of step = None

-- Nothing that was heard is left unread, unless a saying failed, and the peer's end was heard,
-- unless a call of the link failed.
pub record IsHeardOut (link : LinkEnd) (ended : Bool) (rest : List ℕ) : Type 0 where
  pub none_left : link ≢ Saying → rest ≡ []
  pub to_the_end : link ≡ Whole → ended ≡ true

-- How a connection ends whose last step stands behind n others, if it had one. Unless a step ended
-- it, it is heard out. So is one whose last request isn't whole and was cut; where a saying failed
-- in that, it was that of its interim.
abbrev pub EndsBy : {State Request : Type 0} → Machine State Request → ℕ → Option (Step Request)
    → LinkEnd → Bool → List ℕ → Type 0
EndsBy m n None link ended rest = IsHeardOut link ended rest
EndsBy m n (Some (Answered ask turned)) link ended rest =
    m.ends ask.request ≡ false → IsHeardOut link ended rest
EndsBy m n (Some (Refused text refusal)) link ended rest = Unit {0}
EndsBy m n (Some (Starved ask)) link ended rest = Unit {0}
EndsBy m n (Some (Stopped ask failure)) link ended rest = Unit {0}
EndsBy m n (Some (Cut text interim moment)) link ended rest =
    IsHeardOut link ended rest
    × (link ≢ Saying → IsUnfinished m n text) × (link ≡ Saying → interim ≢ None)

-- A connection was told all of these pieces but the last, and a prefix of the last, of so many
-- bytes at least.
pub record IsToldPart (least : ℕ) (told : List ℕ) (pieces : List Piece) : Type 0 where
  pub front : List Piece
  pub last : Piece
  pub part : List ℕ
  pub pieces_are : pieces ≡ front ++ last ∷ []
  pub told_is : told ≡ bytes_of_pieces front ++ part
  pub prefix : IsPrefix part (piece_bytes last)
  pub some : least ≤ length part

-- What a connection was told of its pieces, by the failure of the disk in its last step: all of
-- them; where a saying failed, a part of the last; and where the disk failed within an answer, a
-- part of it that isn't empty.
abbrev pub IsTold : Option Failure → LinkEnd → List ℕ → List Piece → Type 0
IsTold (Some InAnswer) link told pieces = IsToldPart 1 told pieces
IsTold failure Saying told pieces = IsToldPart 0 told pieces
IsTold failure Whole told pieces = told ≡ bytes_of_pieces pieces
IsTold failure Hearing told pieces = told ≡ bytes_of_pieces pieces

-- The store owes nothing to a connection that heard these bytes, when it waits for more of them in
-- a call of `hear`. What had been heard by then is the texts of the first of its steps, none of
-- which ended it, and a part of a request behind them that isn't whole. And it had been told all
-- that they ask for: the whole script of those steps, and the interim of that request where it is
-- due. No saying had failed.
pub record OwesNothing {State Request : Type 0} (m : Machine State Request) (at : Stage State)
    (heard : List ℕ) (steps : List (Step Request)) (call : HearCall) : Type 0 where
  pub front : List (Step Request)
  pub rear : List (Step Request)
  pub part : List ℕ
  pub cutting : Cutting
  pub steps_are : steps ≡ front ++ rear
  pub stay : AllByRecursion (λ step. is_last m step ≡ false) front
  pub prefix : IsPrefix (texts_of front ++ part) heard
  pub unfinished : IsUnfinished m (length front) part
  pub cuts : m.cuts part cutting
  pub heard_is : call.heard ≡ length (texts_of front ++ part)
  pub told_is : call.told ≡ length (bytes_of_pieces ((steps_effect m at front).pieces
      ++ interim_pieces cutting.interim))
  pub said : call.unsaid ≡ false

-- behind a call of `hear` that failed nothing more was heard or told
pub record IsLastHearing (c : Connection) (call : HearCall) : Type 0 where
  pub heard : call.end ≡ Unheard → call.heard ≡ length c.heard
  pub told : call.end ≡ Unheard → call.told ≡ length c.told

-- A connection was served by these steps, from a stage of the run.
pub record IsServed {State Request : Type 0} (m : Machine State Request) (at : Stage State)
    (c : Connection) (session : Session Request) : Type 0 where
  pub rest : List ℕ
  pub steps : AreSteps m 0 at session.steps
  pub few : answers_in (steps_effect m at session.steps).pieces ≤ most_answers
  pub heard : c.heard ≡ texts_of session.steps ++ rest
  pub told : IsTold (stop_of (last_step session.steps)) session.link c.told
      (steps_effect m at session.steps).pieces
  pub ends : EndsBy m (length session.steps - 1) (last_step session.steps) session.link c.ended
      rest
  pub unheard : IsTrue c.unheard ↔ (session.link ≡ Hearing)
  pub unsaid : IsTrue c.unsaid ↔ (session.link ≡ Saying)
  pub owes : AllByRecursion (OwesNothing m at c.heard session.steps) c.hearings
  pub last : AllByRecursion (IsLastHearing c) c.hearings

-- ---- connections one after another

-- what each of them comes to
abbrev pub session_effects : {State Request : Type 0} → Machine State Request → Stage State
    → List (Session Request) → List (Effect State)
session_effects m at [] = []
session_effects m at (session ∷ later) =
    steps_effect m at session.steps ∷ session_effects m (after_steps m at session.steps) later

-- what all of them come to
abbrev pub run_effect : {State Request : Type 0} → Machine State Request → Stage State
    → List (Session Request) → Effect State
run_effect m at sessions = together (session_effects m at sessions)

-- Connections were served one after another, each by its session. A fault of the disk ends the last
-- one.
abbrev pub AreServed : {State Request : Type 0} → Machine State Request → Stage State
    → List Connection → List (Session Request) → Type 0
AreServed m at [] [] = Unit {0}
AreServed m at [] (session ∷ later) = ⊥
AreServed m at (c ∷ cs) [] = ⊥
AreServed m at (c ∷ cs) (session ∷ later) =
    IsServed m at c session × (stop_of (last_step session.steps) ≢ None → later ≡ [])
    × AreServed m (after_steps m at session.steps) cs later

-- the failure of the disk with which the last of these connections ended, where one did
abbrev pub failure_of : {Request : Type 0} → List (Session Request) → Option Failure
failure_of sessions = stop_of (last_or None (map (λ session. last_step session.steps) sessions))

-- whether the record of a change was being written when the disk failed
abbrev pub is_writing : Option Failure → Bool
is_writing None = false
is_writing (Some (BeforeAnswer writing)) = writing
is_writing (Some InAnswer) = false
is_writing (Some (InTurn writing)) = writing
