-- The steps of a connection, and what each tells and changes.
use Rattle.std.specs.Prelude.{◌≡◌, ◌≢◌, ◌+◌, ◌⊎◌, ℕ, Bool, true, false, List, [], ◌∷◌, ◌++◌, length, Option, None, option_to_list, option_map, unwrap_or, is_some, if◌then◌else◌}
use Rattle.run_history.specs.Machine.{Machine, WireRefusal, Failure, BeforeAnswer, InAnswer, InTurn}

-- a request that was taken: its bytes, what they spell, and the moment that it took
pub record TakenRequest (Request : Type 0) : Type 0 where
  pub text : List ℕ
  pub request : Request
  pub moment : ℕ

-- the turn behind an answer was made, or skipped for want of memory
pub data Turned : Type 0 where
  Made : Turned
  Skipped : Turned

-- One step of a connection.
-- `Answered`: a request had its interim, its answer and its change, and then its turn.
-- `Refused`: the wire refused what stands there.
-- `Starved`: there was no memory for a request; the state stays and the connection ends.
-- `Stopped`: the disk failed, which ends the run.
-- `Cut`: the input or the link ended within a request, which had its interim at most, and perhaps a
-- moment.
pub data Step (Request : Type 0) : Type 0 where
  Answered : (ask : TakenRequest Request) (turned : Turned) → Step Request
  Refused : (text : List ℕ) (refusal : WireRefusal) → Step Request
  Starved : (ask : TakenRequest Request) → Step Request
  Stopped : (ask : TakenRequest Request) (failure : Failure) → Step Request
  Cut : (text : List ℕ) (interim : Option (List ℕ)) (moment : Option ℕ) → Step Request

-- What a connection is told: an interim, or a reply with the number of the run's changes up to it,
-- its own among them.
pub data Piece : Type 0 where
  Interim : (bytes : List ℕ) → Piece
  Reply : (bytes : List ℕ) (made : ℕ) → Piece

-- how far a run has come: the number of its changes, and the state after them
pub record Stage (State : Type 0) : Type 0 where
  pub made : ℕ
  pub state : State

-- the bytes of a piece
abbrev pub piece_bytes : Piece → List ℕ
piece_bytes (Interim bytes) = bytes
piece_bytes (Reply bytes made) = bytes

-- What a step comes to: what it tells; its changes, each as the state after it; the moments that it
-- took; how many turns were skipped in it; how many bytes its changes hand to the device; and how
-- many more may have been handed on of a request that was cut. Of the bytes handed on in a step in
-- which the disk failed nothing is said.
pub record Effect (State : Type 0) : Type 0 where
  pub pieces : List Piece
  pub changes : List State
  pub moments : List ℕ
  pub skipped : ℕ
  pub handed : ℕ
  pub cut : ℕ

-- what tells these pieces and takes these moments, and does nothing else
abbrev pub telling : {State : Type 0} → List Piece → List ℕ → Effect State
telling pieces moments = record {
  pieces = pieces;
  changes = [];
  moments = moments;
  skipped = 0;
  handed = 0;
  cut = 0;
}

-- an interim, where there is one
abbrev pub interim_pieces : Option (List ℕ) → List Piece
interim_pieces interim = option_to_list (option_map Interim interim)

-- an interim, where there is one, and a reply behind so many changes
abbrev pub told_pieces : Option (List ℕ) → List ℕ → ℕ → List Piece
told_pieces interim reply made = interim_pieces interim ++ Reply reply made ∷ []

-- something that was done, where it was
abbrev pub where_done : {A : Type 0} → Bool → Option A → List A
where_done done x = if done then option_to_list x else []

-- the state after a request's own change
abbrev pub after_answer : {State Request : Type 0} → Machine State Request → State
    → TakenRequest Request
    → State
after_answer m s ask = unwrap_or (m.answer ask.request ask.moment s).change s

-- A request that was answered, and the turn behind it where it was made.
abbrev pub answered : {State Request : Type 0} → Machine State Request → Stage State
    → TakenRequest Request
    → Bool → Effect State
answered m at ask turned =
    let reply = m.answer ask.request ask.moment at.state in
    let after = after_answer m at.state ask in
    let changes = option_to_list reply.change in
    record {
      pieces = told_pieces (m.interim ask.request) reply.bytes (at.made + length changes);
      changes = changes ++ where_done turned (m.turn ask.moment after);
      moments = ask.moment ∷ [];
      skipped = 0;
      handed = m.handed ask.request ask.moment at.state
          + (if turned then m.turn_handed ask.moment after else 0);
      cut = 0;
    }

-- The effect of a step. This is the one place where the kinds of steps are told apart: all else is
-- put together from effects. A fault of the disk before an answer has the reply that says so, which
-- counts no change that was being written.
abbrev pub effect : {State Request : Type 0} → Machine State Request → Stage State → Step Request
    → Effect State
effect m at (Answered ask Made) = answered m at ask true
effect m at (Answered ask Skipped) = record (answered m at ask false) { skipped = 1 }
effect m at (Refused text refusal) =
    telling (told_pieces refusal.interim refusal.response at.made) []
effect m at (Starved ask) =
    telling (told_pieces (m.interim ask.request) (m.no_memory ask.request) at.made)
    (ask.moment ∷ [])
effect m at (Stopped ask (BeforeAnswer writing)) =
    record (telling (told_pieces (m.interim ask.request) (m.disk_fault ask.request) at.made)
    (ask.moment ∷ []))
    { changes = where_done writing (m.answer ask.request ask.moment at.state).change }
effect m at (Stopped ask InAnswer) = answered m at ask false
effect m at (Stopped ask (InTurn writing)) = answered m at ask writing
effect m at (Cut text interim moment) =
    record (telling (interim_pieces interim) (option_to_list moment))
    { cut = if is_some moment then m.cut_handed text else 0 }

-- the bytes that a step took of what was heard
abbrev pub step_text : {Request : Type 0} → Step Request → List ℕ
step_text (Answered ask turned) = ask.text
step_text (Refused text refusal) = text
step_text (Starved ask) = ask.text
step_text (Stopped ask failure) = ask.text
step_text (Cut text interim moment) = text

-- the last of some items, or this one where there is none
abbrev pub last_or : {State : Type 0} → State → List State → State
last_or s [] = s
last_or s (t ∷ ts) = last_or t ts

-- the stage after a step
abbrev pub stage_after : {State Request : Type 0} → Machine State Request → Stage State
    → Step Request → Stage State
stage_after m at step =
    let changes = (effect m at step).changes in
    record { made = at.made + length changes; state = last_or at.state changes }

-- whether a step is the last of its connection
abbrev pub is_last : {State Request : Type 0} → Machine State Request → Step Request → Bool
is_last m (Answered ask turned) = m.ends ask.request
is_last m (Refused text refusal) = true
is_last m (Starved ask) = true
is_last m (Stopped ask failure) = true
is_last m (Cut text interim moment) = true

-- A request was whole, or its head was, where it takes its moment at its head.
abbrev pub IsTaken : {State Request : Type 0} → Machine State Request → ℕ → TakenRequest Request
    → Type 0
IsTaken m n ask = m.spells n ask.text ask.request ⊎ m.heads n ask.text ask.request

-- A request comes to this place. A record is written only of a change that there is, and only of a
-- request that was whole.
abbrev pub ComesTo : {State Request : Type 0} → Machine State Request → ℕ → State
    → TakenRequest Request
    → Failure → Type 0
ComesTo m n s ask (BeforeAnswer true) =
    m.spells n ask.text ask.request × ((m.answer ask.request ask.moment s).change ≢ None)
ComesTo m n s ask (BeforeAnswer false) = IsTaken m n ask
ComesTo m n s ask InAnswer = m.spells n ask.text ask.request
ComesTo m n s ask (InTurn true) =
    m.spells n ask.text ask.request × (m.turn ask.moment (after_answer m s ask) ≢ None)
ComesTo m n s ask (InTurn false) =
    m.spells n ask.text ask.request × (m.due ask.moment (after_answer m s ask) ≡ true)

-- only a turn that has something to do is skipped
abbrev pub CanTurn : {State Request : Type 0} → Machine State Request → State → TakenRequest Request
    → Turned → Type 0
CanTurn m s ask Made = Unit {0}
CanTurn m s ask Skipped = m.due ask.moment (after_answer m s ask) ≡ true

-- A step behind n requests of its connection, from a state. The disk can fail in a request at a
-- place to which it comes, and at which the machine calls it.
abbrev pub IsStep : {State Request : Type 0} → Machine State Request → ℕ → State → Step Request
    → Type 0
IsStep m n s (Answered ask turned) =
    m.spells n ask.text ask.request × CanTurn m s ask turned
IsStep m n s (Refused text refusal) = m.refuses text refusal
IsStep m n s (Starved ask) = IsTaken m n ask
IsStep m n s (Stopped ask failure) = m.may_fail failure × ComesTo m n s ask failure
IsStep m n s (Cut text interim moment) =
    (text ≢ []) × m.cuts text record { interim = interim; takes_moment = is_some moment }
