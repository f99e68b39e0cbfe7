-- What the steps of requests come to by the machine of the media store.
use Rattle.std.proofs.Common.{◌≡◌, ◌+◌, ℕ, Bool, true, false, List, [], ◌∷◌, ◌++◌, length, Option, Some, None, refl, sym, ap, ◌∙◌, subst, if◌then◌else◌, arith}
use Rattle.std.specs.Prelude.{option_to_list, unwrap_or}
use Rattle.http_wire.specs.Framing.{wants_interim}
use Rattle.store_states.specs.States.{StoreState}
use Rattle.run_history.specs.Machine.{BeforeAnswer, InAnswer, InTurn}
use Rattle.run_history.specs.Machine as runs
use Rattle.run_history.specs.Steps.{Answered, Effect, Made, Piece, Reply, Skipped, Stage, Starved, Stopped, TakenRequest, Turned, effect, interim_pieces, last_or, telling, told_pieces, where_done}
use Rattle.run_history.specs.Parts.{is_made, without_counts}
use Rattle.tams_http.specs.Constants.{failure}
use Rattle.tams_machine.specs.Answers.{answer_in, turn_in}
use Rattle.tams_machine.specs.Machine.{tams_machine}
use Rattle.tams_machine.specs.Requests.{TamsRequest, interim_of, interim_text}
use Rattle.request_hearing.specs.Hearing.{interim_where}
use Rattle.tams_service.specs.Answering.{IsMachineReply, RunPlace}
use Rattle.tams_service.proofs.States.{last_of}

-- a request with its text, that took a moment
abbrev pub ask_of : List ℕ → TamsRequest → ℕ → TakenRequest TamsRequest
ask_of text r moment = record { text = text; request = r; moment = moment }

-- an effect by its parts
abbrev pub effect_by : List Piece → List StoreState → List ℕ → Effect StoreState
effect_by pieces changes moments = record (telling pieces moments) { changes = changes }

-- a reply behind the interim response, where it was said
abbrev pub replied : Bool → List ℕ → ℕ → List Piece
replied said bytes made = interim_pieces (interim_where said) ++ Reply bytes made ∷ []

-- the interim response is said where the head wants it
pub interim_is : (said : Bool) (r : TamsRequest) → said ≡ wants_interim r.head → interim_of r.head ≡ interim_where said
interim_is said r is = ap (λ (b : Bool). if b then Some interim_text else None) (sym is)

-- ---- an answer

-- what an answer and a turn behind it come to
answered_by : (s : StoreState) (moment made : ℕ) (reply : runs.MachineReply StoreState) (interim : Option (List ℕ)) (said turned : Bool) (bytes : List ℕ)
    (states later : List StoreState) → reply.bytes ≡ bytes → option_to_list reply.change ≡ states → interim ≡ interim_where said
    → where_done turned (turn_in moment (last_or s states)) ≡ later
    → effect_by (told_pieces interim reply.bytes (made + length (option_to_list reply.change)))
    (option_to_list reply.change ++ where_done turned (turn_in moment (unwrap_or reply.change s))) (moment ∷ [])
    ≡ effect_by (replied said bytes (made + length states)) (states ++ later) (moment ∷ [])
answered_by s moment made reply interim said turned bytes states later b c i t =
    let behind : where_done turned (turn_in moment (unwrap_or reply.change s)) ≡ later =
    ap (λ x. where_done turned (turn_in moment x)) (last_of s reply.change ∙ ap (last_or s) c) ∙ t in
    rw (b, c, i, behind) refl

module _ (p : RunPlace) (text : List ℕ) (r : TamsRequest) (moment : ℕ) (bytes : List ℕ) (states : List StoreState) (is : IsMachineReply p r moment bytes states)
    (interim : p.said ≡ wants_interim r.head) (later : List StoreState) where
  abbrev pub made_of : Stage StoreState → Effect StoreState
  made_of at = effect_by (replied p.said bytes (at.made + length states)) (states ++ later) (moment ∷ [])

  here_so : (turned : Bool) → where_done turned (turn_in moment (last_or p.state states)) ≡ later → (at : Stage StoreState) → at.state ≡ p.state
      → without_counts (Rattle.run_history.specs.Steps.answered (tams_machine p.base) at (ask_of text r moment) turned) ≡ made_of at
  here_so turned behind at here =
      let reply = answer_in p.base r moment p.state in
      subst (λ s. effect_by (told_pieces (interim_of r.head) (answer_in p.base r moment s).bytes (at.made + length (option_to_list
      (answer_in p.base r moment s).change)))
      (option_to_list (answer_in p.base r moment s).change
      ++ where_done turned (turn_in moment (unwrap_or (answer_in p.base r moment s).change s))) (moment ∷ []) ≡ made_of at) (sym here)
      (answered_by p.state moment at.made reply (interim_of r.head) p.said turned bytes states later is.bytes_are is.states_are
      (interim_is p.said r interim) behind)

  pub answered_effect : (turned : Turned) → where_done (is_made turned) (turn_in moment (last_or p.state states)) ≡ later
      → (at : Stage StoreState) → at.state ≡ p.state
      → without_counts (effect (tams_machine p.base) at (Answered (ask_of text r moment) turned)) ≡ made_of at
  answered_effect Made behind = here_so true behind
  answered_effect Skipped behind = here_so false behind

  -- the disk failed in the turn behind it, while its record was being written
  pub turning_effect : where_done true (turn_in moment (last_or p.state states)) ≡ later → (at : Stage StoreState) → at.state ≡ p.state
      → without_counts (effect (tams_machine p.base) at (Stopped (ask_of text r moment) (InTurn true))) ≡ made_of at
  turning_effect behind = here_so true behind

  -- it failed within the answer
  pub reading_effect : [] ≡ later → (at : Stage StoreState) → at.state ≡ p.state
      → without_counts (effect (tams_machine p.base) at (Stopped (ask_of text r moment) InAnswer)) ≡ made_of at
  reading_effect behind = here_so false behind

-- ---- no answer

plus_none : (n : ℕ) → n ≡ n + 0
plus_none n = omega arith

-- there was no memory
pub starved_effect : (p : RunPlace) (text : List ℕ) (r : TamsRequest) (moment : ℕ) → p.said ≡ wants_interim r.head → (at : Stage StoreState)
    → without_counts (effect (tams_machine p.base) at (Starved (ask_of text r moment))) ≡ effect_by (replied p.said (failure 500) (at.made + 0)) [] (moment ∷ [])
starved_effect p text r moment interim at =
    ap (λ i. effect_by (told_pieces i (failure 500) at.made) [] (moment ∷ [])) (interim_is p.said r interim)
    ∙ ap (λ k. effect_by (replied p.said (failure 500) k) [] (moment ∷ [])) (plus_none at.made)

-- the disk failed before the answer
pub stopped_effect : (p : RunPlace) (text : List ℕ) (r : TamsRequest) (moment : ℕ) (writing : Bool) (states : List StoreState)
    → p.said ≡ wants_interim r.head → where_done writing (answer_in p.base r moment p.state).change ≡ states → (at : Stage StoreState)
    → at.state ≡ p.state
    → without_counts (effect (tams_machine p.base) at (Stopped (ask_of text r moment) (BeforeAnswer writing)))
    ≡ effect_by (replied p.said (failure 503) (at.made + 0)) states (moment ∷ [])
stopped_effect p text r moment writing states interim is at here =
    ap (λ s. effect_by (told_pieces (interim_of r.head) (failure 503) at.made) (where_done writing (answer_in p.base r moment s).change) (moment ∷ [])) here
    ∙ ap (λ i. effect_by (told_pieces i (failure 503) at.made) (where_done writing (answer_in p.base r moment p.state).change) (moment ∷ []))
    (interim_is p.said r interim)
    ∙ ap (λ k. effect_by (replied p.said (failure 503) k) (where_done writing (answer_in p.base r moment p.state).change) (moment ∷ [])) (plus_none at.made)
    ∙ ap (λ c. effect_by (replied p.said (failure 503) (at.made + 0)) c (moment ∷ [])) is
