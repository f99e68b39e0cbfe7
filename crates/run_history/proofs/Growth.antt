-- How the folds over a history grow by a step and by a connection.
use Rattle.std.proofs.Common.{◌≡◌, List, [], ◌∷◌, ◌++◌, refl, sym, ap, ◌∙◌, arith}
use Rattle.std.proofs.lemmas.List.{append_assoc, append-nil, length-append}
use Rattle.std.proofs.lemmas.Grind.{flat_map-append}
use Rattle.site_edge.specs.Links.{change_last}
use Rattle.site_edge.proofs.Theorems.{change_last_push}
use Rattle.run_history.specs.Machine.{Machine}
use Rattle.run_history.specs.Steps.{Piece, Stage, Step, effect, last_or, stage_after, step_text}
use Rattle.run_history.specs.Sessions.{LinkEnd, Session, after_steps, texts_of}
use Rattle.run_history.specs.Traces.{Trace, start_of, trace_of}
use Rattle.run_history.specs.Laws.{StagesCount, StepsGrow, TracesGrow, under_way}
use Rattle.run_history.specs.Parts.{after_sessions, all_changes, all_moments, changes_of, moments_of, pieces_of, scripts_of}
use Rattle.run_history.specs.Growing.{with_connection}

-- ---- steps

pub pieces-push : {State Request : Type 0} (m : Machine State Request) (at : Stage State) (steps : List (Step Request)) (step : Step Request)
    → pieces_of m at (steps ++ step ∷ []) ≡ pieces_of m at steps ++ (effect m (after_steps m at steps) step).pieces
pieces-push m at [] step = append-nil (effect m at step).pieces
pieces-push m at (x ∷ steps) step =
    ap (λ l. (effect m at x).pieces ++ l) (pieces-push m (stage_after m at x) steps step)
    ∙ sym (append_assoc (effect m at x).pieces (pieces_of m (stage_after m at x) steps) (effect m (after_steps m at (x ∷ steps)) step).pieces)

pub changes-push : {State Request : Type 0} (m : Machine State Request) (at : Stage State) (steps : List (Step Request)) (step : Step Request)
    → changes_of m at (steps ++ step ∷ []) ≡ changes_of m at steps ++ (effect m (after_steps m at steps) step).changes
changes-push m at [] step = append-nil (effect m at step).changes
changes-push m at (x ∷ steps) step =
    ap (λ l. (effect m at x).changes ++ l) (changes-push m (stage_after m at x) steps step)
    ∙ sym (append_assoc (effect m at x).changes (changes_of m (stage_after m at x) steps) (effect m (after_steps m at (x ∷ steps)) step).changes)

pub moments-push : {State Request : Type 0} (m : Machine State Request) (at : Stage State) (steps : List (Step Request)) (step : Step Request)
    → moments_of m at (steps ++ step ∷ []) ≡ moments_of m at steps ++ (effect m (after_steps m at steps) step).moments
moments-push m at [] step = append-nil (effect m at step).moments
moments-push m at (x ∷ steps) step =
    ap (λ l. (effect m at x).moments ++ l) (moments-push m (stage_after m at x) steps step)
    ∙ sym (append_assoc (effect m at x).moments (moments_of m (stage_after m at x) steps) (effect m (after_steps m at (x ∷ steps)) step).moments)

pub stage-push : {State Request : Type 0} (m : Machine State Request) (at : Stage State) (steps : List (Step Request)) (step : Step Request)
    → after_steps m at (steps ++ step ∷ []) ≡ stage_after m (after_steps m at steps) step
stage-push m at [] step = refl
stage-push m at (x ∷ steps) step = stage-push m (stage_after m at x) steps step

pub steps_grow : StepsGrow
steps_grow State Request m at steps step = record {
  pieces = pieces-push m at steps step;
  changes = changes-push m at steps step;
  moments = moments-push m at steps step;
  stage = stage-push m at steps step;
  texts = flat_map-append step_text steps (step ∷ []) ∙ ap (λ l. texts_of steps ++ l) (append-nil (step_text step));
}

-- ---- stages

pub last_or-append : {State : Type 0} (s : State) (xs ys : List State) → last_or (last_or s xs) ys ≡ last_or s (xs ++ ys)
last_or-append s [] ys = refl
last_or-append s (x ∷ xs) ys = last_or-append x xs ys

pub stages_count : StagesCount
stages_count State Request m at [] = (omega arith, refl)
stages_count State Request m at (x ∷ steps) =
    let rest = stages_count State Request m (stage_after m at x) steps in
    let here = (effect m at x).changes in
    let later = changes_of m (stage_after m at x) steps in
    (omega (arith, rest.0, length-append here later), rest.1 ∙ last_or-append at.state here later)

-- ---- connections

pub scripts-push : {State Request : Type 0} (m : Machine State Request) (at : Stage State) (finished : List (Session Request)) (session : Session Request)
    → scripts_of m at (finished ++ session ∷ []) ≡ scripts_of m at finished ++ pieces_of m (after_sessions m at finished) session.steps ∷ []
scripts-push m at [] session = refl
scripts-push m at (x ∷ finished) session =
    ap (λ l. pieces_of m at x.steps ∷ l) (scripts-push m (after_steps m at x.steps) finished session)

pub all_changes-push : {State Request : Type 0} (m : Machine State Request) (at : Stage State) (finished : List (Session Request)) (session : Session Request)
    → all_changes m at (finished ++ session ∷ []) ≡ all_changes m at finished ++ changes_of m (after_sessions m at finished) session.steps
all_changes-push m at [] session = append-nil (changes_of m at session.steps)
all_changes-push m at (x ∷ finished) session =
    ap (λ l. changes_of m at x.steps ++ l) (all_changes-push m (after_steps m at x.steps) finished session)
    ∙ sym (append_assoc (changes_of m at x.steps) (all_changes m (after_steps m at x.steps) finished)
    (changes_of m (after_sessions m at (x ∷ finished)) session.steps))

pub all_moments-push : {State Request : Type 0} (m : Machine State Request) (at : Stage State) (finished : List (Session Request)) (session : Session Request)
    → all_moments m at (finished ++ session ∷ []) ≡ all_moments m at finished ++ moments_of m (after_sessions m at finished) session.steps
all_moments-push m at [] session = append-nil (moments_of m at session.steps)
all_moments-push m at (x ∷ finished) session =
    ap (λ l. moments_of m at x.steps ++ l) (all_moments-push m (after_steps m at x.steps) finished session)
    ∙ sym (append_assoc (moments_of m at x.steps) (all_moments m (after_steps m at x.steps) finished)
    (moments_of m (after_sessions m at (x ∷ finished)) session.steps))

-- the trace of a state, scripts and changes
abbrev pub trace-by : {State : Type 0} → State → List (List Piece) → List State → Trace State
trace-by first scripts changes = record { scripts = scripts; first = first; changes = changes }

-- two traces from one state are the same by their parts
pub trace-same : {State : Type 0} (first : State) (scripts scripts_too : List (List Piece)) (changes changes_too : List State) → scripts ≡ scripts_too
    → changes ≡ changes_too
    → trace-by first scripts changes ≡ trace-by first scripts_too changes_too
trace-same first scripts scripts_too changes changes_too one two =
    ap (λ s. trace-by first s changes) one ∙ ap (trace-by first scripts_too) two

pub trace-opened : {State Request : Type 0} (m : Machine State Request) (from : State) (finished : List (Session Request)) (link : LinkEnd)
    → trace_of m from (finished ++ under_way [] link ∷ []) ≡ with_connection (trace_of m from finished)
trace-opened m from finished link =
    let at = start_of from in
    trace-same from (scripts_of m at (finished ++ under_way [] link ∷ [])) (scripts_of m at finished ++ [] ∷ [])
    (all_changes m at (finished ++ under_way [] link ∷ [])) (all_changes m at finished)
    (scripts-push m at finished (under_way [] link))
    (all_changes-push m at finished (under_way [] link) ∙ append-nil (all_changes m at finished))

scripts-step : {State Request : Type 0} (m : Machine State Request) (at : Stage State) (finished : List (Session Request)) (steps : List (Step Request))
    (step : Step Request)
    (link link_after : LinkEnd)
    → scripts_of m at (finished ++ under_way (steps ++ step ∷ []) link_after ∷ [])
    ≡ change_last (λ s. s ++ (effect m (after_steps m (after_sessions m at finished) steps) step).pieces)
    (scripts_of m at (finished ++ under_way steps link ∷ []))
scripts-step m at finished steps step link link_after =
    let front = scripts_of m at finished in
    let stage = after_sessions m at finished in
    let more = (effect m (after_steps m stage steps) step).pieces in
    scripts-push m at finished (under_way (steps ++ step ∷ []) link_after)
    ∙ ap (λ l. front ++ l ∷ []) (pieces-push m stage steps step)
    ∙ sym (change_last_push (λ s. s ++ more) front (pieces_of m stage steps))
    ∙ ap (change_last (λ s. s ++ more)) (sym (scripts-push m at finished (under_way steps link)))

changes-step : {State Request : Type 0} (m : Machine State Request) (at : Stage State) (finished : List (Session Request)) (steps : List (Step Request))
    (step : Step Request)
    (link link_after : LinkEnd)
    → all_changes m at (finished ++ under_way (steps ++ step ∷ []) link_after ∷ [])
    ≡ all_changes m at (finished ++ under_way steps link ∷ []) ++ (effect m (after_steps m (after_sessions m at finished) steps) step).changes
changes-step m at finished steps step link link_after =
    let front = all_changes m at finished in
    let stage = after_sessions m at finished in
    let more = (effect m (after_steps m stage steps) step).changes in
    all_changes-push m at finished (under_way (steps ++ step ∷ []) link_after)
    ∙ ap (λ l. front ++ l) (changes-push m stage steps step)
    ∙ sym (append_assoc front (changes_of m stage steps) more)
    ∙ ap (λ l. l ++ more) (sym (all_changes-push m at finished (under_way steps link)))

moments-step : {State Request : Type 0} (m : Machine State Request) (at : Stage State) (finished : List (Session Request)) (steps : List (Step Request))
    (step : Step Request)
    (link link_after : LinkEnd)
    → all_moments m at (finished ++ under_way (steps ++ step ∷ []) link_after ∷ [])
    ≡ all_moments m at (finished ++ under_way steps link ∷ []) ++ (effect m (after_steps m (after_sessions m at finished) steps) step).moments
moments-step m at finished steps step link link_after =
    let front = all_moments m at finished in
    let stage = after_sessions m at finished in
    let more = (effect m (after_steps m stage steps) step).moments in
    all_moments-push m at finished (under_way (steps ++ step ∷ []) link_after)
    ∙ ap (λ l. front ++ l) (moments-push m stage steps step)
    ∙ sym (append_assoc front (moments_of m stage steps) more)
    ∙ ap (λ l. l ++ more) (sym (all_moments-push m at finished (under_way steps link)))

pub traces_grow : TracesGrow
traces_grow State Request m from finished steps step link link_after =
    let at = start_of from in
    let e = effect m (after_steps m (after_sessions m at finished) steps) step in
    let now = finished ++ under_way (steps ++ step ∷ []) link_after ∷ [] in
    let before = finished ++ under_way steps link ∷ [] in
    record {
      opened = trace-opened m from finished link;
      grown = trace-same from (scripts_of m at now) (change_last (λ s. s ++ e.pieces) (scripts_of m at before))
          (all_changes m at now) (all_changes m at before ++ e.changes)
          (scripts-step m at finished steps step link link_after) (changes-step m at finished steps step link link_after);
      moments = moments-step m at finished steps step link link_after;
    }
