-- How the bytes that a run hands to its device grow by a step and by a connection.
use Rattle.std.proofs.Common.{◌≡◌, ◌≤◌, ◌+◌, ℕ, List, [], ◌∷◌, ◌++◌, None, Some, refl, arith}
use Rattle.run_history.specs.Machine.{BeforeAnswer, InAnswer, InTurn, Machine}
use Rattle.run_history.specs.Steps.{Answered, Cut, Made, Refused, Skipped, Stage, Starved, Step, Stopped, effect, stage_after}
use Rattle.run_history.specs.Sessions.{LinkEnd, Session, after_steps, run_effect, steps_effect}
use Rattle.run_history.specs.Traces.{start_of}
use Rattle.run_history.specs.Runs.{Beginning, HasHanded}
use Rattle.run_history.specs.Laws.{under_way}
use Rattle.run_history.specs.Parts.{after_sessions, step_cut, step_handed}

-- what a step hands on, by itself
handed-step : {State Request : Type 0} (m : Machine State Request) (at : Stage State) (step : Step Request)
    → (effect m at step).handed ≡ step_handed m at.state step
handed-step m at (Answered a Made) = refl
handed-step m at (Answered a Skipped) = refl
handed-step m at (Refused t r) = refl
handed-step m at (Starved a) = refl
handed-step m at (Stopped a (BeforeAnswer w)) = refl
handed-step m at (Stopped a InAnswer) = refl
handed-step m at (Stopped a (InTurn w)) = refl
handed-step m at (Cut t i o) = refl

cut-step : {State Request : Type 0} (m : Machine State Request) (at : Stage State) (step : Step Request) → (effect m at step).cut ≡ step_cut m step
cut-step m at (Answered a Made) = refl
cut-step m at (Answered a Skipped) = refl
cut-step m at (Refused t r) = refl
cut-step m at (Starved a) = refl
cut-step m at (Stopped a (BeforeAnswer w)) = refl
cut-step m at (Stopped a InAnswer) = refl
cut-step m at (Stopped a (InTurn w)) = refl
cut-step m at (Cut t i None) = refl
cut-step m at (Cut t i (Some o)) = refl

handed-push : {State Request : Type 0} (m : Machine State Request) (at : Stage State) (steps : List (Step Request)) (step : Step Request)
    → (steps_effect m at (steps ++ step ∷ [])).handed ≡ (steps_effect m at steps).handed + step_handed m (after_steps m at steps).state step
handed-push m at [] step = let here = handed-step m at step in omega (arith, here)
handed-push m at (x ∷ steps) step = let later = handed-push m (stage_after m at x) steps step in omega (arith, later)

cut-push : {State Request : Type 0} (m : Machine State Request) (at : Stage State) (steps : List (Step Request)) (step : Step Request)
    → (steps_effect m at (steps ++ step ∷ [])).cut ≡ (steps_effect m at steps).cut + step_cut m step
cut-push m at [] step = let here = cut-step m at step in omega (arith, here)
cut-push m at (x ∷ steps) step = let later = cut-push m (stage_after m at x) steps step in omega (arith, later)

all_handed-push : {State Request : Type 0} (m : Machine State Request) (at : Stage State) (finished : List (Session Request)) (session : Session Request)
    → (run_effect m at (finished ++ session ∷ [])).handed
    ≡ (run_effect m at finished).handed + (steps_effect m (after_sessions m at finished) session.steps).handed
all_handed-push m at [] session = omega arith
all_handed-push m at (x ∷ finished) session =
    let later = all_handed-push m (after_steps m at x.steps) finished session in omega (arith, later)

all_cut-push : {State Request : Type 0} (m : Machine State Request) (at : Stage State) (finished : List (Session Request)) (session : Session Request)
    → (run_effect m at (finished ++ session ∷ [])).cut
    ≡ (run_effect m at finished).cut + (steps_effect m (after_sessions m at finished) session.steps).cut
all_cut-push m at [] session = omega arith
all_cut-push m at (x ∷ finished) session =
    let later = all_cut-push m (after_steps m at x.steps) finished session in omega (arith, later)

module _ {State Request : Type 0} {m : Machine State Request} {b : Beginning State} {before : ℕ} (finished : List (Session Request)) where
  -- A connection began.
  pub handed_opened : (link : LinkEnd) → HasHanded m b finished before → HasHanded m b (finished ++ under_way [] link ∷ []) before
  handed_opened link h = record {
    least = omega (arith, h.least, all_handed-push m (start_of b.state) finished (under_way [] link));
    most = omega (
      arith,
      h.most,
      all_handed-push m (start_of b.state) finished (under_way [] link),
      all_cut-push m (start_of b.state) finished (under_way [] link),
    );
  }

  -- Whatever call of its link failed, a connection handed on the same.
  pub handed_link : (steps : List (Step Request)) (link link_after : LinkEnd) → HasHanded m b (finished ++ under_way steps link ∷ []) before
      → HasHanded m b (finished ++ under_way steps link_after ∷ []) before
  handed_link steps link link_after h = record {
    least = omega (
      arith,
      h.least,
      all_handed-push m (start_of b.state) finished (under_way steps link),
      all_handed-push m (start_of b.state) finished (under_way steps link_after),
    );
    most = omega (
      arith,
      h.most,
      all_handed-push m (start_of b.state) finished (under_way steps link),
      all_handed-push m (start_of b.state) finished (under_way steps link_after),
      all_cut-push m (start_of b.state) finished (under_way steps link),
      all_cut-push m (start_of b.state) finished (under_way steps link_after),
    );
  }

  -- A step more handed on what its changes come to, and of what was cut a part at most.
  pub handed_more : (steps : List (Step Request)) (step : Step Request) (link link_after : LinkEnd) (now : ℕ)
      → HasHanded m b (finished ++ under_way steps link ∷ []) before
      → before + step_handed m (after_steps m (after_sessions m (start_of b.state) finished) steps).state step ≤ now
      → now ≤ before + step_handed m (after_steps m (after_sessions m (start_of b.state) finished) steps).state step + step_cut m step
      → HasHanded m b (finished ++ under_way (steps ++ step ∷ []) link_after ∷ []) now
  handed_more steps step link link_after now h least most =
      let at = after_sessions m (start_of b.state) finished in
      let all_before = all_handed-push m (start_of b.state) finished (under_way steps link) in
      let all_now = all_handed-push m (start_of b.state) finished (under_way (steps ++ step ∷ []) link_after) in
      let here = handed-push m at steps step in
      record {
        least = omega (arith, h.least, least, all_before, all_now, here);
        most = omega (
          arith,
          h.most,
          most,
          all_before,
          all_now,
          here,
          all_cut-push m (start_of b.state) finished (under_way steps link),
          all_cut-push m (start_of b.state) finished (under_way (steps ++ step ∷ []) link_after),
          cut-push m at steps step,
        );
      }
