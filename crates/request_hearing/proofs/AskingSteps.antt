-- What a step more makes of a connection that is under way: what it counts, and how it ends the connection or leaves it stay.
use Rattle.std.proofs.Common.{◌≡◌, ◌≤◌, ◌<◌, ◌+◌, ℕ, true, false, List, [], ◌∷◌, ◌++◌, length, All, Some, sym, ap, ◌∙◌, subst, arith, length-append}
use Rattle.std.specs.Prelude.{is_some}
use Rattle.std.proofs.lemmas.List.{append_assoc}
use Rattle.std.proofs.lemmas.List.Elements.{All-append}
use Rattle.disk_trait.specs.Device.{Connection, Device, HearCall}
use Rattle.run_history.specs.Machine.{Machine}
use Rattle.run_history.specs.Steps.{Effect, IsStep, Stage, Step, effect, is_last, last_or, step_text}
use Rattle.run_history.specs.Sessions.{AreSteps, EndsBy, IsTold, LinkEnd, Session, Whole, after_steps, answers_in, bytes_of_pieces, most_answers, stop_of, texts_of}
use Rattle.run_history.specs.Traces.{Trace, counts_of_run, start_of, states_of, trace_of}
use Rattle.run_history.specs.Runs.{Beginning, HasHanded}
use Rattle.run_history.specs.Laws.{under_way}
use Rattle.run_history.specs.Serving.{AreOnTime, Going, HasServed, RunCounts, connection_with}
use Rattle.run_history.specs.Parts.{after_sessions, all_answers, all_moments, has_hearing_failed, has_saying_failed, pieces_of, scripts_of, skips_by, stops, stops_writing, without_counts}
use Rattle.run_history.specs.Growing.{with_effect}
use Rattle.run_history.specs.Reaching.{Reached}
use Rattle.run_history.proofs.Hearings.{EndsOnTime}
use Rattle.run_history.proofs.Growth.{pieces-push, scripts-push, stage-push, steps_grow, traces_grow}
use Rattle.run_history.proofs.Ends.{all_answers-push, all_skips-push, answers-append, counts-parts, end_like-push, ends-push, heard-marks, open-push, said-marks, skips-push, stage-sessions, steps-push}
use Rattle.run_history.proofs.Going.{counts-same, ends_with}
use Rattle.run_history.proofs.Handed.{handed_link}
use Rattle.request_hearing.specs.Asking.{IsUnderWay}

-- the counts with what a step comes to
abbrev pub counted_effect : {State Request : Type 0} → RunCounts → Effect State → Step Request → RunCounts
counted_effect n e step = record {
  answers = n.answers + answers_in e.pieces;
  changes = n.changes + length e.changes;
  skipped = n.skipped + skips_by step;
}

module _ {State Request : Type 0} {m : Machine State Request} {b : Beginning State} {connections : List Connection} {given : List ℕ} {state : State}
    {taken : ℕ} {finished : List (Session Request)} {steps : List (Step Request)} {n : RunCounts}
    (u : IsUnderWay m b connections given state taken finished steps n) (step : Step Request) (e : Effect State)
    (effect_is : without_counts (effect m (after_steps m (after_sessions m (start_of b.state) finished) steps) step) ≡ e) where
  abbrev first : Stage State
  first = after_sessions m (start_of b.state) finished

  abbrev before : Trace State
  before = trace_of m b.state (finished ++ under_way steps Whole ∷ [])

  -- the trace with the step
  pub trace_grown : (link : LinkEnd) → trace_of m b.state (finished ++ under_way (steps ++ step ∷ []) link ∷ []) ≡ with_effect e before
  trace_grown link =
      (traces_grow State Request m b.state finished steps step Whole link).grown ∙ ap (λ x. with_effect x before) effect_is

  moments_grown : (link : LinkEnd)
      → given ++ e.moments ≡ b.given ++ all_moments m (start_of b.state) (finished ++ under_way (steps ++ step ∷ []) link ∷ [])
  moments_grown link =
      let so_far = all_moments m (start_of b.state) (finished ++ under_way steps Whole ∷ []) in
      ap (λ l. l ++ e.moments) u.given_is ∙ append_assoc b.given so_far e.moments
      ∙ ap (λ l. b.given ++ l) (sym ((traces_grow State Request m b.state finished steps step Whole link).moments
      ∙ ap (λ (x : Effect State). so_far ++ x.moments) effect_is))

  good_grown : All m.good e.changes → (link : LinkEnd)
      → All m.good (states_of (trace_of m b.state (finished ++ under_way (steps ++ step ∷ []) link ∷ [])))
  good_grown good link =
      subst (λ t. All m.good (states_of t)) (sym (trace_grown link)) (All-append m.good (before.first ∷ before.changes) e.changes u.good good)

  -- what the connection is to be told with it
  pub pieces_grown : pieces_of m first (steps ++ step ∷ []) ≡ pieces_of m first steps ++ e.pieces
  pieces_grown =
      pieces-push m first steps step ∙ ap (λ (x : Effect State). pieces_of m first steps ++ x.pieces) effect_is

  answers_grown : answers_in (pieces_of m first (steps ++ step ∷ [])) ≡ length steps + answers_in e.pieces
  answers_grown =
      omega (arith, ap answers_in pieces_grown, answers-append (pieces_of m first steps) e.pieces, u.answers)

  -- the bytes that its steps took
  pub texts_grown : texts_of (steps ++ step ∷ []) ≡ texts_of steps ++ step_text step
  texts_grown = (steps_grow State Request m first steps step).texts

  steps_grown : IsStep m taken state step → AreSteps m 0 first (steps ++ step ∷ [])
  steps_grown is =
      steps-push m 0 taken first steps step u.steps_are u.stay (omega (arith, u.taken_is)) (subst (λ s. IsStep m taken s step) u.state_is is)

  -- the state behind it
  state_grown : (after_steps m first (steps ++ step ∷ [])).state ≡ last_or state e.changes
  state_grown =
      ap (λ (at : Stage State). at.state) (stage-push m first steps step)
      ∙ ap (λ (x : Effect State). last_or (after_steps m first steps).state x.changes) effect_is
      ∙ ap (λ s. last_or s e.changes) (sym u.state_is)

  pub state_behind : (link : LinkEnd)
      → (after_sessions m (start_of b.state) (finished ++ under_way (steps ++ step ∷ []) link ∷ [])).state ≡ last_or state e.changes
  state_behind link =
      ap (λ (at : Stage State). at.state) (stage-sessions m (start_of b.state) finished (under_way (steps ++ step ∷ []) link)) ∙ state_grown

  counts_grown : (link : LinkEnd) → counted_effect n e step ≡ counts_of_run m b.state (finished ++ under_way (steps ++ step ∷ []) link ∷ [])
  counts_grown link =
      let scripts_before = scripts-push m (start_of b.state) finished (under_way steps Whole) in
      let scripts_after = scripts-push m (start_of b.state) finished (under_way (steps ++ step ∷ []) link) in
      let before_sum = all_answers-push (scripts_of m (start_of b.state) finished) (pieces_of m first steps) in
      let after_sum = all_answers-push (scripts_of m (start_of b.state) finished) (pieces_of m first (steps ++ step ∷ [])) in
      let so_far = u.counts ∙ counts-parts m b.state (finished ++ under_way steps Whole ∷ []) in
      counts-same _ _
      (omega (
        arith,
        ap (λ (c : RunCounts). c.answers) so_far,
        ap all_answers scripts_before,
        ap all_answers scripts_after,
        before_sum,
        after_sum,
        answers_grown,
        u.answers,
      ))
      (ap (λ (c : RunCounts). c.changes + length e.changes) so_far
      ∙ sym (ap (λ (t : Trace State). length t.changes) (trace_grown link) ∙ length-append before.changes e.changes))
      (omega (
        arith,
        ap (λ (c : RunCounts). c.skipped) so_far,
        all_skips-push finished (under_way steps Whole),
        all_skips-push finished (under_way (steps ++ step ∷ []) link),
        skips-push steps step,
      ))
      ∙ sym (counts-parts m b.state (finished ++ under_way (steps ++ step ∷ []) link ∷ []))

  -- It is the last one.
  pub ends_with_step : (d : Device) (link : LinkEnd) (c : Connection) (rest : List ℕ) → IsStep m taken state step → answers_in e.pieces ≤ 1
      → All m.good e.changes → d.link.connections ≡ b.before ++ (connections ++ c ∷ []) → c.heard ≡ texts_of (steps ++ step ∷ []) ++ rest
      → EndsBy m taken (Some step) link c.ended rest → IsTold (stop_of (Some step)) link c.told (pieces_of m first (steps ++ step ∷ []))
      → c.unheard ≡ has_hearing_failed link → c.unsaid ≡ has_saying_failed link
      → EndsOnTime m first (steps ++ step ∷ []) c → Reached m b (with_effect e before) false (stops_writing (step ∷ [])) d
      → (stops (step ∷ []) ≡ false → HasHanded m b (finished ++ under_way (steps ++ step ∷ []) Whole ∷ []) d.handed)
      → HasServed m b d (given ++ e.moments) (finished ++ under_way (steps ++ step ∷ []) link ∷ []) (counted_effect n e step)
  ends_with_step d link c rest is answers good are heard ends told unheard unsaid on_time reached handed =
      let like = end_like-push steps step in
      ends_with m b d (given ++ e.moments) finished (under_way (steps ++ step ∷ []) link) (counted_effect n e step) connections c are u.served u.unstopped
      (record {
        rest = rest;
        steps = steps_grown is;
        few = omega (arith, answers_grown, answers, u.few);
        heard = heard;
        told = subst (λ last. IsTold (stop_of last) link c.told (pieces_of m first (steps ++ step ∷ []))) (sym like.last) told;
        ends = ends-push m taken steps step link c.ended rest u.taken_is ends;
        unheard = heard-marks link c.unheard unheard;
        unsaid = said-marks link c.unsaid unsaid;
        owes = on_time.owes;
        last = on_time.last;
      })
      (moments_grown link)
      (counts_grown link)
      (subst (λ w. Reached m b (trace_of m b.state (finished ++ under_way (steps ++ step ∷ []) link ∷ [])) false w d) (sym like.writing)
      (subst (λ t. Reached m b t false (stops_writing (step ∷ [])) d) (sym (trace_grown link)) reached))
      (good_grown good link)
      (λ on. handed_link finished (steps ++ step ∷ []) Whole link (handed (sym like.stops ∙ ap is_some on)))

  -- It leaves the connection stay.
  pub goes_with_step : (d : Device) (rest : List ℕ) → IsStep m taken state step → is_last m step ≡ false → taken + 1 < most_answers
      → answers_in e.pieces ≡ 1 → All m.good e.changes → (hearings : List HearCall) → d.link.connections ≡ b.before ++ (connections
      ++ connection_with (texts_of (steps ++ step ∷ []) ++ rest) (bytes_of_pieces (pieces_of m first (steps ++ step ∷ []))) hearings ∷ [])
      → AreOnTime m first (texts_of (steps ++ step ∷ []) ++ rest) (steps ++ step ∷ []) hearings → Reached m b (with_effect e before) true false d → HasHanded m b (finished ++ under_way (steps ++ step ∷ []) Whole ∷ []) d.handed
      → Going m b d (given ++ e.moments) (record { state = last_or state e.changes; unread = rest; taken = taken + 1 }) finished (steps ++ step ∷ [])
      (counted_effect n e step)
  goes_with_step d rest is stay few one good hearings are on_time reached handed = record {
    connections = connections;
    hearings = hearings;
    on_time = on_time;
    connections_are = are;
    served = u.served;
    unstopped = u.unstopped;
    given_is = moments_grown Whole;
    steps_are = steps_grown is;
    stay = open-push m steps step u.stay stay;
    taken = omega (arith, u.taken_is, length-append steps (step ∷ []));
    answers = omega (arith, answers_grown, one, length-append steps (step ∷ []));
    few = omega (arith, few, u.taken_is, length-append steps (step ∷ []));
    state = sym state_grown;
    counts = counts_grown Whole;
    reached = subst (λ t. Reached m b t true false d) (sym (trace_grown Whole)) reached;
    good = good_grown good Whole;
    handed = handed;
  }
