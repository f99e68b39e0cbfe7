-- A step more of a connection, as a turn of it: what the turn leads to. Over any machine.
use Rattle.std.proofs.Common.{◌≡◌, ◌≢◌, ◌<◌, ◌+◌, ℕ, Bool, true, false, List, [], ◌∷◌, ◌++◌, not, Option, None, Some, if◌then◌else◌, refl, sym, ap, ◌∙◌, subst}
use Rattle.std.specs.Prelude.{option_to_list, is_some}
use Rattle.std.proofs.lemmas.Bool.{false≢true}
use Rattle.disk_trait.specs.Device.{Device}
use Rattle.site_edge.specs.Links.{change_last}
use Rattle.run_history.specs.Machine.{Machine}
use Rattle.run_history.specs.Steps.{Answered, Cut, Refused, Stage, Starved, Step, Stopped, TakenRequest, Turned, is_last, last_or}
use Rattle.run_history.specs.Sessions.{EndsBy, Hearing, IsUnfinished, LinkEnd, Saying, Session, Whole, most_answers}
use Rattle.run_history.specs.Traces.{start_of}
use Rattle.run_history.specs.Runs.{Beginning, HasHanded}
use Rattle.run_history.specs.Laws.{under_way}
use Rattle.run_history.specs.Serving.{Going, Held, RunCounts}
use Rattle.run_history.specs.Parts.{has_link_failed, stops}
use Rattle.run_history.specs.Reaching.{Reached}
use Rattle.run_history.proofs.Ends.{EndLike, end_like-push, stage-sessions}
use Rattle.connection_loop.specs.declared.ending.ConnectionEnd.{ConnectionEnd}
use Rattle.connection_loop.specs.declared.ending.ConnectionEnd.TheVariants as endings
use Rattle.connection_loop.specs.Turns.{EndsAs, GoesOn, TurnLeads}
use Rattle.connection_loop.specs.Endings.{ending_by, ending_of}
use Rattle.std.specs.List.{AllByRecursion}
use Rattle.request_hearing.specs.Hearing.{HearPart, HearsAndSays, IsPartOf, after_hearing, interim_bytes, interim_where}
use Rattle.request_hearing.specs.Asking.{Asking, IsAnswerStep, WaitsFor, asked_trace, counted_more}
use Rattle.request_hearing.proofs.Asking.{under_way-going}
use Rattle.request_hearing.proofs.AskingAnswered.{answered_ends, answered_goes, answered_state}
use Rattle.request_hearing.proofs.AskingCut.{taken_cut}
use Rattle.request_hearing.proofs.Endings.{cut_state, ends_behind_request, ends_within_request, saying_held_on}

-- how steps end with the last one
ending-like : {Request : Type 0} (steps : List (Step Request)) (step : Step Request) (link : LinkEnd) → EndLike (steps ++ step ∷ []) step
    → ending_of (under_way (steps ++ step ∷ []) link) ≡ ending_of (under_way (step ∷ []) link)
ending-like steps step link like = ap (λ last. ending_by last link) like.last

-- how steps end that leave their connection open
ending-open : {State Request : Type 0} (m : Machine State Request) (steps : List (Step Request)) (link : LinkEnd) → AllByRecursion (λ step. is_last m step ≡ false) steps
    → (if has_link_failed link then endings.Unlinked else endings.Complete) ≡ ending_of (under_way steps link)
ending-open m [] Whole stay = refl
ending-open m [] Hearing stay = refl
ending-open m [] Saying stay = refl
ending-open m (Answered a t ∷ []) Whole stay = refl
ending-open m (Answered a t ∷ []) Hearing stay = refl
ending-open m (Answered a t ∷ []) Saying stay = refl
ending-open m (Refused a t ∷ []) link stay = absurd (false≢true (sym stay.0))
ending-open m (Starved a ∷ []) link stay = absurd (false≢true (sym stay.0))
ending-open m (Stopped a t ∷ []) link stay = absurd (false≢true (sym stay.0))
ending-open m (Cut a i t ∷ []) link stay = absurd (false≢true (sym stay.0))
ending-open m (x ∷ y ∷ steps) link stay = ending-open m (y ∷ steps) link stay.1

-- and how those whose last one is cut
cut_by : (Request : Type 0) (text : List ℕ) (interim : Option (List ℕ)) (moment : Option ℕ) (link : LinkEnd)
    → (if has_link_failed link then endings.Unlinked else endings.Cut) ≡ ending_by {Request = Request} (Some (Cut text interim moment)) link
cut_by Request text interim moment Whole = refl
cut_by Request text interim moment Hearing = refl
cut_by Request text interim moment Saying = refl

ending-cut : {Request : Type 0} (steps : List (Step Request)) (text : List ℕ) (interim : Option (List ℕ)) (moment : Option ℕ) (link : LinkEnd)
    → (if has_link_failed link then endings.Unlinked else endings.Cut) ≡ ending_of (under_way (steps ++ Cut text interim moment ∷ []) link)
ending-cut {Request} steps text interim moment link =
    cut_by Request text interim moment link ∙ sym (ending-like steps (Cut text interim moment) link (end_like-push steps (Cut text interim moment)))

-- ---- an answer

-- how an answer of the machine ends its connection, if it does, by whether each saying held and whether it is the last one that the
-- connection may have
abbrev pub answered_ending : Bool → Bool → Option ConnectionEnd
answered_ending false last = Some endings.Unlinked
answered_ending true true = Some endings.Complete
answered_ending true false = None

module _ {State Request : Type 0} {m : Machine State Request} {b : Beginning State} {old new : Device} {given : List ℕ} {held : Held State} {said : Bool}
    {finished : List (Session Request)} {steps : List (Step Request)} {n : RunCounts} {step : Step Request} {bytes : List ℕ} {made : ℕ}
    {states later : List State} {moments rest : List ℕ} {whole linked writing : Bool}
    (s : IsAnswerStep m b old new given held said finished steps n step bytes made states later moments rest whole linked writing)
    (keeps : State → Type 0) where
  -- The connection goes on.
  pub step_goes : whole ≡ true → linked ≡ true → is_last m step ≡ false → held.taken + 1 < most_answers → keeps (last_or held.state (states ++ later))
      → GoesOn m b new (given ++ moments) rest (held.taken + 1) keeps finished (counted_more n (states ++ later) step)
  step_goes all held_on stay few kept = record {
    steps = steps ++ step ∷ [];
    state = last_or held.state (states ++ later);
    kept = kept;
    going = answered_goes s all held_on stay few;
  }

  -- which call of the link failed
  abbrev pub link_behind : LinkEnd
  link_behind = if linked then Whole else Saying

  -- The connection has ended.
  pub step_ends : (ending : ConnectionEnd) → ending ≡ ending_of (under_way (step ∷ []) link_behind) → EndsBy m held.taken (Some step) link_behind false rest
      → (stops (step ∷ []) ≡ false → keeps (last_or held.state (states ++ later)))
      → EndsAs m b new (given ++ moments) keeps finished (counted_more n (states ++ later) step) ending
  step_ends ending ending_is ends kept =
      let like = end_like-push steps step in
      record {
        session = under_way (steps ++ step ∷ []) link_behind;
        served = answered_ends s ends;
        unstopped = s.begun.so_far.unstopped;
        ending_is = ending_is ∙ sym (ending-like steps step link_behind like);
        kept = λ on. subst keeps (sym (answered_state s link_behind)) (kept (sym like.stops ∙ on));
      }

-- An answer of the machine: the connection goes on, or ends where the answer ends it or couldn't be said whole.
pub answer_leads : {State Request : Type 0} {m : Machine State Request} {b : Beginning State} {old new : Device} {given : List ℕ} {held : Held State}
    {said : Bool} {finished : List (Session Request)} {steps : List (Step Request)} {n : RunCounts} {ask : TakenRequest Request} {bytes : List ℕ}
    {made : ℕ} {states later : List State} {moments rest : List ℕ} {whole : Bool} (turned : Turned) (linked last : Bool)
    → IsAnswerStep m b old new given held said finished steps n (Answered ask turned) bytes made states later moments rest whole linked false
    → m.ends ask.request ≡ last → (last ≡ false → held.taken + 1 < most_answers) → (keeps : State → Type 0) → keeps (last_or held.state (states ++ later))
    → TurnLeads m b new (given ++ moments) rest (held.taken + 1) keeps finished (counted_more n (states ++ later) (Answered ask turned))
    (answered_ending linked last)
answer_leads turned true false s ends few keeps kept = step_goes s keeps (s.full refl refl) refl ends (few refl) kept
answer_leads turned true true s ends few keeps kept =
    step_ends s keeps endings.Complete refl (λ stays. absurd (false≢true (sym stays ∙ ends))) (λ on. kept)
answer_leads turned false last s ends few keeps kept =
    step_ends s keeps endings.Unlinked refl
    (λ stays. record { none_left = λ whole. absurd (whole refl); to_the_end = λ whole. absurd (saying whole) }) (λ on. kept)
  where
    saying : Saying ≡ Whole → ⊥
    saying same = cc

-- ---- the end of what is heard

module _ {State Request : Type 0} {m : Machine State Request} {b : Beginning State} {old new : Device} {given : List ℕ} {held : Held State}
    {finished : List (Session Request)} {steps : List (Step Request)} {n : RunCounts} (keeps : State → Type 0) (kept : keeps held.state) where
  -- It came behind a whole request.
  pub behind_ends : {parts : List HearPart} (bytes : List ℕ) (said ended : Bool) (link : LinkEnd) → Going m b old given held finished steps n
      → HearsAndSays parts bytes said (saying_held_on link) (not (has_link_failed link)) ended old new
      → AllByRecursion (λ p. WaitsFor m held.taken (held.unread ++ p.heard) p.told) parts → old.tells ≡ true → (link ≡ Whole → ended ≡ true)
      → held.unread ++ bytes ≡ [] → said ≡ false → link ≢ Saying
      → EndsAs m b new given keeps finished n (if has_link_failed link then endings.Unlinked else endings.Complete)
  behind_ends bytes said ended link g h waits tells at_end none silent not_saying = record {
    session = under_way steps link;
    served = ends_behind_request m b old new given held finished steps n bytes said ended link g h waits tells at_end none silent not_saying;
    unstopped = g.unstopped;
    ending_is = ending-open m steps link g.stay;
    kept = λ on.
        subst keeps (g.state ∙ sym (ap (λ (at : Stage State). at.state) (stage-sessions m (start_of b.state) finished (under_way steps link)))) kept;
  }

  -- It came within one that had its interim response at most.
  pub within_ends : {parts : List HearPart} (bytes : List ℕ) (said ended : Bool) (link : LinkEnd) (text rest : List ℕ) (moment : Option ℕ)
      → Going m b old given held finished steps n
      → HearsAndSays parts bytes said (saying_held_on link) (not (has_link_failed link)) ended old new
      → AllByRecursion (λ p. WaitsFor m held.taken (held.unread ++ p.heard) p.told) parts → old.tells ≡ true → (link ≡ Whole → ended ≡ true)
      → held.unread ++ bytes ≡ text ++ rest → text ≢ [] → m.cuts text (record { interim = interim_where said; takes_moment = is_some moment })
      → (link ≢ Saying → (rest ≡ []) × IsUnfinished m held.taken text) → (link ≡ Saying → said ≡ true)
      → EndsAs m b new (given ++ option_to_list moment) keeps finished n (if has_link_failed link then endings.Unlinked else endings.Cut)
  within_ends bytes said ended link text rest moment g h waits tells at_end text_is some cuts unfinished saying = record {
    session = under_way (steps ++ Cut text (interim_where said) moment ∷ []) link;
    served = ends_within_request m b old new given held finished steps n bytes said ended link g h waits tells at_end text rest moment text_is some cuts unfinished
        saying;
    unstopped = g.unstopped;
    ending_is = ending-cut steps text (interim_where said) moment link;
    kept = λ on. subst keeps (sym (cut_state (under_way-going g) said text moment link)) kept;
  }

  -- It came within one of which more was asked for, as the body of a media PUT: behind these bytes, where the run has come as far.
  pub taken_ends : (parts : List HearPart) (bytes : List ℕ) (said ended : Bool) (link : LinkEnd) (text : List ℕ) (moment : Option ℕ)
      → Asking m b old given held said finished steps n
      → new.link.connections ≡ change_last (after_hearing parts bytes [] ended (not (not (has_link_failed link))) false) old.link.connections
      → AllByRecursion (IsPartOf bytes [] (not (not (has_link_failed link)))) parts
      → AllByRecursion (λ p. WaitsFor m held.taken (held.unread ++ p.heard) (interim_bytes said ++ p.told)) parts
      → Reached m b (asked_trace m b said finished steps) true false new
      → link ≢ Saying → (link ≡ Whole → ended ≡ true) → held.unread ++ bytes ≡ text → text ≢ []
      → m.cuts text (record { interim = interim_where said; takes_moment = is_some moment }) → IsUnfinished m held.taken text
      → HasHanded m b (finished ++ under_way (steps ++ Cut text (interim_where said) moment ∷ []) Whole ∷ []) new.handed
      → EndsAs m b new (given ++ option_to_list moment) keeps finished n (if has_link_failed link then endings.Unlinked else endings.Cut)
  taken_ends parts bytes said ended link text moment a heard are waits reached not_saying at_end text_is some cuts unfinished handed = record {
    session = under_way (steps ++ Cut text (interim_where said) moment ∷ []) link;
    served = taken_cut a text moment parts bytes link ended heard are waits reached not_saying at_end text_is some cuts unfinished handed;
    unstopped = a.begun.so_far.unstopped;
    ending_is = ending-cut steps text (interim_where said) moment link;
    kept = λ on. subst keeps (sym (cut_state a.begun.so_far said text moment link)) kept;
  }
