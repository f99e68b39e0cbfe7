-- A reply that was said, or a part of it, behind the changes of its request, and the turn behind it: what they lead to.
use Rattle.std.proofs.Common.{◌≡◌, ◌≢◌, ◌<◌, ◌≤◌, ◌+◌, ◌==◌, ◌||◌, ℕ, suc, Bool, true, false, List, [], ◌∷◌, ◌++◌, length, All, Option, None, Some, inl, inr, if◌then◌else◌, refl, sym, ap, ◌∙◌, subst, append-nil, length-append, arith}
use Rattle.std.specs.Prelude.{is_some, option_map, option_to_list}
use Rattle.std.proofs.lemmas.Bool.{cases_lt, eq-eqb, false≢true}
use Rattle.std.proofs.lemmas.List.Elements.{All-append, All-cons, All-nil}
use Rattle.disk_trait.specs.Calls.{Elapses}
use Rattle.disk_trait.specs.Device.{Device, Link}
use Rattle.httparse.specs.Grammar.{RequestHead}
use Rattle.media_rows.specs.declared.change.Change.{Change}
use Rattle.media_rows.specs.Apply.{turn}
use Rattle.media_rows.specs.Moments.{is_moment}
use Rattle.media_store.specs.Changes.{IsNextIf, ChangesStore, MakesIf, bytes_if}
use Rattle.media_store.specs.Stores.{StoreSeen, journal_of}
use Rattle.media_store.specs.Turns.{turn_change}
use Rattle.store_states.specs.Kept.{AgreesWith}
use Rattle.store_states.specs.States.{StoreState}
use Rattle.run_history.specs.Machine.{InAnswer, InTurn}
use Rattle.run_history.specs.Laws.{Wrote, under_way}
use Rattle.run_history.specs.Runs.{HasHanded}
use Rattle.run_history.specs.Traces.{Trace, state_now}
use Rattle.run_history.specs.Serving.{RunCounts}
use Rattle.run_history.specs.Sessions.{Saying, Whole, most_answers}
use Rattle.run_history.specs.Steps.{Answered, IsStep, Made, Skipped, Stage, Step, Stopped, Turned, after_answer, effect, last_or, step_text, where_done}
use Rattle.run_history.specs.Reaching.{Reached}
use Rattle.run_history.specs.Parts.{is_made, stops, stops_in_answer, stops_writing, without_counts}
use Rattle.connection_loop.specs.declared.ending.ConnectionEnd.TheVariants as endings
use Rattle.connection_loop.specs.Tallies.{plus_answer}
use Rattle.connection_loop.specs.Turns.{held_with}
use Rattle.connection_loop.specs.Endings.{ending_of}
use Rattle.tams_machine.specs.Answers.{answer_handed, answer_in, is_turn_due, state_with_change, turn_handed, turn_in}
use Rattle.tams_machine.specs.Laws.{TurnsKeepGood}
use Rattle.tams_machine.specs.Machine.{tams_machine}
use Rattle.tams_machine.specs.Requests.{TamsRequest, ends_behind}
use Rattle.request_hearing.specs.Asking.{IsAnswerStep, asked_trace, counted_more, replied_trace, with_states}
use Rattle.request_hearing.proofs.Asking.{kept_calls}
use Rattle.request_hearing.proofs.AskingReached.{changed_none, changed_one, changed_torn, replied, state_now-replied}
use Rattle.tams_service.specs.Answering.{ChangedAt, EndsThere, HandedAt, IsMachineReply, IsRequest, LeadsTo, RunPlace}
use Rattle.tams_service.specs.Keeping.{KeepsState}
use Rattle.tams_service.specs.Saying.{Says}
use Rattle.tams_service.proofs.Effects.{answered_effect, ask_of, made_of, reading_effect, turning_effect}
use Rattle.tams_service.proofs.Handed.{handed_step, turn_handed_is}
use Rattle.tams_service.proofs.Good.{good_now, is_good, last_good, turn_good}
use Rattle.tams_service.proofs.Moments.{over_change, over_keeps, over_torn}
use Rattle.tams_service.proofs.States.{keeps_next, last_of, turn_of}
use Rattle.tams_service.proofs.Keeping.{keeps_so}
use Rattle.tams_service.proofs.Stepping.{answer_leads, answered_ending, step_ends}
use Rattle.run_history.proofs.Growth.{last_or-append}

-- a request that doesn't end its connection isn't the last that it may have
pub few_behind : (taken : ℕ) (head : RequestHead) → ends_behind taken head ≡ false → taken < 1000000 → taken + 1 < most_answers
few_behind taken head goes few = elim (cases_lt (taken + 1) 1000000) [
  | inl below ↦ below
  | inr full ↦
      let all : (suc taken == most_answers) ≡ true = eq-eqb (suc taken) 1000000 (omega (arith, few, full)) in
      let last : ends_behind taken head ≡ true = last_of _ all in
      absurd (false≢true (sym goes ∙ last))
]
  where
    last_of : (closed : Bool) → (suc taken == most_answers) ≡ true → (closed || (suc taken == most_answers)) ≡ true
    last_of true is = refl
    last_of false is = is

few_more : (p : RunPlace) (text : List ℕ) (ends : Bool) (r : TamsRequest) → IsRequest p text ends r → p.taken < 1000000 → ends ≡ false
    → p.taken + 1 < most_answers
few_more p text ends r is few goes = few_behind p.taken r.head (sym is.spells.ends_is ∙ is.ends_is ∙ goes) few

module _ (p : RunPlace) (old mid : Device) (n : RunCounts) (bytes : List ℕ) (moment : ℕ) (ends : Bool) (text rest : List ℕ) (r : TamsRequest)
    (states : List StoreState) (whole linked : Bool) (tells : old.tells ≡ true) (says : Says whole linked bytes old mid)
    (changed : ChangedAt p old (text ++ rest) n states false) (request : IsRequest p text ends r) (reply : IsMachineReply p r moment bytes states)
    (handed : HandedAt p old (answer_handed r moment p.state)) where
  -- the trace with the reply
  abbrev told_trace : Trace StoreState
  told_trace = replied_trace states bytes (length states) (asked_trace (tams_machine p.base) p.beginning p.said p.finished p.steps)

  -- the state behind the request's own change
  abbrev here : StoreState
  here = last_or p.state states

  state_here : state_now told_trace ≡ here
  state_here = state_now-replied changed.begun states bytes (length states)

  reached_reply : Reached (tams_machine p.base) p.beginning told_trace whole false mid
  reached_reply =
      replied (asked_trace (tams_machine p.base) p.beginning p.said p.finished p.steps) states bytes (length states) (omega arith)
      (λ no. absurd (false≢true no)) changed.reached says.time

  -- a step of which all that is known
  module _ (new : Device) (step : Step TamsRequest) (later : List StoreState) (writing : Bool) (link : new.link ≡ mid.link)
      (is : IsStep (tams_machine p.base) p.taken p.state step) (text_is : step_text step ≡ text)
      (effect_is : (at : Stage StoreState) → at.state ≡ p.state
      → without_counts (effect (tams_machine p.base) at step) ≡ made_of p text r moment bytes states reply request.interim later at)
      (full : linked ≡ true → stops_in_answer (step ∷ []) ≡ false → whole ≡ true)
      (some : stops_in_answer (step ∷ []) ≡ true → 1 ≤ length (says.connections tells).0)
      (reached : Reached (tams_machine p.base) p.beginning (with_states later told_trace) whole writing new)
      (good : All is_good later) (written : stops_writing (step ∷ []) ≡ writing)
      (handed_on : stops (step ∷ []) ≡ false
      → HasHanded (tams_machine p.base) p.beginning (p.finished ++ under_way (p.steps ++ step ∷ []) Whole ∷ []) new.handed) where
    answered : IsAnswerStep (tams_machine p.base) p.beginning old new p.given (held_with p.state (text ++ rest) p.taken) p.said p.finished p.steps n step
        bytes (length states) states later (moment ∷ []) rest whole linked writing
    answered = record {
      begun = changed.begun;
      is = is;
      text = ap (λ t. t ++ rest) (sym text_is);
      effect_is = effect_is;
      told = (
        (says.connections tells).0,
        (says.connections tells).1,
        ap (λ (l : Link). l.connections) link ∙ (says.connections tells).2,
      );
      full = full;
      some = some;
      reached = reached;
      good = All-append is_good states later changed.good good;
      written = written;
      handed = handed_on;
    }

  -- ---- the disk failed within the answer

  pub reading_stopped : (store : StoreSeen) (changes : ℕ) → whole ≡ false → linked ≡ true → 1 ≤ length (says.connections tells).0
      → length states ≡ changes → EndsThere p mid store (moment ∷ []) (plus_answer changes false n) endings.Stopped
  reading_stopped store changes part on begun is =
      let step = Stopped (ask_of text r moment) InAnswer in
      let a = answered mid step [] false refl (tt, request.spells) refl
      (reading_effect p text r moment bytes states reply request.interim [] refl)
      (λ _ no. absurd (false≢true (sym no))) (λ _. begun) (changed_none reached_reply) (All-nil is_good) refl (λ on. absurd (false≢true (sym on))) in
      subst (λ k. EndsThere p mid store (moment ∷ []) k endings.Stopped)
      (ap (λ k. plus_answer k false n) (ap length (append-nil states) ∙ is))
      (step_ends a (KeepsState store mid) endings.Stopped (by_link linked) tt (λ on. absurd (false≢true (sym on))))
    where
      by_link : (l : Bool) → endings.Stopped ≡ ending_of
          (under_way (Stopped (ask_of text r moment) InAnswer ∷ []) (if l then Whole else Saying))
      by_link l = refl

  -- ---- the turn behind it

  module _ (new : Device) (next : StoreSeen) (link : new.link ≡ mid.link) (same : whole ≡ linked) (few : p.taken < 1000000) (changes : ℕ)
      (counts : length states ≡ changes) where
    -- It was made, or skipped: the connection goes on, or ends.
    turned_leads : (turned : Turned) (later : List StoreState) (k : ℕ) (skipped : Bool)
        → where_done (is_made turned) (turn_in moment here) ≡ later
        → IsStep (tams_machine p.base) p.taken p.state (Answered (ask_of text r moment) turned)
        → Reached (tams_machine p.base) p.beginning (with_states later told_trace) whole false new → All is_good later
        → KeepsState next new (last_or p.state (states ++ later))
        → new.handed ≡ mid.handed + (if is_made turned then turn_handed moment here else 0)
        → counted_more n (states ++ later) (Answered (ask_of text r moment) turned) ≡ plus_answer (changes + k) skipped n
        → LeadsTo p new next moment rest (plus_answer (changes + k) skipped n) (answered_ending linked ends)
    turned_leads turned later k skipped behind is reached good keeps later_handed counts_are =
        let step = Answered (ask_of text r moment) turned in
        let a = answered new step later false link is refl
        (answered_effect p text r moment bytes states reply request.interim later turned behind) (λ on _. same ∙ on) (λ in_answer. absurd (false≢true in_answer)) reached good (written_of turned)
        (λ on. step_handed turned later_handed) in
        subst (λ c. LeadsTo p new next moment rest c (answered_ending linked ends)) counts_are
        (answer_leads turned linked ends a request.ends_is (few_more p text ends r request few) (KeepsState next new) keeps)
      where
        written_of : (t : Turned) → stops_writing (Answered (ask_of text r moment) t ∷ []) ≡ false
        written_of t = refl

        step_handed : (t : Turned) → new.handed ≡ mid.handed + (if is_made t then turn_handed moment here else 0)
            → HasHanded (tams_machine p.base) p.beginning
            (p.finished ++ under_way (p.steps ++ Answered (ask_of text r moment) t ∷ []) Whole ∷ []) new.handed
        step_handed t on =
            let more = answer_handed r moment p.state in
            let behind_is = ap (λ s. if is_made t then turn_handed moment s else 0)
            (last_of p.state (answer_in p.base r moment p.state).change ∙ ap (last_or p.state) reply.states_are) in
            handed_step p (Answered (ask_of text r moment) t) old more new.handed handed changed.begun.so_far.state_is
            (omega (arith, on, says.handed, behind_is)) (omega (arith, on, says.handed, behind_is))

    -- The disk failed in it, while the record of its change was being written.
    turn_stopped : (after : StoreState) → turn_in moment here ≡ Some after
        → turn_in moment (after_answer (tams_machine p.base) p.state (ask_of text r moment)) ≢ None
        → Reached (tams_machine p.base) p.beginning (with_states (after ∷ []) told_trace) whole true new → is_good after
        → EndsThere p new next (moment ∷ []) (plus_answer (changes + 1) false n) endings.Stopped
    turn_stopped after is some reached good =
        let step = Stopped (ask_of text r moment) (InTurn true) in
        let a = answered new step (after ∷ []) true link (tt, (request.spells, some)) refl
        (turning_effect p text r moment bytes states reply request.interim (after ∷ []) (ap (where_done true) is)) (λ on _. same ∙ on) (λ in_answer. absurd (false≢true in_answer)) reached
        (All-cons is_good after [] good (All-nil is_good)) refl (λ on. absurd (false≢true (sym on))) in
        subst (λ k. EndsThere p new next (moment ∷ []) k endings.Stopped)
        (ap (λ k. plus_answer k false n) (omega (arith, length-append states (after ∷ []), counts)))
        (step_ends a (KeepsState next new) endings.Stopped refl tt (λ on. absurd (false≢true (sym on))))

    -- ---- by what the store's turn made

    module _ (store : StoreSeen) (keeps : KeepsState store mid here) (at : is_moment moment ≡ true) (keep : TurnsKeepGood) where
      abbrev due : Option Change
      due = turn_change (journal_of store.kept) (turn store.kept.library moment)

      here_good : is_good here
      here_good = last_good p.state states (good_now changed.begun) changed.good

      -- what the turn's change comes to
      turn_is : (change : Option Change) → due ≡ change → turn_in moment here ≡ option_map (λ c. state_with_change here c []) change
      turn_is change is = sym (turn_of store mid here moment keeps) ∙ ap (option_map (λ c. state_with_change here c [])) is

      module _ (unspent : next.spent ≡ false) where
        -- what the turn hands on
        turn_handed_on : new.handed ≡ mid.handed + bytes_if (journal_of store.kept) due → new.handed ≡ mid.handed + turn_handed moment here
        turn_handed_on on = on ∙ ap (λ k. mid.handed + k) (sym (turn_handed_is store mid here moment keeps))

        pub made_by : (change : Option Change) → due ≡ change → MakesIf true change store.kept next.kept here.archive.held mid new
            → IsNextIf store.kept change next.kept → new.handed ≡ mid.handed + bytes_if (journal_of store.kept) due
            → LeadsTo p new next moment rest (plus_answer (changes + length (option_to_list change)) false n) (answered_ending linked ends)
        made_by None is makes same_kept on =
            turned_leads Made [] 0 false (ap (where_done true) (turn_is None is)) (request.spells, tt)
            (changed_none (kept_calls (tams_machine p.base) p.beginning told_trace whole mid new reached_reply
            (subst (λ s. Elapses (Wrote (tams_machine p.base) s) (Wrote (tams_machine p.base) s) mid new) (sym state_here)
            (over_keeps p.base keeps.state makes))))
            (All-nil is_good)
            (subst (λ l. KeepsState next new (last_or p.state l)) (sym (append-nil states))
            (keeps_so store next mid new here keeps same_kept unspent makes.agrees))
            (turn_handed_on on)
            (ap (λ k. plus_answer k false n) (omega (arith, ap length (append-nil states), counts)))
        made_by (Some change) is makes is_next on =
            let after = state_with_change here change [] in
            turned_leads Made (after ∷ []) 1 false (ap (where_done true) (turn_is (Some change) is)) (request.spells, tt)
            (changed_one reached_reply (over_change p.base told_trace state_here keeps.state makes))
            (All-cons is_good after [] (turn_good keep here after moment here_good at (turn_is (Some change) is)) (All-nil is_good))
            (subst (KeepsState next new) (last_or-append p.state states (after ∷ []))
            (keeps_next store next mid new here change [] keeps unspent is_next (makes.agrees refl)))
            (turn_handed_on on)
            (ap (λ k. plus_answer k false n) (omega (arith, length-append states (after ∷ []), counts)))

        -- There was no memory for it.
        pub skipped_by : is_some (turn store.kept.library moment) ≡ true → new ≡ mid → next.kept ≡ store.kept
            → LeadsTo p new next moment rest (plus_answer (changes + 0) true n) (answered_ending linked ends)
        skipped_by is_due_now stays same_kept =
            turned_leads Skipped [] 0 true refl (request.spells, due_there)
            (subst (λ d. Reached (tams_machine p.base) p.beginning (with_states [] told_trace) whole false d) (sym stays) (changed_none reached_reply))
            (All-nil is_good)
            (subst (λ l. KeepsState next new (last_or p.state l)) (sym (append-nil states))
            (keeps_so store next mid new here keeps same_kept unspent (subst (λ d. AgreesWith d store.kept here.archive.held) (sym stays) keeps.agrees)))
            (omega (arith, ap (λ (d : Device). d.handed) stays))
            (ap (λ k. plus_answer k true n) (omega (arith, ap length (append-nil states), counts)))
          where
            due_there : is_turn_due moment (after_answer (tams_machine p.base) p.state (ask_of text r moment)) ≡ true
            due_there =
                ap (is_turn_due moment) (last_of p.state (answer_in p.base r moment p.state).change ∙ ap (last_or p.state) reply.states_are)
                ∙ ap (λ (s : StoreState). is_some (turn s.archive.library moment)) keeps.state ∙ is_due_now

      -- The disk failed in it.
      pub failed_by : (change : Change) → due ≡ Some change → ChangesStore false change [] store.kept next.kept here.archive.held mid new
          → EndsThere p new next (moment ∷ []) (plus_answer (changes + 1) false n) endings.Stopped
      failed_by change is makes =
          let after = state_with_change here change [] in
          let turns = turn_is (Some change) is in
          turn_stopped after turns (some_there after turns) (changed_torn reached_reply (over_torn p.base told_trace state_here keeps.state makes))
          (turn_good keep here after moment here_good at turns)
        where
          some_there : (after : StoreState) → turn_in moment here ≡ Some after
              → turn_in moment (after_answer (tams_machine p.base) p.state (ask_of text r moment)) ≢ None
          some_there after turns none =
              let same = ap (turn_in moment) (last_of p.state (answer_in p.base r moment p.state).change ∙ ap (last_or p.state) reply.states_are) in
              let both : Some after ≡ None = sym turns ∙ sym same ∙ none in
              cc
