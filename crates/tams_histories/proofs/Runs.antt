-- The states of a run of the machine are a chain.
use Rattle.std.proofs.Common.{◌≡◌, ℕ, Bool, true, false, List, [], ◌∷◌, Option, Some, None, Result, Ok, Err, refl, subst, unwrap_or}
use Rattle.std.specs.Prelude.{IfOk, IfSome, IsTrue, if◌then◌else◌, option_map}
use Rattle.std.specs.List.{AllByRecursion}
use Rattle.std.proofs.lemmas.Bool.{false≢true}
use Rattle.change_codec.specs.Fitting as journals
use Rattle.http_wire.specs.Framing.{method_kind}
use Rattle.library_laws.specs.Laws.{AnswersAreAllowed, AppliesWithin, FirstBytesStay, HasPlace, IsAllowedAt, TurnsApply}
use Rattle.library_laws.specs.MediaLaws.{IsGoodArchive, TakesPlace}
use Rattle.library_laws.proofs.MediaKept.{digests_stay, puts_apply}
use Rattle.library_laws.proofs.SoundLemmas.{applied_is_sound}
use Rattle.media_rows.specs.declared.change.Change.{Change}
use Rattle.media_rows.specs.declared.command.Command.{Command}
use Rattle.media_rows.specs.declared.command.Command.TheVariants as commands
use Rattle.media_rows.specs.declared.refusal.Refusal.{Refusal}
use Rattle.media_rows.specs.declared.refusal.Refusal.TheVariants.{JournalFull}
use Rattle.media_rows.specs.declared.reply.Reply.{Reply}
use Rattle.media_rows.specs.declared.reply.Reply.TheVariants as replies
use Rattle.media_rows.specs.Answer.{unchanged}
use Rattle.media_rows.specs.Apply.{is_allowed, turn}
use Rattle.media_rows.specs.Library.{Library}
use Rattle.media_rows.specs.Media.{answer_to}
use Rattle.media_rows.specs.Moments.{is_moment}
use Rattle.run_history.specs.Machine.{BeforeAnswer, Failure, InAnswer, InTurn}
use Rattle.run_history.specs.Sessions.{Session, after_steps}
use Rattle.run_history.specs.Steps.{Answered, Cut, Made, Refused, Skipped, Stage, Starved, Step, Stopped, TakenRequest, answered, effect, last_or, stage_after}
use Rattle.run_history.proofs.Growth.{stages_count}
use Rattle.run_history.specs.Traces.{start_of, states_of, trace_of}
use Rattle.run_history.specs.Parts.{all_changes, all_moments, changes_of, moments_of}
use Rattle.store_states.specs.Fitting.{fitted_by}
use Rattle.store_states.specs.States.{StoreState}
use Rattle.tams_http.specs.declared.ask.Ask as asked
use Rattle.tams_http.specs.declared.ask.Ask.TheVariants.{GetMedia, PutMedia, Run}
use Rattle.tams_machine.specs.Answers.{answer_in, asked_in, journal_of_state, outcome_by, question_of, state_with_change, turn_in, turned_by}
use Rattle.tams_machine.specs.Laws.{RequestsSendBytes, is_sent}
use Rattle.tams_machine.specs.Machine.{tams_machine}
use Rattle.tams_machine.specs.Requests.{TamsRequest}
use Rattle.tams_histories.specs.Along.{RunsKeepBytes, RunsKeepDigests}
use Rattle.tams_histories.proofs.Chains.{Chain, Link, all_by_recursion, all_parts, chain_append, chain_both, chain_done, digests_along, keep_along}
use Rattle.tams_histories.proofs.Following.{follows_change}
use Rattle.tams_machine.proofs.Keeping.{Comes, Takes, commands_take, placed_take, steps_take, within}

-- ---- one change

-- a change of this state takes the bytes that came for it, and where the state is good and the change fits it is allowed
record Fine (s : StoreState) (came : List ℕ) (change : Change) : Type 0 where
  allowed : IsGoodArchive s.archive → journals.fits (journal_of_state s) change ≡ true → is_allowed s.archive.library change ≡ true
  comes : IsGoodArchive s.archive → Comes change came

fine_link : FirstBytesStay → (s : StoreState) (change : Change) (came : List ℕ) → Fine s came change → journals.fits (journal_of_state s) change ≡ true
    → Link s (state_with_change s change came)
fine_link stay s change came fine fits good = record {
  follows = follows_change stay s.archive change came good (fine.allowed good fits);
  digests = digests_stay s.archive change came good (fine.allowed good fits) (fine.comes good).digest;
}

-- ---- answers

if_fits : FirstBytesStay → (s : StoreState) (came : List ℕ) (reply : Reply) (change : Change) (fit : Bool) → journals.fits (journal_of_state s) change ≡ fit → Fine s came change
    → IfSome (option_map (λ c. state_with_change s c came)
    (if fit then record { reply = reply; change = Some change } else unchanged (replies.Refused JournalFull)).change) (Link s)
if_fits stay s came reply change true is fine = fine_link stay s change came fine is
if_fits stay s came reply change false is fine = tt

fitted_links : FirstBytesStay → (s : StoreState) (came : List ℕ) (reply : Reply) (change : Option Change) → IfSome change (Fine s came)
    → IfSome (option_map (λ c. state_with_change s c came) (fitted_by (journal_of_state s) (record { reply = reply; change = change }) change).change) (Link s)
fitted_links stay s came reply None fine = tt
fitted_links stay s came reply (Some change) fine = if_fits stay s came reply change _ refl fine

if_allowed : (s : StoreState) (came : List ℕ) (moment : ℕ) (change : Option Change) → IfSome change (IsAllowedAt s.archive.library moment)
    → IfSome change (λ c. Comes c came) → IfSome change (Fine s came)
if_allowed s came moment None allowed comes = tt
if_allowed s came moment (Some change) allowed comes = record { allowed = λ good fits. allowed.allowed; comes = λ good. comes }

if_placed : (s : StoreState) (object bytes : List ℕ) (moment : ℕ) (change : Option Change)
    → (IsGoodArchive s.archive → IfSome change (TakesPlace s.archive.library object bytes moment)) → IfSome change (Fine s bytes)
if_placed s object bytes moment None takes = tt
if_placed s object bytes moment (Some change) takes = record {
  allowed = λ good fits. (applied_is_sound s.archive.library change _ (takes good).applies).allowed;
  comes = λ good. placed_take s.archive.library object bytes moment change (takes good);
}

-- a command of a request names no place
no_place : (library : Library) (command : Command) → is_sent (Run command) ≡ true → HasPlace library command
no_place library (commands.PutFlow body) sent = tt
no_place library (commands.SetFlow flow part) sent = tt
no_place library (commands.SetSource source part) sent = tt
no_place library (commands.DropFlow flow) sent = tt
no_place library (commands.Allocate flow want) sent = tt
no_place library (commands.Keep object start size digest) sent = absurd (false≢true sent)
no_place library (commands.AddSegments flow posts) sent = tt
no_place library (commands.CutSegments flow range) sent = tt
no_place library (commands.PutHook hook) sent = tt
no_place library (commands.DropHook url) sent = tt
no_place library (commands.Ask query) sent = tt

-- ---- turns

turn_if : FirstBytesStay → (s : StoreState) (change : Change) (fit : Bool) → journals.fits (journal_of_state s) change ≡ fit → Fine s [] change
    → IfSome (if fit then Some (state_with_change s change []) else None) (Link s)
turn_if stay s change true is fine = fine_link stay s change [] fine is
turn_if stay s change false is fine = tt

turned_links : FirstBytesStay → (s : StoreState) (change : Option Change) → (IsGoodArchive s.archive → IfSome change (AppliesWithin s.archive.library))
    → IfSome change (λ c. Comes c []) → IfSome (turned_by s change) (Link s)
turned_links stay s None applies comes = tt
turned_links stay s (Some change) applies comes = turn_if stay s change _ refl (record {
  allowed = λ good fits. (applied_is_sound s.archive.library change _ (applies good (within s change fits))).allowed;
  comes = λ good. comes;
})

-- ---- steps

module _ (sends : RequestsSendBytes) (allowed : AnswersAreAllowed) (turns : TurnsApply) (stay : FirstBytesStay) where
  asked_links : (s : StoreState) (body : List ℕ) (moment : ℕ) → is_moment moment ≡ true → (asked : Result asked.Ask Refusal)
      → IfOk asked (λ ask. IsTrue (is_sent ask)) → IfSome (option_map (λ c. state_with_change s c body) (outcome_by s body moment asked).change) (Link s)
  asked_links s body moment at (Err refusal) sent = tt
  asked_links s body moment at (Ok (Run command)) sent =
      let outcome = answer_to s.archive (question_of (Run command) body) moment in
      fitted_links stay s body outcome.reply outcome.change
      (if_allowed s body moment outcome.change (allowed s.archive.library command moment (no_place s.archive.library command sent))
      (commands_take s.archive.library command moment body sent))
  asked_links s body moment at (Ok (PutMedia object)) sent =
      let outcome = answer_to s.archive (question_of (PutMedia object) body) moment in
      fitted_links stay s body outcome.reply outcome.change
      (if_placed s object body moment outcome.change (λ good. puts_apply s.archive object body moment good.good at))
  asked_links s body moment at (Ok (GetMedia object)) sent = tt

  answer_links : (base : List ℕ) (r : TamsRequest) (moment : ℕ) (s : StoreState) → is_moment moment ≡ true
      → IfSome (answer_in base r moment s).change (Link s)
  answer_links base r moment s at =
      asked_links s r.body moment at (asked_in s r) (sends s.archive.library.id (method_kind r.head.method) r.head.target r.body)

  turn_links : (moment : ℕ) (s : StoreState) → is_moment moment ≡ true → IfSome (turn_in moment s) (Link s)
  turn_links moment s at = turned_links stay s (turn s.archive.library moment) (λ good. turns s.archive.library moment good.good at)
      (steps_take _ _ moment)

  module _ (base : List ℕ) where
    abbrev IsTime : ℕ → Type 0
    IsTime moment = is_moment moment ≡ true

    answered_chain : (at : Stage StoreState) (ask : TakenRequest TamsRequest) (made : Bool) → is_moment ask.moment ≡ true
        → Chain at.state (answered (tams_machine base) at ask made).changes
    answered_chain at ask made time =
        let change = (answer_in base ask.request ask.moment at.state).change in
        chain_both at.state change (turn_in ask.moment (unwrap_or change at.state)) made
        (answer_links base ask.request ask.moment at.state time) (turn_links ask.moment (unwrap_or change at.state) time)

    stopped_chain : (at : Stage StoreState) (ask : TakenRequest TamsRequest) (failure : Failure)
        → AllByRecursion IsTime (effect (tams_machine base) at (Stopped ask failure)).moments
        → Chain at.state (effect (tams_machine base) at (Stopped ask failure)).changes
    stopped_chain at ask (BeforeAnswer writing) times =
        chain_done at.state (answer_in base ask.request ask.moment at.state).change writing (answer_links base ask.request ask.moment at.state times.0)
    stopped_chain at ask InAnswer times = answered_chain at ask false times.0
    stopped_chain at ask (InTurn writing) times = answered_chain at ask writing times.0

    step_chain : (at : Stage StoreState) (step : Step TamsRequest) → AllByRecursion IsTime (effect (tams_machine base) at step).moments
        → Chain at.state (effect (tams_machine base) at step).changes
    step_chain at (Answered ask Made) times = answered_chain at ask true times.0
    step_chain at (Answered ask Skipped) times = answered_chain at ask false times.0
    step_chain at (Refused text refusal) times = tt
    step_chain at (Starved ask) times = tt
    step_chain at (Stopped ask failure) times = stopped_chain at ask failure times
    step_chain at (Cut text interim moment) times = tt

    steps_chain : (at : Stage StoreState) (steps : List (Step TamsRequest)) → AllByRecursion IsTime (moments_of (tams_machine base) at steps)
        → Chain at.state (changes_of (tams_machine base) at steps)
    steps_chain at [] times = tt
    steps_chain at (step ∷ steps) times =
        let parts = all_parts IsTime (effect (tams_machine base) at step).moments _ times in
        chain_append at.state (effect (tams_machine base) at step).changes _ (step_chain at step parts.0)
        (steps_chain (stage_after (tams_machine base) at step) steps parts.1)

    sessions_chain : (at : Stage StoreState) (sessions : List (Session TamsRequest)) → AllByRecursion IsTime (all_moments (tams_machine base) at sessions)
        → Chain at.state (all_changes (tams_machine base) at sessions)
    sessions_chain at [] times = tt
    sessions_chain at (session ∷ later) times =
        let parts = all_parts IsTime (moments_of (tams_machine base) at session.steps) _ times in
        chain_append at.state (changes_of (tams_machine base) at session.steps) _ (steps_chain at session.steps parts.0)
        (subst (λ (s : StoreState). Chain s (all_changes (tams_machine base) (after_steps (tams_machine base) at session.steps) later))
        (stage_of at session.steps) (sessions_chain (after_steps (tams_machine base) at session.steps) later parts.1))
      where
        stage_of : (at : Stage StoreState) (steps : List (Step TamsRequest))
            → (after_steps (tams_machine base) at steps).state ≡ last_or at.state (changes_of (tams_machine base) at steps)
        stage_of at steps = (stages_count StoreState TamsRequest (tams_machine base) at steps).1

  pub runs_keep_bytes : RunsKeepBytes
  runs_keep_bytes base from sessions good times =
      keep_along from (all_changes (tams_machine base) (start_of from) sessions)
      (all_by_recursion (tams_machine base).good (states_of (trace_of (tams_machine base) from sessions)) good)
      (sessions_chain base (start_of from) sessions (all_by_recursion (IsTime base) (all_moments (tams_machine base) (start_of from) sessions) times))

  pub runs_keep_digests : RunsKeepDigests
  runs_keep_digests base from sessions good times =
      digests_along from (all_changes (tams_machine base) (start_of from) sessions)
      (all_by_recursion (tams_machine base).good (states_of (trace_of (tams_machine base) from sessions)) good)
      (sessions_chain base (start_of from) sessions (all_by_recursion (IsTime base) (all_moments (tams_machine base) (start_of from) sessions) times))
