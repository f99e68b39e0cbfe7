-- What was handed to the device for the request that has begun, and with it by its step.
use Rattle.std.specs.Prelude.{is_some, nat_lt}
use Rattle.std.proofs.Common.{◌≡◌, ◌≤◌, ◌+◌, ℕ, Bool, true, false, cond, List, [], ◌∷◌, ◌++◌, length, Option, None, Some, refl, ap, ◌∙◌, arith, length-append}
use Rattle.disk_trait.specs.Device.{Device}
use Rattle.media_rows.specs.declared.change.Change.{Change}
use Rattle.media_rows.specs.declared.change.Change.TheVariants as changes
use Rattle.media_store.specs.Changes.{bytes_by, bytes_if, bytes_with, stores}
use Rattle.media_rows.specs.Apply.{turn}
use Rattle.media_rows.specs.Library.{Library}
use Rattle.media_rows.specs.Objects.{swept_objects}
use Rattle.media_rows.specs.Requests.{first_unfinished}
use Rattle.media_store.specs.Puts.{body_handed, handed_of_piece}
use Rattle.media_store.specs.Stores.{StoreSeen}
use Rattle.media_store.specs.Stores as media
use Rattle.media_store.specs.Turns.{turn_change}
use Rattle.media_store.proofs.Planning.{planned_bytes}
use Rattle.store_plans.specs.declared.outcome.Planned.{Planned}
use Rattle.store_plans.specs.Plans.{MakesStep}
use Rattle.store_plans.specs.declared.puts.PutPlan.{PutPlan}
use Rattle.store_plans.specs.declared.puts.PutPlan.TheVariants.{Kept, Refused, Write}
use Rattle.store_states.specs.Kept.{StoreView, kept_state}
use Rattle.store_states.specs.States.{StoreState}
use Rattle.change_codec.specs.Fitting.{State, fits}
use Rattle.run_history.specs.Laws.{under_way}
use Rattle.run_history.specs.Serving.{RunCounts}
use Rattle.run_history.specs.Sessions.{Whole, after_steps}
use Rattle.run_history.specs.Steps.{Step}
use Rattle.run_history.specs.Traces.{start_of}
use Rattle.run_history.specs.Runs.{HasHanded}
use Rattle.run_history.specs.Parts.{after_sessions, step_cut, step_handed}
use Rattle.run_history.proofs.Handed.{handed_more}
use Rattle.tams_machine.specs.Answers.{fitting_turn, handed_if, journal_of_state, turn_handed}
use Rattle.tams_machine.specs.Machine.{tams_machine}
use Rattle.tams_machine.specs.Requests.{TamsRequest}
use Rattle.tams_service.specs.Answering.{AsksAt, HandedAt, RunPlace}
use Rattle.tams_service.specs.Keeping.{KeepsState}

-- what calls hand on is that of the request
pub handed_then : (p : RunPlace) (old new : Device) (later : ℕ) → HandedAt p old 0 → new.handed ≡ old.handed + later → HandedAt p new later
handed_then p old new later h then = record { before = h.before; so_far = h.so_far; now = omega (arith, then, h.now) }

-- The step of the request hands on what its changes come to, and of what is cut a part at most.
pub handed_step : (p : RunPlace) (step : Step TamsRequest) (d : Device) (more now : ℕ) → HandedAt p d more
    → p.state ≡ (after_steps (tams_machine p.base) (after_sessions (tams_machine p.base) (start_of p.beginning.state) p.finished) p.steps).state
    → d.handed + step_handed (tams_machine p.base) p.state step ≤ now + more
    → now + more ≤ d.handed + step_handed (tams_machine p.base) p.state step + step_cut (tams_machine p.base) step
    → HasHanded (tams_machine p.base) p.beginning (p.finished ++ under_way (p.steps ++ step ∷ []) Whole ∷ []) now
handed_step p step d more now h state least most =
    let m = tams_machine p.base in
    let here = ap (λ s. step_handed m s step) state in
    handed_more p.finished p.steps step Whole Whole now h.so_far (omega (arith, least, h.now, here)) (omega (arith, most, h.now, here))

-- one that changes nothing and is no cut hands on nothing
pub handed_nothing : {p : RunPlace} {old : Device} {unread : List ℕ} {n : RunCounts} (new : Device) → AsksAt p old unread n → new.handed ≡ old.handed
    → (step : Step TamsRequest)
    → step_handed (tams_machine p.base) p.state step ≡ 0 → step_cut (tams_machine p.base) step ≡ 0
    → HasHanded (tams_machine p.base) p.beginning (p.finished ++ under_way (p.steps ++ step ∷ []) Whole ∷ []) new.handed
handed_nothing {p} {old} new asks same step none uncut =
    handed_step p step old 0 new.handed asks.handed asks.asking.begun.so_far.state_is (omega (arith, same, none)) (omega (arith, same, none, uncut))

-- ---- changes

-- a change that stores no object hands on no object
bare_size : (s : StoreState) (change : Change) → stores (Some change) ≡ false → handed_if s (Some change) ≡ bytes_if (journal_of_state s) (Some change)
bare_size s (changes.PutFlow moment flow) bare = omega arith
bare_size s (changes.SetFlow moment flow part) bare = omega arith
bare_size s (changes.SetSource moment source part) bare = omega arith
bare_size s (changes.DropFlow moment flow) bare = omega arith
bare_size s (changes.Allocate moment flow ids) bare = omega arith
bare_size s (changes.Store moment object start size digest) bare = absurd cc
bare_size s (changes.AddSegments moment flow posts) bare = omega arith
bare_size s (changes.CutSegments moment flow range) bare = omega arith
bare_size s (changes.AskDelete moment flow range delete_flow) bare = omega arith
bare_size s (changes.DeleteStep moment) bare = omega arith
bare_size s (changes.SweepStep moment) bare = omega arith
bare_size s (changes.PutHook moment hook) bare = omega arith
bare_size s (changes.DropHook moment url) bare = omega arith
bare_size s (changes.Delivered moment event) bare = omega arith

pub handed_bare : (s : StoreState) (change : Option Change) → stores change ≡ false → handed_if s change ≡ bytes_if (journal_of_state s) change
handed_bare s None bare = refl
handed_bare s (Some change) bare = bare_size s change bare

-- what a plan hands on is what its change does
pub planned_handed : (kept : StoreView) (change : Option Change) (planned : Planned) → MakesStep (media.journal_of kept) change planned
    → bytes_by planned ≡ bytes_if (media.journal_of kept) change
planned_handed kept None planned step = ap (bytes_with planned) step.frame
planned_handed kept (Some change) planned step = planned_bytes kept change planned step

-- a turn stores no object
turn_bare : (journal : State) (library : Library) (moment : ℕ) → stores (turn_change journal (turn library moment)) ≡ false
turn_bare journal library moment =
    by_due (is_some (first_unfinished library.requests)) (nat_lt 0 (length (swept_objects library.segments library.objects moment)))
  where
    by_fit : (b : Bool) (change : Change) → stores (Some change) ≡ false → stores (cond b (Some change) None) ≡ false
    by_fit true change bare = bare
    by_fit false change bare = refl

    by_due : (a b : Bool)
        → stores (turn_change journal (cond a (Some (changes.DeleteStep moment)) (cond b (Some (changes.SweepStep moment)) None))) ≡ false
    by_due true b = by_fit (fits journal (changes.DeleteStep moment)) (changes.DeleteStep moment) refl
    by_due false true = by_fit (fits journal (changes.SweepStep moment)) (changes.SweepStep moment) refl
    by_due false false = refl

fitting_is : (s : StoreState) (due : Option Change) → fitting_turn s due ≡ turn_change (journal_of_state s) due
fitting_is s None = refl
fitting_is s (Some change) = refl

-- what a turn hands on is what the store hands on for it
pub turn_handed_is : (store : StoreSeen) (d : Device) (s : StoreState) (moment : ℕ) → KeepsState store d s
    → turn_handed moment s ≡ bytes_if (media.journal_of store.kept) (turn_change (media.journal_of store.kept) (turn store.kept.library moment))
turn_handed_is store d s moment keeps =
    let kept = kept_state store.kept s.archive.held in
    let due = turn store.kept.library moment in
    ap (turn_handed moment) keeps.state ∙ ap (handed_if kept) (fitting_is kept due)
    ∙ handed_bare kept (turn_change (journal_of_state kept) due) (turn_bare (journal_of_state kept) store.kept.library moment)

-- ---- bodies

plan_none : (plan : PutPlan) → handed_of_piece plan [] ≡ 0
plan_none (Refused why) = refl
plan_none (Kept extent) = refl
plan_none (Write extent plan) = refl

plan_twice : (plan : PutPlan) (part more : List ℕ) → handed_of_piece plan (part ++ more) ≡ handed_of_piece plan part + handed_of_piece plan more
plan_twice (Refused why) part more = refl
plan_twice (Kept extent) part more = refl
plan_twice (Write extent plan) part more = length-append part more

plan_few : (plan : PutPlan) (part : List ℕ) → handed_of_piece plan part ≤ length part
plan_few (Refused why) part = omega arith
plan_few (Kept extent) part = omega arith
plan_few (Write extent plan) part = omega arith

-- none of a body is handed on where none came
pub body_none : (plan : Option PutPlan) → body_handed plan [] ≡ 0
body_none None = refl
body_none (Some plan) = plan_none plan

-- parts of it one behind another
pub body_twice : (plan : Option PutPlan) (part more : List ℕ) → body_handed plan (part ++ more) ≡ body_handed plan part + body_handed plan more
body_twice None part more = refl
body_twice (Some plan) part more = plan_twice plan part more

-- no more than came
pub body_few : (plan : Option PutPlan) (part : List ℕ) → body_handed plan part ≤ length part
body_few None part = omega arith
body_few (Some plan) part = plan_few plan part
