-- Turns of a run that works: how they begin, go on and end.
use Rattle.std.proofs.Common.{◌≡◌, ◌≢◌, ◌≤◌, ◌<◌, ◌+◌, ◌-◌, ◌*◌, ◌^◌, ℕ, Bool, true, false, cond, List, [], ◌∷◌, ◌++◌, length, All, Option, None, Some, Result, Ok, Err, refl, sym, ap, ◌∙◌, subst, inl, inr, append-nil, append_assoc, length-append, arith}
use Rattle.std.specs.Prelude.{is_some, option_map}
use Rattle.std.proofs.lemmas.Bool.{false≢true}
use Rattle.std.proofs.lemmas.Bool.Decides.{nat_tests}
use Rattle.std.proofs.lemmas.List.Elements.{All-append, All-cons, All-head, All-nil, All-tail}
use Rattle.change_codec.specs.Fitting.{State}
use Rattle.connection_loop.specs.Endings.{TellsAll}
use Rattle.connection_loop.proofs.Turning.{tells_later}
use Rattle.disk_trait.proofs.Theorems.{calls_twice, no_calls}
use Rattle.disk_trait.specs.Calls.{DiskCalls, DiskReads, LeavesOnly}
use Rattle.disk_trait.specs.Device.{Device, IsDevice, read_with}
use Rattle.media_journal.specs.declared.fault.JournalFault.{JournalFault}
use Rattle.media_journal.specs.declared.fault.JournalFault.TheVariants as opening
use Rattle.media_rows.specs.declared.change.Change.{Change}
use Rattle.media_rows.specs.declared.change.Change.TheVariants.{DeleteStep, SweepStep}
use Rattle.media_rows.specs.Apply.{turn}
use Rattle.media_rows.specs.Moments.{is_moment}
use Rattle.media_store.specs.declared.fault.StoreFault.{StoreFault}
use Rattle.media_store.specs.declared.fault.StoreFault.TheVariants.{Disk, Memory}
use Rattle.media_store.specs.declared.turns.TurnMade.TheVariants.{Deleted, NoRoom, Nothing, Swept}
use Rattle.media_store.specs.Changes.{IsAfterChange, IsNextIf, ChangesStore, MakesIf, bytes_if}
use Rattle.media_store.specs.declared.turns.TurnMade.{TurnMade}
use Rattle.media_store.specs.Faults.{OnCalls, OnDisk, OnMemory, not_disk_fault}
use Rattle.media_store.specs.Stores.{StoreSeen, journal_of, size_of}
use Rattle.media_store.specs.Turns.{TurnIs, turn_change}
use Rattle.request_hearing.proofs.Asking.{kept_calls}
use Rattle.run_history.proofs.Invariant.{durable_changes, state_now-change, torn_changes}
use Rattle.run_history.specs.Runs.{Beginning}
use Rattle.run_history.specs.Steps.{last_or}
use Rattle.run_history.specs.Reaching.{Reached}
use Rattle.site_edge.specs.Clocks.{IsMoment}
use Rattle.disk_trait.specs.Forms.{form_in_use}
use Rattle.store_opening.specs.Laws.{KeptStands, RefusedStandForNone}
use Rattle.store_opening.specs.Opening.{IsKept, bytes_in_image}
use Rattle.store_states.specs.Kept.{AgreesWith, kept_state}
use Rattle.store_states.specs.Laws.{IsOneState}
use Rattle.store_states.specs.States.{StoreState}
use Rattle.tams_machine.specs.Answers.{state_with_change, turn_handed, turn_in}
use Rattle.tams_machine.specs.Laws.{TurnsKeepGood}
use Rattle.tams_machine.specs.Machine.{tams_machine}
use Rattle.tams_machine.specs.Requests.{TamsRequest}
use Rattle.tams_service.specs.Keeping.{KeepsState}
use Rattle.tams_service.proofs.Handed.{turn_handed_is}
use Rattle.tams_service.proofs.Good.{is_good, last_good, turn_good}
use Rattle.tams_service.proofs.Moments.{over_change, over_keeps, over_torn}
use Rattle.tams_service.proofs.States.{keeps_next, turn_of}
use Rattle.store_commands.specs.Beginning.{BeginsFrom, beginning, most_given}
use Rattle.store_commands.specs.Opening.{StandsForOne, opening_outcome}
use Rattle.tams_outcomes.specs.Touching.{Untouched}
use Rattle.store_commands.specs.WorkEnds.{WorkCause}
use Rattle.store_commands.specs.Turning.{WorkRun}
use Rattle.tams_outcomes.specs.Statuses.{no_disk_fault, exit_of}
use Rattle.store_commands.specs.Working.{HasWorked, HaveTurned, TurnsEnd, WorkedOff, turns_handed, turns_trace, work_outcome}
use Rattle.store_commands.specs.Turning.{IsWorking, SoMany, WorksOn}
use Rattle.store_commands.proofs.BeginningLemmas.{begun_served}
use Rattle.store_commands.proofs.OpeningLemmas.{Answers}
use Rattle.store_commands.proofs.OpeningLemmas.{no_store, untouched_by}
use Rattle.store_commands.proofs.TurnsLeft.{turns_few}

-- ---- the beginning

-- a store that was opened keeps the state for which the file stands
pub keeps_opened : (store : StoreSeen) (d : Device) (from : StoreState) (bytes : List (List ℕ)) → store.spent ≡ false → AgreesWith d store.kept bytes
    → from ≡ kept_state store.kept bytes → KeepsState store d from
keeps_opened store d from bytes unspent agrees is = subst (KeepsState store d) (sym is) (record { unspent = unspent; agrees = agrees; state = refl })

pub working_begins : (old opened : Device) (clock : Bool) (begun : List ℕ) (store : StoreSeen) → IsDevice old → Untouched old opened → (from : StoreState)
    → BeginsFrom from old clock begun → KeepsState store opened from → IsWorking (beginning from old begun) [] [] opened begun store
working_begins old opened clock begun store sound untouched from start keeps =
    let begins =
    begun_served [] old opened from begun sound start.tells.honest start.tells.tells start.settled start.stands untouched.time untouched.link
    untouched.handed in
    record {
      turned = refl;
      given_is = sym (append-nil begun);
      are_moments = All-nil IsMoment;
      reached = begins.reached;
      good = begins.good;
      keeps = keeps;
      handed = omega (arith, untouched.handed);
    }

-- no turn was made
pub no_turns : (old new : Device) (clock : Bool) (begun : List ℕ) (end : Result ℕ StoreFault) → IsDevice old → Untouched old new → (from : StoreState)
    → BeginsFrom from old clock begun → TurnsEnd from 0 [] false end → HasWorked (beginning from old begun) new begun end
no_turns old new clock begun end sound untouched from start ends =
    let begins =
    begun_served [] old new from begun sound start.tells.honest start.tells.tells start.settled start.stands untouched.time untouched.link untouched.handed in
    record {
      times = [];
      states = [];
      turned = refl;
      idle = [];
      given_is = sym (append-nil begun);
      are_moments = All-nil IsMoment;
      torn = false;
      moments = begins.reached.right;
      exit = rw untouched.seen (record { room = from.room; stands = start.stands });
      good = begins.good;
      causes = ends;
      bytes = λ held. omega (arith, untouched.handed);
    }

-- ---- moments and states, one more

have_more : (s : StoreState) (moments : List ℕ) (states : List StoreState) (t : ℕ) (next : StoreState) → HaveTurned s moments states
    → turn_in t (last_or s states) ≡ Some next → HaveTurned s (moments ++ t ∷ []) (states ++ next ∷ [])
have_more s [] [] t next turned is = (is, refl)
have_more s [] (after ∷ states) t next turned is = absurd cc
have_more s (moment ∷ moments) [] t next turned is = absurd turned
have_more s (moment ∷ moments) (after ∷ states) t next turned is = (turned.0, have_more after moments states t next turned.1 is)

-- and of what they hand on
handed_more : (s : StoreState) (moments : List ℕ) (states : List StoreState) (t : ℕ) (next : StoreState) → HaveTurned s moments states
    → turns_handed s (moments ++ t ∷ []) (states ++ next ∷ []) ≡ turns_handed s moments states + turn_handed t (last_or s states)
handed_more s [] [] t next turned = omega arith
handed_more s [] (after ∷ states) t next turned = absurd cc
handed_more s (moment ∷ moments) [] t next turned = absurd turned
handed_more s (moment ∷ moments) (after ∷ states) t next turned = omega (arith, handed_more after moments states t next turned.1)

last_more : (s : StoreState) (states : List StoreState) (next : StoreState) → last_or s (states ++ next ∷ []) ≡ next
last_more s states next = state_now-change (turns_trace s states) next

moments_more : (given begun moments : List ℕ) (t : ℕ) → given ≡ begun ++ moments → given ++ t ∷ [] ≡ begun ++ (moments ++ t ∷ [])
moments_more given begun moments t is = ap (λ (l : List ℕ). l ++ t ∷ []) is ∙ append_assoc begun moments (t ∷ [])

-- ---- what a turn made

pub deleted : (journal : State) (due : Option Change) (t : ℕ) → TurnIs journal due t Deleted → turn_change journal due ≡ Some (DeleteStep t)
deleted journal due t is = ap (turn_change journal) is.is ∙ ap (λ (b : Bool). cond b (Some (DeleteStep t)) None) is.fits

pub swept : (journal : State) (due : Option Change) (t : ℕ) → TurnIs journal due t Swept → turn_change journal due ≡ Some (SweepStep t)
swept journal due t is = ap (turn_change journal) is.is ∙ ap (λ (b : Bool). cond b (Some (SweepStep t)) None) is.fits

pub nothing : (journal : State) (due : Option Change) (t : ℕ) → TurnIs journal due t Nothing → turn_change journal due ≡ None
nothing journal due t is = ap (turn_change journal) is

pub no_room : (journal : State) (due : Option Change) (t : ℕ) → TurnIs journal due t NoRoom → turn_change journal due ≡ None
no_room journal due t is = ap (turn_change journal) is.is ∙ ap (λ (b : Bool). cond b (Some is.change) None) is.full

-- ---- a turn

module _ (b : Beginning StoreState) (moments : List ℕ) (states : List StoreState) (mid new : Device) (given : List ℕ) (store next : StoreSeen) (t : ℕ)
    (w : IsWorking b moments states mid given store) (at : IsMoment t) (keep : TurnsKeepGood) where
  abbrev here : StoreState
  here = last_or b.state states

  abbrev due : Option Change
  due = turn_change (journal_of store.kept) (turn store.kept.library t)

  is_at : is_moment t ≡ true
  is_at = grind (arith, nat_tests, at)

  good_here : is_good here
  good_here = last_good b.state states (All-head is_good b.state states w.good) (All-tail is_good b.state states w.good)

  turn_is : (change : Option Change) → due ≡ change → turn_in t here ≡ option_map (λ c. state_with_change here c []) change
  turn_is change is = sym (turn_of store mid here t w.keeps) ∙ ap (option_map (λ c. state_with_change here c [])) is

  moments_are : All IsMoment (moments ++ t ∷ [])
  moments_are = All-append IsMoment moments (t ∷ []) w.are_moments (All-cons IsMoment t [] at (All-nil IsMoment))

  -- a run that ends behind turns so far
  ended : (end : Result ℕ StoreFault) (idle : List ℕ) (now : Device) (later : List ℕ) → later ≡ given ++ idle → All IsMoment (moments ++ idle)
      → Reached (tams_machine []) b (turns_trace b.state states) false false now → IsDevice now → now.honest ≡ true → now.shows ≡ true
      → now.tells ≡ true → TurnsEnd here (length moments) idle false end → now.handed ≡ mid.handed → HasWorked b now later end
  ended end idle now later later_is all reached sound honest shows tells ends still = record {
    times = moments;
    states = states;
    turned = w.turned;
    idle = idle;
    given_is = later_is ∙ ap (λ (l : List ℕ). l ++ idle) w.given_is ∙ append_assoc b.given moments idle;
    are_moments = all;
    torn = false;
    moments = reached.right;
    exit = (reached.now (read_with now (sound.itself shows).0) (sound.itself shows).1).stands;
    good = w.good;
    causes = ends;
    bytes = λ held. still ∙ w.handed;
  }

  -- what its change hands on
  turn_handed_on : new.handed ≡ mid.handed + bytes_if (journal_of store.kept) due → new.handed ≡ mid.handed + turn_handed t here
  turn_handed_on on = on ∙ ap (λ k. mid.handed + k) (sym (turn_handed_is store mid here t w.keeps))

  -- It changed something.
  module _ (change : Change) (is : due ≡ Some change) where
    abbrev after : StoreState
    after = state_with_change here change []

    goes : turn_in t here ≡ Some after
    goes = turn_is (Some change) is

    good_more : All is_good (b.state ∷ (states ++ after ∷ []))
    good_more =
        All-cons is_good b.state (states ++ after ∷ []) (All-head is_good b.state states w.good)
        (All-append is_good states (after ∷ []) (All-tail is_good b.state states w.good)
        (All-cons is_good after [] (turn_good keep here after t good_here is_at goes) (All-nil is_good)))

    pub works_on : next.spent ≡ false → ChangesStore true change [] store.kept next.kept here.archive.held mid new → IsAfterChange store.kept change next.kept
        → new.handed ≡ mid.handed + bytes_if (journal_of store.kept) due
        → IsWorking b (moments ++ t ∷ []) (states ++ after ∷ []) new (given ++ t ∷ []) next
    works_on unspent makes is_next on = record {
      turned = have_more b.state moments states t after w.turned goes;
      given_is = moments_more given b.given moments t w.given_is;
      are_moments = moments_are;
      reached = durable_changes StoreState TamsRequest (tams_machine []) b (turns_trace b.state states) after false mid new w.reached
          (over_change [] (turns_trace b.state states) refl w.keeps.state makes);
      good = good_more;
      keeps = subst (KeepsState next new) (sym (last_more b.state states after))
          (keeps_next store next mid new here change [] w.keeps unspent is_next (makes.agrees refl));
      handed = omega (arith, turn_handed_on on, w.handed, handed_more b.state moments states t after w.turned);
    }

    -- The disk failed in it, so that its change may stand or not.
    pub works_torn : ChangesStore false change [] store.kept next.kept here.archive.held mid new → IsDevice new → new.honest ≡ true → new.shows ≡ true
        → new.tells ≡ true → (later : List ℕ) → later ≡ given ++ t ∷ [] → HasWorked b new later (Err Disk)
    works_torn makes sound honest shows tells later later_is =
        let reached =
        torn_changes StoreState TamsRequest (tams_machine []) b (turns_trace b.state states) after false mid new w.reached
        (over_torn [] (turns_trace b.state states) refl w.keeps.state makes) in
        record {
          times = moments ++ t ∷ [];
          states = states ++ after ∷ [];
          turned = have_more b.state moments states t after w.turned goes;
          idle = [];
          given_is = later_is ∙ moments_more given b.given moments t w.given_is ∙ ap (λ (l : List ℕ). b.given ++ l) (sym (append-nil (moments ++ t ∷ [])));
          are_moments = subst (All IsMoment) (sym (append-nil (moments ++ t ∷ []))) moments_are;
          torn = true;
          moments = reached.right;
          exit = (reached.now (read_with new (sound.itself shows).0) (sound.itself shows).1).stands;
          good = good_more;
          causes = refl;
          bytes = λ held. absurd (held refl);
        }

  -- It changed nothing.
  pub works_no_more : due ≡ None → MakesIf true None store.kept next.kept here.archive.held mid new → IsDevice new → new.honest ≡ true → new.shows ≡ true
      → new.tells ≡ true → (later : List ℕ) → later ≡ given ++ t ∷ [] → (turns : ℕ) → length moments ≡ turns
      → new.handed ≡ mid.handed + bytes_if (journal_of store.kept) due → HasWorked b new later (Ok turns)
  works_no_more is keeps sound honest shows tells later later_is turns number on =
      ended (Ok turns) (t ∷ []) new later later_is moments_are
      (kept_calls (tams_machine []) b (turns_trace b.state states) false mid new w.reached (over_keeps [] w.keeps.state keeps)) sound honest shows tells
      (sym number, refl, (t, refl, turn_is None is)) (omega (arith, on, ap (bytes_if (journal_of store.kept)) is))

  -- There was no memory for it.
  pub works_starved : new ≡ mid → is_some (turn store.kept.library t) ≡ true → IsDevice new → new.honest ≡ true → new.shows ≡ true → new.tells ≡ true
      → (later : List ℕ) → later ≡ given ++ t ∷ []
      → HasWorked b new later (Err Memory)
  works_starved stays some sound honest shows tells later later_is =
      ended (Err Memory) (t ∷ []) new later later_is moments_are
      (subst (Reached (tams_machine []) b (turns_trace b.state states) false false) (sym stays) w.reached) sound honest shows tells
      (refl, inr (t, refl, ap (λ (s : StoreState). is_some (turn s.archive.library t)) w.keeps.state ∙ some)) (ap (λ (d : Device). d.handed) stays)

-- Before turns can't be counted any more one changes nothing.
pub works_to_last : (b : Beginning StoreState) (d : Device) (given : List ℕ) (store : StoreSeen) (turns : ℕ) → turns ≡ 2 ^ 64 - 1 → SoMany b d given store turns
    → HasWorked b d given (Ok turns)
works_to_last b d given store turns most many =
    absurd (omega (arith, most, many.number, turns_few b.state many.moments many.states many.working.turned many.working.good))

-- ---- turns one after another

pub works_first : (d : Device) (told : Bool) (begun : List ℕ) (store : StoreSeen) → store.spent ≡ false → store.put ≡ None
    → size_of store.kept ≤ d.size → WorksOn d d told told begun begun store store 0 0
works_first d told begun store unspent idle size = record {
  unspent = unspent;
  idle = idle;
  size_is = size;
  counted = refl;
  calls = no_calls d;
  working = λ all few b w. (all.clock_tells, record { moments = []; states = []; number = refl; working = w });
}

module _ (old now new : Device) (told tells later : Bool) (begun given given_now : List ℕ) (first store next : StoreSeen) (turns counter t : ℕ)
    (so_far : WorksOn old now told tells begun given first store turns counter) (at : IsMoment t)
    (lasts : tells ≡ true → length given + 1 < 2 ^ 64 → later ≡ true)
    (gives : later ≡ true → given_now ≡ given ++ t ∷ []) (keep : TurnsKeepGood) where
  abbrev change_due : Option Change
  change_due = turn_change (journal_of store.kept) (turn store.kept.library t)

  -- what is told of a device stays told
  pub told_now : TellsAll old told → TellsAll now told
  told_now all = tells_later old now told so_far.calls.same all

  -- so few turns change something that the clock tells one moment more
  still_tells : TellsAll old told → length begun ≤ most_given → (b : Beginning StoreState) → IsWorking b [] [] old begun first → later ≡ true
  still_tells all few b w =
      let many = so_far.working all few b w in
      let working = many.1.working in
      lasts many.0 (omega (
        arith,
        few,
        turns_few b.state many.1.moments many.1.states working.turned working.good,
        ap (λ (l : List ℕ). length l) w.given_is,
        ap (λ (l : List ℕ). length l) working.given_is,
        length-append b.given [],
        length-append b.given many.1.moments,
      ))

  -- The turn changed something.
  pub works_more : (change : Change) → change_due ≡ Some change → next.spent ≡ false → next.put ≡ None
      → (now.honest ≡ true → now.shows ≡ true → (held : List (List ℕ)) → AgreesWith now store.kept held
      → MakesIf true change_due store.kept next.kept held now new)
      → IsNextIf store.kept change_due next.kept → DiskCalls true now new
      → (now.tells ≡ true → new.handed ≡ now.handed + bytes_if (journal_of store.kept) change_due)
      → WorksOn old new told later begun given_now first next (turns + 1) (counter + 1)
  works_more change is unspent idle makes is_next calls handed =
      let made = rw is at makes in
      let behind = rw is at is_next in
      record {
        unspent = unspent;
        idle = idle;
        size_is = omega (arith, ap (λ (n : ℕ). 4096 * n) behind.blocks, calls.same.size, so_far.size_is);
        counted = omega (arith, so_far.counted);
        calls = calls_twice true old now new so_far.calls calls;
        working = λ all few b w.
            let many = (so_far.working all few b w).1 in
            let tells_on = still_tells all few b w in
            let here = told_now all in
            let on =
            works_on b many.moments many.states now new given store next t many.working at keep change is unspent
            (made here.honest here.shows _ many.working.keeps.agrees) behind (handed here.tells) in (
              tells_on,
              record {
                moments = many.moments ++ t ∷ [];
                states = many.states ++ state_with_change (last_or b.state many.states) change [] ∷ [];
                number = omega (arith, length-append many.moments (t ∷ []), many.number);
                working = subst
                    (λ (l : List ℕ). IsWorking b (many.moments ++ t ∷ []) (many.states ++ state_with_change (last_or b.state many.states) change []
                    ∷ []) new l next)
                    (sym (gives tells_on)) on;
              },
            );
      }

  module _ (b : Beginning StoreState) (w : IsWorking b [] [] old begun first) (all : TellsAll old told) (few : length begun ≤ most_given)
      (sound : IsDevice new) where
    many : SoMany b now given store turns
    many = (so_far.working all few b w).1

    gives_now : given_now ≡ given ++ t ∷ []
    gives_now = gives (still_tells all few b w)

    -- It changed nothing.
    pub works_done : change_due ≡ None
        → (now.honest ≡ true → now.shows ≡ true → (held : List (List ℕ)) → AgreesWith now store.kept held
        → MakesIf true change_due store.kept next.kept held now new)
        → DiskCalls true now new → (now.tells ≡ true → new.handed ≡ now.handed + bytes_if (journal_of store.kept) change_due)
        → HasWorked b new given_now (Ok turns)
    works_done is makes calls handed =
        let here = told_now all in
        let keeps = rw is at (makes here.honest here.shows _ many.working.keeps.agrees) in
        works_no_more b many.moments many.states now new given store next t many.working at keep is keeps sound
        (calls.same.honest ∙ here.honest) (calls.same.shows ∙ here.shows) (calls.same.tells ∙ here.tells) given_now gives_now turns many.number
        (handed here.tells)

    pub works_without : new ≡ now → is_some (turn store.kept.library t) ≡ true → HasWorked b new given_now (Err Memory)
    works_without stays some =
        let here = told_now all in
        works_starved b many.moments many.states now new given store next t many.working at keep stays some sound
        (rw stays here.honest) (rw stays here.shows) (rw stays here.tells) given_now gives_now

    -- The disk failed in it.
    pub works_failed : is_some change_due ≡ true
        → (now.honest ≡ true → now.shows ≡ true → (held : List (List ℕ)) → AgreesWith now store.kept held
        → MakesIf false change_due store.kept next.kept held now new)
        → DiskCalls false now new → HasWorked b new given_now (Err Disk)
    works_failed some makes calls =
        let here = told_now all in
        by_change change_due refl some (makes here.honest here.shows _ many.working.keeps.agrees)
      where
        by_change : (change : Option Change) → change_due ≡ change → is_some change ≡ true
            → MakesIf false change store.kept next.kept (last_or b.state many.states).archive.held now new → HasWorked b new given_now (Err Disk)
        by_change None is none made = absurd (false≢true none)
        by_change (Some change) is there made =
            let here = told_now all in
            works_torn b many.moments many.states now new given store next t many.working at keep change is made sound
            (calls.same.honest ∙ here.honest) (calls.same.shows ∙ here.shows) (calls.same.tells ∙ here.tells) given_now gives_now

    pub works_fails : (fault : StoreFault) (Starves : Type 0) → OnMemory {X = TurnMade} (Err fault) Starves
        → (Starves → (new ≡ now) × (is_some (turn store.kept.library t) ≡ true))
        → OnDisk {X = TurnMade} (Err fault) (is_some change_due ≡ true)
        → (now.honest ≡ true → now.shows ≡ true → (held : List (List ℕ)) → AgreesWith now store.kept held
        → OnCalls {X = TurnMade} (Err fault) (λ ok. MakesIf ok change_due store.kept next.kept held now new))
        → DiskCalls (not_disk_fault {X = TurnMade} (Err fault)) now new → HasWorked b new given_now (Err fault)
    works_fails Memory Starves starved stays failing makes calls = let at_rest = stays starved in works_without at_rest.0 at_rest.1
    works_fails Disk Starves starved stays failing makes calls = works_failed failing makes calls

-- ---- a run of `work`

pub work_disk : (end : Result ℕ StoreFault) → no_disk_fault (work_outcome end) ≡ not_disk_fault end
work_disk (Ok turns) = refl
work_disk (Err Disk) = refl
work_disk (Err Memory) = refl

work_unrefused : (end : Result ℕ StoreFault) → exit_of (work_outcome end) ≢ 2
work_unrefused (Ok turns) s = omega (arith, s)
work_unrefused (Err Disk) s = omega (arith, s)
work_unrefused (Err Memory) s = omega (arith, s)

work_cause : (old new : Device) (end : Result ℕ StoreFault) → (old.shows ≡ true → StandsForOne old.seen) → WorkCause old new (work_outcome end)
work_cause old new (Ok turns) stood = stood
work_cause old new (Err Disk) stood = tt
work_cause old new (Err Memory) stood = tt

module _ (old opened : Device) (clock : Bool) (begun : List ℕ) (sound : IsDevice old) (ok : Bool) (reads : DiskReads ok old opened) where
  untouched : Untouched old opened
  untouched = untouched_by ok old opened reads

  -- The store couldn't be opened.
  failed_cause : (fault : JournalFault) → Answers old fault → WorkCause old opened (opening_outcome fault)
  failed_cause opening.NotStore answer = (answer, untouched)
  failed_cause (opening.Damaged at) answer = (answer, untouched)
  failed_cause opening.OldForm answer = (answer, untouched)
  failed_cause opening.Disk answer = tt
  failed_cause opening.Memory answer = tt

  failed_history : RefusedStandForNone → (fault : JournalFault) → Answers old fault → (from : StoreState) → BeginsFrom from old clock begun
      → WorkedOff (beginning from old begun) opened begun (opening_outcome fault)
  failed_history none opening.NotStore answer from start = absurd (no_store old.seen (answer start.tells.shows) from start.stands)
  failed_history none (opening.Damaged at) answer from start = absurd (none.damaged old.seen at form_in_use from (answer start.tells.shows).1 start.stands)
  failed_history none opening.OldForm answer from start = absurd (none.other old.seen from (answer start.tells.shows) start.stands)
  failed_history none opening.Disk answer from start =
      record { end = Err Disk; worked = no_turns old opened clock begun (Err Disk) sound untouched from start refl; line = refl }
  failed_history none opening.Memory answer from start =
      record { end = Err Memory; worked = no_turns old opened clock begun (Err Memory) sound untouched from start (refl, inl (refl, refl)); line = refl }

  pub work_refused_by : RefusedStandForNone → (fault : JournalFault) → Answers old fault → WorkRun old opened clock begun begun (opening_outcome fault)
  work_refused_by none fault answer =
      record { cause = failed_cause fault answer; link = reads.calls.link; history = failed_history none fault answer; unread = λ _. refl }

  -- It was, and turns were made.
  pub work_done : KeptStands → IsOneState → (store : StoreSeen) → (old.shows ≡ true → IsKept old.seen store.kept) → store.spent ≡ false
      → (old.shows ≡ true → LeavesOnly old.seen old → AgreesWith opened store.kept (bytes_in_image old.seen store.kept)) → (new : Device) (given : List ℕ)
      (end : Result ℕ StoreFault) → DiskCalls (not_disk_fault end) opened new
      → (TellsAll opened clock → length begun ≤ most_given → (b : Beginning StoreState) → IsWorking b [] [] opened begun store → HasWorked b new given end)
      → WorkRun old new clock begun given (work_outcome end)
  work_done kept_stands one store answer unspent agrees new given end calls worked = record {
    cause = work_cause old new end (λ shows. (kept_state store.kept (bytes_in_image old.seen store.kept), kept_stands old.seen store.kept (answer shows)));
    link = calls.link ∙ reads.calls.link;
    unread = λ s. absurd (work_unrefused end s);
    history = λ from start.
        let shows = start.tells.shows in
        let is =
        one old.seen form_in_use form_in_use (kept_state store.kept (bytes_in_image old.seen store.kept)) from (kept_stands old.seen store.kept (answer shows)) start.stands in
        let keeps = keeps_opened store opened from (bytes_in_image old.seen store.kept) unspent (agrees shows start.settled) is in
        record {
          end = end;
          worked = worked (tells_later old opened clock reads.calls.same start.tells) start.few (beginning from old begun)
              (working_begins old opened clock begun store sound untouched from start keeps);
          line = refl;
        };
  }
