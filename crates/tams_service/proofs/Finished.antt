-- What the calls behind a request's change lead to: by how its reply was said, and by what the turn behind it made.
use Rattle.std.proofs.Common.{◌≡◌, ◌≤◌, ◌+◌, ℕ, Bool, true, false, cond, not, List, [], ◌∷◌, length, Option, None, Some, refl, sym, ap, ◌∙◌, subst, arith}
use Rattle.std.specs.Prelude.{is_some, option_to_list}
use Rattle.std.proofs.lemmas.Bool.{false≢true}
use Rattle.disk_trait.specs.Device.{Device}
use Rattle.change_codec.specs.Fitting.{State}
use Rattle.media_rows.specs.declared.change.Change.{Change}
use Rattle.media_rows.specs.declared.change.Change.TheVariants.{DeleteStep, SweepStep}
use Rattle.media_rows.specs.Apply.{turn}
use Rattle.media_rows.specs.Moments.{is_moment}
use Rattle.media_store.specs.declared.turns.TurnMade.{TurnMade}
use Rattle.media_store.specs.declared.turns.TurnMade.TheVariants.{Deleted, NoRoom, Nothing, Swept}
use Rattle.media_store.specs.Changes.{IsNextIf, MakesIf, bytes_if}
use Rattle.media_store.specs.Stores.{StoreSeen, journal_of}
use Rattle.media_store.specs.Turns.{TurnIs, turn_change}
use Rattle.store_states.specs.Kept.{AgreesWith}
use Rattle.store_states.specs.States.{StoreState}
use Rattle.run_history.specs.Serving.{RunCounts}
use Rattle.run_history.specs.Steps.{last_or}
use Rattle.connection_loop.specs.declared.ending.ConnectionEnd.TheVariants as endings
use Rattle.connection_loop.specs.Tallies.{plus_answer}
use Rattle.tams_machine.specs.Laws.{TurnsKeepGood}
use Rattle.tams_service.specs.Answering.{EndsThere, FinishLeads, LeadsTo, TellsAllOf, changes_by, ending_behind}
use Rattle.tams_service.specs.Keeping.{KeepsState}
use Rattle.tams_service.specs.Saying.{Says, is_told_unfailed, is_linked, is_whole}
use Rattle.tams_service.specs.declared.saying.AnswerTold.{AnswerTold}
use Rattle.tams_service.specs.declared.saying.AnswerTold.TheVariants as told
use Rattle.tams_service.proofs.Finishing.{failed_by, made_by, reading_stopped, skipped_by}
use Rattle.tams_service.proofs.Keeping.{keeps_so}
use Rattle.tams_service.proofs.Stepping.{answered_ending}

-- ---- how a reply was said

failed_is : (t : AnswerTold) → not (is_told_unfailed t) ≡ true → (is_whole t ≡ false) × (is_linked t ≡ true)
failed_is told.All lost = absurd (false≢true lost)
failed_is told.Unlinked lost = absurd (false≢true lost)
failed_is told.Failed lost = (refl, refl)

same_is : (t : AnswerTold) → not (is_told_unfailed t) ≡ false → is_whole t ≡ is_linked t
same_is told.All whole = refl
same_is told.Unlinked whole = refl
same_is told.Failed whole = absurd (false≢true (sym whole))

ending_is : (t : AnswerTold) (ends : Bool) → not (is_told_unfailed t) ≡ false → answered_ending (is_linked t) ends ≡ ending_behind t ends
ending_is told.All true whole = refl
ending_is told.All false whole = refl
ending_is told.Unlinked ends whole = refl
ending_is told.Failed ends whole = absurd (false≢true (sym whole))

-- ---- how much a turn made

turn_counts : (journal : State) (due : Option Change) (moment : ℕ) (made : TurnMade) → TurnIs journal due moment made
    → length (option_to_list (turn_change journal due)) ≡ changes_by made
turn_counts journal due moment Nothing is = ap (λ d. length (option_to_list (turn_change journal d))) is
turn_counts journal due moment NoRoom is =
    ap (λ d. length (option_to_list (turn_change journal d))) is.is
    ∙ ap (λ (b : Bool). length (option_to_list (cond b (Some is.change) None))) is.full
turn_counts journal due moment Deleted is =
    ap (λ d. length (option_to_list (turn_change journal d))) is.is
    ∙ ap (λ (b : Bool). length (option_to_list (cond b (Some (DeleteStep moment)) None))) is.fits
turn_counts journal due moment Swept is =
    ap (λ d. length (option_to_list (turn_change journal d))) is.is
    ∙ ap (λ (b : Bool). length (option_to_list (cond b (Some (SweepStep moment)) None))) is.fits

module _ (old mid new : Device) (store behind next : StoreSeen) (n : RunCounts) (bytes : List ℕ) (changes moment : ℕ) (ends : Bool) (t : AnswerTold)
    (all : TellsAllOf old) (says : Says (is_whole t) (is_linked t) bytes old mid) where
  -- A read of the object's bytes failed.
  pub read_failed : not (is_told_unfailed t) ≡ true → (is_linked t ≡ true → 1 ≤ length (says.connections all.tells).0) → FinishLeads old mid store behind n (plus_answer changes false n) bytes changes moment ends
      (Some endings.Stopped)
  read_failed lost begun p text rest r states changed keeps request reply handed counts few =
      let by = failed_is t lost in
      reading_stopped p old mid n bytes moment ends text rest r states (is_whole t)
      (is_linked t) all.tells says changed request reply handed behind changes by.0
      by.1 (begun by.1) counts

  -- ---- the turn behind it

  module _ (whole : not (is_told_unfailed t) ≡ false) (kept : behind.kept ≡ store.kept) (unspent : behind.spent ≡ false)
      (agrees : (held : List (List ℕ)) → AgreesWith old store.kept held → AgreesWith mid store.kept held) (link : new.link ≡ mid.link)
      (at : is_moment moment ≡ true) (keep : TurnsKeepGood) where
    abbrev due : Option Change
    due = turn_change (journal_of behind.kept) (turn behind.kept.library moment)

    kept_mid : (s : StoreState) → KeepsState store old s → KeepsState behind mid s
    kept_mid s keeps = keeps_so store behind old mid s keeps kept unspent (agrees s.archive.held keeps.agrees)

    -- It was made, if one was due that fits.
    pub turn_made : (made : TurnMade) → TurnIs (journal_of behind.kept) (turn behind.kept.library moment) moment made → next.spent ≡ false
        → ((held : List (List ℕ)) → AgreesWith mid behind.kept held → MakesIf true due behind.kept next.kept held mid new) → IsNextIf behind.kept due next.kept
        → new.handed ≡ mid.handed + bytes_if (journal_of behind.kept) due
        → FinishLeads old new store next n (plus_answer (changes + changes_by made) false n) bytes changes moment ends (ending_behind t ends)
    turn_made made is fresh makes is_next on p text rest r states changed keeps request reply handed counts few =
        let here = kept_mid _ keeps in
        let leads = made_by p old mid n bytes moment ends text rest r states (is_whole t)
        (is_linked t) all.tells says changed request reply handed new next link
        (same_is t whole) few changes counts behind here at keep fresh due refl (makes _ here.agrees) is_next on in
        subst (λ e. LeadsTo p new next moment rest (plus_answer (changes + changes_by made) false n) e) (ending_is t ends whole)
        (subst (λ k. LeadsTo p new next moment rest (plus_answer (changes + k) false n) (answered_ending (is_linked t) ends))
        (turn_counts (journal_of behind.kept) (turn behind.kept.library moment) moment made is) leads)

    -- There was no memory for it.
    pub turn_skipped : is_some (turn behind.kept.library moment) ≡ true → new ≡ mid → next ≡ behind
        → FinishLeads old new store next n (plus_answer changes true n) bytes changes moment ends (ending_behind t ends)
    turn_skipped is_due stays same p text rest r states changed keeps request reply handed counts few =
        let here = kept_mid _ keeps in
        let fresh : next.spent ≡ false = ap (λ (s : StoreSeen). s.spent) same ∙ unspent in
        let leads = skipped_by p old mid n bytes moment ends text rest r states (is_whole t)
        (is_linked t) all.tells says changed request reply handed new next link
        (same_is t whole) few changes counts behind here at keep fresh is_due stays (ap (λ (s : StoreSeen). s.kept) same) in
        subst (λ e. LeadsTo p new next moment rest (plus_answer changes true n) e) (ending_is t ends whole)
        (subst (λ k. LeadsTo p new next moment rest (plus_answer k true n) (answered_ending (is_linked t) ends)) (plus_none changes) leads)
      where
        plus_none : (k : ℕ) → k + 0 ≡ k
        plus_none k = omega arith

    -- The disk failed in it.
    pub turn_failed : is_some due ≡ true
        → ((held : List (List ℕ)) → AgreesWith mid behind.kept held → MakesIf false due behind.kept next.kept held mid new)
        → FinishLeads old new store next n (plus_answer (changes + 1) false n) bytes changes moment ends (Some endings.Stopped)
    turn_failed some makes p text rest r states changed keeps request reply handed counts few = by_change due refl some (makes _ (kept_mid _ keeps).agrees)
      where
        by_change : (change : Option Change) → due ≡ change → is_some change ≡ true
            → MakesIf false change behind.kept next.kept (last_or p.state states).archive.held mid new
            → EndsThere p new next (moment ∷ []) (plus_answer (changes + 1) false n) endings.Stopped
        by_change None is none made = absurd (false≢true none)
        by_change (Some change) is yes_some made =
            failed_by p old mid n bytes moment ends text rest r states (is_whole t) (is_linked t) all.tells says changed request reply handed new next link
            (same_is t whole) few changes counts behind (kept_mid _ keeps) at keep change is made
