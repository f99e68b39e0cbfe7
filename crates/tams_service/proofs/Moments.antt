-- The calls of the store, as a run of the machine of the media store has them: what they leave to a crash, and the state behind them.
use Rattle.std.proofs.Common.{◌≡◌, ℕ, true, false, List, inl, inr, refl, sym, ap, ◌∙◌, subst}
use Rattle.disk_trait.specs.Device.{Device, Left}
use Rattle.disk_trait.specs.Calls.{Elapses}
use Rattle.disk_trait.proofs.Theorems.{elapses_weaker}
use Rattle.media_rows.specs.declared.change.Change.{Change}
use Rattle.change_codec.specs.Fitting.{State}
use Rattle.store_states.specs.Kept.{Moves, StoreView, kept_state}
use Rattle.store_states.specs.States.{StandsFor, StoreState}
use Rattle.store_writes.specs.Writes.{Keeps}
use Rattle.store_commits.specs.Carrying.{HasArchive, Replaces}
use Rattle.media_store.specs.Changes.{IsAfterChange, ChangesStore, archive_next}
use Rattle.run_history.specs.Laws.{Writes, Wrote}
use Rattle.run_history.specs.Traces.{Trace, state_now}
use Rattle.tams_machine.specs.Answers.{state_with_change}
use Rattle.tams_machine.specs.Machine.{tams_machine}
use Rattle.request_hearing.proofs.Asking.{state_before-change}
use Rattle.run_history.proofs.Invariant.{state_now-change}

-- ---- the state behind a change

module _ (kept : StoreView) (held : List (List ℕ)) (s : StoreState) (is : s ≡ kept_state kept held) (change : Change) (came : List ℕ) where
  -- It has the bytes of objects that a change makes of those before it.
  pub next_held : (archive_next kept held change came).held ≡ (state_with_change s change came).archive.held
  next_held = sym (ap (λ (x : StoreState). (state_with_change x change came).archive.held) is)

  -- It is the one that is kept after the change.
  pub next_state : {next : StoreView} → IsAfterChange kept change next → state_with_change s change came ≡ kept_state next
      (state_with_change s change came).archive.held
  next_state {next} n =
      subst (λ x. state_with_change x change came ≡ kept_state next (state_with_change x change came).archive.held) (sym is) (sym (ap with_bytes n.journal))
    where
      with_bytes : State → StoreState
      with_bytes journal = record {
        archive = record { library = journal.library; held = (archive_next kept held change came).held };
        room = journal.room;
        half = journal.half;
      }

-- ---- moments

-- what stands for a state stands for it as the machine has it
stands_so : (base image : List ℕ) (s : StoreState) → StandsFor image s → (tams_machine base).stands image s
stands_so base image s stands = record { room = s.room; stands = stands }

wrote : (base : List ℕ) (s : StoreState) (q p : Left) → Moves s s q p → Wrote (tams_machine base) s q p
wrote base s q p moves = record {
  told = moves.told;
  image = elim moves.image [ inl stands ↦ stands_so base p.image s stands | inr stands ↦ stands_so base p.image s stands ];
}

-- A call that keeps what is kept leaves its state.
pub over_keeps : (base : List ℕ) {kept : StoreView} {held : List (List ℕ)} {s : StoreState} {old new : Device} → s ≡ kept_state kept held
    → Keeps kept held old new → Elapses (Wrote (tams_machine base) s) (Wrote (tams_machine base) s) old new
over_keeps base {kept} {held} {s} {old} {new} is k =
    let m = tams_machine base in
    let state = kept_state kept held in
    subst (λ x. Elapses (Wrote m x) (Wrote m x) old new) (sym is)
    (elapses_weaker _ _ _ _ old new k.moments (λ q p could moves. wrote base state q p moves) (λ q p could left moves. wrote base state q p moves))

writes : (base : List ℕ) (t : Trace StoreState) (before next : StoreState) → state_now t ≡ before → (q p : Left)
    → Replaces before.half before.archive next.archive q p → next.half ≡ before.half → Writes (tams_machine base) t next q p
writes base t before next now q p replaces same =
    let m = tams_machine base in
    record {
      told = replaces.told;
      image = elim replaces.image [
        | inl was ↦ inr (subst (m.stands p.image) (sym (state_before-change t next ∙ now)) was)
        | inr is ↦ inl (subst (m.stands p.image) (sym (state_now-change t next)) (subst (λ half. HasArchive half next.archive p.image) (sym same) is))
      ];
    }

module _ (base : List ℕ) (t : Trace StoreState) {kept next : StoreView} {held : List (List ℕ)} {s : StoreState} {change : Change} {came : List ℕ}
    {old new : Device} (now : state_now t ≡ s) (is : s ≡ kept_state kept held) where
  -- A change that was made is durable.
  pub over_change : ChangesStore true change came kept next held old new
      → Elapses (Writes (tams_machine base) t (state_with_change s change came)) (Wrote (tams_machine base) (state_with_change s change came)) old new
  over_change makes =
      let m = tams_machine base in
      let state = kept_state kept held in
      let after = state_with_change state change came in
      subst (λ x. Elapses (Writes m t (state_with_change x change came)) (Wrote m (state_with_change x change came)) old new) (sym is)
      (elapses_weaker _ _ _ _ old new makes.moments (λ q p could replaces. writes base t state after (now ∙ is) q p replaces refl)
      (λ q p could left replaced. record { told = replaced.told; image = replaced.image }))

  -- One in which the disk failed may stand or not.
  pub over_torn : ChangesStore false change came kept next held old new
      → Elapses (Writes (tams_machine base) t (state_with_change s change came)) (Writes (tams_machine base) t (state_with_change s change came)) old new
  over_torn makes =
      let m = tams_machine base in
      let state = kept_state kept held in
      let after = state_with_change state change came in
      subst (λ x. Elapses (Writes m t (state_with_change x change came)) (Writes m t (state_with_change x change came)) old new) (sym is)
      (elapses_weaker _ _ _ _ old new makes.moments (λ q p could replaces. writes base t state after (now ∙ is) q p replaces refl)
      (λ q p could left replaces. writes base t state after (now ∙ is) q p replaces refl))
