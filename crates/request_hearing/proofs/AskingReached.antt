-- How a run comes to the trace of an answer, call by call: the changes before its reply, the reply, and the changes of the turn behind it.
use Rattle.std.proofs.Common.{◌≡◌, ◌≤◌, ◌+◌, ◌-◌, ℕ, Bool, true, false, List, [], ◌∷◌, length, if◌then◌else◌, refl, sym, ap, ◌∙◌, subst, arith, length-append}
use Rattle.std.proofs.lemmas.List.{append-nil}
use Rattle.disk_trait.specs.Device.{Device, Link}
use Rattle.disk_trait.specs.Calls.{Elapses}
use Rattle.site_edge.specs.Links.{Sends, Tells, after_say, change_last}
use Rattle.run_history.specs.Machine.{Machine}
use Rattle.run_history.specs.Steps.{Reply, Step, last_or}
use Rattle.run_history.specs.Sessions.{Session}
use Rattle.run_history.specs.Traces.{Trace, state_now}
use Rattle.run_history.specs.Runs.{Beginning}
use Rattle.run_history.specs.Laws.{Writes, Wrote}
use Rattle.run_history.specs.Serving.{Held, RunCounts}
use Rattle.run_history.specs.Reaching.{Reached, sure_changes}
use Rattle.run_history.proofs.Growth.{trace-same}
use Rattle.run_history.proofs.Invariant.{durable_changes, said_pieces, torn_changes}
use Rattle.request_hearing.specs.Asking.{Open, asked_trace, replied_trace, with_states}
use Rattle.request_hearing.proofs.Asking.{state_now-open, state_now-states}

module _ {State Request : Type 0} {m : Machine State Request} {b : Beginning State} {t : Trace State} {whole : Bool} where
  -- ---- changes, before a reply or behind it

  -- none
  pub changed_none : {writing : Bool} {d : Device} → Reached m b t whole writing d → Reached m b (with_states [] t) whole writing d
  changed_none {writing} {d} r =
      subst (λ u. Reached m b u whole writing d) (trace-same t.first _ _ _ _ refl (sym (append-nil t.changes))) r

  -- one, which is durable
  pub changed_one : {s : State} {old new : Device} → Reached m b t whole false old → Elapses (Writes m t s) (Wrote m s) old new
      → Reached m b (with_states (s ∷ []) t) whole false new
  changed_one {s} {old} {new} r time = durable_changes State Request m b t s whole old new r time

  -- one, whose record was being written when the disk failed
  pub changed_torn : {s : State} {old new : Device} → Reached m b t whole false old → Elapses (Writes m t s) (Writes m t s) old new
      → Reached m b (with_states (s ∷ []) t) whole true new
  changed_torn {s} {old} {new} r time = torn_changes State Request m b t s whole old new r time

-- ---- the reply

-- so many of a step's changes surely stand before its reply
abbrev pub sure_states : {State : Type 0} → List State → Bool → ℕ
sure_states states writing = if writing then length states - 1 else length states

module _ {State : Type 0} (t : Trace State) (states : List State) (bytes : List ℕ) (made : ℕ) where
  sure-now : (writing : Bool) → made ≤ sure_states states writing → (writing ≡ true → 1 ≤ length states)
      → length t.changes + made ≤ sure_changes (with_states states t) writing
  sure-now false sure some = omega (arith, sure, length-append t.changes states)
  sure-now true sure some = omega (arith, sure, some refl, length-append t.changes states)

  -- It was said, or a part of it.
  pub replied : {Request : Type 0} {m : Machine State Request} {b : Beginning State} {whole writing : Bool} {old new : Device}
      → made ≤ sure_states states writing → (writing ≡ true → 1 ≤ length states) → Reached m b (with_states states t) true writing old
      → Elapses (Tells false bytes) (Tells whole bytes) old new
      → Reached m b (replied_trace states bytes made t) whole writing new
  replied {Request} {m} {b} {whole} {writing} {old} {new} sure some r time =
      said_pieces State Request m b (with_states states t) (Reply bytes (length t.changes + made)) whole writing old new (sure-now writing sure some) r time

-- ---- what stands behind the reply

module _ {State Request : Type 0} {m : Machine State Request} {b : Beginning State} {d : Device} {given : List ℕ} {held : Held State} {said : Bool}
    {finished : List (Session Request)} {steps : List (Step Request)} {n : RunCounts} where
  -- The state is the last one of those before it.
  pub state_now-replied : Open m b d given held said finished steps n → (states : List State) (bytes : List ℕ) (made : ℕ)
      → state_now (replied_trace states bytes made (asked_trace m b said finished steps)) ≡ last_or held.state states
  state_now-replied o states bytes made =
      state_now-states (asked_trace m b said finished steps) states ∙ ap (λ s. last_or s states) (state_now-open o)
