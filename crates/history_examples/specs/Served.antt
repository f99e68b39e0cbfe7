-- Connections of the small machine that a session serves: one for each kind of step, and one for
-- each way in which the link of a connection ends behind an answer and within a request.
use Rattle.std.specs.Prelude.{ℕ, true, false, List, [], ◌∷◌, Some, None}
use Rattle.disk_trait.specs.Device.{AtEnd, Connection, Gave, HearCall, Unheard}
use Rattle.run_history.specs.Machine.{BeforeAnswer}
use Rattle.run_history.specs.Sessions.{Hearing, IsServed, LinkEnd, Saying, Session, Whole}
use Rattle.run_history.specs.Steps.{Answered, Cut, Made, Refused, Starved, Step, Stopped}
use Rattle.run_history.specs.Traces.{start_of}
use Rattle.run_history.specs.Worked.{Demand, Show, adder, asks, hears, unfailed}

-- one step, and how the link ended
abbrev pub one_step : Step Demand → LinkEnd → Session Demand
one_step step link = record { steps = step ∷ []; link = link }

abbrev pub shown : Step Demand
shown = Answered (asks Show 10) Made

-- the head of an addition, which had its interim
abbrev pub cut_short : Step Demand
cut_short = Cut (101 ∷ []) (Some (1 ∷ [])) None

-- a connection that was heard to its peer's end
abbrev pub heard_out : List ℕ → List ℕ → List HearCall → Connection
heard_out heard told hearings = record (unfailed heard told hearings) { ended = true }

-- one on which the last hearing failed, and one on which a saying did
abbrev pub hearing_failed : List ℕ → List ℕ → List HearCall → Connection
hearing_failed heard told hearings = record (unfailed heard told hearings) { unheard = true }

abbrev pub saying_failed : List ℕ → List ℕ → List HearCall → Connection
saying_failed heard told hearings = record (unfailed heard told hearings) { unsaid = true }

-- From the number 3. answered, answered_unheard, answered_unsaid: the number was shown, and the
-- peer's end was heard, hearing it failed, or a byte of the answer was said. cut, cut_unheard,
-- cut_unsaid: the head of an addition was heard, and told its interim, unless saying that failed.
-- refused: the wire refused a byte. starved: there was no memory to show the number. stopped: the
-- disk failed before that was answered.
pub record EachIsServed : Type 0 where
  pub answered : IsServed adder (start_of 3)
      (heard_out (100 ∷ 0 ∷ []) (100 ∷ 3 ∷ []) (hears 0 0 (Gave 2) ∷ hears 2 2 AtEnd ∷ []))
      (one_step shown Whole)
  pub answered_unheard : IsServed adder (start_of 3)
      (hearing_failed (100 ∷ 0 ∷ []) (100 ∷ 3 ∷ []) (hears 0 0 (Gave 2) ∷ hears 2 2 Unheard ∷ []))
      (one_step shown Hearing)
  pub answered_unsaid : IsServed adder (start_of 3)
      (saying_failed (100 ∷ 0 ∷ []) (100 ∷ []) (hears 0 0 (Gave 2) ∷ []))
      (one_step shown Saying)
  pub cut : IsServed adder (start_of 3)
      (heard_out (101 ∷ []) (1 ∷ []) (hears 0 0 (Gave 1) ∷ hears 1 1 AtEnd ∷ []))
      (one_step cut_short Whole)
  pub cut_unheard : IsServed adder (start_of 3)
      (hearing_failed (101 ∷ []) (1 ∷ []) (hears 0 0 (Gave 1) ∷ hears 1 1 Unheard ∷ []))
      (one_step cut_short Hearing)
  pub cut_unsaid : IsServed adder (start_of 3)
      (saying_failed (101 ∷ []) [] (hears 0 0 (Gave 1) ∷ []))
      (one_step cut_short Saying)
  pub refused : IsServed adder (start_of 3) (unfailed (9 ∷ []) (4 ∷ []) (hears 0 0 (Gave 1) ∷ []))
      (one_step (Refused (9 ∷ []) (record { interim = None; response = 4 ∷ [] })) Whole)
  pub starved : IsServed adder (start_of 3)
      (unfailed (100 ∷ 0 ∷ []) (5 ∷ []) (hears 0 0 (Gave 2) ∷ []))
      (one_step (Starved (asks Show 10)) Whole)
  pub stopped : IsServed adder (start_of 3)
      (unfailed (100 ∷ 0 ∷ []) (6 ∷ []) (hears 0 0 (Gave 2) ∷ []))
      (one_step (Stopped (asks Show 10) (BeforeAnswer false)) Whole)
