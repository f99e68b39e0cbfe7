-- Connections of the small machine that no session serves: whatever its steps are, of each kind and
-- however many, and whichever call of its link is said to have failed.
use Rattle.std.specs.Prelude.{ℕ, List, ◌∷◌}
use Rattle.disk_trait.specs.Device.{Connection}
use Rattle.run_history.specs.Sessions.{IsServed, LinkEnd, Session}
use Rattle.run_history.specs.Steps.{Stage, Step, Answered, Made}
use Rattle.run_history.specs.Worked.{Add, Demand, adder, asks, batch_connection, dropping_connection, late_connection, open_connection, silent_connection, unheard_connection}

-- no session serves this connection from this stage
abbrev pub IsUnserved : Stage ℕ → Connection → Type 0
IsUnserved at c = (session : Session Demand) → ¬ (IsServed adder at c session)

-- late: the rest of an addition was heard before its interim was told. batch: a second request was
-- heard before the first was answered. unanswered: a whole request was heard, nothing told, and the
-- next hearing failed. dropped: the second of two requests was left so. silent: the first of two
-- requests was an addition, and nothing was told, not even its interim; so whatever was the step
-- behind it. unheard: nothing was heard, nor the peer's end, and no call failed.
pub record NothingServes : Type 0 where
  pub late : (at : Stage ℕ) → IsUnserved at late_connection
  pub batch : (at : Stage ℕ) → IsUnserved at batch_connection
  pub unanswered : (at : Stage ℕ) → IsUnserved at unheard_connection
  pub dropped : (at : Stage ℕ) → IsUnserved at dropping_connection
  pub silent : (at : Stage ℕ) (later : List (Step Demand)) (link : LinkEnd)
      → ¬ (IsServed adder at silent_connection record {
        steps = Answered (asks (Add 1) 10) Made ∷ later;
        link = link;
      })
  pub unheard : (at : Stage ℕ) → IsUnserved at open_connection
