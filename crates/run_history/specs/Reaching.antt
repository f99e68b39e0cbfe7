-- The invariant of a run that goes on. The proofs keep it, call by call; whoever reads the claim
-- may pass over it.
use Rattle.std.specs.Prelude.{◌≡◌, ◌-◌, ℕ, Bool, true, false, List, ◌++◌, length, map}
use Rattle.disk_trait.specs.Device.{Device, Left, may_leave}
use Rattle.site_edge.specs.Saying.{ArePrefixes, IsToldToLast}
use Rattle.run_history.specs.Machine.{Machine}
use Rattle.run_history.specs.Sessions.{bytes_of_pieces}
use Rattle.run_history.specs.Traces.{Trace}
use Rattle.run_history.specs.Growing.{CountAtMost}
use Rattle.run_history.specs.Runs.{AllRight, Beginning, StandsNow}

-- what the connections before a run were told
abbrev pub told_first : {State : Type 0} → Beginning State → List (List ℕ)
told_first b = map (λ c. c.told) b.before

-- the number of changes that surely stand
abbrev pub sure_changes : {State : Type 0} → Trace State → Bool → ℕ
sure_changes t false = length t.changes
sure_changes t true = length t.changes - 1

-- What a crash leaves now. What was told of each connection is a prefix of its script; of the last
-- one all of it, where `whole` is true. The image stands for the last state, or perhaps for the one
-- before, where `writing` is true.
pub record IsNow {State Request : Type 0} (m : Machine State Request) (b : Beginning State)
    (t : Trace State) (whole writing : Bool) (p : Left) : Type 0 where
  pub told : List (List ℕ)
  pub told_is : p.told ≡ told_first b ++ told
  pub prefixes : ArePrefixes told (map bytes_of_pieces t.scripts)
  pub same_length : length told ≡ length (map bytes_of_pieces t.scripts)
  pub all : whole ≡ true → IsToldToLast told (map bytes_of_pieces t.scripts)
  pub stands : StandsNow m p.image t writing

-- The invariant of a run: what each crash now may leave, and that each crash since the beginning
-- left what is right. It doesn't say that nothing is pending.
pub record Reached {State Request : Type 0} (m : Machine State Request) (b : Beginning State)
    (t : Trace State) (whole writing : Bool) (d : Device) : Type 0 where
  pub counts : CountAtMost (sure_changes t writing) t.scripts
  pub right : AllRight m b t d
  pub now : (p : Left) → may_leave d p → IsNow m b t whole writing p
