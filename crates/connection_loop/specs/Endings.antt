-- How a connection ended, and how a run of connections did, by its history.
use Rattle.std.specs.Prelude.{◌≡◌, ◌≢◌, ◌≤◌, ◌<◌, ℕ, Bool, true, List, length, Option, None, Some}
use Rattle.std.specs.List.{AllByRecursion}
use Rattle.disk_trait.specs.Device.{Device}
use Rattle.disk_trait.specs.Calls.{Rose}
use Rattle.run_history.specs.Steps as steps
use Rattle.run_history.specs.Steps.{Step}
use Rattle.run_history.specs.Sessions.{Hearing, LinkEnd, Saying, Session, Whole, failure_of, last_step}
use Rattle.connection_loop.specs.declared.ending.ConnectionEnd.{ConnectionEnd}
use Rattle.connection_loop.specs.declared.ending.ConnectionEnd.TheVariants.{Complete, Cut, Unlinked, Starved, Stopped}
use Rattle.connection_loop.specs.declared.run.RunEnd.{RunEnd}
use Rattle.connection_loop.specs.declared.run.RunEnd.TheVariants as run

-- The outside is as the model says: the disk is honest, the site shows its bytes and tells its
-- links, and the clock tells its moments.
pub record TellsAll (d : Device) (clock : Bool) : Type 0 where
  pub honest : d.honest ≡ true
  pub shows : d.shows ≡ true
  pub tells : d.tells ≡ true
  pub clock_tells : clock ≡ true

-- how a connection ended, by its last step and by the call of its link that failed
abbrev pub ending_by : {Request : Type 0} → Option (Step Request) → LinkEnd → ConnectionEnd
ending_by (Some (steps.Stopped ask failure)) link = Stopped
ending_by (Some (steps.Starved ask)) link = Starved
ending_by (Some (steps.Cut text interim moment)) Whole = Cut
ending_by step Whole = Complete
ending_by step Hearing = Unlinked
ending_by step Saying = Unlinked

-- how it ended, by its history
abbrev pub ending_of : {Request : Type 0} → Session Request → ConnectionEnd
ending_of session = ending_by (last_step session.steps) session.link

-- How many connections there were by how a run ended, from a count of closings: so many as it was
-- told; fewer, where the site said in this run that no more will come, or where waiting for one
-- failed; or up to the one in which the disk failed.
abbrev pub RunEnds : {Request : Type 0} → ℕ → Device → List (Session Request) → ℕ → RunEnd → Type 0
RunEnds closed d sessions connections run.Complete =
    (length sessions ≡ connections) × (failure_of sessions ≡ None)
RunEnds closed d sessions connections run.NoMore =
    (length sessions < connections) × (failure_of sessions ≡ None) × Rose closed d.link.closed
RunEnds closed d sessions connections run.Unlinked =
    (length sessions < connections) × (failure_of sessions ≡ None)
RunEnds closed d sessions connections run.Stopped =
    (length sessions ≤ connections) × (failure_of sessions ≢ None)

-- Each of these connections that ended with a call of its link that failed raised the count.
abbrev pub AreCounted : {Request : Type 0} → ℕ → ℕ → List (Session Request) → Type 0
AreCounted before now =
    AllByRecursion (λ session. ending_of session ≡ Unlinked → Rose before now)
