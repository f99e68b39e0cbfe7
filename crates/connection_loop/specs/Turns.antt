-- What a turn of a connection leads to, and what its calls leave of a site. The contracts of the
-- parts speak in these; whoever reads the claim may pass over them.
use Rattle.std.specs.Prelude.{◌≡◌, ◌≤◌, ◌<◌, ◌+◌, ◌-◌, ◌^◌, ℕ, Bool, true, false, List, [], ◌∷◌, ◌++◌, length, All, Option, Some, None}
use Rattle.disk_trait.specs.Device.{Device, Left, may_leave}
use Rattle.disk_trait.specs.Calls.{IsCounted, Rose, SameDevice}
use Rattle.site_edge.specs.Clocks.{IsMoment}
use Rattle.run_history.specs.Machine.{Machine}
use Rattle.run_history.specs.Steps.{Step}
use Rattle.run_history.specs.Sessions.{Session}
use Rattle.run_history.specs.Traces.{start_of}
use Rattle.run_history.specs.Runs.{Beginning}
use Rattle.run_history.specs.Serving.{Going, HasServed, Held, RunCounts}
use Rattle.run_history.specs.Parts.{after_sessions, run_stops, stops}
use Rattle.connection_loop.specs.declared.ending.ConnectionEnd.{ConnectionEnd}
use Rattle.connection_loop.specs.declared.ending.ConnectionEnd.TheVariants.{Complete, Cut, Unlinked, Starved, Stopped}
use Rattle.connection_loop.specs.Endings.{ending_of}

-- A clock that had given some moments has given more by now, each of which is one.
pub record GivesMore (before now : List ℕ) : Type 0 where
  pub more : List ℕ
  pub given_is : now ≡ before ++ more
  pub moments : All IsMoment more

-- A clock over calls that read it at most so many times: where it tells, it gave moments; and it
-- keeps telling while fewer than 2^64 moments were given.
pub record ClockCalls (most : ℕ) (tells_first tells : Bool) (given_first given : List ℕ) : Type 0
  where
    pub told_before : tells ≡ true → tells_first ≡ true
    pub moments : tells ≡ true → GivesMore given_first given
    pub lasts : tells_first ≡ true → length given_first + most < 2 ^ 64
        → (tells ≡ true) × (length given ≤ length given_first + most)

-- How often a turn reads the clock at most, by the number of the connection's requests before it
-- and after it: once for each request, and once where the connection ends.
abbrev pub moments_taken : Option ConnectionEnd → ℕ → ℕ → ℕ
moments_taken None before now = now - before
moments_taken (Some ending) before now = 1

-- each image that a crash may leave now is one that it might have left before
pub record SameImages (old new : Device) : Type 0 where
  pub images : (p : Left) → may_leave new p
      → (q : Left) × may_leave old q × (p.image ≡ q.image)

-- whether a connection's end is the run's
abbrev pub is_stopped : ConnectionEnd → Bool
is_stopped Complete = false
is_stopped Cut = false
is_stopped Unlinked = false
is_stopped Starved = false
is_stopped Stopped = true

-- what is known of the connection under way in a state, by its unread bytes and its requests
abbrev pub held_with : {State : Type 0} → State → List ℕ → ℕ → Held State
held_with s unread taken = record { state = s; unread = unread; taken = taken }

-- A connection behind others has ended so, and the state to which it led is kept, unless the disk
-- failed.
pub record EndsAs {State Request : Type 0} (m : Machine State Request) (b : Beginning State)
    (d : Device) (given : List ℕ) (keeps : State → Type 0)
    (finished : List (Session Request)) (n : RunCounts) (ending : ConnectionEnd) : Type 0 where
  pub session : Session Request
  pub served : HasServed m b d given (finished ++ session ∷ []) n
  pub unstopped : run_stops finished ≡ false
  pub ending_is : ending ≡ ending_of session
  pub kept : stops session.steps ≡ false
      → keeps (after_sessions m (start_of b.state) (finished ++ session ∷ [])).state

-- A connection goes on, in a state that is kept.
pub record GoesOn {State Request : Type 0} (m : Machine State Request) (b : Beginning State)
    (d : Device) (given unread : List ℕ) (taken : ℕ) (keeps : State → Type 0)
    (finished : List (Session Request)) (n : RunCounts) : Type 0 where
  pub steps : List (Step Request)
  pub state : State
  pub kept : keeps state
  pub going : Going m b d given (held_with state unread taken) finished steps n

-- what a turn leads to: the connection goes on, or it has ended
abbrev pub TurnLeads : {State Request : Type 0} → Machine State Request → Beginning State → Device
    → List ℕ → List ℕ → ℕ → (State → Type 0) → List (Session Request) → RunCounts
    → Option ConnectionEnd → Type 0
TurnLeads m b d given unread taken keeps finished n None =
    GoesOn m b d given unread taken keeps finished n
TurnLeads m b d given unread taken keeps finished n (Some ending) =
    EndsAs m b d given keeps finished n ending

-- What a connection that goes on or ended in some way leaves of the count of link faults. Where it
-- ended for want of memory or with a disk fault, its last answer may have failed to be said.
abbrev pub LinkCount : Option ConnectionEnd → ℕ → ℕ → Type 0
LinkCount None before now = now ≡ before
LinkCount (Some Complete) before now = now ≡ before
LinkCount (Some Cut) before now = now ≡ before
LinkCount (Some Unlinked) before now = (before ≤ now) × Rose before now
LinkCount (Some Starved) before now = before ≤ now
LinkCount (Some Stopped) before now = before ≤ now

-- no call of the disk failed
abbrev pub disk_held : Option ConnectionEnd → Bool
disk_held None = true
disk_held (Some Complete) = true
disk_held (Some Cut) = true
disk_held (Some Unlinked) = true
disk_held (Some Starved) = true
disk_held (Some Stopped) = false

-- What the calls of a connection leave of a site by how it ended. It dials nobody.
pub record SiteCalls (ending : Option ConnectionEnd) (old new : Device) : Type 0 where
  pub same : SameDevice old new
  pub faults : IsCounted (disk_held ending) old.faults new.faults
  pub link_faults : LinkCount ending old.link.faults new.link.faults
  pub peer_faults : new.link.peer_faults ≡ old.link.peer_faults
  pub under_way : new.link.under_way ≡ old.link.under_way
  pub closed : new.link.closed ≡ old.link.closed
  pub dials : new.link.dials ≡ old.link.dials

-- Connections were served one after another, none of which stopped the run, and the state to which
-- they led is kept.
pub record IsBetween {State Request : Type 0} (m : Machine State Request) (b : Beginning State)
    (d : Device) (given : List ℕ) (keeps : State → Type 0)
    (sessions : List (Session Request)) (n : RunCounts) : Type 0 where
  pub served : HasServed m b d given sessions n
  pub unstopped : run_stops sessions ≡ false
  pub kept : keeps (after_sessions m (start_of b.state) sessions).state
