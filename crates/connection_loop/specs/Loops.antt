-- What the next connection leads to, and what serving connections one after another comes to. The
-- contracts of the parts speak in these; whoever reads the claim may pass over them.
use Rattle.std.specs.Prelude.{◌≡◌, ◌≤◌, ◌<◌, ◌+◌, ◌-◌, ◌*◌, ◌^◌, ℕ, Bool, true, false, List, [], length, Some, None}
use Rattle.disk_trait.specs.Device.{Device}
use Rattle.disk_trait.specs.Calls.{IsCounted, Rose, SameDevice}
use Rattle.run_history.specs.Machine.{Machine}
use Rattle.run_history.specs.Sessions.{Session, most_answers}
use Rattle.run_history.specs.Runs.{Beginning}
use Rattle.run_history.specs.Serving.{Going, HasServed, RunCounts}
use Rattle.connection_loop.specs.declared.connection.Next.{Next}
use Rattle.connection_loop.specs.declared.connection.Next.TheVariants.{NoMore, Unlinked, Ended}
use Rattle.connection_loop.specs.declared.run.RunEnd.{RunEnd}
use Rattle.connection_loop.specs.declared.run.RunEnd.TheVariants.{Complete}
use Rattle.connection_loop.specs.declared.run.RunEnd.TheVariants as run
use Rattle.connection_loop.specs.Turns.{ClockCalls, EndsAs, GoesOn, IsBetween, LinkCount, SiteCalls, disk_held, held_with}
use Rattle.connection_loop.specs.Endings.{AreCounted, RunEnds, TellsAll}

-- Turns of a connection so far: no call failed, each turn was counted, and the connection has come
-- so far from wherever it had come at first.
pub record HasTurned {State Request Setting : Type 0} (m : Machine State Request)
    (setting_first setting : Setting) (ready : Type 0) (first now : Device)
    (tells_first tells_now : Bool) (given_first given unread_first unread : List ℕ)
    (taken_first taken : ℕ) (keeps_first keeps : State → Type 0) (n_first n : RunCounts)
    (size_first size turns counter : ℕ) : Type 0
  where
    pub calls : SiteCalls None first now
    pub setting_is : setting ≡ setting_first
    pub is_ready : ready
    pub size_is : size ≤ size_first
    pub clock : ClockCalls taken tells_first tells_now given_first given
    pub few : taken < most_answers
    pub answers : n.answers ≡ n_first.answers + taken
    pub moved : counter ≤ turns
    pub most : turns < 2 ^ 64 - 1
    pub reached : TellsAll first tells_now → (b : Beginning State)
        → (finished : List (Session Request)) (s : State) → keeps_first s
        → Going m b first given_first (held_with s unread_first taken_first) finished [] n_first
        → GoesOn m b now given unread taken keeps finished n

-- no call of the disk failed
abbrev pub next_disk_held : Next → Bool
next_disk_held NoMore = true
next_disk_held Unlinked = true
next_disk_held (Ended ending) = disk_held (Some ending)

-- waiting for the peer succeeded
abbrev pub next_peer_held : Next → Bool
next_peer_held NoMore = true
next_peer_held Unlinked = false
next_peer_held (Ended ending) = true

-- the site didn't say that no more will come
abbrev pub next_stays_open : Next → Bool
next_stays_open NoMore = false
next_stays_open Unlinked = true
next_stays_open (Ended ending) = true

-- the count of link faults over the next connection
abbrev pub NextLinkCount : Next → ℕ → ℕ → Type 0
NextLinkCount NoMore before now = now ≡ before
NextLinkCount Unlinked before now = (before ≤ now) × Rose before now
NextLinkCount (Ended ending) before now = LinkCount (Some ending) before now

-- What the calls for the next connection leave of a site: a connection that began has been closed,
-- and nobody was dialled.
pub record NextCalls (next : Next) (old new : Device) : Type 0 where
  pub same : SameDevice old new
  pub faults : IsCounted (next_disk_held next) old.faults new.faults
  pub link_faults : NextLinkCount next old.link.faults new.link.faults
  pub peer_faults : IsCounted (next_peer_held next) old.link.peer_faults new.link.peer_faults
  pub closed : old.link.under_way ≡ false → new.link.under_way ≡ false
  pub closings : old.tells ≡ true
      → IsCounted (next_stays_open next) old.link.closed new.link.closed
  pub dials : new.link.dials ≡ old.link.dials

-- What waiting for the next connection and serving it leads to, from a count of closings: the site
-- said that no more will come; waiting for one failed; or one has ended.
abbrev pub NextLeads : {State Request : Type 0} → Machine State Request → Beginning State → ℕ
    → Device → List ℕ → (State → Type 0) → List (Session Request) → RunCounts → Next → Type 0
NextLeads m b closed d given keeps sessions n NoMore =
    IsBetween m b d given keeps sessions n × Rose closed d.link.closed
NextLeads m b closed d given keeps sessions n Unlinked = IsBetween m b d given keeps sessions n
NextLeads m b closed d given keeps sessions n (Ended ending) =
    EndsAs m b d given keeps sessions n ending

-- ---- connections one after another

-- no call of the disk failed in a run
abbrev pub run_disk_held : RunEnd → Bool
run_disk_held Complete = true
run_disk_held run.NoMore = true
run_disk_held run.Unlinked = true
run_disk_held run.Stopped = false

-- waiting for each peer succeeded
abbrev pub run_peers_held : RunEnd → Bool
run_peers_held Complete = true
run_peers_held run.NoMore = true
run_peers_held run.Unlinked = false
run_peers_held run.Stopped = true

-- the site didn't say that no more will come
abbrev pub run_stays_open : RunEnd → Bool
run_stays_open Complete = true
run_stays_open run.NoMore = false
run_stays_open run.Unlinked = true
run_stays_open run.Stopped = true

-- What the calls of a run leave of a site. The count of link faults may rise on any connection, and
-- nobody was dialled.
pub record RunCalls (end : RunEnd) (old new : Device) : Type 0 where
  pub same : SameDevice old new
  pub faults : IsCounted (run_disk_held end) old.faults new.faults
  pub peer_faults : IsCounted (run_peers_held end) old.link.peer_faults new.link.peer_faults
  pub link_faults : old.link.faults ≤ new.link.faults
  pub unlinked : end ≡ run.Unlinked → Rose old.link.faults new.link.faults
  pub closed : old.link.under_way ≡ false → new.link.under_way ≡ false
  pub closings : old.tells ≡ true
      → IsCounted (run_stays_open end) old.link.closed new.link.closed
  pub dials : new.link.dials ≡ old.link.dials

-- Connections were served one after another since the first device, and the run has ended so.
pub record HasEnded {State Request : Type 0} (m : Machine State Request) (b : Beginning State)
    (first d : Device) (given : List ℕ) (n : RunCounts) (connections : ℕ)
    (end : RunEnd) : Type 0 where
  pub sessions : List (Session Request)
  pub served : HasServed m b d given sessions n
  pub ends : RunEnds first.link.closed d sessions connections end
  pub counted : AreCounted first.link.faults d.link.faults sessions

-- Connections so far, none of which stopped the run.
pub record GoesOnBetween {State Request : Type 0} (m : Machine State Request) (b : Beginning State)
    (first d : Device) (given : List ℕ) (keeps : State → Type 0) (n : RunCounts)
    (counter : ℕ) : Type 0 where
  pub sessions : List (Session Request)
  pub between : IsBetween m b d given keeps sessions n
  pub count : length sessions ≡ counter
  pub counted : AreCounted first.link.faults d.link.faults sessions

-- the same from wherever the run had come at first
pub record HasServedSo {State Request Setting : Type 0} (m : Machine State Request)
    (setting_first setting : Setting) (first now : Device)
    (tells_first tells_now : Bool) (given_first given : List ℕ)
    (keeps_first keeps : State → Type 0) (n_first n : RunCounts)
    (size_first size counter : ℕ) : Type 0
  where
    pub calls : RunCalls Complete first now
    pub setting_is : setting ≡ setting_first
    pub size_is : size ≤ size_first
    pub clock : ClockCalls (most_answers * counter) tells_first tells_now given_first given
    pub answers : n.answers ≤ most_answers * counter
    pub reached : TellsAll first tells_now → (b : Beginning State)
        → IsBetween m b first given_first keeps_first [] n_first
        → GoesOnBetween m b first now given keeps n counter
