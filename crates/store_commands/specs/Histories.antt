-- What a run over a file that stands for a state heard, told and left, by one history of its
-- connections over the machine of the media store, with the base of its words.
use Rattle.std.specs.Prelude.{◌≡◌, ◌⊎◌, ℕ, List, [], ◌∷◌, ◌++◌, All, None, nat_lt, if◌then◌else◌}
use Rattle.disk_trait.specs.Calls.{Rose}
use Rattle.disk_trait.specs.Device.{Connection, Device}
use Rattle.site_edge.specs.Clocks.{IsMoment}
use Rattle.run_history.specs.Runs.{AllRight, Beginning, HasHanded, StandsNow}
use Rattle.run_history.specs.Sessions.{AreServed, Session, failure_of, is_writing, run_effect}
use Rattle.run_history.specs.Traces.{RunCounts, counts_of_run, start_of, states_of, trace_of}
use Rattle.connection_loop.specs.declared.ending.ConnectionEnd.{ConnectionEnd}
use Rattle.connection_loop.specs.declared.ending.ConnectionEnd.TheVariants as endings
use Rattle.connection_loop.specs.declared.run.RunEnd.{RunEnd}
use Rattle.connection_loop.specs.declared.run.RunEnd.TheVariants as run_ends
use Rattle.connection_loop.specs.Endings.{AreCounted, RunEnds, ending_of}
use Rattle.store_states.specs.States.{StoreState}
use Rattle.tams_histories.specs.Along.{KeepBytes, KeepDigests}
use Rattle.tams_machine.specs.Machine.{tams_machine}
use Rattle.tams_machine.specs.Requests.{TamsRequest}
use Rattle.tams_outcomes.specs.declared.outcome.RunOutcome.{RunOutcome}
use Rattle.tams_outcomes.specs.declared.outcome.RunOutcome.TheVariants.{Served, Cut, DiskFault, NoMemory, LinkFault}

-- A run is one history of these connections, and this is what it says, point by point.
-- answers: each connection heard its requests, and was told its answers by the machine; moments:
-- each crash since the beginning left a state of the history, with each change whose answer had
-- begun; exit: the file stands for the last state, or the one before it where the disk failed while
-- a record was being written; good: each state is; bytes: what is stored in one state keeps its
-- bytes and its digest in each later one; digests: where each stored object of the first state has
-- the digest of its bytes, so it has in each later one; times: each moment that was taken is one.
-- handed: unless the disk failed, the device was handed the bytes of the changes, and of each media
-- PUT that was cut at most those of its body that were heard.
pub record RunsAs (base : List ℕ) (b : Beginning StoreState) (sessions : List (Session TamsRequest))
    (new : Device) (given : List ℕ) : Type 0 where
  pub connections : List Connection
  pub connections_are : new.link.connections ≡ b.before ++ connections
  pub given_is : given
      ≡ b.given ++ (run_effect (tams_machine base) (start_of b.state) sessions).moments
  pub answers : AreServed (tams_machine base) (start_of b.state) connections sessions
  pub moments : AllRight (tams_machine base) b (trace_of (tams_machine base) b.state sessions) new
  pub exit : StandsNow (tams_machine base) new.seen (trace_of (tams_machine base) b.state sessions)
      (is_writing (failure_of sessions))
  pub good : All (tams_machine base).good
      (states_of (trace_of (tams_machine base) b.state sessions))
  pub bytes : KeepBytes (states_of (trace_of (tams_machine base) b.state sessions))
  pub digests : KeepDigests (states_of (trace_of (tams_machine base) b.state sessions))
  pub times : All IsMoment (run_effect (tams_machine base) (start_of b.state) sessions).moments
  pub handed : failure_of sessions ≡ None → HasHanded (tams_machine base) b sessions new.handed

-- ---- outcomes by numbers

-- the outcome with the numbers of a run
abbrev pub served_with : RunCounts → RunOutcome
served_with n = Served n.answers n.changes n.skipped

-- an outcome of `replay`, unless a turn was skipped for want of memory
abbrev pub unless_skipped : RunCounts → RunOutcome → RunOutcome
unless_skipped n outcome = if nat_lt 0 n.skipped then NoMemory else outcome

-- the outcome of `replay` by how its connection ended and by its numbers
abbrev pub replay_outcome : ConnectionEnd → RunCounts → RunOutcome
replay_outcome endings.Complete n = unless_skipped n (served_with n)
replay_outcome endings.Cut n = unless_skipped n Cut
replay_outcome endings.Unlinked n = unless_skipped n LinkFault
replay_outcome endings.Starved n = NoMemory
replay_outcome endings.Stopped n = DiskFault

-- the same of `serve`, by how its connections came to an end
abbrev pub serve_outcome : RunEnd → RunCounts → RunOutcome
serve_outcome run_ends.Complete n = served_with n
serve_outcome run_ends.NoMore n = served_with n
serve_outcome run_ends.Unlinked n = LinkFault
serve_outcome run_ends.Stopped n = DiskFault

-- ---- connections

-- One connection was served to its end, by one history.
pub record OnePeer (base : List ℕ) (b : Beginning StoreState) (new : Device) (given : List ℕ)
    (outcome : RunOutcome) : Type 0 where
  pub session : Session TamsRequest
  pub runs : RunsAs base b (session ∷ []) new given
  pub line : outcome
      ≡ replay_outcome (ending_of session) (counts_of_run (tams_machine base) b.state
      (session ∷ []))

-- Connections were served one after another, at most so many, by one history. Each that ended with
-- a call of its link that failed raised the count.
pub record SomePeers (base : List ℕ) (b : Beginning StoreState) (old new : Device)
    (given : List ℕ) (connections : ℕ) (outcome : RunOutcome) : Type 0 where
  pub sessions : List (Session TamsRequest)
  pub end : RunEnd
  pub runs : RunsAs base b sessions new given
  pub ends : RunEnds b.closed new sessions connections end
  pub line : outcome ≡ serve_outcome end (counts_of_run (tams_machine base) b.state sessions)
  pub counted : AreCounted old.link.faults new.link.faults sessions

-- the ends of a run in which no connection began, from a count of closings: the site said in this
-- run that no peer will come, waiting for one failed, or opening the store did
abbrev pub EndsWithoutPeer : ℕ → Device → RunOutcome → Type 0
EndsWithoutPeer closed new (Served requests changes skipped) =
    (requests ≡ 0) × (changes ≡ 0) × (skipped ≡ 0) × Rose closed new.link.closed
EndsWithoutPeer closed new LinkFault = Unit {0}
EndsWithoutPeer closed new DiskFault = Unit {0}
EndsWithoutPeer closed new NoMemory = Unit {0}
EndsWithoutPeer closed new _ = ⊥

-- No connection began, and the state stays.
pub record NoPeer (base : List ℕ) (b : Beginning StoreState) (new : Device) (given : List ℕ)
    (outcome : RunOutcome) : Type 0 where
  pub runs : RunsAs base b [] new given
  pub ends : EndsWithoutPeer b.closed new outcome

-- a run of `replay` from its beginning
abbrev pub Replayed : List ℕ → Beginning StoreState → Device → List ℕ → RunOutcome → Type 0
Replayed base b new given outcome =
    OnePeer base b new given outcome ⊎ NoPeer base b new given outcome

-- a run of `serve` from its beginning
abbrev pub ServedAll : List ℕ → Beginning StoreState → Device → Device → List ℕ → ℕ → RunOutcome
    → Type 0
ServedAll base b old new given connections outcome =
    SomePeers base b old new given connections outcome ⊎ NoPeer base b new given outcome
