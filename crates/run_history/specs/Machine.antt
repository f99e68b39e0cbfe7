-- What a run is a history of: a machine that answers requests and makes changes of a state. The
-- crate that runs one fills this in; nothing here knows what a request or a state is.
use Rattle.std.specs.Prelude.{ℕ, Bool, List, Option}

-- what a request is answered: the bytes of the reply, and the state after its change where there is
-- one
pub record MachineReply (State : Type 0) : Type 0 where
  pub bytes : List ℕ
  pub change : Option State

-- what the wire answers to bytes that are no request: the interim that was due before, where the
-- head was whole, and the response
pub record WireRefusal : Type 0 where
  pub interim : Option (List ℕ)
  pub response : List ℕ

-- what a request has had that was cut: its interim, where one was due, and whether it took its
-- moment
pub record Cutting : Type 0 where
  pub interim : Option (List ℕ)
  pub takes_moment : Bool

-- Where the disk failed in a request: before its answer had begun, within it, or in the turn behind
-- it; and whether the record of a change was being written then.
pub data Failure : Type 0 where
  BeforeAnswer : (writing : Bool) → Failure
  InAnswer : Failure
  InTurn : (writing : Bool) → Failure

-- A machine over states and requests.
-- `spells n text request`: behind n requests of a connection, these bytes are this request's,
-- whole.
-- `heads n text request`: these are a whole head and some of its body, of a request that takes its
-- moment at its head.
-- `refuses text refusal`: the wire refuses these bytes so.
-- `cuts text cutting`: of a request of which no more than these bytes was heard, this was done: it
-- had its interim exactly where one is due to them.
-- `interim`, `answer`, `no_memory`, `disk_fault`: what a request is told; an answer also by the
-- moment that it took and the state.
-- `may_fail failure`: the disk may fail there in a request, as the machine calls it there.
-- `ends`: whether a request's answer ends its connection.
-- `handed`, `turn_handed`: how many bytes the change of an answer hands to the device from a state,
-- and that of a turn, 0 where there is none. `cut_handed text`: at most so many were handed to it
-- of a request that was cut, of which these bytes were heard.
-- `due`, `turn`: whether a turn at a moment has something to do, and the state after its change,
-- none where it does nothing or its change has no room.
-- `stands image state`: a file of these bytes stands for this state.
pub record Machine (State Request : Type 0) : Type 1 where
  pub spells : ℕ → List ℕ → Request → Type 0
  pub heads : ℕ → List ℕ → Request → Type 0
  pub refuses : List ℕ → WireRefusal → Type 0
  pub cuts : List ℕ → Cutting → Type 0
  pub interim : Request → Option (List ℕ)
  pub answer : Request → ℕ → State → MachineReply State
  pub no_memory : Request → List ℕ
  pub disk_fault : Request → List ℕ
  pub may_fail : Failure → Type 0
  pub ends : Request → Bool
  pub due : ℕ → State → Bool
  pub turn : ℕ → State → Option State
  pub handed : Request → ℕ → State → ℕ
  pub turn_handed : ℕ → State → ℕ
  pub cut_handed : List ℕ → ℕ
  pub stands : List ℕ → State → Type 0
  pub good : State → Type 0
