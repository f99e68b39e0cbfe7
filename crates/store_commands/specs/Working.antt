-- What a run of `work` makes of a file that stands for a state: turns, each at a moment of its own,
-- until one changes nothing.
use Rattle.std.specs.Prelude.{◌≡◌, ◌≢◌, ◌+◌, ◌⊎◌, ℕ, Bool, true, false, List, [], ◌∷◌, ◌++◌, length, All, Some, None, Result, Ok, Err}
use Rattle.disk_trait.specs.Device.{Device}
use Rattle.site_edge.specs.Clocks.{IsMoment}
use Rattle.library_laws.specs.MediaLaws.{IsGoodArchive}
use Rattle.run_history.specs.Runs.{AllRight, Beginning, StandsNow}
use Rattle.run_history.specs.Steps.{last_or}
use Rattle.run_history.specs.Traces.{Trace}
use Rattle.media_store.specs.declared.fault.StoreFault.{StoreFault}
use Rattle.media_store.specs.declared.fault.StoreFault.TheVariants as faults
use Rattle.store_states.specs.States.{StoreState}
use Rattle.tams_machine.specs.Answers.{is_turn_due, turn_handed, turn_in}
use Rattle.tams_machine.specs.Machine.{tams_machine}
use Rattle.tams_outcomes.specs.declared.outcome.RunOutcome.{RunOutcome}
use Rattle.tams_outcomes.specs.declared.outcome.RunOutcome.TheVariants.{Worked, DiskFault, NoMemory}

-- At these moments, one after another, a turn changed something, and left these states.
abbrev pub HaveTurned : StoreState → List ℕ → List StoreState → Type 0
HaveTurned s [] states = states ≡ []
HaveTurned s (moment ∷ moments) [] = ⊥
HaveTurned s (moment ∷ moments) (next ∷ states) =
    (turn_in moment s ≡ Some next) × HaveTurned next moments states

-- how many bytes turns at these moments hand to the device that leave these states
abbrev pub turns_handed : StoreState → List ℕ → List StoreState → ℕ
turns_handed s [] states = 0
turns_handed s (moment ∷ moments) [] = 0
turns_handed s (moment ∷ moments) (next ∷ states) =
    turn_handed moment s + turns_handed next moments states

-- What turns come to that left these states. They tell nobody anything.
abbrev pub turns_trace : StoreState → List StoreState → Trace StoreState
turns_trace from states = record { scripts = []; first = from; changes = states }

-- How turns end, so many of which changed something, and which moments were taken behind theirs:
-- with one that changes nothing, with a fault of the disk, or for want of memory, before the first
-- turn or where a change is due. Where the disk failed, the change that was being made may stand or
-- not.
abbrev pub TurnsEnd : StoreState → ℕ → List ℕ → Bool → Result ℕ StoreFault → Type 0
TurnsEnd last number idle torn (Ok turns) = (turns ≡ number) × (torn ≡ false)
    × ((moment : ℕ) × (idle ≡ moment ∷ []) × (turn_in moment last ≡ None))
TurnsEnd last number idle torn (Err faults.Disk) = idle ≡ []
TurnsEnd last number idle torn (Err faults.Memory) = (torn ≡ false)
    × (((idle ≡ []) × (number ≡ 0))
    ⊎ ((moment : ℕ) × (idle ≡ moment ∷ []) × (is_turn_due moment last ≡ true)))

-- A run has ended that made turns: the times of those that changed something and the states behind
-- them, and then the time of one that changed nothing, where there was one. At each moment a crash
-- left the first state or one of these, and each is good; at exit the file stands for the last.
-- Unless the disk failed, the device was handed the bytes of these turns. The machine's turns are
-- the same over any base.
pub record HasWorked (b : Beginning StoreState) (new : Device) (given : List ℕ)
    (end : Result ℕ StoreFault) : Type 0 where
  pub times : List ℕ
  pub states : List StoreState
  pub turned : HaveTurned b.state times states
  pub idle : List ℕ
  pub given_is : given ≡ b.given ++ (times ++ idle)
  pub are_moments : All IsMoment (times ++ idle)
  pub torn : Bool
  pub moments : AllRight (tams_machine []) b (turns_trace b.state states) new
  pub exit : StandsNow (tams_machine []) new.seen (turns_trace b.state states) torn
  pub good : All (λ s. IsGoodArchive s.archive) (b.state ∷ states)
  pub causes : TurnsEnd (last_or b.state states) (length times) idle torn end
  pub bytes : end ≢ Err faults.Disk
      → new.handed ≡ b.handed + turns_handed b.state times states

-- the outcome of turns by how they ended
abbrev pub work_outcome : Result ℕ StoreFault → RunOutcome
work_outcome (Ok turns) = Worked turns
work_outcome (Err faults.Disk) = DiskFault
work_outcome (Err faults.Memory) = NoMemory

-- a run of `work` from its beginning: its turns, and the outcome that puts its line
pub record WorkedOff (b : Beginning StoreState) (new : Device) (given : List ℕ)
    (outcome : RunOutcome) : Type 0 where
  pub end : Result ℕ StoreFault
  pub worked : HasWorked b new given end
  pub line : outcome ≡ work_outcome end
