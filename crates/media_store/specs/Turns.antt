-- What a turn makes of a store. Our own rules.
use Rattle.std.specs.Prelude.{◌≡◌, ℕ, Option, Some, None, IsTrue, if◌then◌else◌}
use Rattle.media_rows.specs.declared.change.Change.{Change}
use Rattle.media_rows.specs.declared.change.Change.TheVariants.{DeleteStep, SweepStep}
use Rattle.change_codec.specs.Fitting.{State, fits}
use Rattle.store_plans.specs.Plans.{HasNoRoom}
use Rattle.media_store.specs.declared.turns.TurnMade.{TurnMade}
use Rattle.media_store.specs.declared.turns.TurnMade.TheVariants.{Deleted, Swept, Nothing, NoRoom}

-- this change is due, and it fits the journal
pub record IsDue (journal : State) (due : Option Change) (change : Change) : Type 0 where
  pub is : due ≡ Some change
  pub fits : IsTrue (fits journal change)

-- what a turn at a moment made, by the change that was due
abbrev pub TurnIs : State → Option Change → ℕ → TurnMade → Type 0
TurnIs journal due moment Nothing = due ≡ None
TurnIs journal due moment NoRoom = HasNoRoom journal due
TurnIs journal due moment Deleted = IsDue journal due (DeleteStep moment)
TurnIs journal due moment Swept = IsDue journal due (SweepStep moment)

-- the change that a turn makes, if one is due that fits
abbrev pub turn_change : State → Option Change → Option Change
turn_change journal None = None
turn_change journal (Some change) = if fits journal change then Some change else None
