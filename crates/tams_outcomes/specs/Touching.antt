-- What a command did to its site, whatever its end: it left it as it was, it served nobody, no call
-- failed.
use Rattle.std.specs.Prelude.{◌≡◌, ◌⊎◌, ℕ, List}
use Rattle.disk_trait.specs.Device.{Device}
use Rattle.disk_trait.specs.Calls.{Elapses, LeavesOnly, Rose, Unchanged}
use Rattle.tams_outcomes.specs.Statuses.{exit_of}
use Rattle.tams_outcomes.specs.declared.outcome.RunOutcome.{RunOutcome}

-- nothing is pending: a crash now leaves just what a read gives
abbrev pub IsSettled : Device → Type 0
IsSettled d = LeavesOnly d.seen d

-- nothing was written, heard or said, and a crash leaves what it could leave before
pub record Untouched (old new : Device) : Type 0 where
  pub seen : new.seen ≡ old.seen
  pub handed : new.handed ≡ old.handed
  pub link : new.link ≡ old.link
  pub time : Elapses Unchanged Unchanged old new

-- nobody was served: no peer was waited for, heard or told, and the clock wasn't read
pub record ServesNobody (old new : Device) (begun given : List ℕ) : Type 0 where
  pub link : new.link ≡ old.link
  pub given_is : given ≡ begun

-- no count of faults rose, or stands at its last value
pub record NoneRose (old new : Device) : Type 0 where
  pub disk : ¬ (Rose old.faults new.faults)
  pub link : ¬ (Rose old.link.faults new.link.faults)

-- the ends of a command of which no call failed: it is done, the file refuses it, or there was no
-- memory
abbrev pub IsDoneOrRefused : RunOutcome → Type 0
IsDoneOrRefused o = (exit_of o ≡ 0) ⊎ ((exit_of o ≡ 2) ⊎ (exit_of o ≡ 4))
