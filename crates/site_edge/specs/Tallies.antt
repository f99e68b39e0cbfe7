-- The numbers of the link calls of a site in memory, and the counts of those that failed.
use Rattle.std.specs.Prelude.{◌≡◌, ◌+◌, ◌⊎◌, Bool}
use Rattle.disk_trait.specs.Calls.{IsCounted, Rose}
use Rattle.disk_trait.specs.MemoryDisk.{FailsAsListed}
use Rattle.site_edge.specs.declared.tally.Tally.{Tally}

-- A link call was counted: it took the next number, or was starved.
pub record CountsCall (old new : Tally) (ok : Bool) : Type 0 where
  pub fails : FailsAsListed (old.made + 1) old.fail old.starved new.starved ok
  pub counted : IsCounted ok old.faults new.faults
  pub fail : new.fail ≡ old.fail
  pub number : (new.made ≡ old.made + 1) ⊎ ((new.made ≡ old.made) × Rose old.starved new.starved)
