-- What a sink in memory holds, and how it takes bytes.
use Rattle.std.specs.Prelude.{◌≡◌, ◌≤◌, ◌<◌, ℕ, Bool, List, [], IsTrue, IsFalse}
use Rattle.disk_trait.specs.Calls.{Rose}

-- a sink in memory: the bytes that it took, whether it is broken, and the counts of its faults and
-- of its starved calls, which found no memory
pub record SinkState : Type 0 where
  pub taken : List ℕ
  pub broken : Bool
  pub faults : ℕ
  pub starved : ℕ

-- a sink that took nothing yet
abbrev pub empty_sink : Bool → SinkState
empty_sink broken = record { taken = []; broken = broken; faults = 0; starved = 0 }

-- How a put to a sink in memory ends. It fails wherever the sink is broken or the count of starved
-- calls rose, and nowhere else while that count can rise. A put that fails takes nothing.
pub record PutEnds (old new : SinkState) (ok : Bool) : Type 0 where
  pub same : new.broken ≡ old.broken
  pub never_falls : old.starved ≤ new.starved
  pub broken : IsTrue old.broken → IsFalse ok
  pub starved : old.starved < new.starved → IsFalse ok
  pub only : IsFalse ok → IsFalse old.broken → Rose old.starved new.starved
  pub nothing : IsFalse ok → new.taken ≡ old.taken
