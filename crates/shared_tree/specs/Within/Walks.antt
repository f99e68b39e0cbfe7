-- What a walk through a tree appends, as far as there is room: for proofs.
use Rattle.std.specs.Prelude.{◌≡◌, ℕ, ℤ, ◌+◌, ◌-◌, ◌≤◌, ◌<◌, List, ◌++◌, take, length}
use Rattle.shared_tree.specs.Pairs.{values}

-- the values of these pairs were appended as far as there was room, and so much room is left
pub record Walked {V : Type 0} (before after : List V) (room left : ℕ) (ps : List (ℤ × V)) : Type 0
  where
    pub values : after ≡ before ++ take room (values ps)
    pub rest : left ≡ room - length ps

-- So many steps at most were taken, with one for each value; fewer where room is left.
pub record Costs (steps_before steps_after room left most most_whole : ℕ) : Type 0 where
  pub all : steps_after + left ≤ steps_before + room + most
  pub whole : 0 < left → steps_after + left ≤ steps_before + room + most_whole
