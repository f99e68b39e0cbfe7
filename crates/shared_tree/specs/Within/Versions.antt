-- What holds of a version.
use Rattle.std.specs.Prelude.{◌≡◌, ◌-◌, length, FitsSigned}
use Rattle.std.specs.List.{AllByRecursion}
use mir.Syntax.{w128}
use Rattle.shared_tree.specs.declared.version.Version.TheInside.{Inside}
use Rattle.shared_tree.specs.Pairs.{IsRising}

-- keys rise, each is an `i128`, and the number of pairs beside the first one is right
pub record IsVersion {V : Type 0} (version : Inside V) : Type 0 where
  pub rising : IsRising version.tree.0
  pub fits : AllByRecursion (λ p. FitsSigned w128 p.0) version.tree.0
  pub more : version.more ≡ length version.tree.0 - 1
