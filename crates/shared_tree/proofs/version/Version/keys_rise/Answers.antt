use Rattle.std.proofs.Common.{subst}
use Rattle.shared_tree.specs.Pairs.{IsRising}
use Rattle.shared_tree.proofs.version.Version.keys_rise.Goals as goal

pub returns : goal.returns
returns g c = subst IsRising c.self.view_is c.self.invariant.rising
