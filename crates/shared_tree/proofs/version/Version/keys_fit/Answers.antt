use Rattle.std.proofs.Common.{subst}
use Rattle.shared_tree.specs.Pairs.{AreKeys}
use Rattle.shared_tree.proofs.version.Version.keys_fit.Goals as goal

pub returns : goal.returns
returns g c = subst AreKeys c.self.view_is c.self.invariant.fits
