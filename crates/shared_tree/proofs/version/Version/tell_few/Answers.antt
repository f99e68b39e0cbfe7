use Rattle.std.proofs.Common.{subst, ◌≤◌, ◌^◌, length}
use Rattle.shared_tree.proofs.Counted.{few}
use Rattle.shared_tree.proofs.version.Version.tell_few.Goals as goal

pub returns : goal.returns
returns g c = subst (λ ps. length ps ≤ 2 ^ 128) c.self.view_is (few _ c.self.invariant.rising c.self.invariant.fits)
