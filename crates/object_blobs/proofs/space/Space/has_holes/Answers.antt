use Rattle.object_blobs.specs.Holes.{HasHoles}
use Rattle.std.proofs.Common.{subst}
use Rattle.object_blobs.proofs.Told.{told}
use Rattle.object_blobs.proofs.space.Space.has_holes.Goals as goal

pub returns-clause-told : goal.returns-clause-told
returns-clause-told c other holes blocks same = told other c.args.self.now holes (subst HasHoles c.self.view_is c.self.invariant.area) blocks same
