use Rattle.std.proofs.Common.{◌-◌}
use Rattle.object_blobs.proofs.Hashing.{HasRead}
use Rattle.object_blobs.proofs.digests.extent_digest.Given as goal

-- the bytes up to this offset were taken
abbrev pub invariant-pieces : goal.invariant-pieces
invariant-pieces g l = HasRead l.area l.extent l.hasher (g.D.Disk.device l.fn.disk) (g.D.Disk.device l.disk) l.at

abbrev pub decreases-pieces : goal.decreases-pieces
decreases-pieces g l = l.extent.length - l.at
