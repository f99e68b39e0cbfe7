use Rattle.std.proofs.Common.{◌-◌}
use Rattle.tams_service.proofs.Objects.{HasSaid}
use Rattle.tams_service.proofs.saying.say_object.Given as goal

-- the bytes up to this offset were said
abbrev pub invariant-pieces : goal.invariant-pieces
invariant-pieces g l = HasSaid l.fn.store.kept l.fn.store.put l.store l.extent (g.X.Disk.device l.fn.site) (g.X.Disk.device l.site) l.at

abbrev pub decreases-pieces : goal.decreases-pieces
decreases-pieces g l = l.extent.length - l.at
