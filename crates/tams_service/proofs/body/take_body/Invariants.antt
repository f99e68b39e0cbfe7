use Rattle.tams_service.proofs.Taken.{HasTaken}
use Rattle.tams_service.proofs.body.take_body.Given as goal

-- what isn't left was taken
abbrev pub invariant-pieces : goal.invariant-pieces
invariant-pieces g l =
    HasTaken l.fn.store.kept l.store l.size l.left l.fn.hearing l.hearing l.fn.put l.store.put (g.X.Disk.device l.fn.site) (g.X.Disk.device l.site)

abbrev pub decreases-pieces : goal.decreases-pieces
decreases-pieces g l = l.left
