use Rattle.std.proofs.Common.{length}
use Rattle.store_writes.proofs.Keeping.{free}
use Rattle.store_writes.proofs.pieces.write_free.Goals as goal

pub returns-clause-keeps : goal.returns-clause-keeps
returns-clause-keeps g c = λ kept held agrees place clear.
    free (g.D.Disk.device c.args.disk.now) (g.D.Disk.device c.write_piece.new.disk) kept held c.args.area c.args.extent c.args.at (length c.args.piece.now)
    c.requires.inside c.write_piece.ensures.call.time agrees place clear
