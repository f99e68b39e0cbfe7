use Rattle.std.proofs.Common.{◌∙◌, true, false, refl, ap, arith}
use Rattle.std.proofs.lemmas.List.{length-take-le}
use Rattle.std.proofs.lemmas.Result.{err_from_is_err_and}
use Rattle.disk_trait.specs.Calls.{bytes_at}
use Rattle.disk_trait.proofs.Theorems.{one_read, reads_twice}
use Rattle.object_blobs.specs.Extents.{extent_bytes}
use Rattle.object_blobs.proofs.Hashing.{read_more}
use Rattle.object_blobs.proofs.digests.extent_digest.Goals as goal

-- the read of a piece failed
pub returns-in_err-read_piece-clause-reads : goal.returns-in_err-read_piece-clause-reads
returns-in_err-read_piece-clause-reads g c =
    let p = err_from_is_err_and c.from_residual.result c.from_residual.ensures.1 in
    let piece = c.in_err-read_piece.ensures in
    rw p.1 (reads_twice false _ _ _ c.pieces.invariant.reads (one_read false _ _ piece.call piece.seen piece.handed))

-- the room is that of the largest piece
pub pieces-preserved : goal.pieces-preserved
pieces-preserved g c =
    let piece = c.in_ok-read_piece.ensures in
    let size = length-take-le c.min-count.result c.pieces.room (omega (arith, c.min-count.ensures, c.min-count.array_long)) in
    read_more _ _ _ _ _ _ _ _ _ c.min-count.result _ c.pieces.invariant refl (omega (arith, c.min-count.ensures, c.pieces-test.true))
    (one_read true _ _ piece.call piece.seen piece.handed)
    (λ shows. piece.piece shows ∙ ap (bytes_at (extent_bytes c.args.area c.args.extent (g.D.Disk.device c.pieces.disk).seen) c.pieces.at) size) c.update.ensures
