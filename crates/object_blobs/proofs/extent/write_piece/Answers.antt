use Rattle.std.proofs.Common.{◌+◌, ◌*◌, ◌∙◌, ap, arith}
use Rattle.std.proofs.lemmas.Result.{on_ok_weaker}
use Rattle.object_blobs.specs.Extents.{extent_bytes}
use Rattle.object_blobs.proofs.PieceLemmas.{part-overwritten}
use Rattle.object_blobs.proofs.extent.write_piece.Goals as goal

-- What is written within the extent is written into its bytes.
pub returns-clause-piece : goal.returns-clause-piece
returns-clause-piece g c = λ shows.
    let image = (g.D.Disk.device c.args.disk.now).seen in
    let whole = (g.met.D.Disk.sound c.args.disk.now).length shows in
    on_ok_weaker c.write_at.result
    (λ written. ap (extent_bytes c.args.area c.args.extent) written
    ∙ part-overwritten image c.args.piece.now (c.args.area + 4096 * c.args.extent.start) c.args.extent.length c.args.at
    (omega (arith, whole, c.requires.device)) c.requires.inside)
    (c.write_at.ensures.written shows)
