use Rattle.std.proofs.Common.{◌+◌, ◌*◌, ◌∙◌, length, sym}
use Rattle.std.proofs.lemmas.Result.{on_ok_weaker}
use Rattle.disk_trait.proofs.OverwriteLemmas.{bytes_at-bytes_at}
use Rattle.object_blobs.proofs.extent.read_piece.Goals as goal

-- A piece of the extent is a piece of the image.
pub returns-clause-piece : goal.returns-clause-piece
returns-clause-piece g c = λ shows.
    let image = (g.D.Disk.device c.args.disk.now).seen in
    on_ok_weaker c.read_at.result
    (λ read. read ∙ sym (bytes_at-bytes_at image (c.args.area + 4096 * c.args.extent.start) c.args.extent.length c.args.at (length c.args.out.now)
    c.requires.inside))
    (c.read_at.ensures.read shows)
