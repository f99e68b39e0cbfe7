use Rattle.std.proofs.Common.{ap, ◌∙◌}
use Rattle.media_rows.specs.Objects.{free_place}
use Rattle.object_refs.specs.References.{objects_in}
use Rattle.media_book.proofs.Held.{leaves_free}
use Rattle.media_book.proofs.book.MediaBook.place.Goals as goal

-- free blocks are those that the objects leave
pub returns : goal.returns
returns c =
    let objects = objects_in c.self.inside.objects.kept in
    c.place.ensures.library objects (leaves_free objects c.self.inside.space c.self.inside.bytes c.self.invariant.held)
    ∙ ap (λ m. free_place m.objects m.blocks c.args.blocks) (ap (λ m. m.media) c.self.view_is)
