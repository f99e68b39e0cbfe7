use Rattle.std.proofs.Common.{◌<◌, ◌∙◌, ap, arith, subst, sym}
use Rattle.media_rows.specs.Objects.{is_free}
use Rattle.object_refs.specs.References.{objects_in}
use Rattle.media_book.specs.Media.{can_take}
use Rattle.media_book.specs.Within.Ties.{media_seen}
use Rattle.media_book.proofs.Held.{leaves_free}
use Rattle.media_book.proofs.Restored.{none_taken, some_blocks, some_taken}
use Rattle.media_book.proofs.book.MediaBook.takes.Goals as goal

pub returns-then-extent-eq0 : goal.returns-then-extent-eq0
returns-then-extent-eq0 c = none_taken c.args.self.now.media c.args.extent c.if-extent-eq0.true

-- free blocks are those that the objects leave
pub returns : goal.returns
returns c =
    let objects = objects_in c.self.inside.objects.kept in
    let some : 0 < c.args.extent.length = let not_none = c.if-extent-eq0.false in omega (arith, not_none) in
    let many : 0 < c.blocks_of.result = subst (λ n. 0 < n) (sym c.blocks_of.ensures) (some_blocks c.args.extent.length some) in
    some_taken (media_seen c.self.inside.segments c.self.inside.objects.kept c.self.inside.space) c.args.extent c.is_free.result some
    (c.is_free.ensures.library objects (leaves_free objects c.self.inside.space c.self.inside.bytes c.self.invariant.held) many
    ∙ ap (λ n. is_free objects c.self.inside.space.blocks n c.args.extent.start) c.blocks_of.ensures)
    ∙ ap (λ m. can_take m c.args.extent) (ap (λ m. m.media) c.self.view_is)
