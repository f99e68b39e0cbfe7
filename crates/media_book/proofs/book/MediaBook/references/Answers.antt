use Rattle.std.proofs.Common.{◌≡◌, true, ap, subst, sym, ◌∙◌}
use Rattle.std.specs.Prelude.{is_some}
use Rattle.media_rows.specs.Objects.{object_of, reference_count}
use Rattle.media_book.proofs.book.MediaBook.references.Goals as goal

-- references are those of the segments
pub returns : goal.returns
returns c =
    let id = c.args.id.now in
    let kept = subst (λ m. is_some (object_of id m.objects) ≡ true) (sym (ap (λ m. m.media) c.self.view_is)) c.requires.kept in
    c.count.ensures
    ∙ c.counts_are_same.ensures c.self.inside.segments c.self.inside.objects.kept id c.self.invariant.tied c.is_in_order.ensures.ids kept
    ∙ ap (λ m. reference_count m.segments id) (ap (λ m. m.media) c.self.view_is)
