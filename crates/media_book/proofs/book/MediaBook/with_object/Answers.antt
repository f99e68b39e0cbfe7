use Rattle.std.proofs.Common.{◌≡◌, true, ◌∷◌, [], refl, sym, subst, ap, ◌∙◌}
use Rattle.std.specs.Prelude.{is_some}
use Rattle.media_rows.specs.Objects.{object_of}
use Rattle.media_rows.specs.Refusals.{when}
use Rattle.media_rows.specs.declared.refusal.Refusal.TheVariants.{IdTaken}
use Rattle.object_refs.specs.References.{objects_in}
use Rattle.media_book.specs.Media.{are_objects_below, with_allocated}
use Rattle.object_refs.specs.Within.Apart.{book_seen}
use Rattle.media_book.proofs.Kept.{new_is, new_seen, unless}
use Rattle.media_book.proofs.ObjectRows.{below_is}
use Rattle.media_book.proofs.Same.{media_same, seen_same}
use Rattle.media_book.proofs.book.MediaBook.with_object.Goals as goal

pub allocate-requires : goal.allocate-requires
allocate-requires c = record {
  above = below_is c.args.serial c.self.inside.objects.kept
      ∙ subst (λ m. are_objects_below c.args.serial m.objects ≡ true) (sym (ap (λ m. m.media) c.self.view_is)) c.requires.above;
}

-- nothing names the new object
pub invariant_of-result-in-Ok : goal.invariant_of-result-in-Ok
invariant_of-result-in-Ok c =
    let id = c.args.id.now in
    let kept = c.self.inside.objects.kept in
    let free = unless (is_some (object_of id (objects_in kept))) (IdTaken id) c.in-Ok.ensures.0 in
    media_same _ c.in_ok-share-in-Ok.field-0 _ (book_seen c.objects.inside.trees c.objects.inside.apart).kept _ c.in_ok-share-in-Ok-2.field-0 _ c.self.inside.bytes c.in_ok-share-in-Ok.ensures
    (ap (λ book. book.kept) (c.objects.view_is ∙ c.in-Ok.ensures.1)) c.in_ok-share-in-Ok-2.ensures refl
    (new_is c.objects_come.ensures c.self.inside.segments kept c.self.inside.space c.self.inside.bytes id c.args.serial c.args.now c.self.invariant free)

pub returns-in_ok-share-in-Ok-2 : goal.returns-in_ok-share-in-Ok-2
returns-in_ok-share-in-Ok-2 c =
    let id = c.args.id.now in (
      ap (λ m. when (is_some (object_of id m.objects)) (IdTaken id)) (sym (ap (λ m. m.media) c.self.view_is)) ∙ c.in-Ok.ensures.0,
      seen_same _ c.in_ok-share-in-Ok.field-0 _ (book_seen c.objects.inside.trees c.objects.inside.apart).kept _ c.in_ok-share-in-Ok-2.field-0 _ c.in_ok-share-in-Ok.ensures
          (ap (λ book. book.kept) (c.objects.view_is ∙ c.in-Ok.ensures.1)) c.in_ok-share-in-Ok-2.ensures
          (new_seen c.self.inside.segments c.self.inside.objects.kept c.self.inside.space id c.args.serial c.args.now
          ∙ ap (with_allocated c.args.serial c.args.now (id ∷ [])) (ap (λ m. m.media) c.self.view_is)),
    )
