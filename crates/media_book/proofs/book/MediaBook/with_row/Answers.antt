use Rattle.std.proofs.Common.{◌≡◌, true, ◌∷◌, [], refl, sym, subst, ap, ap₂, ◌∙◌}
use Rattle.media_rows.specs.declared.refusal.Refusal.TheVariants.{NoObject}
use Rattle.media_rows.specs.Lists.{or_else}
use Rattle.media_book.specs.Media.{are_segments_below, with_posts}
use Rattle.media_book.specs.Within.Ties.{row_refusal}
use Rattle.object_refs.specs.Within.Apart.{book_seen}
use Rattle.media_book.proofs.Kept.{added_is, added_seen}
use Rattle.media_book.proofs.Same.{media_same, seen_same}
use Rattle.media_book.proofs.book.MediaBook.with_row.Goals as goal

-- one reference more, and the segment stands last
pub invariant_of-result-in-Ok-add : goal.invariant_of-result-in-Ok-add
invariant_of-result-in-Ok-add c =
    let below = subst (λ m. are_segments_below c.args.row.serial m.segments ≡ true) (sym (ap (λ m. m.media) c.self.view_is)) c.requires.above in
    media_same _ c.in-Ok-add.segments _ (book_seen c.objects.inside.trees c.objects.inside.apart).kept _ c.in_ok-share-in-Ok-add.field-0 _ c.self.inside.bytes
    c.in-Ok-add.ensures.1 (ap (λ book. book.kept) (c.objects.view_is ∙ c.in-Ok.ensures.1)) c.in_ok-share-in-Ok-add.ensures refl
    (added_is c.references_come.ensures c.self.inside.segments c.self.inside.objects.kept c.self.inside.space c.self.inside.bytes c.args.row
    (NoObject c.args.row.segment.object) c.self.invariant c.in-Ok.ensures.0 below)

pub returns-in_ok-share-in-Ok-add : goal.returns-in_ok-share-in-Ok-add
returns-in_ok-share-in-Ok-add c =
    let row = c.args.row in (
      ap (λ m. row_refusal m row) (sym (ap (λ m. m.media) c.self.view_is)) ∙ ap₂ (λ a b. or_else a b) c.in-Ok.ensures.0 c.in-Ok-add.ensures.0,
      seen_same _ c.in-Ok-add.segments _ (book_seen c.objects.inside.trees c.objects.inside.apart).kept _ c.in_ok-share-in-Ok-add.field-0 _ c.in-Ok-add.ensures.1
          (ap (λ book. book.kept) (c.objects.view_is ∙ c.in-Ok.ensures.1)) c.in_ok-share-in-Ok-add.ensures
          (added_seen c.self.inside.segments c.self.inside.objects.kept c.self.inside.space row
          ∙ ap (with_posts row.flow row.serial (row.segment ∷ [])) (ap (λ m. m.media) c.self.view_is)),
    )
