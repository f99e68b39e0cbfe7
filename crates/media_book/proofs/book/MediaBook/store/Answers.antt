use Rattle.std.proofs.Common.{◌≡◌, true, refl, sym, subst, ap, ◌∙◌}
use Rattle.media_rows.specs.Answer.{keep_refusal}
use Rattle.media_rows.specs.Objects.{object_of}
use Rattle.object_blobs.specs.Holes.{IsPlaceTaken}
use Rattle.media_book.specs.Media.{can_take, serial_in, with_stored}
use Rattle.object_refs.specs.Within.Apart.{book_seen}
use Rattle.media_book.proofs.Kept.{room_free, room_of, stored_is, stored_seen, stored_serial}
use Rattle.media_book.proofs.Same.{media_same, seen_same}
use Rattle.media_book.proofs.book.MediaBook.store.Goals as goal

-- the place is free in the space too
pub take-requires : goal.take-requires
take-requires c =
    let can = subst (λ m. can_take m c.args.extent ≡ true) (sym (ap (λ m. m.media) c.self.view_is)) c.requires.place in
    let room = room_of c.self.inside.segments c.self.inside.objects.kept c.self.inside.space c.args.extent can in
    record { free = rw c.blocks_of.ensures (room_free c.self.inside.objects.kept c.self.inside.space c.self.inside.bytes c.args.extent c.self.invariant.held room) }

-- the object has the place, and no other one changes
pub invariant_of-result-in-Ok : goal.invariant_of-result-in-Ok
invariant_of-result-in-Ok c =
    let can = subst (λ m. can_take m c.args.extent ≡ true) (sym (ap (λ m. m.media) c.self.view_is)) c.requires.place in
    let room = room_of c.self.inside.segments c.self.inside.objects.kept c.self.inside.space c.args.extent can in
    let taken = subst (λ n. IsPlaceTaken c.args.extent.start n c.self.inside.space c.in_ok-take-in-Ok.field-0) c.blocks_of.ensures c.in_ok-take-in-Ok.ensures in
    media_same _ c.in_ok-share-in-Ok.field-0 _ (book_seen c.objects.inside.trees c.objects.inside.apart).kept _ c.in_ok-take-in-Ok.field-0 _ c.in_ok-total-in-Ok.field-0
    c.in_ok-share-in-Ok.ensures (ap (λ book. book.kept) (c.objects.view_is ∙ c.in-Ok.ensures.1)) refl c.in_ok-total-in-Ok.ensures
    (stored_is c.objects_change.ensures c.self.inside.segments c.self.inside.objects.kept c.self.inside.space c.in_ok-take-in-Ok.field-0 c.self.inside.bytes
    c.args.id.now c.args.extent c.args.digest c.args.now c.self.invariant c.is_in_order.ensures.ids c.in-Ok.ensures.0 room taken)

pub returns-in_ok-total-in-Ok-clause-media : goal.returns-in_ok-total-in-Ok-clause-media
returns-in_ok-total-in-Ok-clause-media c =
    let taken =
    subst (λ n. IsPlaceTaken c.args.extent.start n c.self.inside.space c.in_ok-take-in-Ok.field-0) c.blocks_of.ensures c.in_ok-take-in-Ok.ensures in (
      ap (λ m. keep_refusal (object_of c.args.id.now m.objects)) (sym (ap (λ m. m.media) c.self.view_is)) ∙ c.in-Ok.ensures.0,
      seen_same _ c.in_ok-share-in-Ok.field-0 _ (book_seen c.objects.inside.trees c.objects.inside.apart).kept _ c.in_ok-take-in-Ok.field-0 _ c.in_ok-share-in-Ok.ensures
          (ap (λ book. book.kept) (c.objects.view_is ∙ c.in-Ok.ensures.1)) refl
          (stored_seen c.self.inside.segments c.self.inside.objects.kept c.self.inside.space c.in_ok-take-in-Ok.field-0 c.args.id.now c.args.extent c.args.digest c.args.now taken
          ∙ ap (with_stored c.args.id.now c.args.extent c.args.digest c.args.now) (ap (λ m. m.media) c.self.view_is)),
    )

-- and its row is held apart
pub returns-in_ok-total-in-Ok-clause-apart : goal.returns-in_ok-total-in-Ok-clause-apart
returns-in_ok-total-in-Ok-clause-apart c =
    ap (λ book. book.apart) (c.objects.view_is ∙ c.in-Ok.ensures.1)
    ∙ stored_serial c.args.id.now c.args.extent c.args.digest c.args.now c.self.inside.objects.kept
    ∙ ap (λ m. serial_in c.args.id.now m.media) c.self.view_is
