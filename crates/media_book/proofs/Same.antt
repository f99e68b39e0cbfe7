-- What is kept of media holds of equal parts.
use Rattle.std.proofs.Common.{◌≡◌, ℕ, List, ap, sym, subst, ◌∙◌}
use Rattle.media_rows.specs.declared.segment.SegmentRow.{SegmentRow}
use Rattle.object_blobs.specs.Holes.{Area}
use Rattle.object_refs.specs.declared.kept.Kept.{Kept}
use Rattle.media_book.specs.Media.{Media}
use Rattle.media_book.specs.Within.Ties.{IsMedia, media_seen}

pub media_same : (segments s : List SegmentRow) (kept k : List Kept) (area a : Area) (bytes b : ℕ) → s ≡ segments → k ≡ kept → a ≡ area → b ≡ bytes
    → IsMedia segments kept area bytes → IsMedia s k a b
media_same segments s kept k area a bytes b es ek ea eb is =
    subst (λ x. IsMedia x k a b) (sym es)
    (subst (λ x. IsMedia segments x a b) (sym ek) (subst (λ x. IsMedia segments kept x b) (sym ea) (subst (IsMedia segments kept area) (sym eb) is)))

pub seen_same : (segments s : List SegmentRow) (kept k : List Kept) (area a : Area) (media : Media) → s ≡ segments → k ≡ kept → a ≡ area
    → media_seen segments kept area ≡ media → media_seen s k a ≡ media
seen_same segments s kept k area a media es ek ea is =
    ap (λ x. media_seen x k a) es ∙ ap (λ x. media_seen segments x a) ek ∙ ap (media_seen segments kept) ea ∙ is
