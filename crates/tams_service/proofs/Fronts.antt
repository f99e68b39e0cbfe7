-- The front of a list, and a piece behind it.
use Rattle.std.proofs.Common.{◌≡◌, ◌+◌, ◌&&◌, ℕ, Bool, true, List, ◌++◌, length, take, drop, Decides, refl, sym, ap, ap₂, ◌∙◌, arith}
use Rattle.std.specs.Prelude.{bytes_eq}
use Rattle.std.proofs.Math.Bool.{and_assoc}
use Rattle.std.proofs.Math.Seq.{drop-append_seam, take-add, take-append_seam}
use Rattle.std.proofs.lemmas.Bool.{and_parts}
use Rattle.std.proofs.lemmas.Bool.Decides.{same_from_decides}
use Rattle.std.proofs.lemmas.List.{drop-take, length-append, take-take}
use Rattle.std.proofs.lemmas.Slice.Eq.{bytes_eq-Decides}

-- what was asked for stands there, and behind it the piece
pub take_more : (bytes piece : List ℕ) (at n : ℕ) → piece ≡ take n (drop at bytes) → take (at + n) bytes ≡ take at bytes ++ piece
take_more bytes piece at n is = take-add at n bytes ∙ ap (λ l. take at bytes ++ l) (sym is)

both_true : (x y : Bool) → x ≡ true → y ≡ true → (x && y) ≡ true
both_true x y a b = rw (a, b) refl

fronts_are : (bytes part piece : List ℕ)
    → Decides (bytes_eq (take (length part) bytes) part && bytes_eq (take (length piece) (drop (length part) bytes)) piece)
    (take (length part + length piece) bytes ≡ part ++ piece)
fronts_are bytes part piece = (
  λ both.
      let (front, back) = and_parts (bytes_eq (take (length part) bytes) part) (bytes_eq (take (length piece) (drop (length part) bytes)) piece) both in
      take-add (length part) (length piece) bytes
      ∙ ap₂ (λ (x y : List ℕ). x ++ y) ((bytes_eq-Decides (take (length part) bytes) part).0 front)
      ((bytes_eq-Decides (take (length piece) (drop (length part) bytes)) piece).0 back),
  λ is.
      both_true _ _
      ((bytes_eq-Decides (take (length part) bytes) part).1
      (sym (take-take (length part) (length part + length piece) bytes (omega arith)) ∙ ap (take (length part)) is ∙ take-append_seam part piece))
      ((bytes_eq-Decides (take (length piece) (drop (length part) bytes)) piece).1
      (sym (drop-take (length part) (length piece) bytes) ∙ ap (drop (length part)) is ∙ drop-append_seam part piece)),
)

-- bytes begin with a part and a piece behind it exactly where they begin with the part and the piece stands behind it
pub same_more : (e : Bool) (bytes part piece : List ℕ)
    → ((e && bytes_eq (take (length part) bytes) part) && bytes_eq (take (length piece) (drop (length part) bytes)) piece)
    ≡ (e && bytes_eq (take (length (part ++ piece)) bytes) (part ++ piece))
same_more e bytes part piece =
    and_assoc e (bytes_eq (take (length part) bytes) part) (bytes_eq (take (length piece) (drop (length part) bytes)) piece)
    ∙ ap (λ b. e && b)
    (same_from_decides _ (bytes_eq (take (length part + length piece) bytes) (part ++ piece)) (fronts_are bytes part piece)
    (bytes_eq-Decides (take (length part + length piece) bytes) (part ++ piece)))
    ∙ ap (λ n. e && bytes_eq (take n bytes) (part ++ piece)) (sym (length-append part piece))
