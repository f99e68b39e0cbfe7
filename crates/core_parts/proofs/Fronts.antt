-- Ids that a client names: those before the first that begins as the store's own. And the store's own ids.
use Rattle.std.proofs.Common.{◌≡◌, ℕ, zero, suc, ◌+◌, ◌<◌, Bool, true, false, List, [], ◌∷◌, ◌++◌, Option, Some, take, drop, get_or, map, length, refl, sym, ap, ◌∙◌, arith}
use Rattle.std.specs.Prelude.{◌||◌, nat_eq, if◌then◌else◌, slice_get}
use Rattle.std.specs.List.{starts_with}
use Rattle.std.proofs.lemmas.List.{map-append}
use Rattle.media_rows.specs.Answer.{first_taken}
use Rattle.media_rows.specs.Lists.{has_text, numbers_below, or_else}
use Rattle.core_parts.specs.Within.{front_length}
use Rattle.webhook_outbox.proofs.Posting.{item_first}

-- ---- names

-- an id is taken that passes a test, or that begins in this way
abbrev pub taken_or_made : (List ℕ → Bool) → List ℕ → List ℕ → Bool
taken_or_made kept prefix id = kept id || starts_with nat_eq id prefix

made_first : (k h : Bool) (id : List ℕ) (later : Option (List ℕ)) → (if (k || true) || h then Some id else later) ≡ Some id
made_first true h id later = refl
made_first false h id later = refl

made_later : (k h : Bool) (id : List ℕ) (all front behind : Option (List ℕ)) → all ≡ or_else front behind
    → (if (k || false) || h then Some id else all) ≡ or_else (if k || h then Some id else front) behind
made_later true h id all front behind e = refl
made_later false true id all front behind e = refl
made_later false false id all front behind e = e

-- the first id that is taken is one before the first that begins in this way, or is that one
pub first_of_front : (kept : List ℕ → Bool) (prefix : List ℕ) (earlier ids : List (List ℕ))
    → first_taken (taken_or_made kept prefix) earlier ids
    ≡ or_else (first_taken kept earlier (take (front_length prefix ids) ids)) (slice_get ids (front_length prefix ids))
first_of_front kept prefix earlier [] = refl
first_of_front kept prefix earlier (id ∷ later) = by (starts_with nat_eq id prefix) (first_of_front kept prefix (id ∷ earlier) later)
  where
    by : (t : Bool)
        → first_taken (taken_or_made kept prefix) (id ∷ earlier) later
        ≡ or_else (first_taken kept (id ∷ earlier) (take (front_length prefix later) later)) (slice_get later (front_length prefix later))
        → (if (kept id || t) || has_text id earlier then Some id else first_taken (taken_or_made kept prefix) (id ∷ earlier) later)
        ≡ or_else (first_taken kept earlier (take (if t then 0 else suc (front_length prefix later)) (id ∷ later)))
        (slice_get (id ∷ later) (if t then 0 else suc (front_length prefix later)))
    by true rest = made_first (kept id) (has_text id earlier) id (first_taken (taken_or_made kept prefix) (id ∷ earlier) later)
    by false rest =
        made_later (kept id) (has_text id earlier) id (first_taken (taken_or_made kept prefix) (id ∷ earlier) later)
        (first_taken kept (id ∷ earlier) (take (front_length prefix later) later)) (slice_get later (front_length prefix later)) rest

-- ---- their front

-- the first that begins in this way ends the front
pub front_ends : (prefix : List ℕ) (ids : List (List ℕ)) (i : ℕ) (id : List ℕ) → i < length ids → id ≡ get_or ids i id
    → starts_with nat_eq id prefix ≡ true → i + front_length prefix (drop i ids) ≡ front_length prefix ids → i ≡ front_length prefix ids
front_ends prefix ids i id lt at made before =
    let none : front_length prefix (drop i ids) ≡ 0 = ap (front_length prefix) (item_first ids i id lt at)
    ∙ ap (λ t. if t then 0 else suc (front_length prefix (drop (i + 1) ids))) made in
    omega (arith, none, before)

-- another one belongs to it
pub front_goes : (prefix : List ℕ) (ids : List (List ℕ)) (i : ℕ) (id : List ℕ) → i < length ids → id ≡ get_or ids i id
    → starts_with nat_eq id prefix ≡ false → i + front_length prefix (drop i ids) ≡ front_length prefix ids
    → i + 1 + front_length prefix (drop (i + 1) ids) ≡ front_length prefix ids
front_goes prefix ids i id lt at plain before =
    let more : front_length prefix (drop i ids) ≡ suc (front_length prefix (drop (i + 1) ids)) = ap (front_length prefix) (item_first ids i id lt at)
    ∙ ap (λ t. if t then 0 else suc (front_length prefix (drop (i + 1) ids))) plain in
    omega (arith, more, before)

-- ---- the store's own ids

below_more : (n : ℕ) → numbers_below n ++ n ∷ [] ≡ numbers_below (n + 1)
unfolding numbers_below
below_more n =
    let next : suc n ≡ n + 1 = omega arith in
    ap numbers_below next

-- one id more
pub ids_more : (f : ℕ → List ℕ) (n : ℕ) → map f (numbers_below n) ++ f n ∷ [] ≡ map f (numbers_below (n + 1))
ids_more f n = sym (map-append f (numbers_below n) (n ∷ [])) ∙ ap (map f) (below_more n)

-- none at first
pub ids_none : (f : ℕ → List ℕ) → [] ≡ map f (numbers_below 0)
unfolding numbers_below
ids_none f = refl
