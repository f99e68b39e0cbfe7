-- Which rows name an id. Rows have ids of their own, and each names ids, such as the flow that a
-- flow collects. An index has at each id that is named the ids of the rows that name it. Our own.
use Rattle.std.specs.Prelude.{◌≡◌, ℕ, ℤ, ◌==◌, List, [], ◌∷◌, Bool, true, false, Option, Some, None, if◌then◌else◌, filter, map, unwrap_or}
use Rattle.media_rows.specs.Lists.{has_number}
use Rattle.media_rows.specs.Views.{id_key}
use Rattle.shared_tree.specs.Pairs.{value_at, with_pair, without_key}

-- the ids that an index has at an id, as pairs of a key and the id
abbrev pub ids_at : ℕ → List (ℤ × List (ℤ × ℕ)) → List (ℤ × ℕ)
ids_at to index = unwrap_or (value_at (id_key to) index) []

-- there is a pair
abbrev pub has_pairs : {V : Type 0} → List (ℤ × V) → Bool
has_pairs [] = false
has_pairs (p ∷ ps) = true

-- One more id stands at each of these, and at all others what stood there.
abbrev pub Links : List ℕ → ℕ → List (ℤ × List (ℤ × ℕ)) → List (ℤ × List (ℤ × ℕ)) → Type 0
Links to id old new =
    (a : ℕ) → ids_at a new
    ≡ (if has_number a to then with_pair (id_key id, id) (ids_at a old) else ids_at a old)

-- An id stands at none of these any more, and at all others what stood there.
abbrev pub Unlinks : List ℕ → ℕ → List (ℤ × List (ℤ × ℕ)) → List (ℤ × List (ℤ × ℕ)) → Type 0
Unlinks to id old new =
    (a : ℕ) → ids_at a new
    ≡ (if has_number a to then without_key (id_key id) (ids_at a old) else ids_at a old)

-- Nothing stands at this id any more, and at all others what stood there.
abbrev pub Forgets : ℕ → List (ℤ × List (ℤ × ℕ)) → List (ℤ × List (ℤ × ℕ)) → Type 0
Forgets to old new = (a : ℕ) → ids_at a new ≡ (if a == to then [] else ids_at a old)

-- the ids of the rows that name an id, as pairs of a key and the id
abbrev pub naming : {V : Type 0} → (V → ℕ) → (V → List ℕ) → ℕ → List (ℤ × V) → List (ℤ × ℕ)
naming id_of named a rows =
    map (λ p. (p.0, id_of p.1)) (filter (λ p. has_number a (named p.1)) rows)

-- an index has at each id just the ids of the rows that name it
abbrev pub IsIndexOf : {V : Type 0} → (V → ℕ) → (V → List ℕ) → List (ℤ × V)
    → List (ℤ × List (ℤ × ℕ)) → Type 0
IsIndexOf id_of named rows index = (a : ℕ) → ids_at a index ≡ naming id_of named a rows

-- a row changed where one stands at the key, and otherwise the rows as they are
abbrev pub changed_row : {V : Type 0} → ℤ → (V → V) → Option V → List (ℤ × V) → List (ℤ × V)
changed_row key change None rows = rows
changed_row key change (Some old) rows = with_pair (key, change old) rows
