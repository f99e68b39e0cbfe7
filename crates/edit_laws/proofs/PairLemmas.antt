-- Pairs of a list, and lists of which each item of one has one of the other.
use Rattle.std.proofs.Common.{◌≡◌, ◌⊎◌, inl, inr, Bool, true, false, cond, List, [], ◌∷◌, ◌++◌, map, filter, refl, sym, ap, subst, ◌∙◌}
use Rattle.std.specs.Prelude.{All}
use Rattle.std.specs.List.{AllZip, flat_map, list_all}
use Rattle.std.proofs.lemmas.Bool.{and_parts}
use Rattle.std.proofs.lemmas.List.Elements.{All-cons, All-nil}
use Rattle.media_rows.specs.Lists.{in_order, inserted, rises}
use Rattle.library_laws.proofs.ListLemmas.{In, In-append, In-filter, In-flat_map, In-in_order, In-inserted, In-map, list_all-In}

-- ---- pairs

-- each item is so with each later one
abbrev pub EachPair : {X : Type 0} → (X → X → Type 0) → List X → Type 0
EachPair R [] = Unit {0}
EachPair {X} R (x ∷ xs) = ((y : X) → In y xs → R x y) × EachPair R xs

-- two items are one, or are so in one order
pub EachPair-In : {X : Type 0} (R : X → X → Type 0) (xs : List X) → EachPair R xs → (x y : X)
    → In x xs → In y xs → (x ≡ y) ⊎ (R x y ⊎ R y x)
EachPair-In R [] pairs x y h k = absurd h
EachPair-In R (z ∷ zs) pairs x y (inl here) (inl there) = inl (here ∙ sym there)
EachPair-In R (z ∷ zs) pairs x y (inl here) (inr later) =
    inr (inl (subst (λ a. R a y) (sym here) (pairs.0 y later)))
EachPair-In R (z ∷ zs) pairs x y (inr later) (inl there) =
    inr (inr (subst (λ a. R a x) (sym there) (pairs.0 x later)))
EachPair-In R (z ∷ zs) pairs x y (inr h) (inr k) = EachPair-In R zs pairs.1 x y h k

-- what follows of members
pub EachPair-weaker : {X : Type 0} (R S : X → X → Type 0) (xs : List X)
    → ((x y : X) → In x xs → In y xs → R x y → S x y) → EachPair R xs → EachPair S xs
EachPair-weaker R S [] so pairs = tt
EachPair-weaker R S (x ∷ xs) so pairs = (
  λ y here. so x y (inl refl) (inr here) (pairs.0 y here),
  EachPair-weaker R S xs (λ a b h k. so a b (inr h) (inr k)) pairs.1,
)

-- pairs of two lists
pub EachPair-append : {X : Type 0} (R : X → X → Type 0) (xs ys : List X) → EachPair R xs
    → EachPair R ys → ((x y : X) → In x xs → In y ys → R x y) → EachPair R (xs ++ ys)
EachPair-append R [] ys h k across = k
EachPair-append R (x ∷ xs) ys h k across = (
  λ y here. elim (In-append xs ys y here) [
    | inl front ↦ h.0 y front
    | inr back ↦ across x y (inl refl) back
  ],
  EachPair-append R xs ys h.1 k (λ a b here there. across a b (inr here) there),
)

-- pairs of mapped items
pub EachPair-map : {X Y : Type 0} (R : Y → Y → Type 0) (f : X → Y) (xs : List X)
    → EachPair (λ a b. R (f a) (f b)) xs → EachPair R (map f xs)
EachPair-map R f [] pairs = tt
EachPair-map R f (x ∷ xs) pairs = (
  λ y here. let found = In-map f xs y here in
      subst (λ b. R (f x) b) (sym found.2) (pairs.0 found.0 found.1),
  EachPair-map R f xs pairs.1,
)

-- pairs of lists, one for each item
pub EachPair-flat_map : {X Y : Type 0} (S : X → X → Type 0) (R : Y → Y → Type 0)
    (f : X → List Y) (xs : List X)
    → ((x : X) → In x xs → EachPair R (f x))
    → ((a b : X) → S a b → (x y : Y) → In x (f a) → In y (f b) → R x y)
    → EachPair S xs → EachPair R (flat_map f xs)
EachPair-flat_map S R f [] own across pairs = tt
EachPair-flat_map S R f (x ∷ xs) own across pairs =
    EachPair-append R (f x) (flat_map f xs) (own x (inl refl))
    (EachPair-flat_map S R f xs (λ y here. own y (inr here)) across pairs.1)
    (λ a b here there. let found = In-flat_map f xs b there in
    across x found.0 (pairs.0 found.0 found.1) a b here found.2)

-- an item in front of others or behind the first of them
inserted_step : {X : Type 0} (R : X → X → Type 0) (test : Bool) (x y : X) (ys rest : List X)
    → ((z : X) → In z (y ∷ ys) → R x z × R z x) → EachPair R (y ∷ ys) → EachPair R rest
    → ((z : X) → In z rest → (z ≡ x) ⊎ In z ys)
    → EachPair R (cond test (y ∷ rest) (x ∷ y ∷ ys))
inserted_step R true x y ys rest both pairs placed within = (
  λ z here. elim (within z here) [
    | inl same ↦ subst (λ a. R y a) (sym same) (both y (inl refl)).1
    | inr there ↦ pairs.0 z there
  ],
  placed,
)
inserted_step R false x y ys rest both pairs placed within = (λ z here. (both z here).0, pairs)

-- an item among others with each of which it is so both ways
EachPair-inserted : {X : Type 0} (R : X → X → Type 0) (before : X → X → Bool) (x : X)
    (ys : List X) → ((y : X) → In y ys → R x y × R y x) → EachPair R ys
    → EachPair R (inserted before x ys)
EachPair-inserted R before x [] both pairs = (λ y here. absurd here, tt)
EachPair-inserted R before x (y ∷ ys) both pairs =
    inserted_step R (before y x) x y ys (inserted before x ys) both pairs
    (EachPair-inserted R before x ys (λ z here. both z (inr here)) pairs.1)
    (λ z here. In-inserted before x ys z here)

-- what holds both ways holds in any order
pub EachPair-in_order : {X : Type 0} (R : X → X → Type 0) (before : X → X → Bool) (xs : List X)
    → ((x y : X) → R x y → R y x) → EachPair R xs → EachPair R (in_order before xs)
EachPair-in_order R before [] turn pairs = tt
EachPair-in_order R before (x ∷ xs) turn pairs =
    EachPair-inserted R before x (in_order before xs)
    (λ y here. let so = pairs.0 y (In-in_order before xs y here) in (so, turn x y so))
    (EachPair-in_order R before xs turn pairs.1)

-- a test on pairs
pub EachPair-rises : {X : Type 0} (t : X → X → Bool) (xs : List X) → rises t xs ≡ true
    → EachPair (λ a b. t a b ≡ true) xs
EachPair-rises t [] e = tt
EachPair-rises t (x ∷ xs) e =
    let parts = and_parts (list_all (t x) xs) (rises t xs) e in
    (λ y here. list_all-In (t x) xs parts.0 y here, EachPair-rises t xs parts.1)

-- ---- places in a list

-- a list with an item, cut there
pub In-split : {X : Type 0} (xs : List X) (x : X) → In x xs
    → (front : List X) × (back : List X) × (xs ≡ front ++ x ∷ back)
In-split [] x here = absurd here
In-split (y ∷ ys) x (inl same) = ([], ys, ap (λ z. z ∷ ys) (sym same))
In-split (y ∷ ys) x (inr later) =
    let rest = In-split ys x later in
    (y ∷ rest.0, rest.1, ap (λ zs. y ∷ zs) rest.2)

-- items that are so with each that stands in front of them, wherever the list is cut
pub EachPair-from_splits : {X : Type 0} (R : X → X → Type 0) (xs : List X)
    → ((front : List X) (x : X) (back : List X) → xs ≡ front ++ x ∷ back → (y : X) → In y front
    → R y x)
    → EachPair R xs
EachPair-from_splits R [] so = tt
EachPair-from_splits R (x ∷ xs) so = (
  λ y here. let cut = In-split xs y here in
      so (x ∷ cut.0) y cut.1 (ap (λ zs. x ∷ zs) cut.2) x (inl refl),
  EachPair-from_splits R xs
      (λ front y back is z here. so (x ∷ front) y back (ap (λ zs. x ∷ zs) is) z (inr here)),
)

-- ---- one item for each

-- an item of the second list has one of the first
pub AllZip-first : {X Y : Type 0} (R : X → Y → Type 0) (xs : List X) (ys : List Y)
    → AllZip R xs ys → (y : Y) → In y ys → (x : X) × In x xs × R x y
AllZip-first R [] [] all y here = absurd here
AllZip-first R [] (z ∷ ys) all y here = absurd all
AllZip-first R (x ∷ xs) [] all y here = absurd all
AllZip-first R (x ∷ xs) (z ∷ ys) all y (inl same) =
    (x, inl refl, subst (λ a. R x a) (sym same) all.0)
AllZip-first R (x ∷ xs) (z ∷ ys) all y (inr later) =
    let found = AllZip-first R xs ys all.1 y later in (found.0, inr found.1, found.2)

-- and the other way
pub AllZip-second : {X Y : Type 0} (R : X → Y → Type 0) (xs : List X) (ys : List Y)
    → AllZip R xs ys → (x : X) → In x xs → (y : Y) × In y ys × R x y
AllZip-second R [] [] all x here = absurd here
AllZip-second R [] (y ∷ ys) all x here = absurd all
AllZip-second R (z ∷ xs) [] all x here = absurd all
AllZip-second R (z ∷ xs) (y ∷ ys) all x (inl same) =
    (y, inl refl, subst (λ a. R a y) (sym same) all.0)
AllZip-second R (z ∷ xs) (y ∷ ys) all x (inr later) =
    let found = AllZip-second R xs ys all.1 x later in (found.0, inr found.1, found.2)

-- pairs of the second list, by those of the first
pub EachPair-AllZip : {X Y : Type 0} (R : X → Y → Type 0) (S : X → X → Type 0)
    (T : Y → Y → Type 0) (xs : List X) (ys : List Y) → AllZip R xs ys
    → ((a b : X) (x y : Y) → S a b → R a x → R b y → T x y) → EachPair S xs → EachPair T ys
EachPair-AllZip R S T [] [] all so pairs = tt
EachPair-AllZip R S T [] (y ∷ ys) all so pairs = absurd all
EachPair-AllZip R S T (x ∷ xs) [] all so pairs = absurd all
EachPair-AllZip R S T (x ∷ xs) (y ∷ ys) all so pairs = (
  λ z here. let found = AllZip-first R xs ys all.1 z here in
      so x found.0 y z (pairs.0 found.0 found.1) all.0 found.2,
  EachPair-AllZip R S T xs ys all.1 so pairs.1,
)

-- ---- members

-- what holds of each member
pub All-from_In : {X : Type 0} (P : X → Type 0) (xs : List X) → ((x : X) → In x xs → P x) → All P xs
All-from_In P [] so = All-nil P
All-from_In P (x ∷ xs) so =
    All-cons P x xs (so x (inl refl)) (All-from_In P xs (λ y here. so y (inr here)))

-- a list without members
pub empty_list : {X : Type 0} (xs : List X) → ((x : X) → In x xs → ⊥) → xs ≡ []
empty_list [] none = refl
empty_list (x ∷ xs) none = absurd (none x (inl refl))

-- a test that no member passes
pub filter-none : {X : Type 0} (test : X → Bool) (xs : List X)
    → ((x : X) → In x xs → test x ≡ true → ⊥) → filter test xs ≡ []
filter-none test xs none =
    empty_list (filter test xs)
    (λ x here. let found = In-filter test xs x here in none x found.0 found.1)
