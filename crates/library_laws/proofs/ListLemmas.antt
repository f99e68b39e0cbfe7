-- Members of lists, and what filters, maps and orders keep of tests on members and on pairs.
use Rattle.std.proofs.Common.{◌≡◌, ◌⊎◌, inl, inr, ℕ, zero, suc, ◌≤◌, ◌<◌, Bool, true, false, cond, List, [], ◌∷◌, ◌++◌, map, filter, length, take, Contains, find, Option, Some, option_map, refl, sym, ap, ap₂, subst, ◌∙◌, arith}
use Rattle.std.specs.Prelude.{slice_index_or, ◌==◌}
use Rattle.std.specs.List.{list_all, list_any, flat_map}
use Rattle.std.proofs.lemmas.Bool.{and_parts, and_from, or_cases, or_left, or_right, cond_both, eqb-true, eq-eqb, false≢true}
use Rattle.media_rows.specs.Lists.{rises, in_order, inserted, has_number}

-- x is one of the items
abbrev pub In : {X : Type 0} → X → List X → Type 0
In x [] = ⊥
In x (y ∷ ys) = (x ≡ y) ⊎ In x ys

-- ---- tests on members

pub list_all-In : {X : Type 0} (p : X → Bool) (xs : List X) → list_all p xs ≡ true → (x : X) → In x xs → p x ≡ true
list_all-In p [] e x h = absurd h
list_all-In p (y ∷ ys) e x (inl same) = ap p same ∙ (and_parts (p y) (list_all p ys) e).0
list_all-In p (y ∷ ys) e x (inr later) = list_all-In p ys (and_parts (p y) (list_all p ys) e).1 x later

pub list_all-from_In : {X : Type 0} (p : X → Bool) (xs : List X) → ((x : X) → In x xs → p x ≡ true) → list_all p xs ≡ true
list_all-from_In p [] h = refl
list_all-from_In p (y ∷ ys) h = and_from (p y) (list_all p ys) (h y (inl refl)) (list_all-from_In p ys (λ x later. h x (inr later)))

pub list_any-from_In : {X : Type 0} (p : X → Bool) (xs : List X) (x : X) → In x xs → p x ≡ true → list_any p xs ≡ true
list_any-from_In p [] x h e = absurd h
list_any-from_In p (y ∷ ys) x (inl same) e = or_left (p y) (list_any p ys) (ap p (sym same) ∙ e)
list_any-from_In p (y ∷ ys) x (inr later) e = or_right (p y) (list_any p ys) (list_any-from_In p ys x later e)

pub list_any-In : {X : Type 0} (p : X → Bool) (xs : List X) → list_any p xs ≡ true → (x : X) × In x xs × (p x ≡ true)
list_any-In p [] e = absurd (false≢true e)
list_any-In p (y ∷ ys) e =
    elim (or_cases (p y) (list_any p ys) e) [
      | inl here ↦ (y, inl refl, here)
      | inr later ↦ let found = list_any-In p ys later in (found.0, inr found.1, found.2)
    ]

-- ---- members of filters, maps and sums of lists

In-cond : {X : Type 0} (b : Bool) (x y : X) (xs ys : List X) → In x (cond b (y ∷ xs) ys) → ((b ≡ true) × ((x ≡ y) ⊎ In x xs)) ⊎ ((b ≡ false) × In x ys)
In-cond true x y xs ys h = inl (refl, h)
In-cond false x y xs ys h = inr (refl, h)

pub In-filter : {X : Type 0} (p : X → Bool) (xs : List X) (x : X) → In x (filter p xs) → In x xs × (p x ≡ true)
In-filter p [] x h = absurd h
In-filter p (y ∷ ys) x h =
    elim (In-cond (p y) x y (filter p ys) (filter p ys) h) [
      | inl (e, inl same) ↦ (inl same, ap p same ∙ e)
      | inl (e, inr later) ↦ let found = In-filter p ys x later in (inr found.0, found.1)
      | inr (e, later) ↦ let found = In-filter p ys x later in (inr found.0, found.1)
    ]

pub In-map : {X Y : Type 0} (f : X → Y) (xs : List X) (y : Y) → In y (map f xs) → (x : X) × In x xs × (y ≡ f x)
In-map f [] y h = absurd h
In-map f (x ∷ xs) y (inl same) = (x, inl refl, same)
In-map f (x ∷ xs) y (inr later) = let found = In-map f xs y later in (found.0, inr found.1, found.2)

pub map-In : {X Y : Type 0} (f : X → Y) (xs : List X) (x : X) → In x xs → In (f x) (map f xs)
map-In f [] x h = absurd h
map-In f (y ∷ ys) x (inl same) = inl (ap f same)
map-In f (y ∷ ys) x (inr later) = inr (map-In f ys x later)

pub In-append : {X : Type 0} (xs ys : List X) (x : X) → In x (xs ++ ys) → In x xs ⊎ In x ys
In-append [] ys x h = inr h
In-append (y ∷ xs) ys x (inl same) = inl (inl same)
In-append (y ∷ xs) ys x (inr later) = elim (In-append xs ys x later) [ inl front ↦ inl (inr front) | inr back ↦ inr back ]

-- ---- tests on pairs

pub rises-In : {X : Type 0} (t : X → X → Bool) (xs : List X) → rises t xs ≡ true → (x y : X) → In x xs → In y xs
    → (x ≡ y) ⊎ ((t x y ≡ true) ⊎ (t y x ≡ true))
rises-In t [] e x y h k = absurd h
rises-In t (z ∷ zs) e x y (inl here) (inl there) = inl (here ∙ sym there)
rises-In t (z ∷ zs) e x y (inl here) (inr later) =
    inr (inl (ap (λ a. t a y) here ∙ list_all-In (t z) zs (and_parts (list_all (t z) zs) (rises t zs) e).0 y later))
rises-In t (z ∷ zs) e x y (inr later) (inl there) =
    inr (inr (ap (λ a. t a x) there ∙ list_all-In (t z) zs (and_parts (list_all (t z) zs) (rises t zs) e).0 x later))
rises-In t (z ∷ zs) e x y (inr h) (inr k) = rises-In t zs (and_parts (list_all (t z) zs) (rises t zs) e).1 x y h k

pub list_all-filter : {X : Type 0} (p q : X → Bool) (xs : List X) → list_all p xs ≡ true → list_all p (filter q xs) ≡ true
list_all-filter p q xs e = list_all-from_In p (filter q xs) (λ x h. list_all-In p xs e x (In-filter q xs x h).0)

rises-cond : {X : Type 0} (t : X → X → Bool) (b : Bool) (x : X) (xs : List X) → list_all (t x) xs ≡ true → rises t xs ≡ true → rises t (cond b (x ∷ xs) xs)
    ≡ true
rises-cond t true x xs h k = and_from (list_all (t x) xs) (rises t xs) h k
rises-cond t false x xs h k = k

pub rises-filter : {X : Type 0} (t : X → X → Bool) (p : X → Bool) (xs : List X) → rises t xs ≡ true → rises t (filter p xs) ≡ true
rises-filter t p [] e = refl
rises-filter t p (x ∷ xs) e =
    let parts = and_parts (list_all (t x) xs) (rises t xs) e in
    rises-cond t (p x) x (filter p xs) (list_all-filter (t x) p xs parts.0) (rises-filter t p xs parts.1)

-- ---- orders keep the number of items

length-inserted : {X : Type 0} (before : X → X → Bool) (x : X) (ys : List X) → length (inserted before x ys) ≡ suc (length ys)
length-inserted before x [] = refl
length-inserted before x (y ∷ ys) =
    cond_both (before y x) (y ∷ inserted before x ys) (x ∷ y ∷ ys) (λ l. length l ≡ suc (suc (length ys))) (λ e. ap suc (length-inserted before x ys))
    (λ e. refl)

pub length-in_order : {X : Type 0} (before : X → X → Bool) (xs : List X) → length (in_order before xs) ≡ length xs
length-in_order before [] = refl
length-in_order before (x ∷ xs) = length-inserted before x (in_order before xs) ∙ ap suc (length-in_order before xs)

pub length-filter_passing : {X : Type 0} (p : X → Bool) (xs : List X) → ((x : X) → p x ≡ true) → length (filter p xs) ≡ length xs
length-filter_passing p [] h = refl
length-filter_passing p (x ∷ xs) h = ap (λ b. length (cond b (x ∷ filter p xs) (filter p xs))) (h x) ∙ ap suc (length-filter_passing p xs h)

-- ---- members by place

at_place : {X : Type 0} (y : X) (ys : List X) (x : X) (k : ℕ) → k < length (y ∷ ys) → slice_index_or (y ∷ ys) k x ≡ x → In x (y ∷ ys)
at_place y ys x zero less e = inl (sym e)
at_place y [] x (suc k) less e = absurd (omega arith)
at_place y (z ∷ zs) x (suc k) less e = inr (at_place z zs x k (omega arith) e)

pub In-from_Contains : {X : Type 0} (xs : List X) (x : X) → Contains xs x → In x xs
In-from_Contains [] x h = absurd (omega (arith, h.1))
In-from_Contains (y ∷ ys) x h = at_place y ys x h.0 h.1 h.2

pub Contains-from_In : {X : Type 0} (xs : List X) (x : X) → In x xs → Contains xs x
Contains-from_In [] x h = absurd h
Contains-from_In (y ∷ ys) x (inl same) = (0, omega arith, sym same)
Contains-from_In (y ∷ ys) x (inr later) = let found = Contains-from_In ys x later in (suc found.0, omega (arith, found.1), found.2)

-- ---- numbers among others

pub has_number-In : (n : ℕ) (ns : List ℕ) → has_number n ns ≡ true → In n ns
has_number-In n ns e = let found = list_any-In (λ m. n == m) ns e in subst (λ m. In m ns) (sym (eqb-true n found.0 found.2)) found.1

pub In-has_number : (n : ℕ) (ns : List ℕ) → In n ns → has_number n ns ≡ true
In-has_number n ns h = list_any-from_In (λ m. n == m) ns n h (eq-eqb n n refl)

-- ---- lists in front of and behind others, and joined ones

pub In-front : {X : Type 0} (xs ys : List X) (x : X) → In x xs → In x (xs ++ ys)
In-front [] ys x h = absurd h
In-front (y ∷ xs) ys x (inl same) = inl same
In-front (y ∷ xs) ys x (inr later) = inr (In-front xs ys x later)

pub In-back : {X : Type 0} (xs ys : List X) (x : X) → In x ys → In x (xs ++ ys)
In-back [] ys x h = h
In-back (y ∷ xs) ys x h = inr (In-back xs ys x h)

pub In-flat_map : {X Y : Type 0} (f : X → List Y) (xs : List X) (y : Y) → In y (flat_map f xs) → (x : X) × In x xs × In y (f x)
In-flat_map f [] y h = absurd h
In-flat_map f (x ∷ xs) y h =
    elim (In-append (f x) (flat_map f xs) y h) [
      | inl front ↦ (x, inl refl, front)
      | inr back ↦ let found = In-flat_map f xs y back in (found.0, inr found.1, found.2)
    ]

pub flat_map-In : {X Y : Type 0} (f : X → List Y) (xs : List X) (x : X) (y : Y) → In x xs → In y (f x) → In y (flat_map f xs)
flat_map-In f [] x y h k = absurd h
flat_map-In f (z ∷ xs) x y (inl same) k = In-front (f z) (flat_map f xs) y (subst (λ a. In y (f a)) same k)
flat_map-In f (z ∷ xs) x y (inr later) k = In-back (f z) (flat_map f xs) y (flat_map-In f xs x y later k)

-- ---- how many pass

count_both : {X : Type 0} (a b : Bool) → (a ≡ true → b ≡ true) → (x : X) (ps qs : List X) → length ps ≤ length qs
    → length (cond a (x ∷ ps) ps) ≤ length (cond b (x ∷ qs) qs)
count_both true true h x ps qs le = omega arith
count_both true false h x ps qs le = absurd (false≢true (h refl))
count_both false true h x ps qs le = omega arith
count_both false false h x ps qs le = le

-- a test that lets more through lets at least as many through
pub count-le : {X : Type 0} (p q : X → Bool) (xs : List X) → ((x : X) → In x xs → p x ≡ true → q x ≡ true) → length (filter p xs) ≤ length (filter q xs)
count-le p q [] h = omega arith
count-le p q (x ∷ xs) h =
    count_both (p x) (q x) (h x (inl refl)) x (filter p xs) (filter q xs) (count-le p q xs (λ y later. h y (inr later)))

count_step : {X : Type 0} (p q : X → Bool) (y x : X) (ys : List X) → q x ≡ true → (a b : Bool) → p y ≡ a → q y ≡ b → (a ≡ true → b ≡ true) → In x (y ∷ ys)
    → (ps qs : List X)
    → length (cond b (y ∷ qs) qs) ≤ length (cond a (y ∷ ps) ps) → length ps ≤ length qs → (length qs ≤ length ps → In x ys → p x ≡ true) → p x ≡ true
count_step p q y x ys e true true pa qb h (inl same) ps qs le all later = ap p same ∙ pa
count_step p q y x ys e true true pa qb h (inr more) ps qs le all later = later (omega arith) more
count_step p q y x ys e true false pa qb h here ps qs le all later = absurd (false≢true (h refl))
count_step p q y x ys e false true pa qb h here ps qs le all later = absurd (omega arith)
count_step p q y x ys e false false pa qb h (inl same) ps qs le all later = absurd (false≢true (sym qb ∙ ap q (sym same) ∙ e))
count_step p q y x ys e false false pa qb h (inr more) ps qs le all later = later le more

-- and where it lets no more through, both let through the same
pub count-same : {X : Type 0} (p q : X → Bool) (xs : List X) → ((x : X) → In x xs → p x ≡ true → q x ≡ true) → length (filter q xs) ≤ length (filter p xs)
    → (x : X) → In x xs → q x ≡ true → p x ≡ true
count-same p q [] h le x here e = absurd here
count-same p q (y ∷ ys) h le x here e =
    count_step p q y x ys e (p y) (q y) refl refl (h y (inl refl)) here (filter p ys) (filter q ys) le
    (count-le p q ys (λ z later. h z (inr later)))
    (λ less later. count-same p q ys (λ z l. h z (inr l)) less x later e)

-- ---- steps by cases on a test

found_step : {X : Type 0} (p : X → Bool) (y : X) (ys : List X) (x : X) (b : Bool) → p y ≡ b → cond b (Some y) (find p ys) ≡ Some x
    → (find p ys ≡ Some x → In x ys × (p x ≡ true)) → In x (y ∷ ys) × (p x ≡ true)
found_step p y ys x true e is later = let same : y ≡ x = cc in (inl (sym same), ap p (sym same) ∙ e)
found_step p y ys x false e is later = let rest = later is in (inr rest.0, rest.1)

filter_step : {X : Type 0} (p q : X → Bool) (y : X) (ys : List X) (x : X) (a b : Bool) → p y ≡ a → q y ≡ b → cond a (Some y) (find p ys) ≡ Some x → q x ≡ true
    → (find p ys ≡ Some x → q x ≡ true → find p (filter q ys) ≡ Some x) → find p (cond b (y ∷ filter q ys) (filter q ys)) ≡ Some x
filter_step p q y ys x true true pa qb is k later = ap (λ c. cond c (Some y) (find p (filter q ys))) pa ∙ is
filter_step p q y ys x true false pa qb is k later = let same : y ≡ x = cc in absurd (false≢true (sym qb ∙ ap q same ∙ k))
filter_step p q y ys x false true pa qb is k later = ap (λ c. cond c (Some y) (find p (filter q ys))) pa ∙ later is k
filter_step p q y ys x false false pa qb is k later = later is k

map_step : {X : Type 0} (b : Bool) (f : X → X) (x : X) (o : Option X) → cond b (Some (f x)) (option_map f o) ≡ option_map f (cond b (Some x) o)
map_step true f x o = refl
map_step false f x o = refl

some_step : {X : Type 0} (p : X → Bool) (y : X) (ys : List X) (x : X) (b : Bool) → p y ≡ b → In x (y ∷ ys) → p x ≡ true
    → (In x ys → p x ≡ true → (z : X) × (find p ys ≡ Some z) × In z ys × (p z ≡ true)) → (z : X) × (cond b (Some y) (find p ys) ≡ Some z) × In z (y ∷ ys)
    × (p z ≡ true)
some_step p y ys x true e here k later = (y, refl, inl refl, e)
some_step p y ys x false e (inl same) k later = absurd (false≢true (sym e ∙ ap p (sym same) ∙ k))
some_step p y ys x false e (inr more) k later = let rest = later more k in (rest.0, rest.1, inr rest.2, rest.3)

inserted_step : {X : Type 0} (b : Bool) (x y : X) (ys rest : List X) (z : X) → In z (cond b (y ∷ rest) (x ∷ y ∷ ys)) → (In z rest → (z ≡ x) ⊎ In z ys)
    → (z ≡ x) ⊎ In z (y ∷ ys)
inserted_step true x y ys rest z (inl same) later = inr (inl same)
inserted_step true x y ys rest z (inr more) later = elim (later more) [ inl same ↦ inl same | inr there ↦ inr (inr there) ]
inserted_step false x y ys rest z (inl same) later = inl same
inserted_step false x y ys rest z (inr more) later = inr more

back_step : {X : Type 0} (b : Bool) (x y : X) (ys rest : List X) (z : X) → (z ≡ x) ⊎ In z (y ∷ ys) → ((z ≡ x) ⊎ In z ys → In z rest)
    → In z (cond b (y ∷ rest) (x ∷ y ∷ ys))
back_step true x y ys rest z (inl same) later = inr (later (inl same))
back_step true x y ys rest z (inr (inl same)) later = inl same
back_step true x y ys rest z (inr (inr more)) later = inr (later (inr more))
back_step false x y ys rest z (inl same) later = inl same
back_step false x y ys rest z (inr there) later = inr there

In-kept : {X : Type 0} (b : Bool) (x y : X) (ys : List X) → x ≡ y → b ≡ true → In x (cond b (y ∷ ys) ys)
In-kept true x y ys same e = inl same
In-kept false x y ys same e = absurd (false≢true e)

In-passed : {X : Type 0} (b : Bool) (x y : X) (ys : List X) → In x ys → In x (cond b (y ∷ ys) ys)
In-passed true x y ys h = inr h
In-passed false x y ys h = h

count_filter_step : {X : Type 0} (a b : Bool) (p : X → Bool) (x : X) (qs ps : List X) → p x ≡ a → length (filter p qs) ≤ length ps
    → length (filter p (cond b (x ∷ qs) qs)) ≤ length (cond a (x ∷ ps) ps)
count_filter_step true true p x qs ps e le = subst (λ c. length (cond c (x ∷ filter p qs) (filter p qs)) ≤ suc (length ps)) (sym e) (omega arith)
count_filter_step false true p x qs ps e le = subst (λ c. length (cond c (x ∷ filter p qs) (filter p qs)) ≤ length ps) (sym e) le
count_filter_step true false p x qs ps e le = omega arith
count_filter_step false false p x qs ps e le = le

-- ---- the first that passes

pub find-In : {X : Type 0} (p : X → Bool) (xs : List X) (x : X) → find p xs ≡ Some x → In x xs × (p x ≡ true)
find-In p [] x e = absurd (cc)
find-In p (y ∷ ys) x e = found_step p y ys x (p y) refl e (find-In p ys x)

-- what passes is found in a part that it is in
pub find-filter : {X : Type 0} (p q : X → Bool) (xs : List X) (x : X) → find p xs ≡ Some x → q x ≡ true → find p (filter q xs) ≡ Some x
find-filter p q [] x e k = absurd (cc)
find-filter p q (y ∷ ys) x e k = filter_step p q y ys x (p y) (q y) refl refl e k (find-filter p q ys x)

-- and after a change that the test doesn't see
pub find-map : {X : Type 0} (p : X → Bool) (f : X → X) (xs : List X) → ((x : X) → p (f x) ≡ p x) → find p (map f xs) ≡ option_map f (find p xs)
find-map p f [] same = refl
find-map p f (x ∷ xs) same =
    ap₂ (λ (b : Bool) (o : Option _). cond b (Some (f x)) o) (same x) (find-map p f xs same) ∙ map_step (p x) f x (find p xs)

-- where some item passes, one is found
pub find-some : {X : Type 0} (p : X → Bool) (xs : List X) (x : X) → In x xs → p x ≡ true → (y : X) × (find p xs ≡ Some y) × In y xs × (p y ≡ true)
find-some p [] x here e = absurd here
find-some p (y ∷ ys) x here e = some_step p y ys x (p y) refl here e (find-some p ys x)

-- ---- members of a part and of an order

pub In-take : {X : Type 0} (n : ℕ) (xs : List X) (x : X) → In x (take n xs) → In x xs
In-take zero xs x h = absurd h
In-take (suc n) [] x h = absurd h
In-take (suc n) (y ∷ ys) x (inl same) = inl same
In-take (suc n) (y ∷ ys) x (inr later) = inr (In-take n ys x later)

pub In-inserted : {X : Type 0} (before : X → X → Bool) (x : X) (ys : List X) (z : X) → In z (inserted before x ys) → (z ≡ x) ⊎ In z ys
In-inserted before x [] z (inl same) = inl same
In-inserted before x [] z (inr bad) = absurd bad
In-inserted before x (y ∷ ys) z h = inserted_step (before y x) x y ys (inserted before x ys) z h (In-inserted before x ys z)

pub In-in_order : {X : Type 0} (before : X → X → Bool) (xs : List X) (z : X) → In z (in_order before xs) → In z xs
In-in_order before [] z h = absurd h
In-in_order before (x ∷ xs) z h = elim (In-inserted before x (in_order before xs) z h) [ inl same ↦ inl same | inr later ↦ inr (In-in_order before xs z later) ]

inserted-In : {X : Type 0} (before : X → X → Bool) (x : X) (ys : List X) (z : X) → (z ≡ x) ⊎ In z ys → In z (inserted before x ys)
inserted-In before x [] z (inl same) = inl same
inserted-In before x [] z (inr bad) = absurd bad
inserted-In before x (y ∷ ys) z h = back_step (before y x) x y ys (inserted before x ys) z h (inserted-In before x ys z)

pub in_order-In : {X : Type 0} (before : X → X → Bool) (xs : List X) (z : X) → In z xs → In z (in_order before xs)
in_order-In before [] z h = absurd h
in_order-In before (x ∷ xs) z (inl same) = inserted-In before x (in_order before xs) z (inl same)
in_order-In before (x ∷ xs) z (inr later) = inserted-In before x (in_order before xs) z (inr (in_order-In before xs z later))

pub filter-In : {X : Type 0} (p : X → Bool) (xs : List X) (x : X) → In x xs → p x ≡ true → In x (filter p xs)
filter-In p [] x h e = absurd h
filter-In p (y ∷ ys) x (inl same) e = In-kept (p y) x y (filter p ys) same (ap p (sym same) ∙ e)
filter-In p (y ∷ ys) x (inr later) e = In-passed (p y) x y (filter p ys) (filter-In p ys x later e)

pub length-take_most : {X : Type 0} (n : ℕ) (xs : List X) → length (take n xs) ≤ n
length-take_most zero xs = omega arith
length-take_most (suc n) [] = omega arith
length-take_most (suc n) (x ∷ xs) = let rest = length-take_most n xs in omega arith

-- a whole list is taken where it isn't longer
pub take-whole : {X : Type 0} (n : ℕ) (xs : List X) → length xs ≤ n → take n xs ≡ xs
take-whole zero [] le = refl
take-whole zero (x ∷ xs) le = absurd (omega arith)
take-whole (suc n) [] le = refl
take-whole (suc n) (x ∷ xs) le = ap (λ ys. x ∷ ys) (take-whole n xs (omega arith))

-- fewer pass two tests than one
pub count-filter : {X : Type 0} (p q : X → Bool) (xs : List X) → length (filter p (filter q xs)) ≤ length (filter p xs)
count-filter p q [] = omega arith
count-filter p q (x ∷ xs) = count_filter_step (p x) (q x) p x (filter q xs) (filter p xs) refl (count-filter p q xs)
