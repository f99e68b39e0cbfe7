-- What parts of lists, maps and longer lists keep of tests on members and on pairs, and of serials.
use Rattle.std.proofs.Common.{◌≡◌, ◌⊎◌, inl, inr, ℕ, zero, suc, ◌+◌, ◌≤◌, ◌<◌, Bool, true, false, not, ◌&&◌, cond, List, [], ◌∷◌, ◌++◌, map, filter, nat_lt, refl, sym, ap, ap₂, subst, ◌∙◌, append_assoc, arith}
use Rattle.std.specs.Prelude.{◌==◌, nat_le, bytes_eq}
use Rattle.std.specs.Cmp.Lexicographic.{bytes_decides}
use Rattle.std.specs.List.{list_all}
use Rattle.std.proofs.lemmas.Bool.{false≢true, and_parts, and_from, ltb-true, leb-true, lt-ltb, le-leb, ne_eqb, not_from_false}
use Rattle.media_rows.specs.Lists.{rises, are_distinct, placed}
use Rattle.media_rows.specs.Good.{are_serials_good}
use Rattle.media_rows.specs.Library.{last_serial}
use Rattle.library_laws.proofs.ListLemmas.{In, In-append, In-front, In-back, In-filter, map-In, list_all-In, list_all-from_In, rises-In, rises-filter}

-- ---- a list within another, in its order

abbrev pub Sub : {X : Type 0} → List X → List X → Type 0
Sub [] ys = Unit {0}
Sub (x ∷ xs) [] = ⊥
Sub (x ∷ xs) (y ∷ ys) = ((x ≡ y) × Sub xs ys) ⊎ Sub (x ∷ xs) ys

pub Sub-more : {X : Type 0} (xs : List X) (y : X) (ys : List X) → Sub xs ys → Sub xs (y ∷ ys)
Sub-more [] y ys h = tt
Sub-more (x ∷ xs) y ys h = inr h

pub Sub-same : {X : Type 0} (xs : List X) → Sub xs xs
Sub-same [] = tt
Sub-same (x ∷ xs) = inl (refl, Sub-same xs)

pub In-Sub : {X : Type 0} (xs ys : List X) → Sub xs ys → (x : X) → In x xs → In x ys
In-Sub [] ys h x here = absurd here
In-Sub (z ∷ xs) [] h x here = absurd h
In-Sub (z ∷ xs) (y ∷ ys) (inl (same, h)) x (inl here) = inl (here ∙ same)
In-Sub (z ∷ xs) (y ∷ ys) (inl (same, h)) x (inr later) = inr (In-Sub xs ys h x later)
In-Sub (z ∷ xs) (y ∷ ys) (inr h) x here = inr (In-Sub (z ∷ xs) ys h x here)

pub rises-Sub : {X : Type 0} (t : X → X → Bool) (xs ys : List X) → Sub xs ys → rises t ys ≡ true → rises t xs ≡ true
rises-Sub t [] ys h e = refl
rises-Sub t (x ∷ xs) [] h e = absurd h
rises-Sub t (x ∷ xs) (y ∷ ys) (inl (same, h)) e =
    let parts = and_parts (list_all (t y) ys) (rises t ys) e in
    and_from (list_all (t x) xs) (rises t xs)
    (list_all-from_In (t x) xs (λ z here. ap (λ a. t a z) same ∙ list_all-In (t y) ys parts.0 z (In-Sub xs ys h z here)))
    (rises-Sub t xs ys h parts.1)
rises-Sub t (x ∷ xs) (y ∷ ys) (inr h) e = rises-Sub t (x ∷ xs) ys h (and_parts (list_all (t y) ys) (rises t ys) e).1

cond-Sub : {X Y : Type 0} (f : X → Y) (b : Bool) (x : X) (xs ys : List X) → Sub (map f xs) (map f ys) → Sub (map f (cond b (x ∷ xs) xs)) (f x ∷ map f ys)
cond-Sub f true x xs ys h = inl (refl, h)
cond-Sub f false x xs ys h = Sub-more (map f xs) (f x) (map f ys) h

pub Sub-filter : {X Y : Type 0} (f : X → Y) (p : X → Bool) (xs : List X) → Sub (map f (filter p xs)) (map f xs)
Sub-filter f p [] = tt
Sub-filter f p (x ∷ xs) = cond-Sub f (p x) x (filter p xs) xs (Sub-filter f p xs)

pub Sub-behind : {X : Type 0} (xs ys zs : List X) → Sub ys zs → Sub ys (xs ++ zs)
Sub-behind [] ys zs h = h
Sub-behind (x ∷ xs) ys zs h = Sub-more ys x (xs ++ zs) (Sub-behind xs ys zs h)

pub Sub-append : {X : Type 0} (xs xs₂ ys ys₂ : List X) → Sub xs xs₂ → Sub ys ys₂ → Sub (xs ++ ys) (xs₂ ++ ys₂)
Sub-append [] xs₂ ys ys₂ h k = Sub-behind xs₂ ys ys₂ k
Sub-append (x ∷ xs) [] ys ys₂ h k = absurd h
Sub-append (x ∷ xs) (y ∷ xs₂) ys ys₂ (inl (same, h)) k = inl (same, Sub-append xs xs₂ ys ys₂ h k)
Sub-append (x ∷ xs) (y ∷ xs₂) ys ys₂ (inr h) k = inr (Sub-append (x ∷ xs) xs₂ ys ys₂ h k)

-- ---- maps that keep a key

pub map-kept : {X Y : Type 0} (f : X → Y) (g : X → X) (xs : List X) → ((x : X) → f (g x) ≡ f x) → map f (map g xs) ≡ map f xs
map-kept f g [] h = refl
map-kept f g (x ∷ xs) h = ap (λ y. y ∷ map f (map g xs)) (h x) ∙ ap (λ ys. f x ∷ ys) (map-kept f g xs h)

pub list_all-mapped : {X Y : Type 0} (p : Y → Bool) (f : X → Y) (xs : List X) → ((x : X) → In x xs → p (f x) ≡ true) → list_all p (map f xs) ≡ true
list_all-mapped p f [] h = refl
list_all-mapped p f (x ∷ xs) h = and_from (p (f x)) (list_all p (map f xs)) (h x (inl refl)) (list_all-mapped p f xs (λ y later. h y (inr later)))

-- pairs that pass two tests pass a third once they are mapped
pub rises-mapped : {X Y : Type 0} (t u : X → X → Bool) (v : Y → Y → Bool) (f : X → Y) (xs : List X)
    → ((x y : X) → In x xs → In y xs → t x y ≡ true → u x y ≡ true → v (f x) (f y) ≡ true)
    → rises t xs ≡ true → rises u xs ≡ true → rises v (map f xs) ≡ true
rises-mapped t u v f [] h e k = refl
rises-mapped t u v f (x ∷ xs) h e k =
    let ones = and_parts (list_all (t x) xs) (rises t xs) e in
    let twos = and_parts (list_all (u x) xs) (rises u xs) k in
    and_from (list_all (v (f x)) (map f xs)) (rises v (map f xs))
    (list_all-mapped (v (f x)) f xs (λ y here. h x y (inl refl) (inr here) (list_all-In (t x) xs ones.0 y here) (list_all-In (u x) xs twos.0 y here)))
    (rises-mapped t u v f xs (λ y z a b. h y z (inr a) (inr b)) ones.1 twos.1)

all-keys : {X Y : Type 0} (t : Y → Y → Bool) (f : X → Y) (x : X) (xs : List X) → list_all (t (f x)) (map f xs) ≡ list_all (λ y. t (f x) (f y)) xs
all-keys t f x [] = refl
all-keys t f x (y ∷ ys) = ap (λ b. t (f x) (f y) && b) (all-keys t f x ys)

-- a test on keys is the test on the list of keys
pub rises-keys : {X Y : Type 0} (t : Y → Y → Bool) (f : X → Y) (xs : List X) → rises t (map f xs) ≡ rises (λ a b. t (f a) (f b)) xs
rises-keys t f [] = refl
rises-keys t f (x ∷ xs) = ap₂ (λ (a b : Bool). a && b) (all-keys t f x xs) (rises-keys t f xs)

-- ---- longer lists

pub list_all-both : {X : Type 0} (p : X → Bool) (xs ys : List X) → list_all p xs ≡ true → list_all p ys ≡ true → list_all p (xs ++ ys) ≡ true
list_all-both p xs ys h k =
    list_all-from_In p (xs ++ ys) (λ x here. elim (In-append xs ys x here) [ inl a ↦ list_all-In p xs h x a | inr b ↦ list_all-In p ys k x b ])

pub rises-both : {X : Type 0} (t : X → X → Bool) (xs ys : List X) → rises t xs ≡ true → rises t ys ≡ true
    → ((x y : X) → In x xs → In y ys → t x y ≡ true) → rises t (xs ++ ys) ≡ true
rises-both t [] ys h k across = k
rises-both t (x ∷ xs) ys h k across =
    let parts = and_parts (list_all (t x) xs) (rises t xs) h in
    and_from (list_all (t x) (xs ++ ys)) (rises t (xs ++ ys))
    (list_all-both (t x) xs ys parts.0 (list_all-from_In (t x) ys (λ y here. across x y (inl refl) here)))
    (rises-both t xs ys parts.1 k (λ a b here there. across a b (inr here) there))

pub list_all-parts : {X : Type 0} (p : X → Bool) (xs ys : List X) → list_all p (xs ++ ys) ≡ true → (list_all p xs ≡ true) × (list_all p ys ≡ true)
list_all-parts p [] ys e = (refl, e)
list_all-parts p (x ∷ xs) ys e =
    let here = and_parts (p x) (list_all p (xs ++ ys)) e in
    let rest = list_all-parts p xs ys here.1 in
    (and_from (p x) (list_all p xs) here.0 rest.0, rest.1)

-- the two parts of a list, and what holds across them
pub record Both {X : Type 0} (t : X → X → Bool) (xs ys : List X) : Type 0 where
  pub front : rises t xs ≡ true
  pub back : rises t ys ≡ true
  pub across : (x y : X) → In x xs → In y ys → t x y ≡ true

pub rises-parts : {X : Type 0} (t : X → X → Bool) (xs ys : List X) → rises t (xs ++ ys) ≡ true → Both t xs ys
rises-parts t [] ys e = record { front = refl; back = e; across = λ x y here there. absurd here }
rises-parts t (x ∷ xs) ys e =
    let parts = and_parts (list_all (t x) (xs ++ ys)) (rises t (xs ++ ys)) e in
    let first = list_all-parts (t x) xs ys parts.0 in
    let rest = rises-parts t xs ys parts.1 in
    record {
      front = and_from (list_all (t x) xs) (rises t xs) first.0 rest.front;
      back = rest.back;
      across = λ a b here there. elim here [ inl same ↦ ap (λ c. t c b) same ∙ list_all-In (t x) ys first.1 b there | inr later ↦ rest.across a b later there ];
    }

-- ---- a row at its place

pub placed-In : {X : Type 0} (before : X → X → Bool) (x : X) (xs : List X) (y : X) → In y (placed before x xs)
    → (y ≡ x) ⊎ (In y xs × ((before y x ≡ true) ⊎ (before x y ≡ true)))
placed-In before x xs y h =
    elim (In-append (filter (λ z. before z x) xs) (x ∷ filter (λ z. before x z) xs) y h) [
      | inl front ↦ let found = In-filter (λ z. before z x) xs y front in inr (found.0, inl found.1)
      | inr (inl same) ↦ inl same
      | inr (inr back) ↦ let found = In-filter (λ z. before x z) xs y back in inr (found.0, inr found.1)
    ]

-- rows by rising keys rise with a further one at its place
pub rises-placed : {X : Type 0} (key : X → ℕ) (x : X) (xs : List X) → rises (λ a b. nat_lt (key a) (key b)) xs ≡ true
    → rises (λ a b. nat_lt (key a) (key b)) (placed (λ a b. nat_lt (key a) (key b)) x xs) ≡ true
rises-placed key x xs e =
    let before : _ → _ → Bool = λ a b. nat_lt (key a) (key b) in
    rises-both before (filter (λ y. before y x) xs) (x ∷ filter (λ y. before x y) xs)
    (rises-filter before (λ y. before y x) xs e)
    (and_from _ _ (list_all-from_In (before x) (filter (λ y. before x y) xs) (λ y here. (In-filter (λ z. before x z) xs y here).1))
    (rises-filter before (λ y. before x y) xs e))
    (λ a b here there. lt-ltb (key a) (key b) (let low = ltb-true (key a) (key x) (In-filter (λ z. before z x) xs a here).1 in elim there [
      | inl same ↦ subst (λ c. key a < key c) (sym same) low
      | inr later ↦ let high = ltb-true (key x) (key b) (In-filter (λ z. before x z) xs b later).1 in omega arith
    ]))

-- ---- serials

-- serials that are distinct, at least 1 and below the next one
pub record Serials (next : ℕ) (serials : List ℕ) : Type 0 where
  pub distinct : are_distinct serials ≡ true
  pub within : (s : ℕ) → In s serials → (1 ≤ s) × (s < next)

-- serials from one to another
pub record New (next after : ℕ) (serials : List ℕ) : Type 0 where
  pub distinct : are_distinct serials ≡ true
  pub within : (s : ℕ) → In s serials → (next ≤ s) × (s < after)

pub Serials-Sub : (next : ℕ) (xs ys : List ℕ) → Sub xs ys → Serials next ys → Serials next xs
Serials-Sub next xs ys h is = record { distinct = rises-Sub _ xs ys h is.distinct; within = λ s here. is.within s (In-Sub xs ys h s here) }

unequal : (a b : ℕ) → (a ≡ b → ⊥) → not (a == b) ≡ true
unequal a b h = not_from_false (a == b) (ne_eqb a b h)

-- new serials put into a list of old ones
pub Serials-more : (next after : ℕ) (xs new ys : List ℕ) → 1 ≤ next → next ≤ after → Serials next (xs ++ ys) → New next after new
    → Serials after ((xs ++ new) ++ ys)
Serials-more next after xs new ys least le is fresh =
    let parts = rises-parts (λ a b. not (a == b)) xs ys is.distinct in
    record {
      distinct = rises-both (λ a b. not (a == b)) (xs ++ new) ys
          (rises-both (λ a b. not (a == b)) xs new parts.front fresh.distinct
          (λ a b here there. unequal a b (λ e. let old = is.within a (In-front xs ys a here) in let late = fresh.within b there in absurd (omega arith))))
          parts.back
          (λ a b here there. elim (In-append xs new a here) [
            | inl old ↦ parts.across a b old there
            | inr late ↦ unequal a b (λ e. let early = is.within b (In-back xs ys b there) in let new_one = fresh.within a late in absurd (omega arith))
          ]);
      within = λ s here. elim (In-append (xs ++ new) ys s here) [
        | inl front ↦ elim (In-append xs new s front) [
          | inl old ↦ let w = is.within s (In-front xs ys s old) in (w.0, omega (arith, w.1))
          | inr late ↦ let w = fresh.within s late in (omega (arith, w.0), w.1)
        ]
        | inr back ↦ let w = is.within s (In-back xs ys s back) in (w.0, omega (arith, w.1))
      ];
    }

-- the test of a library's serials, as these facts
pub Serials-from : (next : ℕ) (serials : List ℕ) → are_serials_good next serials ≡ true → Serials next serials × (1 ≤ next) × (next ≤ last_serial)
Serials-from next serials e =
    let upper = and_parts _ (nat_le next last_serial) e in
    let lower = and_parts _ (nat_le 1 next) upper.0 in
    let both = and_parts (are_distinct serials) _ lower.0 in (
      record {
        distinct = both.0;
        within = λ s here.
            let w = and_parts (nat_le 1 s) (nat_lt s next) (list_all-In (λ serial. nat_le 1 serial && nat_lt serial next) serials both.1 s here) in
            (leb-true 1 s w.0, ltb-true s next w.1);
      },
      leb-true 1 next lower.1,
      leb-true next last_serial upper.1,
    )

pub Serials-test : (next : ℕ) (serials : List ℕ) → Serials next serials → 1 ≤ next → next ≤ last_serial → are_serials_good next serials ≡ true
Serials-test next serials is least most =
    and_from _ (nat_le next last_serial)
    (and_from _ (nat_le 1 next)
    (and_from (are_distinct serials) _ is.distinct (list_all-from_In (λ serial. nat_le 1 serial && nat_lt serial next) serials
    (λ s here. let w = is.within s here in and_from (nat_le 1 s) (nat_lt s next) (le-leb 1 s w.0) (lt-ltb s next w.1))))
    (le-leb 1 next least)) (le-leb next last_serial most)

-- ---- rows of one key, and texts

-- two rows of a list by rising keys that have one key are one row
pub same_by_key : {X : Type 0} (key : X → ℕ) (xs : List X) → rises (λ a b. nat_lt (key a) (key b)) xs ≡ true → (a b : X) → In a xs → In b xs → key a ≡ key b → a
    ≡ b
same_by_key key xs rise a b here there same =
    elim (rises-In (λ x y. nat_lt (key x) (key y)) xs rise a b here there) [
      | inl e ↦ e
      | inr (inl less) ↦ let l = ltb-true (key a) (key b) less in absurd (omega arith)
      | inr (inr less) ↦ let l = ltb-true (key b) (key a) less in absurd (omega arith)
    ]

pub same_text : (a b : List ℕ) → bytes_eq a b ≡ true → a ≡ b
same_text a b e = (bytes_decides a b).0 e

pub text_same : (a : List ℕ) → bytes_eq a a ≡ true
text_same a = (bytes_decides a a).1 refl

-- ---- serials that follow one another

-- so many numbers from one up
abbrev pub counted : ℕ → ℕ → List ℕ
counted from zero = []
counted from (suc count) = from ∷ counted (from + 1) count

pub counted-within : (from count s : ℕ) → In s (counted from count) → (from ≤ s) × (s < from + count)
counted-within from zero s here = absurd here
counted-within from (suc count) s (inl same) = (omega arith, omega arith)
counted-within from (suc count) s (inr later) = let w = counted-within (from + 1) count s later in (omega arith, omega arith)

pub counted-rise : (from count : ℕ) → rises nat_lt (counted from count) ≡ true
counted-rise from zero = refl
counted-rise from (suc count) =
    and_from _ _ (list_all-from_In (nat_lt from) (counted (from + 1) count)
    (λ s here. let w = counted-within (from + 1) count s here in lt-ltb from s (omega arith))) (counted-rise (from + 1) count)

counted-distinct : (from count : ℕ) → are_distinct (counted from count) ≡ true
counted-distinct from zero = refl
counted-distinct from (suc count) =
    and_from _ _ (list_all-from_In (λ s. not (from == s)) (counted (from + 1) count)
    (λ s here. let w = counted-within (from + 1) count s here in unequal from s (λ e. absurd (omega arith)))) (counted-distinct (from + 1) count)

pub counted-New : (from count : ℕ) → New from (from + count) (counted from count)
counted-New from count = record { distinct = counted-distinct from count; within = counted-within from count }

-- rows that rise by serial, with further ones behind them
pub rises-counted : {X : Type 0} (key : X → ℕ) (old new : List X) (next count : ℕ) → rises (λ a b. nat_lt (key a) (key b)) old ≡ true
    → ((x : X) → In x old → key x < next) → map key new ≡ counted next count → rises (λ a b. nat_lt (key a) (key b)) (old ++ new) ≡ true
rises-counted key old new next count rise below e =
    rises-both (λ a b. nat_lt (key a) (key b)) old new rise (sym (rises-keys nat_lt key new) ∙ ap (rises nat_lt) e ∙ counted-rise next count)
    (λ a b here there. lt-ltb (key a) (key b) (let low = below a here in let high = counted-within next count (key b)
    (subst (In (key b)) e (map-In key new b there)) in omega arith))

-- ---- serials put into one of the five lists of a library

regroup : (o s r h e : List ℕ) → o ++ s ++ r ++ h ++ e ≡ o ++ (s ++ (r ++ (h ++ e)))
regroup o s r h e = simp append_assoc

regroup_objects : (o w s r h e : List ℕ) → (o ++ w) ++ s ++ r ++ h ++ e ≡ (o ++ w) ++ (s ++ (r ++ (h ++ e)))
regroup_objects o w s r h e = simp append_assoc

pub serials_objects : (next after : ℕ) (o w s r h e : List ℕ) → 1 ≤ next → next ≤ after → Serials next (o ++ s ++ r ++ h ++ e) → New next after w
    → Serials after ((o ++ w) ++ s ++ r ++ h ++ e)
serials_objects next after o w s r h e least le is new =
    subst (Serials after) (sym (regroup_objects o w s r h e))
    (Serials-more next after o w (s ++ (r ++ (h ++ e))) least le (subst (Serials next) (regroup o s r h e) is) new)

before_segments : (o s r h e : List ℕ) → o ++ s ++ r ++ h ++ e ≡ (o ++ s) ++ (r ++ (h ++ e))
before_segments o s r h e = simp append_assoc

regroup_segments : (o s w r h e : List ℕ) → o ++ (s ++ w) ++ r ++ h ++ e ≡ ((o ++ s) ++ w) ++ (r ++ (h ++ e))
regroup_segments o s w r h e = simp append_assoc

pub serials_segments : (next after : ℕ) (o s w r h e : List ℕ) → 1 ≤ next → next ≤ after → Serials next (o ++ s ++ r ++ h ++ e) → New next after w
    → Serials after (o ++ (s ++ w) ++ r ++ h ++ e)
serials_segments next after o s w r h e least le is new =
    subst (Serials after) (sym (regroup_segments o s w r h e))
    (Serials-more next after (o ++ s) w (r ++ (h ++ e)) least le (subst (Serials next) (before_segments o s r h e) is) new)

before_requests : (o s r h e : List ℕ) → o ++ s ++ r ++ h ++ e ≡ (o ++ s ++ r) ++ (h ++ e)
before_requests o s r h e = simp append_assoc

regroup_requests : (o s r w h e : List ℕ) → o ++ s ++ (r ++ w) ++ h ++ e ≡ ((o ++ s ++ r) ++ w) ++ (h ++ e)
regroup_requests o s r w h e = simp append_assoc

pub serials_requests : (next after : ℕ) (o s r w h e : List ℕ) → 1 ≤ next → next ≤ after → Serials next (o ++ s ++ r ++ h ++ e) → New next after w
    → Serials after (o ++ s ++ (r ++ w) ++ h ++ e)
serials_requests next after o s r w h e least le is new =
    subst (Serials after) (sym (regroup_requests o s r w h e))
    (Serials-more next after (o ++ s ++ r) w (h ++ e) least le (subst (Serials next) (before_requests o s r h e) is) new)

regroup_hooks : (o s r h w e : List ℕ) → o ++ s ++ r ++ (h ++ w) ++ e ≡ ((o ++ s ++ r ++ h) ++ w) ++ e
regroup_hooks o s r h w e = simp append_assoc

pub serials_hooks : (next after : ℕ) (o s r h w e : List ℕ) → 1 ≤ next → next ≤ after → Serials next (o ++ s ++ r ++ h ++ e) → New next after w
    → Serials after (o ++ s ++ r ++ (h ++ w) ++ e)
serials_hooks next after o s r h w e least le is new =
    subst (Serials after) (sym (regroup_hooks o s r h w e)) (Serials-more next after (o ++ s ++ r ++ h) w e least le is new)

-- ---- serials of the five lists among all

pub among_objects : (o s r h e : List ℕ) (x : ℕ) → In x o → In x (o ++ s ++ r ++ h ++ e)
among_objects o s r h e x here = In-front (o ++ s ++ r ++ h) e x (In-front (o ++ s ++ r) h x (In-front (o ++ s) r x (In-front o s x here)))

pub among_segments : (o s r h e : List ℕ) (x : ℕ) → In x s → In x (o ++ s ++ r ++ h ++ e)
among_segments o s r h e x here = In-front (o ++ s ++ r ++ h) e x (In-front (o ++ s ++ r) h x (In-front (o ++ s) r x (In-back o s x here)))

pub among_requests : (o s r h e : List ℕ) (x : ℕ) → In x r → In x (o ++ s ++ r ++ h ++ e)
among_requests o s r h e x here = In-front (o ++ s ++ r ++ h) e x (In-front (o ++ s ++ r) h x (In-back (o ++ s) r x here))

pub among_hooks : (o s r h e : List ℕ) (x : ℕ) → In x h → In x (o ++ s ++ r ++ h ++ e)
among_hooks o s r h e x here = In-front (o ++ s ++ r ++ h) e x (In-back (o ++ s ++ r) h x here)

pub among_events : (o s r h e : List ℕ) (x : ℕ) → In x e → In x (o ++ s ++ r ++ h ++ e)
among_events o s r h e x here = In-back (o ++ s ++ r ++ h) e x here

-- fewer serials of one list
pub fewer_requests : (next : ℕ) (o s r r₂ h e : List ℕ) → Sub r₂ r → Serials next (o ++ s ++ r ++ h ++ e) → Serials next (o ++ s ++ r₂ ++ h ++ e)
fewer_requests next o s r r₂ h e sub is =
    Serials-Sub next (o ++ s ++ r₂ ++ h ++ e) (o ++ s ++ r ++ h ++ e)
    (Sub-append (o ++ s ++ r₂ ++ h) (o ++ s ++ r ++ h) e e (Sub-append (o ++ s ++ r₂) (o ++ s ++ r) h h
    (Sub-append (o ++ s) (o ++ s) r₂ r (Sub-same (o ++ s)) sub) (Sub-same h)) (Sub-same e)) is

-- ---- the arms of a choice

pub chosen : {X : Type 0} (b : Bool) (x y : X) → b ≡ true → cond b x y ≡ x
chosen true x y e = refl
chosen false x y e = absurd (false≢true e)

pub passed : {X : Type 0} (b : Bool) (x y : X) → b ≡ false → cond b x y ≡ y
passed true x y e = absurd (false≢true (sym e))
passed false x y e = refl
