-- Pages follow one another without loss: what lies past a page's key is the page, and then what lies past the
-- key of its last item.
use Rattle.std.proofs.Common.{◌≡◌, inl, inr, ℕ, zero, suc, ℤ, Bool, true, false, cond, List, [], ◌∷◌, ◌++◌, filter, length, take, Option, Some, None, nat_lt, refl, sym, ap, subst, ◌∙◌, arith}
use Rattle.std.specs.Prelude.{reverse, int_lt, if◌then◌else◌}
use Rattle.std.specs.List.{list_all}
use Rattle.std.proofs.lemmas.Bool.{and_parts, cond-true, cond-false, true≢false}
use Rattle.std.proofs.lemmas.Int.{ints}
use Rattle.std.proofs.lemmas.List.{reverse-append}
use Rattle.media_rows.specs.declared.command.Page.{Page}
use Rattle.media_rows.specs.Lists.{rises, is_past, last_key}
use Rattle.library_laws.specs.Laws.{NextPageFollows}
use Rattle.library_laws.proofs.ListLemmas.{In, In-append, In-filter, In-take, list_all-In, rises-filter}
use Rattle.library_laws.proofs.KeptLemmas.{rises-both}

-- whether a key lies behind another in a direction
abbrev behind : Bool → ℤ → ℤ → Bool
behind backwards a b = is_past (Some a) backwards b

one_way_key : (backwards : Bool) (a b : ℤ) → behind backwards a b ≡ true → behind backwards b a ≡ false
one_way_key true a b e = grind (arith, ints)
one_way_key false a b e = grind (arith, ints)

not_itself : (backwards : Bool) (a b : ℤ) → b ≡ a → behind backwards a b ≡ false
not_itself true a b e = grind (arith, ints)
not_itself false a b e = grind (arith, ints)

on_key : (backwards : Bool) (a b c : ℤ) → behind backwards a b ≡ true → behind backwards b c ≡ true → behind backwards a c ≡ true
on_key true a b c e f = grind (arith, ints)
on_key false a b c e f = grind (arith, ints)

past_on : (after : Option ℤ) (backwards : Bool) (k j : ℤ) → is_past after backwards k ≡ true → behind backwards k j ≡ true → is_past after backwards j ≡ true
past_on None backwards k j h e = refl
past_on (Some a) backwards k j h e = on_key backwards a k j h e

-- ---- lists

same_some : (a b : ℤ) → Some a ≡ Some b → a ≡ b
same_some a b e = cc

last-In : {X : Type 0} (key : X → ℤ) (xs : List X) (k : ℤ) → last_key key xs ≡ Some k → (x : X) × In x xs × (key x ≡ k)
last-In key [] k e = absurd (cc)
last-In key (x ∷ []) k e = (x, inl refl, same_some (key x) k e)
last-In key (x ∷ y ∷ ys) k e = let found = last-In key (y ∷ ys) k e in (found.0, inr found.1, found.2)

pub filter-whole : {X : Type 0} (p : X → Bool) (xs : List X) → list_all p xs ≡ true → filter p xs ≡ xs
filter-whole p [] e = refl
filter-whole p (x ∷ xs) e =
    let parts = and_parts (p x) (list_all p xs) e in
    cond-true (p x) (x ∷ filter p xs) (filter p xs) parts.0 ∙ ap (λ l. x ∷ l) (filter-whole p xs parts.1)

filter-step : {X : Type 0} (p q : X → Bool) (x : X) (xs : List X) (a b : Bool) → p x ≡ a → q x ≡ b → (q x ≡ true → p x ≡ true)
    → filter q (filter p xs) ≡ filter q xs → filter q (filter p (x ∷ xs)) ≡ filter q (x ∷ xs)
filter-step p q x xs true b e f h rest =
    ap (filter q) (cond-true (p x) (x ∷ filter p xs) (filter p xs) e) ∙ ap (λ l. cond (q x) (x ∷ l) l) rest
filter-step p q x xs false true e f h rest = absurd (true≢false (sym (h f) ∙ e))
filter-step p q x xs false false e f h rest =
    ap (filter q) (cond-false (p x) (x ∷ filter p xs) (filter p xs) e) ∙ rest ∙ sym (cond-false (q x) (x ∷ filter q xs) (filter q xs) f)

-- a test after one that it implies
filter-both : {X : Type 0} (p q : X → Bool) (xs : List X) → ((x : X) → q x ≡ true → p x ≡ true) → filter q (filter p xs) ≡ filter q xs
filter-both p q [] h = refl
filter-both p q (x ∷ xs) h = filter-step p q x xs (p x) (q x) refl refl (h x) (filter-both p q xs h)

reverse-first : {X : Type 0} (x : X) (xs : List X) → reverse (x ∷ xs) ≡ reverse xs ++ x ∷ []
reverse-first x xs = reverse-append (x ∷ []) xs

pub In-reverse : {X : Type 0} (xs : List X) (x : X) → In x (reverse xs) → In x xs
In-reverse [] x h = absurd h
In-reverse (y ∷ ys) x h = elim (In-append (reverse ys) (y ∷ []) x (subst (In x) (reverse-first y ys) h))
    [ inl front ↦ inr (In-reverse ys x front) | inr (inl same) ↦ inl same | inr (inr none) ↦ absurd none ]

rises_reversed : {X : Type 0} (t : X → X → Bool) (xs : List X) → rises t xs ≡ true → rises (λ a b. t b a) (reverse xs) ≡ true
rises_reversed t [] e = refl
rises_reversed t (x ∷ xs) e =
    let parts = and_parts (list_all (t x) xs) (rises t xs) e in
    ap (rises (λ a b. t b a)) (reverse-first x xs) ∙ rises-both (λ a b. t b a) (reverse xs) (x ∷ []) (rises_reversed t xs parts.1) refl
    (λ a b here there. elim there [
      | inl same ↦ ap (λ c. t c a) same ∙ list_all-In (t x) xs parts.0 a (In-reverse xs a here)
      | inr none ↦ absurd none
    ])

in_direction : {X : Type 0} (key : X → ℤ) (backwards : Bool) (xs : List X) → rises (λ a b. int_lt (key a) (key b)) xs ≡ true
    → rises (λ a b. behind backwards (key a) (key b)) (if backwards then reverse xs else xs) ≡ true
in_direction key true xs e = rises_reversed (λ a b. int_lt (key a) (key b)) xs e
in_direction key false xs e = e

-- ---- the cut

cut_first : {X : Type 0} (key : X → ℤ) (backwards : Bool) (x : X) (xs : List X) (k : ℤ) → list_all (λ y. behind backwards (key x) (key y)) xs ≡ true → key x ≡ k
    → x ∷ xs ≡ x ∷ filter (λ y. behind backwards k (key y)) (x ∷ xs)
cut_first key backwards x xs k later same =
    ap (λ l. x ∷ l) (sym (cond-false (behind backwards k (key x)) (x ∷ filter (λ y. behind backwards k (key y)) xs)
    (filter (λ y. behind backwards k (key y)) xs) (not_itself backwards k (key x) same)
    ∙ filter-whole (λ y. behind backwards k (key y)) xs (subst (λ j. list_all (λ y. behind backwards j (key y)) xs ≡ true) same later)))

cut_at : {X : Type 0} (key : X → ℤ) (backwards : Bool) (n : ℕ) (xs : List X) (k : ℤ) → rises (λ a b. behind backwards (key a) (key b)) xs ≡ true
    → last_key key (take n xs) ≡ Some k
    → xs ≡ take n xs ++ filter (λ x. behind backwards k (key x)) xs
cut_at key backwards zero xs k rise e = absurd (cc)
cut_at key backwards (suc n) [] k rise e = absurd (cc)
cut_at key backwards (suc zero) (x ∷ xs) k rise e =
    cut_first key backwards x xs k (and_parts (list_all (λ y. behind backwards (key x) (key y)) xs) (rises (λ a b. behind backwards (key a) (key b)) xs) rise).0
    (same_some (key x) k e)
cut_at key backwards (suc (suc n)) (x ∷ []) k rise e = cut_first key backwards x [] k refl (same_some (key x) k e)
cut_at key backwards (suc (suc n)) (x ∷ y ∷ ys) k rise e =
    let parts = and_parts (list_all (λ z. behind backwards (key x) (key z)) (y ∷ ys)) (rises (λ a b. behind backwards (key a) (key b)) (y ∷ ys)) rise in
    let found = last-In key (take (suc n) (y ∷ ys)) k e in
    let early = subst (λ j. behind backwards (key x) j ≡ true) found.2
    (list_all-In (λ z. behind backwards (key x) (key z)) (y ∷ ys) parts.0 found.0 (In-take (suc n) (y ∷ ys) found.0 found.1)) in
    ap (λ l. x ∷ l) (cut_at key backwards (suc n) (y ∷ ys) k parts.1 e
    ∙ ap (λ l. take (suc n) (y ∷ ys) ++ l) (sym (cond-false (behind backwards k (key x)) (x ∷ filter (λ z. behind backwards k (key z)) (y ∷ ys))
    (filter (λ z. behind backwards k (key z)) (y ∷ ys)) (one_way_key backwards (key x) k early))))

cond_some : (b : Bool) (o : Option ℤ) (k : ℤ) → cond b o None ≡ Some k → o ≡ Some k
cond_some true o k e = e
cond_some false o k e = absurd (cc)

pub follows : {X : Type 0} (key : X → ℤ) (xs : List X) (page : Page) → rises (λ a b. int_lt (key a) (key b)) xs ≡ true → NextPageFollows key page xs
follows {X} key xs page rise = record {
  next = λ last e.
      let ys : List X = if page.reverse then reverse xs else xs in
      let past : X → Bool = λ x. is_past page.after page.reverse (key x) in
      let taken = cond_some (nat_lt page.limit (length (filter past ys))) (last_key key (take page.limit (filter past ys))) last e in
      let risen = rises-filter (λ a b. behind page.reverse (key a) (key b)) past ys (in_direction key page.reverse xs rise) in
      let found = last-In key (take page.limit (filter past ys)) last taken in
      let own = subst (λ j. is_past page.after page.reverse j ≡ true) found.2
      (In-filter past ys found.0 (In-take page.limit (filter past ys) found.0 found.1)).1 in
      cut_at key page.reverse page.limit (filter past ys) last risen taken
      ∙ ap (λ l. take page.limit (filter past ys) ++ l) (filter-both past (λ x. behind page.reverse last (key x)) ys
      (λ x more. past_on page.after page.reverse last (key x) own more));
}
