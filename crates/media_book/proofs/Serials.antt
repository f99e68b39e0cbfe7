-- Rows with serials: some of them left out, each known by its serial, and tests of all pairs in any order.
use Rattle.std.proofs.Common.{◌≡◌, inl, inr, ℕ, zero, suc, ◌+◌, ◌<◌, ◌≤◌, drop, get_or, length, nat_lt, Bool, true, false, not, ◌&&◌, ◌||◌, cond, List, [], ◌∷◌, ◌++◌, Contains, filter, map, take, refl, sym, ap, ap₂, ◌∙◌, arith}
use Rattle.std.specs.Prelude.{◌==◌}
use Rattle.std.specs.List.{AllByRecursion, list_all, list_any}
use Rattle.std.proofs.Math.Seq.{drop-cons}
use Rattle.std.proofs.lemmas.Bool.{and_from, and_parts}
use Rattle.std.proofs.lemmas.Bool.Decides.{nat_tests}
use Rattle.std.proofs.lemmas.List.Folds.{list_all-map}
use Rattle.media_rows.specs.Good.{rises_by}
use Rattle.media_rows.specs.Lists.{are_distinct, each_pair, in_order, inserted}
use Rattle.library_laws.proofs.ListLemmas.{Contains-from_In, In, In-from_Contains, In-take, filter-In, list_all-from_In, list_all-In}

-- ---- an item amid others

-- a list has an item between two parts
pub record Amid {X : Type 0} (x : X) (xs : List X) : Type 0 where
  pub front : List X
  pub back : List X
  pub is : xs ≡ front ++ x ∷ back

pub amid : {X : Type 0} (x : X) (xs : List X) → In x xs → Amid x xs
amid x [] here = absurd here
amid x (y ∷ ys) (inl same) = record { front = []; back = ys; is = ap (λ z. z ∷ ys) (sym same) }
amid x (y ∷ ys) (inr there) =
    let rest = amid x ys there in
    record { front = y ∷ rest.front; back = rest.back; is = ap (λ l. y ∷ l) rest.is }

swap_and : (a b c : Bool) → (a && (b && c)) ≡ (b && (a && c))
swap_and true b c = refl
swap_and false true c = refl
swap_and false false c = refl

pub all_amid : {X : Type 0} (p : X → Bool) (f : List X) (x : X) (b : List X) → list_all p (f ++ x ∷ b) ≡ (p x && list_all p (f ++ b))
all_amid p [] x b = refl
all_amid p (y ∷ f) x b = ap (λ r. p y && r) (all_amid p f x b) ∙ swap_and (p y) (p x) (list_all p (f ++ b))

pub pairs_amid : {X : Type 0} (t : X → X → Bool) → ((a b : X) → t a b ≡ t b a) → (f : List X) (x : X) (b : List X)
    → each_pair t (f ++ x ∷ b) ≡ (list_all (t x) (f ++ b) && each_pair t (f ++ b))
pairs_amid t turns [] x b = refl
pairs_amid t turns (y ∷ f) x b =
    ap₂ (λ p q. p && q) (all_amid (t y) f x b) (pairs_amid t turns f x b)
    ∙ ap (λ p. (p && list_all (t y) (f ++ b)) && (list_all (t x) (f ++ b) && each_pair t (f ++ b))) (turns y x)
    ∙ mixed (t x y) (list_all (t y) (f ++ b)) (list_all (t x) (f ++ b)) (each_pair t (f ++ b))
  where
    mixed : (a l k e : Bool) → ((a && l) && (k && e)) ≡ ((a && k) && (l && e))
    mixed false l k e = refl
    mixed true l k e = swap_and l k e

-- ---- tests in any order

-- an item put in its place stands amid the others
record Put {X : Type 0} (x : X) (ys new : List X) : Type 0 where
  front : List X
  back : List X
  was : ys ≡ front ++ back
  is : new ≡ front ++ x ∷ back

put_amid : {X : Type 0} (before : X → X → Bool) (x : X) (ys : List X) → Put x ys (inserted before x ys)
put_amid before x [] = record { front = []; back = []; was = refl; is = refl }
put_amid before x (y ∷ ys) = by (before y x) (put_amid before x ys)
  where
    by : (b : Bool) → Put x ys (inserted before x ys) → Put x (y ∷ ys) (cond b (y ∷ inserted before x ys) (x ∷ y ∷ ys))
    by true rest = record { front = y ∷ rest.front; back = rest.back; was = ap (λ l. y ∷ l) rest.was; is = ap (λ l. y ∷ l) rest.is }
    by false rest = record { front = []; back = y ∷ ys; was = refl; is = refl }

all_put : {X : Type 0} (before : X → X → Bool) (p : X → Bool) (x : X) (ys : List X) → list_all p (inserted before x ys) ≡ (p x && list_all p ys)
all_put before p x ys =
    let put = put_amid before x ys in
    ap (list_all p) put.is ∙ all_amid p put.front x put.back ∙ ap (λ l. p x && list_all p l) (sym put.was)

pub all_ordered : {X : Type 0} (before : X → X → Bool) (p : X → Bool) (xs : List X) → list_all p (in_order before xs) ≡ list_all p xs
all_ordered before p [] = refl
all_ordered before p (x ∷ xs) = all_put before p x (in_order before xs) ∙ ap (λ b. p x && b) (all_ordered before p xs)

any_amid : {X : Type 0} (p : X → Bool) (f : List X) (x : X) (b : List X) → list_any p (f ++ x ∷ b) ≡ (p x || list_any p (f ++ b))
any_amid p [] x b = refl
any_amid p (y ∷ f) x b = ap (λ r. p y || r) (any_amid p f x b) ∙ by (p y) (p x) (list_any p (f ++ b))
  where
    by : (a c d : Bool) → (a || (c || d)) ≡ (c || (a || d))
    by true true d = refl
    by true false d = refl
    by false c d = refl

any_ordered : {X : Type 0} (before : X → X → Bool) (p : X → Bool) (xs : List X) → list_any p (in_order before xs) ≡ list_any p xs
any_ordered before p [] = refl
any_ordered before p (x ∷ xs) =
    let put = put_amid before x (in_order before xs) in
    ap (list_any p) put.is ∙ any_amid p put.front x put.back ∙ ap (λ l. p x || list_any p l) (sym put.was)
    ∙ ap (λ b. p x || b) (any_ordered before p xs)

-- a test that looks at pairs either way finds the same in any order
pub pairs_ordered : {X : Type 0} (before : X → X → Bool) (t : X → X → Bool) → ((a b : X) → t a b ≡ t b a) → (xs : List X)
    → each_pair t (in_order before xs) ≡ each_pair t xs
pairs_ordered before t turns [] = refl
pairs_ordered before t turns (x ∷ xs) =
    let put = put_amid before x (in_order before xs) in
    ap (each_pair t) put.is ∙ pairs_amid t turns put.front x put.back
    ∙ ap (λ l. list_all (t x) l && each_pair t l) (sym put.was)
    ∙ ap₂ (λ a b. a && b) (all_ordered before (t x) xs) (pairs_ordered before t turns xs)

pub pairs_taken : {X : Type 0} (t : X → X → Bool) (n : ℕ) (xs : List X) → each_pair t xs ≡ true → each_pair t (take n xs) ≡ true
pairs_taken t zero xs e = refl
pairs_taken t (suc n) [] e = refl
pairs_taken t (suc n) (x ∷ xs) e =
    let parts = and_parts (list_all (t x) xs) (each_pair t xs) e in
    and_from (list_all (t x) (take n xs)) (each_pair t (take n xs))
    (list_all-from_In (t x) (take n xs) (λ y here. list_all-In (t x) xs parts.0 y (In-take n xs y here)))
    (pairs_taken t n xs parts.1)

-- ---- serials

pub number_turned : (m n : ℕ) → (m == n) ≡ (n == m)
number_turned m n = by (m == n) (n == m) refl refl
  where
    by : (p q : Bool) → (m == n) ≡ p → (n == m) ≡ q → p ≡ q
    by true true ep eq = refl
    by false false ep eq = refl
    by true false ep eq = absurd (grind (arith, nat_tests))
    by false true ep eq = absurd (grind (arith, nat_tests))

module _ {X : Type 0} (serial : X → ℕ) where
  -- two rows have serials of their own
  abbrev pub are_two : X → X → Bool
  are_two a b = not (serial a == serial b)

  pub two_turned : (a b : X) → are_two a b ≡ are_two b a
  two_turned a b = ap not (number_turned (serial a) (serial b))

  differ : (a b : ℕ) → nat_lt a b ≡ true → (a == b) ≡ false
  differ a b lt = grind (arith, nat_tests)

  differ_turned : (a b : ℕ) → nat_lt b a ≡ true → (a == b) ≡ false
  differ_turned a b lt = grind (arith, nat_tests)

  -- those that rise differ
  pub two_of_rising : (rows : List X) → rises_by serial rows ≡ true → each_pair are_two rows ≡ true
  two_of_rising [] rise = refl
  two_of_rising (row ∷ rows) rise =
      let parts = and_parts (list_all (λ r. nat_lt (serial row) (serial r)) rows) (rises_by serial rows) rise in
      and_from (list_all (are_two row) rows) (each_pair are_two rows) (each rows parts.0) (two_of_rising rows parts.1)
    where
      each : (rs : List X) → list_all (λ r. nat_lt (serial row) (serial r)) rs ≡ true → list_all (are_two row) rs ≡ true
      each [] e = refl
      each (r ∷ rs) e =
          let both = and_parts (nat_lt (serial row) (serial r)) (list_all (λ o. nat_lt (serial row) (serial o)) rs) e in
          and_from (are_two row r) (list_all (are_two row) rs) (ap not (differ (serial row) (serial r) both.0)) (each rs both.1)

  pub distinct_of_two : (rows : List X) → each_pair are_two rows ≡ true → are_distinct (map serial rows) ≡ true
  distinct_of_two [] e = refl
  distinct_of_two (row ∷ rows) e =
      let parts = and_parts (list_all (are_two row) rows) (each_pair are_two rows) e in
      and_from (list_all (λ n. not (serial row == n)) (map serial rows)) (are_distinct (map serial rows))
      (list_all-map (λ n. not (serial row == n)) serial rows ∙ parts.0) (distinct_of_two rows parts.1)

  -- leaves out one serial
  abbrev pub is_other : X → X → Bool
  is_other gone row = not ((serial gone == serial row) || false)

  -- leaves out those of some rows
  abbrev pub without : List X → List X → List X
  without removed rows = filter (λ row. not (list_any (λ gone. serial gone == serial row) removed)) rows

  others_all : (gone : X) (rows : List X) → list_all (λ r. nat_lt (serial gone) (serial r)) rows ≡ true → filter (is_other gone) rows ≡ rows
  others_all gone [] e = refl
  others_all gone (row ∷ rows) e =
      let parts = and_parts (nat_lt (serial gone) (serial row)) (list_all (λ r. nat_lt (serial gone) (serial r)) rows) e in
      let apart = differ (serial gone) (serial row) parts.0 in
      rw apart (ap (λ l. row ∷ l) (others_all gone rows parts.1))

  -- a row is left out of those that rise by serial
  pub left_out : (front : List X) (gone : X) (back : List X) → rises_by serial (front ++ gone ∷ back) ≡ true
      → without (gone ∷ []) (front ++ gone ∷ back) ≡ front ++ back
  left_out [] gone back rise =
      let parts = and_parts (list_all (λ r. nat_lt (serial gone) (serial r)) back) (rises_by serial back) rise in
      let same : (serial gone == serial gone) ≡ true = grind (arith, nat_tests) in
      rw same (others_all gone back parts.0)
  left_out (row ∷ front) gone back rise =
      let parts = and_parts (list_all (λ r. nat_lt (serial row) (serial r)) (front ++ gone ∷ back)) (rises_by serial (front ++ gone ∷ back)) rise in
      let apart = differ_turned (serial gone) (serial row) (reached front parts.0) in
      rw apart (ap (λ l. row ∷ l) (left_out front gone back parts.1))
    where
      reached : (rows : List X) → list_all (λ r. nat_lt (serial row) (serial r)) (rows ++ gone ∷ back) ≡ true → nat_lt (serial row) (serial gone) ≡ true
      reached [] e = (and_parts (nat_lt (serial row) (serial gone)) (list_all (λ r. nat_lt (serial row) (serial r)) back) e).0
      reached (r ∷ rows) e =
          reached rows ((and_parts (nat_lt (serial row) (serial r)) (list_all (λ o. nat_lt (serial row) (serial o)) (rows ++ gone ∷ back)) e).1)

  -- rows without one and then without others
  pub without_twice : (gone : X) (later rows : List X) → without later (without (gone ∷ []) rows) ≡ without (gone ∷ later) rows
  without_twice gone later [] = refl
  without_twice gone later (row ∷ rows) =
      by (serial gone == serial row) (list_any (λ other. serial other == serial row) later) refl (without_twice gone later rows)
    where
      by : (p q : Bool) → list_any (λ other. serial other == serial row) later ≡ q
          → without later (without (gone ∷ []) rows) ≡ without (gone ∷ later) rows
          → without later (cond (not (p || false)) (row ∷ without (gone ∷ []) rows) (without (gone ∷ []) rows))
          ≡ cond (not (p || q)) (row ∷ without (gone ∷ later) rows) (without (gone ∷ later) rows)
      by true q eq rest = rest
      by false true eq rest = rw eq rest
      by false false eq rest = rw eq (ap (λ l. row ∷ l) rest)

  -- in which order others are left out makes no difference
  pub without_ordered : (before : X → X → Bool) (removed rows : List X) → without (in_order before removed) rows ≡ without removed rows
  without_ordered before removed [] = refl
  without_ordered before removed (row ∷ rows) =
      ap₂ (λ (b : Bool) (l : List X). cond (not b) (row ∷ l) l) (any_ordered before (λ gone. serial gone == serial row) removed)
      (without_ordered before removed rows)

  pub kept_all : (rows : List X) → without [] rows ≡ rows
  kept_all [] = refl
  kept_all (row ∷ rows) = ap (λ l. row ∷ l) (kept_all rows)

  -- rows of other serials are still there
  pub some_left : (gone : X) (rows all : List X) → AllByRecursion (Contains all) rows
      → list_all (λ n. not (serial gone == n)) (map serial rows) ≡ true → AllByRecursion (Contains (without (gone ∷ []) all)) rows
  some_left gone [] all there apart = tt
  some_left gone (row ∷ rows) all there apart =
      let parts = and_parts (not (serial gone == serial row)) (list_all (λ n. not (serial gone == n)) (map serial rows)) apart in (
        Contains-from_In (without (gone ∷ []) all) row
            (filter-In (is_other gone) all row (In-from_Contains all row there.0) (other (serial gone == serial row) parts.0)),
        some_left gone rows all there.1 parts.1,
      )
    where
      other : (b : Bool) → not b ≡ true → not (b || false) ≡ true
      other true e = e
      other false e = refl

pub there_of : {X : Type 0} (rows all : List X) → ((row : X) → In row rows → In row all) → AllByRecursion (Contains all) rows
there_of [] all f = tt
there_of (row ∷ rows) all f = (Contains-from_In all row (f row (inl refl)), there_of rows all (λ r here. f r (inr here)))

-- ---- what is left in a loop

pub next_is : {X : Type 0} (rows : List X) (i : ℕ) (row : X) → i < length rows → row ≡ get_or rows i row → drop i rows ≡ row ∷ drop (i + 1) rows
next_is rows i row lt at =
    let e : suc i ≡ i + 1 = omega arith in
    drop-cons rows i row lt ∙ ap (λ v. v ∷ drop (suc i) rows) (sym at) ∙ ap (λ n. row ∷ drop n rows) e

pub none_left : {X : Type 0} (rows : List X) (i : ℕ) → length rows ≤ i → drop i rows ≡ []
none_left [] zero le = refl
none_left [] (suc i) le = refl
none_left (row ∷ rows) zero le = absurd (omega (arith, le))
none_left (row ∷ rows) (suc i) le = none_left rows i (omega (arith, le))
