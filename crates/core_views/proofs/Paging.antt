-- Rows past a page's key, kept and turned round, and the key of the last of some rows.
use Rattle.std.proofs.Common.{◌≡◌, ℕ, ℤ, suc, ◌-◌, ◌≤◌, Bool, true, false, ◌&&◌, cond, List, [], ◌∷◌, ◌++◌, Some, None, drop, filter, length, reverse, take, refl, sym, ap, ◌∙◌, arith, append-nil}
use Rattle.std.specs.Prelude.{if◌then◌else◌, option_map, slice_get}
use Rattle.std.specs.Borrow.{Bor}
use Rattle.std.proofs.lemmas.List.{drop_all, map-append, reverse-append, take-map}
use Rattle.std.proofs.lemmas.List.Elements.{filter-append}
use Rattle.media_rows.specs.declared.command.Page.{Page}
use Rattle.media_rows.specs.Lists.{is_past, items_past, last_key}
use Rattle.shared_tree.specs.Pairs.{values_of}
use Rattle.id_index.proofs.Pairs.{filter_swap}

-- ---- lists turned round

reverse_first : {X : Type 0} (x : X) (xs : List X) → reverse (x ∷ xs) ≡ reverse xs ++ x ∷ []
reverse_first x xs = reverse-append (x ∷ []) xs

-- what is kept of a list turned round is what is kept of it, turned round
kept_turned : {X : Type 0} (test : X → Bool) (xs : List X) → filter test (reverse xs) ≡ reverse (filter test xs)
kept_turned test [] = refl
kept_turned test (x ∷ xs) =
    ap (filter test) (reverse_first x xs) ∙ filter-append test (reverse xs) (x ∷ []) ∙ ap (λ l. l ++ filter test (x ∷ [])) (kept_turned test xs)
    ∙ by (test x)
  where
    by : (b : Bool) → reverse (filter test xs) ++ cond b (x ∷ []) [] ≡ reverse (cond b (x ∷ filter test xs) (filter test xs))
    by true = sym (reverse_first x (filter test xs))
    by false = append-nil (reverse (filter test xs))

kept_by : {X : Type 0} (back : Bool) (test : X → Bool) (xs : List X)
    → (if back then reverse (filter test xs) else filter test xs) ≡ filter test (if back then reverse xs else xs)
kept_by true test xs = sym (kept_turned test xs)
kept_by false test xs = refl

values_turned : {X : Type 0} (rows : List (Bor X)) → values_of (reverse rows) ≡ reverse (values_of rows)
values_turned [] = refl
values_turned {X = X} (row ∷ rows) =
    ap values_of (reverse_first row rows) ∙ map-append (λ (r : Bor X). r.now) (reverse rows) (row ∷ []) ∙ ap (λ l. l ++ row.now ∷ []) (values_turned rows)
    ∙ sym (reverse_first row.now (values_of rows))

values_by : {X : Type 0} (back : Bool) (rows : List (Bor X))
    → values_of (if back then reverse rows else rows) ≡ (if back then reverse (values_of rows) else values_of rows)
values_by true rows = values_turned rows
values_by false rows = refl

-- a list is turned round, or stays
pub turned : {X : Type 0} (back : Bool) (rows other all : List X) → back ≡ true → all ≡ other → other ≡ reverse rows
    → all ≡ (if back then reverse rows else rows)
turned back rows other all is same turn = same ∙ turn ∙ sym (ap (λ b. if b then reverse rows else rows) is)

pub stays : {X : Type 0} (back : Bool) (rows all : List X) → back ≡ false → all ≡ rows → all ≡ (if back then reverse rows else rows)
stays back rows all is same = same ∙ sym (ap (λ b. if b then reverse rows else rows) is)

-- ---- what lies past a page's key

-- the rows past a page's key, turned round where the page goes backwards, are the page's
pub past_turned : {X : Type 0} (key : X → ℤ) (page : Page) (xs : List X) (i : ℕ) (past got : List (Bor X))
    → values_of past ++ filter (λ x. is_past page.after page.reverse (key x)) (drop i xs)
    ≡ filter (λ x. is_past page.after page.reverse (key x)) xs → length xs ≤ i
    → got ≡ (if page.reverse then reverse past else past) → values_of got ≡ items_past key page xs
past_turned {X = X} key page xs i past got so_far end is =
    let test : X → Bool = λ x. is_past page.after page.reverse (key x) in
    let rest : values_of past ++ filter test (drop i xs) ≡ values_of past =
    ap (λ l. values_of past ++ filter test l) (drop_all i xs end) ∙ append-nil (values_of past) in
    ap values_of is ∙ values_by page.reverse past ∙ ap (λ l. if page.reverse then reverse l else l) (sym rest ∙ so_far)
    ∙ kept_by page.reverse test xs

filter_both : {X : Type 0} (p q : X → Bool) (xs : List X) → filter (λ x. p x && q x) xs ≡ filter q (filter p xs)
filter_both p q [] = refl
filter_both p q (x ∷ xs) = by (p x) (filter_both p q xs)
  where
    by : (b : Bool) → filter (λ y. p y && q y) xs ≡ filter q (filter p xs)
        → cond (b && q x) (x ∷ filter (λ y. p y && q y) xs) (filter (λ y. p y && q y) xs) ≡ filter q (cond b (x ∷ filter p xs) (filter p xs))
    by true rest = ap (λ l. cond (q x) (x ∷ l) l) rest
    by false rest = rest

-- a second test may be made of what lies past the key
pub past_both : {X : Type 0} (key : X → ℤ) (page : Page) (p q : X → Bool) (xs : List X)
    → filter q (items_past key page (filter p xs)) ≡ items_past key page (filter (λ x. p x && q x) xs)
past_both {X = X} key page p q xs =
    let test : X → Bool = λ x. is_past page.after page.reverse (key x) in
    filter_swap test q (if page.reverse then reverse (filter p xs) else filter p xs) ∙ ap (filter test) (sym (kept_by page.reverse q (filter p xs)))
    ∙ ap (λ l. filter test (if page.reverse then reverse l else l)) (sym (filter_both p q xs))

-- ---- the first rows and the last one

-- the first of the values
pub first_values : {X : Type 0} (n : ℕ) (rows : List (Bor X)) → values_of (take n rows) ≡ take n (values_of rows)
first_values n rows = sym (take-map (λ r. r.now) n rows)

last_key_is : {X : Type 0} (key : X → ℤ) (rows : List (Bor X))
    → option_map (λ (r : Bor X). key r.now) (slice_get rows (length rows - 1)) ≡ last_key key (values_of rows)
last_key_is key [] = refl
last_key_is key (x ∷ []) = refl
last_key_is {X = X} key (x ∷ y ∷ ys) =
    let two : length (x ∷ y ∷ ys) - 1 ≡ suc (length ys) = omega arith in
    let one : length (y ∷ ys) - 1 ≡ length ys = omega arith in
    ap (λ n. option_map (λ (r : Bor X). key r.now) (slice_get (x ∷ y ∷ ys) n)) two
    ∙ ap (λ n. option_map (λ (r : Bor X). key r.now) (slice_get (y ∷ ys) n)) (sym one) ∙ last_key_is key (y ∷ ys)

-- the key of the last of some rows, and of none
pub last_some : {X : Type 0} (key : X → ℤ) (rows : List (Bor X)) (last : Bor X) (k : ℤ) → k ≡ key last.now
    → Some last ≡ slice_get rows (length rows - 1) → Some k ≡ last_key key (values_of rows)
last_some {X = X} key rows last k is found = ap Some is ∙ ap (option_map (λ (r : Bor X). key r.now)) found ∙ last_key_is key rows

pub last_none : {X : Type 0} (key : X → ℤ) (rows : List (Bor X)) → None ≡ slice_get rows (length rows - 1) → None ≡ last_key key (values_of rows)
last_none {X = X} key rows none = ap (option_map (λ (r : Bor X). key r.now)) none ∙ last_key_is key rows
