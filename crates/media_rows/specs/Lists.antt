-- Lists in order, tests on all pairs of a list, and pages of a list. Our own words.
use Rattle.std.specs.Prelude.{ℕ, zero, suc, ◌==◌, nat_lt, nat_le, ℤ, int_lt, List, [], ◌∷◌, ◌++◌, Bool, true, not, ◌&&◌, Option, Some, None, if◌then◌else◌, filter, take, length, reverse, bytes_eq}
use Rattle.std.specs.List.{list_all, list_any}
use Rattle.std.specs.Ordering.{is_lt, nat_cmp}
use Rattle.std.specs.declared.cmp.Ordering.{Ordering}
use Rattle.std.specs.Cmp.Lexicographic.{slice_cmp}
use Rattle.media_rows.specs.declared.command.Page.{Page}

-- ---- texts

-- two texts compared byte by byte, where a text stands before each longer one that begins with it
abbrev pub text_cmp : List ℕ → List ℕ → Ordering
text_cmp = slice_cmp nat_cmp

-- whether a text stands before another in that order
abbrev pub text_before : List ℕ → List ℕ → Bool
text_before left right = is_lt (text_cmp left right)

-- whether the text is one of these
abbrev pub has_text : List ℕ → List (List ℕ) → Bool
has_text text texts = list_any (bytes_eq text) texts

-- ---- ids

-- whether the number is one of these
abbrev pub has_number : ℕ → List ℕ → Bool
has_number number numbers = list_any (λ n. number == n) numbers

-- ---- order

-- an item at its place among others, instead of those with which it ties
abbrev pub placed : {X : Type 0} → (X → X → Bool) → X → List X → List X
placed before x xs = filter (λ y. before y x) xs ++ x ∷ filter (λ y. before x y) xs

-- the items in order, where of those that tie only one stays
abbrev pub placed_all : {X : Type 0} → (X → X → Bool) → List X → List X
placed_all before [] = []
placed_all before (x ∷ xs) = placed before x (placed_all before xs)

-- an item put in front of the first one that doesn't stand before it
abbrev pub inserted : {X : Type 0} → (X → X → Bool) → X → List X → List X
inserted before x [] = x ∷ []
inserted before x (y ∷ ys) = if before y x then y ∷ inserted before x ys else x ∷ y ∷ ys

-- the items in order, each of them
abbrev pub in_order : {X : Type 0} → (X → X → Bool) → List X → List X
in_order before [] = []
in_order before (x ∷ xs) = inserted before x (in_order before xs)

-- each item passes the test with each later one
abbrev pub each_pair : {X : Type 0} → (X → X → Bool) → List X → Bool
each_pair test [] = true
each_pair test (x ∷ xs) = list_all (test x) xs && each_pair test xs

-- each item stands before each later one
abbrev pub rises : {X : Type 0} → (X → X → Bool) → List X → Bool
rises before xs = each_pair before xs

-- no number stands twice
abbrev pub are_distinct : List ℕ → Bool
are_distinct numbers = each_pair (λ a b. not (a == b)) numbers

-- no text stands twice
abbrev pub are_distinct_texts : List (List ℕ) → Bool
are_distinct_texts texts = each_pair (λ a b. not (bytes_eq a b)) texts

-- the numbers below this one, rising
unfoldable pub numbers_below : ℕ → List ℕ
numbers_below zero = []
numbers_below (suc n) = numbers_below n ++ n ∷ []

-- a number lies behind another, where there is one
abbrev pub is_behind : Option ℕ → ℕ → Bool
is_behind None number = true
is_behind (Some last) number = nat_lt last number

-- the first that is there
abbrev pub or_else : {X : Type 0} → Option X → Option X → Option X
or_else None other = other
or_else (Some x) other = Some x

-- ---- pages

-- a page that may be asked for: it has at least one item
abbrev pub is_page : Page → Bool
is_page page = nat_le 1 page.limit

-- whether a key lies behind the one after which a page begins
abbrev pub is_past : Option ℤ → Bool → ℤ → Bool
is_past None backwards key = true
is_past (Some after) backwards key = if backwards then int_lt key after else int_lt after key

-- the items of a list by rising keys that lie behind the page's key, in the page's direction
abbrev pub items_past : {X : Type 0} → (X → ℤ) → Page → List X → List X
items_past key page xs =
    filter (λ x. is_past page.after page.reverse (key x)) (if page.reverse then reverse xs else xs)

-- the items of a page: the first so many of those
abbrev pub page_items : {X : Type 0} → (X → ℤ) → Page → List X → List X
page_items key page xs = take page.limit (items_past key page xs)

-- the key of the last item
abbrev pub last_key : {X : Type 0} → (X → ℤ) → List X → Option ℤ
last_key key [] = None
last_key key (x ∷ []) = Some (key x)
last_key key (x ∷ y ∷ ys) = last_key key (y ∷ ys)

-- the key after which the next page begins: that of the page's last item, where a further item lies
-- behind
abbrev pub next_key : {X : Type 0} → (X → ℤ) → Page → List X → Option ℤ
next_key key page xs =
    if nat_lt page.limit (length (items_past key page xs))
    then last_key key (page_items key page xs) else None
