-- The router finds the route that the pieces of a path name: each route's text reads as the tokens of its pieces, and no path is one of two.
use Rattle.std.proofs.Common.{◌≡◌, ◌⊎◌, inl, inr, ◌<◌, refl, sym, ◌∙◌, ap, ap₂, ℕ, List, [], ◌∷◌, Option, Some, None, Result, Ok, Err, Bool, true, false, cond, ◌==◌, ◌&&◌, ◌||◌, arith, subst, true≢false}
use Rattle.std.specs.Prelude.{not, bytes_eq, find, nat_lt, if◌then◌else◌}
use Rattle.std.specs.List.{list_all}
use Rattle.std.specs.Str.{IsAscii, IsUtf8}
use Rattle.std.proofs.lemmas.Bool.{and_parts}
use Rattle.std.proofs.lemmas.Bool.Decides.{nat_tests}
use Rattle.std.proofs.lemmas.Slice.Eq.{bytes_eq-Decides}
use Rattle.std.proofs.lemmas.Str.{IsUtf8-from_ascii}
use Rattle.std.proofs.lemmas.Str.Ascii.{IsAscii-cons, IsAscii-nil}
use Rattle.matchit.proofs.OnLiterals.{matchit_on_literals}
use Rattle.matchit.specs.Level.{IsText}
use Rattle.matchit.specs.Order.{placed}
use Rattle.matchit.specs.Route.{Scan, parse_route}
use Rattle.matchit.specs.Router.{RouteOf, route_from}
use Rattle.matchit.specs.Rows.{RowsOf, catch_all_token, comes_before, param_token}
use Rattle.matchit.specs.Seek.{first, seek, slash}
use Rattle.matchit.specs.declared.error.InsertError.{InsertError}
use Rattle.media_rows.specs.Lists.{each_pair}
use Rattle.http_routes.specs.Paths.{is_ascii_byte, is_in_braces, is_path_of, path_pieces, pieces_fit, route_of}
use Rattle.http_routes.specs.Routing.{Routed, answered_route, route_in, table_rows, with_read, with_route, with_routes}
use Rattle.http_routes.specs.Table.{all_routes, route_text}
use Rattle.http_routes.specs.declared.route.Route.{Route}
use Rattle.http_routes.proofs.Apart.{routes_apart}
use Rattle.http_routes.proofs.Fitting.{AreGood, IsWord, tokens, tokens_fit}
use Rattle.http_routes.proofs.Seeking.{AllPlain, Fits, Found, IsPlain, NoneFits, ends_piece, first_found, fits}

-- ---- tests on patterns and pieces, and what they say

not_false : (a : Bool) → not a ≡ true → a ≡ false
not_false true h = absurd (true≢false (sym h))
not_false false h = refl

or_right : (a b : Bool) → a ≡ false → (a || b) ≡ true → b ≡ true
or_right true b e h = absurd (true≢false e)
or_right false b e h = h

if_so : (a b : Bool) → a ≡ true → (not a || b) ≡ true → b ≡ true
if_so true b e h = h
if_so false b e h = absurd (true≢false (sym e))

abbrev is_plain : List ℕ → Bool
is_plain [] = true
is_plain (x ∷ t) = not (x == catch_all_token) && ((not (x == param_token) || ends_piece t) && is_plain t)

plain_from : (t : List ℕ) → is_plain t ≡ true → IsPlain t
plain_from [] h = tt
plain_from (x ∷ t) h =
    let a = and_parts (not (x == catch_all_token)) ((not (x == param_token) || ends_piece t) && is_plain t) h in
    let b = and_parts (not (x == param_token) || ends_piece t) (is_plain t) a.1 in
    (not_false (x == catch_all_token) a.0, λ e. if_so (x == param_token) (ends_piece t) e b.0, plain_from t b.1)

abbrev is_word : List ℕ → Bool
is_word [] = true
is_word (x ∷ w) = not (x == param_token) && (not (x == slash) && is_word w)

word_from : (w : List ℕ) → is_word w ≡ true → IsWord w
word_from [] h = tt
word_from (x ∷ w) h =
    let a = and_parts (not (x == param_token)) (not (x == slash) && is_word w) h in
    let b = and_parts (not (x == slash)) (is_word w) a.1 in
    (not_false (x == param_token) a.0, not_false (x == slash) b.0, word_from w b.1)

abbrev are_good : List (List ℕ) → Bool
are_good [] = true
are_good (piece ∷ pieces) = (is_in_braces piece || is_word piece) && are_good pieces

good_from : (pieces : List (List ℕ)) → are_good pieces ≡ true → AreGood pieces
good_from [] h = tt
good_from (piece ∷ pieces) h =
    let a = and_parts (is_in_braces piece || is_word piece) (are_good pieces) h in
    (λ e. word_from piece (or_right (is_in_braces piece) (is_word piece) e a.0), good_from pieces a.1)

-- ---- what the routes' texts read as

-- a text reads as a plain pattern, which fits the paths that its pieces fit
abbrev ReadsAs : Result Scan InsertError → List (List ℕ) → Type 0
ReadsAs read pieces =
    (scan : Scan) × (read ≡ Ok scan) × IsPlain scan.pattern × ((path : List ℕ) → fits scan.pattern path ≡ pieces_fit pieces (path_pieces path))

-- it is the tokens of these pieces
abbrev is_made : Result Scan InsertError → List (List ℕ) → Bool
is_made (Err e) pieces = false
is_made (Ok scan) [] = false
is_made (Ok scan) (q ∷ qs) = bytes_eq scan.pattern (tokens (q ∷ qs)) && (are_good (q ∷ qs) && is_plain scan.pattern)

reads_by : (read : Result Scan InsertError) (pieces : List (List ℕ)) → is_made read pieces ≡ true → ReadsAs read pieces
reads_by (Err e) pieces h = absurd (true≢false (sym h))
reads_by (Ok scan) [] h = absurd (true≢false (sym h))
reads_by (Ok scan) (q ∷ qs) h =
    let a = and_parts (bytes_eq scan.pattern (tokens (q ∷ qs))) (are_good (q ∷ qs) && is_plain scan.pattern) h in
    let b = and_parts (are_good (q ∷ qs)) (is_plain scan.pattern) a.1 in
    let same : scan.pattern ≡ tokens (q ∷ qs) = (bytes_eq-Decides scan.pattern (tokens (q ∷ qs))).0 a.0 in (
      scan,
      refl,
      plain_from scan.pattern b.1,
      λ path. ap (λ (t : List ℕ). fits t path) same ∙ tokens_fit q qs (good_from (q ∷ qs) b.0) path,
    )

abbrev IsRead : Route → Type 0
IsRead route = ReadsAs (parse_route (route_text route)) (path_pieces (route_text route))

abbrev AllRead : List Route → Type 0
AllRead [] = Unit {0}
AllRead (route ∷ routes) = IsRead route × AllRead routes

abbrev reads : Route → Bool
reads route = is_made (parse_route (route_text route)) (path_pieces (route_text route))

read_from : (routes : List Route) → list_all reads routes ≡ true → AllRead routes
read_from [] h = tt
read_from (route ∷ routes) h =
    let a = and_parts (reads route) (list_all reads routes) h in
    (reads_by (parse_route (route_text route)) (path_pieces (route_text route)) a.0, read_from routes a.1)

all_read : list_all reads all_routes ≡ true
unfolding path_pieces all_routes matchit_on_literals
all_read = refl

-- ---- one row more

module _ {K : Type 0} where
  placed_plain : (t : List ℕ) (k : K) (rs : RowsOf K) → IsPlain t → AllPlain rs → AllPlain (placed (t, k) rs)
  placed_plain t k [] h g = (h, tt)
  placed_plain t k ((u, j) ∷ rs) h g = by (comes_before t u) (placed_plain t k rs h g.1)
    where
      by : (v : Bool) → AllPlain (placed (t, k) rs) → AllPlain (cond {A = RowsOf K} v ((t, k) ∷ (u, j) ∷ rs) ((u, j) ∷ placed (t, k) rs))
      by true ih = (h, g)
      by false ih = (g.0, ih)

  placed_none : (t : List ℕ) (k : K) (rs : RowsOf K) (p : List ℕ) → NoneFits (placed (t, k) rs) p → (fits t p ≡ false) × NoneFits rs p
  placed_none t k [] p n = n
  placed_none t k ((u, j) ∷ rs) p n = by (comes_before t u) (placed_none t k rs p) n
    where
      by : (v : Bool) → (NoneFits (placed (t, k) rs) p → (fits t p ≡ false) × NoneFits rs p)
          → NoneFits (cond {A = RowsOf K} v ((t, k) ∷ (u, j) ∷ rs) ((u, j) ∷ placed (t, k) rs)) p
          → (fits t p ≡ false) × NoneFits ((u, j) ∷ rs) p
      by true ih m = m
      by false ih m = let r = ih m.1 in (r.0, (m.0, r.1))

  behind_one : (i : K) (u : List ℕ) (j k : K) (t : List ℕ) (rs : RowsOf K) (p : List ℕ) → ((k ≡ j) × (fits t p ≡ true)) ⊎ Fits j rs p
      → ((k ≡ j) × (fits t p ≡ true)) ⊎ Fits j ((u, i) ∷ rs) p
  behind_one i u j k t rs p (inl x) = inl x
  behind_one i u j k t rs p (inr y) = inr (inr y)

  placed_some : (t : List ℕ) (k : K) (rs : RowsOf K) (p : List ℕ) (j : K) → Fits j (placed (t, k) rs) p → ((k ≡ j) × (fits t p ≡ true)) ⊎ Fits j rs p
  placed_some t k [] p j f = f
  placed_some t k ((u, i) ∷ rs) p j f = by (comes_before t u) (placed_some t k rs p j) f
    where
      by : (v : Bool) → (Fits j (placed (t, k) rs) p → ((k ≡ j) × (fits t p ≡ true)) ⊎ Fits j rs p)
          → Fits j (cond {A = RowsOf K} v ((t, k) ∷ (u, i) ∷ rs) ((u, i) ∷ placed (t, k) rs)) p
          → ((k ≡ j) × (fits t p ≡ true)) ⊎ Fits j ((u, i) ∷ rs) p
      by true ih g = g
      by false ih (inl g) = inr (inl g)
      by false ih (inr g) = behind_one i u j k t rs p (ih g)

-- ---- the rows of routes

-- a path is one of none of these routes
abbrev NoneNamed : List Route → List ℕ → Type 0
NoneNamed [] p = Unit {0}
NoneNamed (route ∷ routes) p = (is_path_of p route ≡ false) × NoneNamed routes p

-- it is one of this route, which is among them
abbrev Named : Route → List Route → List ℕ → Type 0
Named found [] p = ⊥
Named found (route ∷ routes) p = ((route ≡ found) × (is_path_of p route ≡ true)) ⊎ Named found routes p

with_plain : (route : Route) → IsRead route → (rows : Routed) → AllPlain rows → AllPlain (with_route route rows)
unfolding with_route
with_plain route read rows plain =
    subst (λ (r : Result Scan InsertError). AllPlain (with_read r route rows)) (sym read.1)
    (placed_plain read.0.pattern (route_from read.0 route) rows read.2 plain)

with_none : (route : Route) → IsRead route → (rows : Routed) (p : List ℕ) → NoneFits (with_route route rows) p
    → (is_path_of p route ≡ false) × NoneFits rows p
unfolding with_route
with_none route read rows p n =
    let m : NoneFits (placed (read.0.pattern, route_from read.0 route) rows) p =
    subst (λ (r : Result Scan InsertError). NoneFits (with_read r route rows) p) read.1 n in
    let parts = placed_none read.0.pattern (route_from read.0 route) rows p m in
    (sym (read.3 p) ∙ parts.0, parts.1)

with_some : (route : Route) → IsRead route → (rows : Routed) (p : List ℕ) (j : RouteOf Route) → Fits j (with_route route rows) p
    → ((route ≡ j.value) × (is_path_of p route ≡ true)) ⊎ Fits j rows p
unfolding with_route
with_some route read rows p j f =
    by (placed_some read.0.pattern (route_from read.0 route) rows p j
    (subst (λ (r : Result Scan InsertError). Fits j (with_read r route rows) p) read.1 f))
  where
    by : ((route_from read.0 route ≡ j) × (fits read.0.pattern p ≡ true)) ⊎ Fits j rows p
        → ((route ≡ j.value) × (is_path_of p route ≡ true)) ⊎ Fits j rows p
    by (inl x) = inl (ap (λ (e : RouteOf Route). e.value) x.0, sym (read.3 p) ∙ x.1)
    by (inr y) = inr y

all_plain : (routes : List Route) → AllRead routes → (rows : Routed) → AllPlain rows → AllPlain (with_routes routes rows)
all_plain [] h rows plain = plain
all_plain (route ∷ routes) h rows plain = all_plain routes h.1 (with_route route rows) (with_plain route h.0 rows plain)

all_none : (routes : List Route) → AllRead routes → (rows : Routed) (p : List ℕ) → NoneFits (with_routes routes rows) p
    → NoneNamed routes p × NoneFits rows p
all_none [] h rows p n = (tt, n)
all_none (route ∷ routes) h rows p n =
    let rest = all_none routes h.1 (with_route route rows) p n in
    let one = with_none route h.0 rows p rest.1 in
    ((one.0, rest.0), one.1)

all_some : (routes : List Route) → AllRead routes → (rows : Routed) (p : List ℕ) (j : RouteOf Route) → Fits j (with_routes routes rows) p
    → Named j.value routes p ⊎ Fits j rows p
all_some [] h rows p j f = inr f
all_some (route ∷ routes) h rows p j f = by (all_some routes h.1 (with_route route rows) p j f)
  where
    first_of : ((route ≡ j.value) × (is_path_of p route ≡ true)) ⊎ Fits j rows p → Named j.value (route ∷ routes) p ⊎ Fits j rows p
    first_of (inl x) = inl (inl x)
    first_of (inr y) = inr y

    by : Named j.value routes p ⊎ Fits j (with_route route rows) p → Named j.value (route ∷ routes) p ⊎ Fits j rows p
    by (inl x) = inl (inr x)
    by (inr y) = first_of (with_some route h.0 rows p j y)

-- ---- the first of all routes

find_none : (routes : List Route) (p : List ℕ) → NoneNamed routes p → find (is_path_of p) routes ≡ None
find_none [] p n = refl
find_none (route ∷ routes) p n =
    ap (λ (v : Bool). cond {A = Option Route} v (Some route) (find (is_path_of p) routes)) n.0 ∙ find_none routes p n.1

not_both : (a b : Bool) → not (a && b) ≡ true → b ≡ true → a ≡ false
not_both true true h e = absurd (true≢false (sym h))
not_both true false h e = absurd (true≢false (sym e))
not_both false b h e = refl

other_not : (p : List ℕ) (one found : Route) (routes : List Route) → list_all (λ other. not (is_path_of p one && is_path_of p other)) routes ≡ true
    → Named found routes p → is_path_of p one ≡ false
other_not p one found [] h n = absurd n
other_not p one found (route ∷ routes) h (inl x) =
    let a = and_parts (not (is_path_of p one && is_path_of p route)) (list_all (λ other. not (is_path_of p one && is_path_of p other)) routes) h in
    not_both (is_path_of p one) (is_path_of p route) a.0 x.1
other_not p one found (route ∷ routes) h (inr y) =
    let a = and_parts (not (is_path_of p one && is_path_of p route)) (list_all (λ other. not (is_path_of p one && is_path_of p other)) routes) h in
    other_not p one found routes a.1 y

-- no path is one of two of these routes
abbrev Apart : List Route → List ℕ → Type 0
Apart routes p = each_pair (λ route other. not (is_path_of p route && is_path_of p other)) routes ≡ true

find_some : (routes : List Route) (p : List ℕ) → Apart routes p → (found : Route) → Named found routes p
    → find (is_path_of p) routes ≡ Some found
find_some [] p h found n = absurd n
find_some (route ∷ routes) p h found (inl x) =
    ap (λ (v : Bool). cond {A = Option Route} v (Some route) (find (is_path_of p) routes)) x.1 ∙ ap (λ (r : Route). Some r) x.0
find_some (route ∷ routes) p h found (inr y) =
    let a = and_parts (list_all (λ other. not (is_path_of p route && is_path_of p other)) routes)
    (each_pair (λ one other. not (is_path_of p one && is_path_of p other)) routes) h in
    ap (λ (v : Bool). cond {A = Option Route} v (Some route) (find (is_path_of p) routes)) (other_not p route found routes a.0 y)
    ∙ find_some routes p a.1 found y

-- ---- the table

abbrev whole_table : AllRead all_routes
whole_table = read_from all_routes all_read

-- the router of the table finds the first of all routes of which a path is one
pub table_finds : (p : List ℕ) → IsText p → answered_route (seek 0 table_rows p) ≡ find (is_path_of p) all_routes
table_finds p text = by (seek 0 table_rows p) (first_found table_rows p (all_plain all_routes whole_table [] tt) text)
  where
    named : (j : RouteOf Route) → Named j.value all_routes p ⊎ Fits j [] p → Some j.value ≡ find (is_path_of p) all_routes
    named j (inl x) = sym (find_some all_routes p (routes_apart p) j.value x)
    named j (inr y) = absurd y

    by : (c : Option (RouteOf Route)) → Found c table_rows p → answered_route c ≡ find (is_path_of p) all_routes
    by None n = sym (find_none all_routes p (all_none all_routes whole_table [] p n).0)
    by (Some j) f = named j (all_some all_routes whole_table [] p j f)

-- ---- texts in ASCII

below : (b : ℕ) → nat_lt b 128 ≡ true → b < 128
below b h = grind (arith, nat_tests)

pub ascii_text : (p : List ℕ) → list_all is_ascii_byte p ≡ true → IsText p
ascii_text [] h = tt
ascii_text (b ∷ p) h =
    let a = and_parts (nat_lt b 128) (list_all is_ascii_byte p) h in
    let l : b < 128 = below b a.0 in
    (omega (arith, l), ascii_text p a.1)

is_ascii : (p : List ℕ) → list_all is_ascii_byte p ≡ true → IsAscii p
is_ascii [] h = IsAscii-nil
is_ascii (b ∷ p) h =
    let a = and_parts (nat_lt b 128) (list_all is_ascii_byte p) h in
    IsAscii-cons b p (below b a.0) (is_ascii p a.1)

pub ascii_utf8 : (p : List ℕ) → list_all is_ascii_byte p ≡ true → IsUtf8 p
ascii_utf8 p h = IsUtf8-from_ascii p (is_ascii p h)

-- ---- what the code answers

-- a path in ASCII, as a text, on the rows of the table
pub table_at : (rows : Routed) (p t : List ℕ) → rows ≡ table_rows → list_all is_ascii_byte p ≡ true → t ≡ p
    → answered_route (seek 0 rows t) ≡ find (is_path_of p) all_routes
table_at rows p t is_table ascii same =
    ap₂ (λ (r : Routed) (q : List ℕ). answered_route (seek 0 r q)) is_table same ∙ table_finds p (ascii_text p ascii)

-- a path in ASCII is a text
pub ascii_no_fault : (p : List ℕ) → list_all is_ascii_byte p ≡ true → ¬ (IsUtf8 p) → ⊥
ascii_no_fault p ascii differs = differs (ascii_utf8 p ascii)

-- the rows of the table have for each path the route that it names
pub table_routes : (rows : Routed) (path : List ℕ) → rows ≡ table_rows → route_in rows path ≡ route_of path
table_routes rows path is_table = by (list_all is_ascii_byte path) refl
  where
    by : (ascii : Bool) → list_all is_ascii_byte path ≡ ascii
        → (if ascii then answered_route (first rows path) else None) ≡ (if ascii then find (is_path_of path) all_routes else None)
    by true ascii = table_at rows path path is_table ascii refl
    by false ascii = refl

-- the same of a path in ASCII
pub table_ascii : (rows : Routed) (path : List ℕ) → rows ≡ table_rows → list_all is_ascii_byte path ≡ true
    → route_in rows path ≡ find (is_path_of path) all_routes
table_ascii rows path is_table ascii = rw ascii (table_at rows path path is_table ascii refl)
