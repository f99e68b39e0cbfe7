-- Two routes have no path in common where they have another number of pieces, or other words at one place.
use Rattle.std.proofs.Common.{◌≡◌, refl, sym, ◌∙◌, ap, ap₂, List, [], ◌∷◌, ℕ, Bool, true, false, true≢false}
use Rattle.std.specs.Prelude.{not, ◌&&◌, ◌||◌, bytes_eq, if◌then◌else◌}
use Rattle.std.specs.List.{list_all}
use Rattle.std.proofs.lemmas.Bool.{and_parts}
use Rattle.std.proofs.lemmas.Slice.Eq.{bytes_eq-Decides}
use Rattle.media_rows.specs.Lists.{each_pair}
use Rattle.http_routes.specs.Paths.{has_byte, is_in_braces, is_path_of, piece_fits, path_pieces, pieces_fit}
use Rattle.http_routes.specs.Table.{all_routes, route_text}
use Rattle.http_routes.specs.declared.route.Route.{Route}

-- two pieces of routes are words, and not the same
abbrev differ : List ℕ → List ℕ → Bool
differ p q = not (is_in_braces p) && not (is_in_braces q) && not (bytes_eq p q)

-- the pieces of two routes that have no path in common
abbrev clash : List (List ℕ) → List (List ℕ) → Bool
clash [] [] = false
clash [] (q ∷ qs) = true
clash (p ∷ ps) [] = true
clash (p ∷ ps) (q ∷ qs) = differ p q || clash ps qs

-- no piece is each of two words
one : (p q x : List ℕ) (a b : Bool) → bytes_eq p x ≡ a → bytes_eq q x ≡ b → not (bytes_eq p q) ≡ true → (a && b) ≡ false
one p q x false b is_p is_q h = refl
one p q x true false is_p is_q h = refl
one p q x true true is_p is_q h =
    let same : p ≡ q = (bytes_eq-Decides p x).0 is_p ∙ sym ((bytes_eq-Decides q x).0 is_q) in
    absurd (true≢false (sym h ∙ ap not ((bytes_eq-Decides p q).1 same)))

words : (p q x : List ℕ) (in_p in_q : Bool) → (not in_p && not in_q && not (bytes_eq p q)) ≡ true
    → ((if in_p then has_byte x else bytes_eq p x) && (if in_q then has_byte x else bytes_eq q x)) ≡ false
words p q x true in_q h = absurd (true≢false (sym h))
words p q x false true h = absurd (true≢false (sym h))
words p q x false false h = one p q x (bytes_eq p x) (bytes_eq q x) refl refl h

and_none : (a : Bool) → (a && false) ≡ false
and_none true = refl
and_none false = refl

first_none : (a b c d : Bool) → (a && c) ≡ false → ((a && b) && (c && d)) ≡ false
first_none false b c d h = refl
first_none true b false d h = and_none b
first_none true b true d h = absurd (true≢false h)

rest_none : (a b c d : Bool) → (b && d) ≡ false → ((a && b) && (c && d)) ≡ false
rest_none false b c d h = refl
rest_none true false c d h = refl
rest_none true true c true h = absurd (true≢false h)
rest_none true true true false h = refl
rest_none true true false false h = refl

-- by whether the first pieces differ, where the others have the law
apart_by : (p q x : List ℕ) (ps qs xs : List (List ℕ)) (now : Bool) → differ p q ≡ now → (now || clash ps qs) ≡ true
    → (clash ps qs ≡ true → (pieces_fit ps xs && pieces_fit qs xs) ≡ false)
    → (pieces_fit (p ∷ ps) (x ∷ xs) && pieces_fit (q ∷ qs) (x ∷ xs)) ≡ false
apart_by p q x ps qs xs true is h later =
    first_none (piece_fits p x) (pieces_fit ps xs) (piece_fits q x) (pieces_fit qs xs) (words p q x (is_in_braces p) (is_in_braces q) is)
apart_by p q x ps qs xs false is h later =
    rest_none (piece_fits p x) (pieces_fit ps xs) (piece_fits q x) (pieces_fit qs xs) (later h)

-- no pieces fit those of two routes that clash
apart : (ps qs xs : List (List ℕ)) → clash ps qs ≡ true → (pieces_fit ps xs && pieces_fit qs xs) ≡ false
apart [] [] xs h = absurd (true≢false (sym h))
apart [] (q ∷ qs) [] h = refl
apart [] (q ∷ qs) (x ∷ xs) h = refl
apart (p ∷ ps) [] [] h = refl
apart (p ∷ ps) [] (x ∷ xs) h = and_none (pieces_fit (p ∷ ps) (x ∷ xs))
apart (p ∷ ps) (q ∷ qs) [] h = refl
apart (p ∷ ps) (q ∷ qs) (x ∷ xs) h = apart_by p q x ps qs xs (differ p q) refl h (apart ps qs xs)

-- what follows for each item from a test on it
all_from : {X : Type 0} (f g : X → Bool) → ((x : X) → f x ≡ true → g x ≡ true) → (xs : List X) → list_all f xs ≡ true → list_all g xs ≡ true
all_from f g k [] h = refl
all_from f g k (x ∷ xs) h =
    let both = and_parts (f x) (list_all f xs) h in ap₂ (λ a b. a && b) (k x both.0) (all_from f g k xs both.1)

pairs_from : {X : Type 0} (f g : X → X → Bool) → ((x y : X) → f x y ≡ true → g x y ≡ true) → (xs : List X) → each_pair f xs ≡ true
    → each_pair g xs ≡ true
pairs_from f g k [] h = refl
pairs_from f g k (x ∷ xs) h =
    let both = and_parts (list_all (f x) xs) (each_pair f xs) h in
    ap₂ (λ a b. a && b) (all_from (f x) (g x) (k x) xs both.0) (pairs_from f g k xs both.1)

-- the pieces of two routes clash
abbrev routes_clash : Route → Route → Bool
routes_clash route other = clash (path_pieces (route_text route)) (path_pieces (route_text other))

all_clash : each_pair routes_clash all_routes ≡ true
unfolding path_pieces all_routes
all_clash = refl

-- no path is one of two routes
pub routes_apart : (path : List ℕ) → each_pair (λ route other. not (is_path_of path route && is_path_of path other)) all_routes ≡ true
routes_apart path =
    pairs_from routes_clash _
    (λ route other h. ap not (apart (path_pieces (route_text route)) (path_pieces (route_text other)) (path_pieces path) h)) all_routes all_clash
