-- Which targets name the route of media: those that begin with `/media/`, as far as they name a route.
use Rattle.std.proofs.Common.{◌≡◌, ◌⊎◌, inl, inr, refl, sym, ◌∙◌, ap, subst, ℕ, List, [], ◌∷◌, ◌++◌, Option, Some, None, Bool, true, false, ◌==◌, true≢false}
use Rattle.std.specs.Prelude.{nat_eq, length, drop, bytes_eq, find, codes, ◌&&◌, if◌then◌else◌}
use Rattle.std.specs.List.{list_all, starts_with}
use Rattle.std.proofs.lemmas.Bool.{and_parts}
use Rattle.std.proofs.lemmas.Bool.Decides.{Decides-eqb}
use Rattle.std.proofs.lemmas.Slice.Eq.{bytes_eq-Decides, starts_is}
use Rattle.library_laws.proofs.ListLemmas.{find-In}
use Rattle.http_routes.specs.Paths.{bytes_before, has_byte, is_ascii_byte, is_path_of, onto_first, path_of, path_pieces, pieces_fit, question_mark, route_of, slash}
use Rattle.http_routes.specs.Table.{all_routes}
use Rattle.http_routes.specs.declared.route.Route.{Route}
use Rattle.http_routes.specs.declared.route.Route.TheVariants as routes
use Rattle.http_routes.proofs.Pieces.{pieces_cut}

-- the front of the target of a media object
abbrev pub front : List ℕ
front = codes "/media/"

-- ---- pieces, put together again

-- pieces with a slash between
abbrev joined : List (List ℕ) → List ℕ
joined [] = []
joined (piece ∷ []) = piece
joined (piece ∷ next ∷ more) = piece ++ slash ∷ joined (next ∷ more)

joined_onto : (b : ℕ) (pieces : List (List ℕ)) → joined (onto_first b pieces) ≡ b ∷ joined pieces
joined_onto b [] = refl
joined_onto b (piece ∷ []) = refl
joined_onto b (piece ∷ next ∷ more) = refl

joined_behind : (bytes : List ℕ) → joined ([] ∷ path_pieces bytes) ≡ slash ∷ joined (path_pieces bytes)
joined_behind bytes = rw (pieces_cut bytes) refl

slash_is : (b : ℕ) → (b == slash) ≡ true → slash ≡ b
slash_is b e = sym ((Decides-eqb b slash).0 e)

joined_step : (b : ℕ) (bytes : List ℕ) (is : Bool) → (b == slash) ≡ is → joined (path_pieces bytes) ≡ bytes
    → joined (if is then [] ∷ path_pieces bytes else onto_first b (path_pieces bytes)) ≡ b ∷ bytes
joined_step b bytes true e h = joined_behind bytes ∙ ap (λ t. slash ∷ t) h ∙ ap (λ s. s ∷ bytes) (slash_is b e)
joined_step b bytes false e h = joined_onto b (path_pieces bytes) ∙ ap (λ t. b ∷ t) h

-- the pieces of a text make it
joined_pieces : (bytes : List ℕ) → joined (path_pieces bytes) ≡ bytes
unfolding path_pieces
joined_pieces [] = refl
joined_pieces (b ∷ bytes) = joined_step b bytes (b == slash) refl (joined_pieces bytes)

-- ---- a path of the route of media

-- pieces that fit the route's
media_pieces : (pieces : List (List ℕ)) → pieces_fit ([] ∷ codes "media" ∷ codes "{object_id}" ∷ []) pieces ≡ true
    → (id : List ℕ) × (pieces ≡ [] ∷ codes "media" ∷ id ∷ [])
media_pieces [] e = absurd (true≢false (sym e))
media_pieces (first ∷ []) e = absurd (true≢false (sym (and_parts (bytes_eq [] first) false e).1))
media_pieces (first ∷ word ∷ []) e =
    let behind = (and_parts (bytes_eq [] first) _ e).1 in absurd (true≢false (sym (and_parts (bytes_eq (codes "media") word) false behind).1))
media_pieces (first ∷ word ∷ id ∷ []) e =
    let one = and_parts (bytes_eq [] first) (bytes_eq (codes "media") word && (has_byte id && true)) e in
    let two = and_parts (bytes_eq (codes "media") word) (has_byte id && true) one.1 in
    (id, rw (sym ((bytes_eq-Decides [] first).0 one.0), sym ((bytes_eq-Decides (codes "media") word).0 two.0)) refl)
media_pieces (first ∷ word ∷ id ∷ other ∷ more) e =
    let one = and_parts (bytes_eq [] first) _ e in
    let two = and_parts (bytes_eq (codes "media") word) (has_byte id && false) one.1 in
    absurd (true≢false (sym (and_parts (has_byte id) false two.1).1))

media_path : (path : List ℕ) → is_path_of path routes.Media ≡ true → (id : List ℕ) × (path ≡ front ++ id)
unfolding path_pieces
media_path path e =
    let pieces = media_pieces (path_pieces path) e in
    (pieces.0, sym (joined_pieces path) ∙ ap joined pieces.1)

-- ---- what a look-up of routes finds

named_fits : (ascii : Bool) (path : List ℕ) (found : Route) → (if ascii then find (is_path_of path) all_routes else None) ≡ Some found
    → is_path_of path found ≡ true
named_fits true path found e = (find-In (is_path_of path) all_routes found e).1
named_fits false path found e = absurd cc

-- ---- targets

-- what stands behind the path of a target
path_stands : (target : List ℕ) → (rest : List ℕ) × (target ≡ path_of target ++ rest)
path_stands [] = ([], refl)
path_stands (b ∷ bytes) = by (b == question_mark) (path_stands bytes)
  where
    by : (mark : Bool) → (rest : List ℕ) × (bytes ≡ path_of bytes ++ rest)
        → (rest : List ℕ) × (b ∷ bytes ≡ (if mark then [] else b ∷ path_of bytes) ++ rest)
    by true h = (b ∷ bytes, refl)
    by false h = (h.0, ap (λ t. b ∷ t) h.1)

-- a target whose path names the route of media begins with `/media/`
pub named_begins : (target : List ℕ) → route_of (path_of target) ≡ Some routes.Media → starts_with nat_eq target front ≡ true
named_begins target e =
    let path = media_path (path_of target) (named_fits (list_all is_ascii_byte (path_of target)) (path_of target) routes.Media e) in
    let stands = path_stands target in
    (starts_is Decides-eqb target front (starts_with nat_eq target front) refl).1 (path.0 ++ stands.0)
    (stands.1 ∙ ap (λ (p : List ℕ). p ++ stands.0) path.1)

-- ---- and the other way round

-- a route is none, or that of media
abbrev pub MediaAlone : Option Route → Type 0
MediaAlone found = (found ≡ None) ⊎ (found ≡ Some routes.Media)

by_fit : (fits : Bool) → MediaAlone (if fits then Some routes.Media else None)
by_fit true = inr refl
by_fit false = inl refl

front_alone : (rest : List ℕ) → MediaAlone (find (is_path_of (front ++ rest)) all_routes)
unfolding path_pieces all_routes
front_alone rest = by_fit (is_path_of (front ++ rest) routes.Media)

by_ascii : (ascii : Bool) (rest : List ℕ) → MediaAlone (if ascii then find (is_path_of (front ++ rest)) all_routes else None)
by_ascii true rest = front_alone rest
by_ascii false rest = inl refl

path_alone : (rest : List ℕ) → MediaAlone (route_of (path_of (front ++ rest)))
path_alone rest =
    by_ascii (list_all is_ascii_byte (front ++ bytes_before question_mark rest)) (bytes_before question_mark rest)

-- a target that begins with `/media/` names no other route
pub begun_alone : (target : List ℕ) → starts_with nat_eq target front ≡ true → MediaAlone (route_of (path_of target))
begun_alone target e =
    let is = (starts_is Decides-eqb target front (starts_with nat_eq target front) refl).0 e in
    subst (λ (t : List ℕ). MediaAlone (route_of (path_of t))) (sym is) (path_alone (drop (length front) target))
