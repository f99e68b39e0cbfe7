-- The parts of a target (RFC 3986, section 3): its path, its query, and the pieces of a path
-- between slashes; and which route a path names.
use Rattle.std.specs.Prelude.{ℕ, List, [], ◌∷◌, Bool, true, false, ◌&&◌, ◌==◌, nat_eq, nat_lt, get_or, Option, Some, None, unwrap_or, if◌then◌else◌, find, bytes_eq, codes}
use Rattle.std.specs.List.{list_all, starts_with}
use Rattle.http_routes.specs.Table.{all_routes, route_text}
use Rattle.http_routes.specs.declared.route.Route.{Route}

-- ---- cutting

-- the bytes before the first one of this value, or all
abbrev pub bytes_before : ℕ → List ℕ → List ℕ
bytes_before mark [] = []
bytes_before mark (b ∷ bytes) = if b == mark then [] else b ∷ bytes_before mark bytes

-- the bytes behind the first one of this value, where there is one
abbrev pub bytes_behind : ℕ → List ℕ → Option (List ℕ)
bytes_behind mark [] = None
bytes_behind mark (b ∷ bytes) = if b == mark then Some bytes else bytes_behind mark bytes

-- `?`, behind which the query stands
abbrev pub question_mark : ℕ
question_mark = 63

-- `/`, which stands between the pieces of a path
abbrev pub slash : ℕ
slash = 47

-- the path of a target, as it was sent
abbrev pub path_of : List ℕ → List ℕ
path_of target = bytes_before question_mark target

-- the query of a target, which is empty where there is none
abbrev pub query_of : List ℕ → List ℕ
query_of target = unwrap_or (bytes_behind question_mark target) []

-- ---- pieces

-- a byte more at the front of the first piece
abbrev pub onto_first : ℕ → List (List ℕ) → List (List ℕ)
onto_first b [] = (b ∷ []) ∷ []
onto_first b (piece ∷ path_pieces) = (b ∷ piece) ∷ path_pieces

-- the pieces of a text between its slashes
unfoldable pub path_pieces : List ℕ → List (List ℕ)
path_pieces [] = [] ∷ []
path_pieces (b ∷ bytes) = if b == slash then [] ∷ path_pieces bytes else onto_first b
    (path_pieces bytes)

-- the piece behind so many slashes, which is empty where there is none
abbrev pub piece_at : ℕ → List ℕ → List ℕ
piece_at place path = get_or (path_pieces path) place []

-- ---- routes

-- a piece of a route stands in braces
abbrev pub is_in_braces : List ℕ → Bool
is_in_braces piece = starts_with nat_eq piece (codes "{")

-- it has a byte
abbrev pub has_byte : List ℕ → Bool
has_byte [] = false
has_byte (b ∷ bytes) = true

-- A piece of a path is what a piece of a route says: any one that isn't empty for one in braces,
-- and the same otherwise.
abbrev pub piece_fits : List ℕ → List ℕ → Bool
piece_fits piece part = if is_in_braces piece then has_byte part else bytes_eq piece part

-- so it is for each of them
abbrev pub pieces_fit : List (List ℕ) → List (List ℕ) → Bool
pieces_fit [] [] = true
pieces_fit [] (part ∷ parts) = false
pieces_fit (piece ∷ path_pieces) [] = false
pieces_fit (piece ∷ path_pieces) (part ∷ parts) = piece_fits piece part && pieces_fit path_pieces
    parts

-- a path is one of a route
abbrev pub is_path_of : List ℕ → Route → Bool
is_path_of path route = pieces_fit (path_pieces (route_text route)) (path_pieces path)

-- a byte of ASCII
abbrev pub is_ascii_byte : ℕ → Bool
is_ascii_byte b = nat_lt b 128

-- the route that a path names: it is in ASCII, and is one of that route
abbrev pub route_of : List ℕ → Option Route
route_of path = if list_all is_ascii_byte path then find (is_path_of path) all_routes else None
