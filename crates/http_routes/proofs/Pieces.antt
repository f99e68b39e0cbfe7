-- The pieces of a text: the first one, and those behind the first slash.
use Rattle.std.proofs.Common.{◌≡◌, refl, ap, ℕ, List, [], ◌∷◌, Option, Some, None, Bool, true, false, ◌==◌}
use Rattle.std.specs.Prelude.{if◌then◌else◌}
use Rattle.http_routes.specs.Paths.{bytes_before, bytes_behind, slash, onto_first, path_pieces}

-- the pieces behind the first slash
abbrev pub later : Option (List ℕ) → List (List ℕ)
later None = []
later (Some bytes) = path_pieces bytes

step : (b : ℕ) (bytes : List ℕ) (is : Bool) → path_pieces bytes ≡ bytes_before slash bytes ∷ later (bytes_behind slash bytes)
    → (if is then [] ∷ path_pieces bytes else onto_first b (path_pieces bytes))
    ≡ (if is then [] else b ∷ bytes_before slash bytes) ∷ later (if is then Some bytes else bytes_behind slash bytes)
step b bytes true h = refl
step b bytes false h = ap (onto_first b) h

-- the first piece stands before the first slash, and the others behind it
pub pieces_cut : (bytes : List ℕ) → path_pieces bytes ≡ bytes_before slash bytes ∷ later (bytes_behind slash bytes)
unfolding path_pieces
pieces_cut [] = refl
pieces_cut (b ∷ bytes) = step b bytes (b == slash) (pieces_cut bytes)
