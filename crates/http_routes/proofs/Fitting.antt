-- A pattern that is made of a route's pieces fits a path exactly where the pieces do.
use Rattle.std.proofs.Common.{◌≡◌, refl, sym, ◌∙◌, ap, ℕ, List, [], ◌∷◌, ◌++◌, Option, Some, Bool, true, false, cond, ◌==◌, ◌&&◌, arith}
use Rattle.std.specs.Prelude.{not, bytes_eq}
use Rattle.std.proofs.lemmas.Bool.Decides.{nat_tests}
use Rattle.matchit.specs.Rows.{param_token}
use Rattle.http_routes.specs.Paths.{bytes_before, bytes_behind, has_byte, is_in_braces, path_pieces, piece_fits, pieces_fit, slash}
use Rattle.http_routes.proofs.Pieces.{later, pieces_cut}
use Rattle.http_routes.proofs.Seeking.{after_run, byte_row, ends_piece, fits, same_byte}

-- the tokens of a piece: a parameter for one in braces, and else its bytes
abbrev pub token_of : List ℕ → List ℕ
token_of piece = cond {A = List ℕ} (is_in_braces piece) (param_token ∷ []) piece

-- the tokens of pieces, each behind a slash
abbrev pub behind : List (List ℕ) → List ℕ
behind [] = []
behind (piece ∷ pieces) = slash ∷ (token_of piece ++ behind pieces)

-- the tokens of a text's pieces
abbrev pub tokens : List (List ℕ) → List ℕ
tokens [] = []
tokens (piece ∷ pieces) = token_of piece ++ behind pieces

-- a piece that stands for itself has neither a slash nor a token of a parameter
abbrev pub IsWord : List ℕ → Type 0
IsWord [] = Unit {0}
IsWord (x ∷ w) = ((x == param_token) ≡ false) × ((x == slash) ≡ false) × IsWord w

abbrev pub AreGood : List (List ℕ) → Type 0
AreGood [] = Unit {0}
AreGood (piece ∷ pieces) = (is_in_braces piece ≡ false → IsWord piece) × AreGood pieces

ends_behind : (pieces : List (List ℕ)) → ends_piece (behind pieces) ≡ true
ends_behind [] = refl
ends_behind (piece ∷ pieces) = refl

and_grouped : (a b c : Bool) → (a && (b && c)) ≡ ((a && b) && c)
and_grouped true b c = refl
and_grouped false b c = refl

rest_stops : (r : List ℕ) (b : ℕ) (p : List ℕ) → ends_piece r ≡ true → (b == slash) ≡ false → fits r (b ∷ p) ≡ false
rest_stops [] b p h e = refl
rest_stops (y ∷ u) b p h e =
    let same : y ≡ slash = same_byte y slash h in
    let n : (slash == b) ≡ false = grind (arith, nat_tests) in
    rw same (ap (λ (v : Bool). v && fits u p) n)

word_fits : (w r path : List ℕ) → IsWord w → ends_piece r ≡ true
    → fits (w ++ r) path ≡ (bytes_eq w (bytes_before slash path) && fits r (after_run path))
word_fits [] r [] h e = refl
word_fits [] r (b ∷ p) h e = by (b == slash) refl
  where
    by : (v : Bool) → (b == slash) ≡ v
        → fits r (b ∷ p) ≡ (bytes_eq [] (cond {A = List ℕ} v [] (b ∷ bytes_before slash p)) && fits r (cond {A = List ℕ} v (b ∷ p) (after_run p)))
    by true ev = refl
    by false ev = rest_stops r b p e ev
word_fits (x ∷ w) r [] h e = refl
word_fits (x ∷ w) r (b ∷ p) h e = byte_row x b (w ++ r) p h.0 ∙ by (b == slash) refl (word_fits w r p h.2 e)
  where
    by : (v : Bool) → (b == slash) ≡ v → fits (w ++ r) p ≡ (bytes_eq w (bytes_before slash p) && fits r (after_run p))
        → (x == b && fits (w ++ r) p)
        ≡ (bytes_eq (x ∷ w) (cond {A = List ℕ} v [] (b ∷ bytes_before slash p)) && fits r (cond {A = List ℕ} v (b ∷ p) (after_run p)))
    by true ev ih =
        ap (λ (y : ℕ). x == y && fits (w ++ r) p) (same_byte b slash ev) ∙ ap (λ (v : Bool). v && fits (w ++ r) p) h.1
    by false ev ih =
        ap (λ (v : Bool). x == b && v) ih ∙ and_grouped (x == b) (bytes_eq w (bytes_before slash p)) (fits r (after_run p))

braces_fit : (r path : List ℕ) → fits (param_token ∷ r) path ≡ (has_byte (bytes_before slash path) && fits r (after_run path))
braces_fit r [] = refl
braces_fit r (b ∷ p) = by (b == slash)
  where
    by : (v : Bool) → (not v && fits r (cond {A = List ℕ} v (b ∷ p) (after_run p)))
        ≡ (has_byte (cond {A = List ℕ} v [] (b ∷ bytes_before slash p)) && fits r (cond {A = List ℕ} v (b ∷ p) (after_run p)))
    by true = refl
    by false = refl

-- a piece's tokens take the first piece of a path
piece_first : (piece r path : List ℕ) → (is_in_braces piece ≡ false → IsWord piece) → ends_piece r ≡ true
    → fits (token_of piece ++ r) path ≡ (piece_fits piece (bytes_before slash path) && fits r (after_run path))
piece_first piece r path h e = by (is_in_braces piece) h
  where
    by : (v : Bool) → (v ≡ false → IsWord piece)
        → fits (cond {A = List ℕ} v (param_token ∷ []) piece ++ r) path
        ≡ (cond {A = Bool} v (has_byte (bytes_before slash path)) (bytes_eq piece (bytes_before slash path)) && fits r (after_run path))
    by true k = braces_fit r path
    by false k = word_fits piece r path (k refl) e

-- the pieces behind the first one of a path, by their tokens
abbrev RestFits : List (List ℕ) → Type 0
RestFits pieces = (path : List ℕ) → fits (behind pieces) (after_run path) ≡ pieces_fit pieces (later (bytes_behind slash path))

none_behind : RestFits []
none_behind [] = refl
none_behind (b ∷ p) = by (b == slash) (none_behind p)
  where
    by : (v : Bool) → fits [] (after_run p) ≡ pieces_fit [] (later (bytes_behind slash p))
        → fits [] (cond {A = List ℕ} v (b ∷ p) (after_run p)) ≡ pieces_fit [] (later (cond {A = Option (List ℕ)} v (Some p) (bytes_behind slash p)))
    by true ih = sym (ap (λ (parts : List (List ℕ)). pieces_fit [] parts) (pieces_cut p))
    by false ih = ih

whole : (q : List ℕ) (qs : List (List ℕ)) → (is_in_braces q ≡ false → IsWord q) → RestFits qs → (path : List ℕ)
    → fits (token_of q ++ behind qs) path ≡ pieces_fit (q ∷ qs) (path_pieces path)
whole q qs h rest path =
    piece_first q (behind qs) path h (ends_behind qs)
    ∙ ap (λ (v : Bool). piece_fits q (bytes_before slash path) && v) (rest path)
    ∙ sym (ap (λ (parts : List (List ℕ)). pieces_fit (q ∷ qs) parts) (pieces_cut path))

behind_slash : (q : List ℕ) (qs : List (List ℕ))
    → ((path : List ℕ) → fits (token_of q ++ behind qs) path ≡ pieces_fit (q ∷ qs) (path_pieces path)) → RestFits (q ∷ qs)
behind_slash q qs k [] = refl
behind_slash q qs k (b ∷ p) = by (b == slash) refl (behind_slash q qs k p)
  where
    by : (v : Bool) → (b == slash) ≡ v
        → fits (behind (q ∷ qs)) (after_run p) ≡ pieces_fit (q ∷ qs) (later (bytes_behind slash p))
        → fits (behind (q ∷ qs)) (cond {A = List ℕ} v (b ∷ p) (after_run p))
        ≡ pieces_fit (q ∷ qs) (later (cond {A = Option (List ℕ)} v (Some p) (bytes_behind slash p)))
    by true ev ih = ap (λ (y : ℕ). slash == y && fits (token_of q ++ behind qs) p) (same_byte b slash ev) ∙ k p
    by false ev ih = ih

rest_fits : (pieces : List (List ℕ)) → AreGood pieces → RestFits pieces
rest_fits [] h = none_behind
rest_fits (q ∷ qs) h = behind_slash q qs (whole q qs h.0 (rest_fits qs h.1))

-- the tokens of a route's pieces fit a path exactly where the pieces do
pub tokens_fit : (q : List ℕ) (qs : List (List ℕ)) → AreGood (q ∷ qs) → (path : List ℕ)
    → fits (tokens (q ∷ qs)) path ≡ pieces_fit (q ∷ qs) (path_pieces path)
tokens_fit q qs h path = whole q qs h.0 (rest_fits qs h.1) path
