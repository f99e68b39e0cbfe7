-- Lists of pieces: their bytes, what they count, and what had begun of them.
use Rattle.std.proofs.Common.{◌≡◌, ◌≤◌, ◌-◌, ◌⊎◌, Bool, true, false, true≢false, ℕ, zero, suc, max, List, [], ◌∷◌, ◌++◌, length, map, refl, sym, ap, ◌∙◌, inl, inr, arith}
use Rattle.std.proofs.lemmas.List.{append-nil, length-append, map-append}
use Rattle.std.specs.List.{AllByRecursion}
use Rattle.std.proofs.lemmas.Grind.{flat_map-append}
use Rattle.site_edge.specs.Links.{change_last}
use Rattle.site_edge.specs.Saying.{ArePrefixes, IsPrefix, said_also}
use Rattle.run_history.specs.Steps.{Interim, Piece, Reply, piece_bytes}
use Rattle.run_history.specs.Sessions.{bytes_of_pieces}
use Rattle.run_history.specs.Traces.{begun, begun_in}
use Rattle.run_history.specs.Laws.{BegunIsGreatest, ReplyHasBegun}
use Rattle.run_history.specs.Growing.{CountAtMost, counted_by}

pub bytes-push : (pieces : List Piece) (p : Piece) → bytes_of_pieces (pieces ++ p ∷ []) ≡ bytes_of_pieces pieces ++ piece_bytes p
bytes-push pieces p =
    flat_map-append piece_bytes pieces (p ∷ []) ∙ ap (λ b. bytes_of_pieces pieces ++ b) (append-nil (piece_bytes p))

-- a piece more of the last script is so many bytes more
pub bytes-piece : (scripts : List (List Piece)) (p : Piece) → map bytes_of_pieces (change_last (λ s. s ++ p ∷ []) scripts) ≡ said_also (piece_bytes p)
    (map bytes_of_pieces scripts)
bytes-piece [] p = refl
bytes-piece (s ∷ []) p = ap (λ b. b ∷ []) (bytes-push s p)
bytes-piece (s ∷ r ∷ scripts) p = ap (λ b. bytes_of_pieces s ∷ b) (bytes-piece (r ∷ scripts) p)

pub bytes-connection : (scripts : List (List Piece)) → map bytes_of_pieces (scripts ++ [] ∷ []) ≡ map bytes_of_pieces scripts ++ [] ∷ []
bytes-connection scripts = map-append bytes_of_pieces scripts ([] ∷ [])

-- a prefix is no longer than its text
pub prefix-length : (front text : List ℕ) → IsPrefix front text → length front ≤ length text
prefix-length front text is =
    let longer = ap length is.1 ∙ length-append front is.0 in
    omega (arith, longer)

-- ---- what had begun

-- a piece behind all bytes that were told begins nothing
begun_in-push : (script : List Piece) (p : Piece) (n : ℕ) → n ≤ length (bytes_of_pieces script) → begun_in (script ++ p ∷ []) n ≡ begun_in script n
begun_in-push [] (Interim bytes) zero le = refl
begun_in-push [] (Reply bytes made) zero le = refl
begun_in-push [] p (suc n) le = absurd (omega (arith, le))
begun_in-push (Interim bytes ∷ script) p n le =
    begun_in-push script p (n - length bytes) (omega (arith, le, length-append bytes (bytes_of_pieces script)))
begun_in-push (Reply bytes made ∷ script) p zero le = refl
begun_in-push (Reply bytes made ∷ script) p (suc n) le =
    ap (max made) (begun_in-push script p (suc n - length bytes) (omega (arith, le, length-append bytes (bytes_of_pieces script))))

pub begun-piece : (scripts : List (List Piece)) (p : Piece) (told : List (List ℕ)) → ArePrefixes told (map bytes_of_pieces scripts)
    → begun (change_last (λ s. s ++ p ∷ []) scripts) told ≡ begun scripts told
begun-piece [] p told are = refl
begun-piece (s ∷ []) p [] are = refl
begun-piece (s ∷ []) p (t ∷ told) are =
    ap (λ n. max n (begun [] told)) (begun_in-push s p (length t) (prefix-length t (bytes_of_pieces s) are.0))
begun-piece (s ∷ r ∷ scripts) p [] are = refl
begun-piece (s ∷ r ∷ scripts) p (t ∷ told) are =
    ap (max (begun_in s (length t))) (begun-piece (r ∷ scripts) p told are.1)

pub begun-connection : (scripts : List (List Piece)) (told : List (List ℕ)) → begun (scripts ++ [] ∷ []) told ≡ begun scripts told
begun-connection [] [] = refl
begun-connection [] (t ∷ told) = refl
begun-connection (s ∷ scripts) [] = refl
begun-connection (s ∷ scripts) (t ∷ told) = ap (max (begun_in s (length t))) (begun-connection scripts told)

begun_in-most : (script : List Piece) (told n : ℕ) → AllByRecursion (λ p. counted_by p ≤ n) script → begun_in script told ≤ n
begun_in-most [] told n all = omega arith
begun_in-most (Interim bytes ∷ script) told n all = begun_in-most script (told - length bytes) n all.1
begun_in-most (Reply bytes made ∷ script) zero n all = omega arith
begun_in-most (Reply bytes made ∷ script) (suc k) n all =
    let rest = begun_in-most script (suc k - length bytes) n all.1 in
    let here = all.0 in
    omega (arith, rest, here)

-- where each piece counts at most so many changes, no more had begun
pub begun-most : (scripts : List (List Piece)) (told : List (List ℕ)) (n : ℕ) → CountAtMost n scripts → begun scripts told ≤ n
begun-most [] told n all = omega arith
begun-most (s ∷ scripts) [] n all = omega arith
begun-most (s ∷ scripts) (t ∷ told) n all =
    let here = begun_in-most s (length t) n all.0 in
    let rest = begun-most scripts told n all.1 in
    omega (arith, here, rest)

-- ---- what pieces count

pieces-count : (script : List Piece) (p : Piece) (n : ℕ) → AllByRecursion (λ p. counted_by p ≤ n) script → counted_by p ≤ n
    → AllByRecursion (λ p. counted_by p ≤ n) (script ++ p ∷ [])
pieces-count [] p n all le = (le, tt)
pieces-count (q ∷ script) p n all le = (all.0, pieces-count script p n all.1 le)

pub count-piece : (scripts : List (List Piece)) (p : Piece) (n : ℕ) → CountAtMost n scripts → counted_by p ≤ n
    → CountAtMost n (change_last (λ s. s ++ p ∷ []) scripts)
count-piece [] p n all le = all
count-piece (s ∷ []) p n all le = (pieces-count s p n all.0 le, tt)
count-piece (s ∷ r ∷ scripts) p n all le = (all.0, count-piece (r ∷ scripts) p n all.1 le)

pub count-connection : (scripts : List (List Piece)) (n : ℕ) → CountAtMost n scripts → CountAtMost n (scripts ++ [] ∷ [])
count-connection [] n all = (tt, tt)
count-connection (s ∷ scripts) n all = (all.0, count-connection scripts n all.1)

pieces-more : (script : List Piece) (n m : ℕ) → n ≤ m → AllByRecursion (λ p. counted_by p ≤ n) script → AllByRecursion (λ p. counted_by p ≤ m) script
pieces-more [] n m le all = tt
pieces-more (p ∷ script) n m le all = (omega (arith, le, all.0), pieces-more script n m le all.1)

pub count-more : (scripts : List (List Piece)) (n m : ℕ) → n ≤ m → CountAtMost n scripts → CountAtMost m scripts
count-more [] n m le all = tt
count-more (s ∷ scripts) n m le all = (pieces-more s n m le all.0, count-more scripts n m le all.1)

-- ---- the number is the greatest

head_or : Piece → List Piece → Piece
head_or p [] = p
head_or p (q ∷ later) = q

tail_of : List Piece → List Piece
tail_of [] = []
tail_of (q ∷ later) = later

is_interim : Piece → Bool
is_interim (Interim bytes) = true
is_interim (Reply bytes made) = false

interim-reply : (a b : List ℕ) (made : ℕ) → Interim a ≡ Reply b made → ⊥
unfolding is_interim
interim-reply a b made e = true≢false (ap is_interim e)

-- an answer behind one piece more
has_later : (p : Piece) (script : List Piece) (told made : ℕ) → ReplyHasBegun script (told - length (piece_bytes p)) made → ReplyHasBegun (p ∷ script) told made
has_later p script told made h =
    let longer = length-append (piece_bytes p) (bytes_of_pieces h.front) in
    record {
      front = p ∷ h.front;
      bytes = h.bytes;
      rear = h.rear;
      script_is = ap (λ s. p ∷ s) h.script_is;
      reached = omega (arith, h.reached, longer);
    }

-- an answer at the front, or behind the first piece
split-script : (p : Piece) (script front rear : List Piece) (bytes : List ℕ) (made : ℕ) → p ∷ script ≡ front ++ Reply bytes made ∷ rear
    → ((front ≡ []) × (p ≡ Reply bytes made)) ⊎ ((later : List Piece) × (front ≡ p ∷ later) × (script ≡ later ++ Reply bytes made ∷ rear))
unfolding head_or tail_of
split-script p script [] rear bytes made is = inl (refl, ap (head_or p) is)
split-script p script (q ∷ later) rear bytes made is = inr (later, ap (λ x. x ∷ later) (sym (ap (head_or p) is)), ap tail_of is)

greatest-bounds : (script : List Piece) (told n : ℕ) → begun_in script told ≤ n → (made : ℕ) → ReplyHasBegun script told made → made ≤ n
greatest-bounds [] told n le made h = absurd (omega (arith, ap length h.script_is, length-append h.front (Reply h.bytes made ∷ h.rear)))
greatest-bounds (Interim bytes ∷ script) told n le made h = elim (split-script (Interim bytes) script h.front h.rear h.bytes made h.script_is) [
  | inl first ↦ absurd (interim-reply bytes h.bytes made first.1)
  | inr later ↦
      greatest-bounds script (told - length bytes) n le made
      (record {
        front = later.0;
        bytes = h.bytes;
        rear = h.rear;
        script_is = later.2;
        reached = omega (
          arith,
          h.reached,
          ap (λ f. length (bytes_of_pieces f)) later.1,
          length-append bytes (bytes_of_pieces later.0),
        );
      })
]
greatest-bounds (Reply bytes counted ∷ script) zero n le made h = absurd (omega (arith, h.reached))
greatest-bounds (Reply bytes counted ∷ script) (suc k) n le made h = elim (split-script (Reply bytes counted) script h.front h.rear h.bytes made h.script_is) [
  | inl first ↦ omega (arith, le, ap counted_by first.1)
  | inr later ↦
      greatest-bounds script (suc k - length bytes) n (omega (arith, le)) made
      (record {
        front = later.0;
        bytes = h.bytes;
        rear = h.rear;
        script_is = later.2;
        reached = omega (
          arith,
          h.reached,
          ap (λ f. length (bytes_of_pieces f)) later.1,
          length-append bytes (bytes_of_pieces later.0),
        );
      })
]

greatest-reached : (script : List Piece) (told n : ℕ) → ((made : ℕ) → ReplyHasBegun script told made → made ≤ n) → begun_in script told ≤ n
greatest-reached [] told n all = omega arith
greatest-reached (Interim bytes ∷ script) told n all =
    greatest-reached script (told - length bytes) n (λ made h. all made (has_later (Interim bytes) script told made h))
greatest-reached (Reply bytes made ∷ script) zero n all = omega arith
greatest-reached (Reply bytes made ∷ script) (suc k) n all =
    let rest = greatest-reached script (suc k - length bytes) n (λ m h. all m (has_later (Reply bytes made) script (suc k) m h)) in
    let here = all made (record { front = []; bytes = bytes; rear = script; script_is = refl; reached = omega arith }) in
    omega (arith, rest, here)

pub begun_is_greatest : BegunIsGreatest
begun_is_greatest script told n = (greatest-bounds script told n, greatest-reached script told n)
