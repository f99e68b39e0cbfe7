-- Ends of heads and of lines under more bytes.
use Rattle.std.proofs.Common.{◌≡◌, ℕ, suc, ◌+◌, ◌≤◌, ◌==◌, Bool, true, false, cond, List, [], ◌∷◌, ◌++◌, length, take, drop, refl, sym, ap, arith, Option, Some, None, take-append-drop}
use Rattle.std.proofs.lemmas.List.{length-take-le}
use Rattle.http_wire.specs.declared.lines.LinePlace.{LinePlace}
use Rattle.http_wire.specs.declared.lines.Looked.{Looked}
use Rattle.http_wire.specs.declared.lines.Looked.TheVariants.{Ended, Still}
use Rattle.http_wire.specs.Lines.{next_place, one_on, behind_byte, looked, line_end, further}

-- what is found, so many bytes on
abbrev pub on_by : ℕ → Looked → Looked
on_by n (Ended m) = Ended (n + m)
on_by n (Still place) = Still place

-- the same of an end of a line
abbrev pub further_by : ℕ → Option ℕ → Option ℕ
further_by n None = None
further_by n (Some m) = Some (n + m)

-- ---- lines

some_is_some : (n : ℕ) → Some n ≡ None → ⊥
some_is_some n e = cc

further-further_by : (k : ℕ) (rest : Option ℕ) → further (further_by k rest) ≡ further_by (suc k) rest
further-further_by k None = refl
further-further_by k (Some m) = let e : k + m + 1 ≡ suc k + m = omega arith in ap (λ n. Some n) e

further_by-zero : (rest : Option ℕ) → further_by 0 rest ≡ rest
further_by-zero None = refl
further_by-zero (Some m) = let e : 0 + m ≡ m = omega arith in ap (λ n. Some n) e

step_none : (b : Bool) (front all rest : Option ℕ) (k : ℕ) → (front ≡ None → all ≡ further_by k rest)
    → cond b (Some 1) (further front) ≡ None → cond b (Some 1) (further all) ≡ further_by (suc k) rest
step_none true front all rest k same e = absurd (some_is_some 1 e)
step_none false None all rest k same e = rw (same refl) (further-further_by k rest)
step_none false (Some m) all rest k same e = absurd (some_is_some (m + 1) e)

step_some : (b : Bool) (front all : Option ℕ) (n : ℕ) → ((m : ℕ) → front ≡ Some m → all ≡ Some m)
    → cond b (Some 1) (further front) ≡ Some n → cond b (Some 1) (further all) ≡ Some n
step_some true front all n same e = e
step_some false None all n same e = cc
step_some false (Some m) all n same e = rw (same m refl) e

-- where a line doesn't end, its end is behind
pub line_end-append_none : (xs ys : List ℕ) → line_end xs ≡ None
    → line_end (xs ++ ys) ≡ further_by (length xs) (line_end ys)
line_end-append_none [] ys e = sym (further_by-zero (line_end ys))
line_end-append_none (x ∷ xs) ys e =
    step_none (x == 10) (line_end xs) (line_end (xs ++ ys)) (line_end ys) (length xs) (line_end-append_none xs ys) e

-- where it ends, it ends whatever follows
pub line_end-append_some : (xs ys : List ℕ) (n : ℕ) → line_end xs ≡ Some n → line_end (xs ++ ys) ≡ Some n
line_end-append_some [] ys n e = cc
line_end-append_some (x ∷ xs) ys n e =
    step_some (x == 10) (line_end xs) (line_end (xs ++ ys)) n (line_end-append_some xs ys) e

-- the same by a number of bytes
pub line_end-drop : (bytes : List ℕ) (n : ℕ) → n ≤ length bytes → line_end (take n bytes) ≡ None
    → line_end bytes ≡ further_by n (line_end (drop n bytes))
line_end-drop bytes n inside none =
    rw (length-take-le n bytes inside, take-append-drop) at (line_end-append_none (take n bytes) (drop n bytes) none)

-- ---- heads

on_by-one_on : (k : ℕ) (rest : Looked) → one_on (on_by k rest) ≡ on_by (suc k) rest
on_by-one_on k (Still place) = refl
on_by-one_on k (Ended m) = let e : k + m + 1 ≡ suc k + m = omega arith in ap (λ n. Ended n) e

on_by-zero : (rest : Looked) → on_by 0 rest ≡ rest
on_by-zero (Still place) = refl
on_by-zero (Ended m) = let e : 0 + m ≡ m = omega arith in ap (λ n. Ended n) e

one_still : (front all rest : Looked) (place : LinePlace) (k : ℕ) → (front ≡ Still place → all ≡ on_by k rest)
    → one_on front ≡ Still place → one_on all ≡ on_by (suc k) rest
one_still (Ended m) all rest place k same e = cc
one_still (Still q) all rest place k same e = rw (same e) (on_by-one_on k rest)

step_still : (o : Option LinePlace) (front all : LinePlace → Looked) (rest : Looked) (place : LinePlace) (k : ℕ)
    → ((q : LinePlace) → front q ≡ Still place → all q ≡ on_by k rest)
    → behind_byte o front ≡ Still place → behind_byte o all ≡ on_by (suc k) rest
step_still None front all rest place k same e = cc
step_still (Some q) front all rest place k same e = one_still (front q) (all q) rest place k (same q) e

one_ended : (front all : Looked) (n : ℕ) → ((m : ℕ) → front ≡ Ended m → all ≡ Ended m)
    → one_on front ≡ Ended n → one_on all ≡ Ended n
one_ended (Ended m) all n same e = rw (same m refl) e
one_ended (Still q) all n same e = cc

step_ended : (o : Option LinePlace) (front all : LinePlace → Looked) (n : ℕ)
    → ((q : LinePlace) (m : ℕ) → front q ≡ Ended m → all q ≡ Ended m)
    → behind_byte o front ≡ Ended n → behind_byte o all ≡ Ended n
step_ended None front all n same e = e
step_ended (Some q) front all n same e = one_ended (front q) (all q) n (same q) e

-- where a head doesn't end, its end is behind
pub looked-append_still : (p : LinePlace) (xs ys : List ℕ) (q : LinePlace) → looked p xs ≡ Still q
    → looked p (xs ++ ys) ≡ on_by (length xs) (looked q ys)
looked-append_still p [] ys q e =
    let same : p ≡ q = cc in rw same (sym (on_by-zero (looked q ys)))
looked-append_still p (x ∷ xs) ys q e =
    step_still (next_place p x) (λ r. looked r xs) (λ r. looked r (xs ++ ys)) (looked q ys) q (length xs)
    (λ r. looked-append_still r xs ys q) e

-- where it ends, it ends whatever follows
pub looked-append_ended : (p : LinePlace) (xs ys : List ℕ) (n : ℕ) → looked p xs ≡ Ended n → looked p (xs ++ ys) ≡ Ended n
looked-append_ended p [] ys n e = cc
looked-append_ended p (x ∷ xs) ys n e =
    step_ended (next_place p x) (λ r. looked r xs) (λ r. looked r (xs ++ ys)) n
    (λ r. looked-append_ended r xs ys) e

-- the same by a number of bytes
pub looked-drop : (bytes : List ℕ) (n : ℕ) (p q : LinePlace) → n ≤ length bytes → looked p (take n bytes) ≡ Still q
    → looked p bytes ≡ on_by n (looked q (drop n bytes))
looked-drop bytes n p q inside still =
    rw (length-take-le n bytes inside, take-append-drop) at (looked-append_still p (take n bytes) (drop n bytes) q still)

one_inside : (found : Looked) (n k : ℕ) → ((m : ℕ) → found ≡ Ended m → m ≤ k) → one_on found ≡ Ended n → n ≤ suc k
one_inside (Ended m) n k inside e = let same : m + 1 ≡ n = cc in omega (arith, inside m refl)
one_inside (Still q) n k inside e = cc

step_inside : (o : Option LinePlace) (later : LinePlace → Looked) (n k : ℕ) → ((q : LinePlace) (m : ℕ) → later q ≡ Ended m → m ≤ k)
    → behind_byte o later ≡ Ended n → n ≤ suc k
step_inside None later n k inside e = let same : 1 ≡ n = cc in omega arith
step_inside (Some q) later n k inside e = one_inside (later q) n k (inside q) e

-- a head ends within the bytes
pub looked_inside : (p : LinePlace) (bytes : List ℕ) (n : ℕ) → looked p bytes ≡ Ended n → n ≤ length bytes
looked_inside p [] n e = cc
looked_inside p (x ∷ bytes) n e =
    step_inside (next_place p x) (λ q. looked q bytes) n (length bytes) (λ q. looked_inside q bytes) e
