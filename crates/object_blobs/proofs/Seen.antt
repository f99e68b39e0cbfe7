-- What a look finds among holes at their keys.
use Rattle.std.proofs.Common.{◌≡◌, ℕ, ℤ, negsuc, ◌<ℤ◌, int_lt, ◌+◌, ◌-◌, ◌^◌, ◌<◌, ◌≤◌, nat_le, Bool, true, false, cond, List, [], ◌∷◌, Some, None, filter, length, refl, sym, subst, arith}
use Rattle.std.specs.List.{AllByRecursion}
use Rattle.std.proofs.lemmas.Bool.{le-leb, lt-leb}
use Rattle.std.proofs.lemmas.Int.{ints}
use Rattle.shared_tree.specs.Pairs.{IsRising, first, is_above, last, values}
use Rattle.shared_tree.proofs.Counted.{all_kept, each_passes}
use Rattle.shared_tree.proofs.Rising.{all_map, all_right, filter_all}
use Rattle.object_blobs.specs.Within.Keys.{AreHoles, AreHolesOf, first_start, hole_key}
use Rattle.object_blobs.proofs.Spread.{Pair, Spread, holes_of, last_ended, spread_of, spread_rest, spread_within}

-- a space has no more blocks than a `u64` counts
pub kept_most : (blocks : ℕ) (rows : List Pair) → blocks ≤ 2 ^ 64 - 1 → AreHolesOf blocks rows → AreHoles rows
kept_most blocks rows most kept = holes_of (2 ^ 64 - 1) rows (spread_within 0 0 (blocks + 1) (2 ^ 64 - 1 + 1) rows (omega arith) (omega arith)
    (spread_of blocks rows kept))

-- each hole ends within the blocks
ends_by : (low top : ℕ) (rows : List Pair) → Spread low top rows → AllByRecursion (λ p. p.1.start + p.1.blocks < top) rows
ends_by low top [] h = tt
ends_by low top (p ∷ rows) h = (h.spaced.0.ends, ends_by (p.1.start + p.1.blocks + 1) top rows (spread_rest low top p rows h))

abbrev EndsBy : ℕ → Pair → Type 0
EndsBy most p = p.1.start + p.1.blocks < most + 1

pub last_ends : (test : Pair → Bool) (rows : List Pair) (p : Pair) → AreHoles rows → Some p ≡ last (filter test rows) → p.1.start + p.1.blocks < 2 ^ 64 - 1 + 1
last_ends test rows p kept e =
    let most : ℕ = 2 ^ 64 - 1 in
    let ended = last_ended (filter test rows) p e in
    (all_right (EndsBy most) ended.front (p ∷ []) (subst (AllByRecursion (EndsBy most)) ended.is
    (all_kept (EndsBy most) test rows (ends_by 0 (most + 1) rows (spread_of most rows kept))))).0

first_is : {X : Type 0} (xs : List X) (x : X) (P : X → Type 0) → Some x ≡ first xs → AllByRecursion P xs → P x
first_is [] x P e h = absurd (grind arith)
first_is (y ∷ ys) x P e h = subst P (grind arith) h.0

pub first_ends : (test : Pair → Bool) (rows : List Pair) (p : Pair) → AreHoles rows → Some p ≡ first (filter test rows)
    → p.1.start + p.1.blocks < 2 ^ 64 - 1 + 1
first_ends test rows p kept e =
    let most : ℕ = 2 ^ 64 - 1 in
    first_is (filter test rows) p (EndsBy most) e (all_kept (EndsBy most) test rows (ends_by 0 (most + 1) rows (spread_of most rows kept)))

-- ---- one look after another

-- each key is above this one
pub all_above : (rows : List Pair) → AreHoles rows → filter (is_above (negsuc 0)) rows ≡ rows
all_above rows kept = filter_all (is_above (negsuc 0)) rows (all_map (λ p. p.0 ≡ hole_key p.1) _ (λ p key. rw key (grind (arith, ints))) rows kept.keyed)

-- the first above a key, and then those above that
pub next_above : (key : ℤ) (rows : List Pair) (p : Pair) → IsRising rows → Some p ≡ first (filter (is_above key) rows)
    → filter (is_above key) rows ≡ p ∷ filter (is_above p.0) rows
next_above key [] p rising e = absurd (grind arith)
next_above key (q ∷ rows) p rising e = by (int_lt key q.0) refl e (λ later. next_above key rows p rising.1 later)
  where
    same : Some p ≡ Some q → p ≡ q
    same eq = grind arith

    by : (b : Bool) → int_lt key q.0 ≡ b → Some p ≡ first (cond b (q ∷ filter (is_above key) rows) (filter (is_above key) rows))
        → (Some p ≡ first (filter (is_above key) rows) → filter (is_above key) rows ≡ p ∷ filter (is_above p.0) rows)
        → filter (is_above key) (q ∷ rows) ≡ p ∷ filter (is_above p.0) (q ∷ rows)
    by true above e' rest =
        let own : filter (is_above q.0) rows ≡ rows = filter_all (is_above q.0) rows (all_map (λ r. q.0 <ℤ r.0) _ (λ r lt. grind (arith, ints)) rows rising.0)
        in
        let all : filter (is_above key) rows ≡ rows = filter_all (is_above key) rows (all_map (λ r. q.0 <ℤ r.0) _ (λ r lt. grind (arith, ints)) rows rising.0)
        in
        let itself : int_lt q.0 q.0 ≡ false = grind (arith, ints) in
        subst (λ r. filter (is_above key) (q ∷ rows) ≡ r ∷ filter (is_above r.0) (q ∷ rows)) (sym (same e')) (rw (above, all, itself, own) refl)
    by false above e' rest =
        let passed : int_lt key p.0 ≡ true = first_is (filter (is_above key) rows) p (λ r. is_above key r ≡ true) e' (each_passes (is_above key) rows) in
        let low : int_lt p.0 q.0 ≡ false = grind (arith, ints) in
        rw (above, low) (rest e')

-- a hole that is too small is passed over
pub first_behind : (count : ℕ) (key : ℤ) (rows : List Pair) (p : Pair) → IsRising rows → Some p ≡ first (filter (is_above key) rows) → p.1.blocks < count
    → first_start count (values (filter (is_above key) rows)) ≡ first_start count (values (filter (is_above p.0) rows))
first_behind count key rows p rising e small =
    let few : nat_le count p.1.blocks ≡ false = lt-leb count p.1.blocks small in
    rw (next_above key rows p rising e, few) refl

-- one that isn't is the first
pub first_here : (count : ℕ) (key : ℤ) (rows : List Pair) (p : Pair) → IsRising rows → Some p ≡ first (filter (is_above key) rows) → count ≤ p.1.blocks
    → Some p.1.start ≡ first_start count (values (filter (is_above key) rows))
first_here count key rows p rising e enough =
    let much : nat_le count p.1.blocks ≡ true = le-leb count p.1.blocks enough in
    rw (next_above key rows p rising e, much) refl

-- no hole is left
pub first_none : (count : ℕ) (rows : List Pair) → None ≡ first rows → None ≡ first_start count (values rows)
first_none count [] e = refl
first_none count (p ∷ rows) e = absurd (grind arith)

pub fewer_above : (key : ℤ) (rows : List Pair) (p : Pair) → IsRising rows → Some p ≡ first (filter (is_above key) rows)
    → length (filter (is_above p.0) rows) < length (filter (is_above key) rows)
fewer_above key rows p rising e = rw (next_above key rows p rising e) (omega arith)
