-- Whether a place is free is told by the last hole that begins up to its first block.
use Rattle.std.proofs.Common.{◌≡◌, ℕ, ℤ, pos, ◌+◌, ◌-◌, ◌<◌, ◌≤◌, nat_le, nat_lt, Bool, true, false, ◌&&◌, ◌||◌, cond, List, [], ◌∷◌, ◌++◌, Option, Some, None, filter, refl, sym, ap, subst, ◌∙◌, arith}
use Rattle.std.specs.Prelude.{MatchOption}
use Rattle.std.specs.List.{AllByRecursion}
use Rattle.std.proofs.lemmas.Bool.{and_from, and_parts, le-leb, leb-true, lt-ltb, or_right}
use Rattle.std.proofs.lemmas.Int.{ints}
use Rattle.shared_tree.specs.Pairs.{is_up_to, last, values}
use Rattle.shared_tree.proofs.Counted.{all_kept, each_passes}
use Rattle.shared_tree.proofs.Rising.{all_right}
use Rattle.object_blobs.specs.Holes.{has_block, is_free_block, is_free_place}
use Rattle.object_blobs.specs.Within.Keys.{AreHoles, Holds, hole_key}
use Rattle.object_blobs.proofs.Holding.{held}
use Rattle.object_blobs.proofs.Runs.{each_from}
use Rattle.object_blobs.proofs.Spaced.{has_from}
use Rattle.object_blobs.proofs.Spread.{Pair, free_rows, last_ended}

-- a hole that begins up to a place has all of it
abbrev pub reaches : ℕ → ℕ → Option Pair → Bool
reaches start count None = false
reaches start count (Some p) = nat_lt start (p.1.start + p.1.blocks) && nat_le count (p.1.start + p.1.blocks - start)

-- blocks of some of the holes are blocks of the holes
free_kept : (test : Pair → Bool) (rows : List Pair) (block : ℕ) → is_free_block (values (filter test rows)) block ≡ true
    → is_free_block (values rows) block ≡ true
free_kept test [] block e = e
free_kept test (p ∷ rows) block e = by (test p) (has_block p.1.start p.1.blocks block) refl (free_kept test rows block) e
  where
    by : (t h : Bool) → has_block p.1.start p.1.blocks block ≡ h
        → (is_free_block (values (filter test rows)) block ≡ true → is_free_block (values rows) block ≡ true)
        → is_free_block (values (cond t (p ∷ filter test rows) (filter test rows))) block ≡ true → (h || is_free_block (values rows) block) ≡ true
    by t true eh rest held = refl
    by true false eh rest held = rest (sym (ap (λ b. b || is_free_block (values (filter test rows)) block) eh) ∙ held)
    by false false eh rest held = rest held

last_has : (front : List Pair) (p : Pair) (block : ℕ) → has_block p.1.start p.1.blocks block ≡ true → is_free_block (values (front ++ p ∷ [])) block ≡ true
last_has front p block has =
    free_rows front (p ∷ []) block
    ∙ or_right (is_free_block (values front) block) (has_block p.1.start p.1.blocks block || false) (ap (λ b. b || false) has)

-- it begins up to the place
begins : (rows : List Pair) (start : ℕ) (p : Pair) → AreHoles rows → Some p ≡ last (filter (is_up_to (pos start)) rows) → p.1.start ≤ start
begins rows start p kept e =
    let up = filter (is_up_to (pos start)) rows in
    let ended = last_ended up p e in
    let key = (all_right (λ q. q.0 ≡ hole_key q.1) ended.front (p ∷ []) (subst (AllByRecursion (λ q. q.0 ≡ hole_key q.1)) ended.is
    (all_kept (λ q. q.0 ≡ hole_key q.1) (is_up_to (pos start)) rows kept.keyed))).0 in
    let low = (all_right (λ q. is_up_to (pos start) q ≡ true) ended.front (p ∷ []) (subst (AllByRecursion (λ q. is_up_to (pos start) q ≡ true)) ended.is
    (each_passes (is_up_to (pos start)) rows))).0 in
    under p.0 p.1.start key low
  where
    under : (k : ℤ) (n : ℕ) → k ≡ pos n → is_up_to (pos start) (k, p.1) ≡ true → n ≤ start
    under k n same low = let l : is_up_to (pos start) (pos n, p.1) ≡ true = subst (λ x. is_up_to (pos start) (x, p.1) ≡ true) same low in grind (arith, ints)

pub place_told : (rows : List Pair) (start count : ℕ) (o : Option Pair) → AreHoles rows → 0 < count → o ≡ last (filter (is_up_to (pos start)) rows)
    → reaches start count o ≡ is_free_place (values rows) count start
place_told rows start count o kept some e =
    by (is_free_place (values rows) count start) refl o (λ free. held rows start count o kept some free e) e
  where
    by : (b : Bool) → is_free_place (values rows) count start ≡ b → (x : Option Pair)
        → (is_free_place (values rows) count start ≡ true → MatchOption x ⊥ (λ p. Holds rows start count p.1))
        → x ≡ last (filter (is_up_to (pos start)) rows) → reaches start count x ≡ b
    by true free None holds at = absurd (holds free)
    by true free (Some p) holds at =
        let h = holds free in
        let ends = h.ends in
        and_from (nat_lt start (p.1.start + p.1.blocks)) (nat_le count (p.1.start + p.1.blocks - start))
        (lt-ltb start (p.1.start + p.1.blocks) (omega (arith, ends))) (le-leb count (p.1.start + p.1.blocks - start) (omega (arith, ends)))
    by false free None holds at = refl
    by false free (Some p) holds at = no (reaches start count (Some p)) refl
      where
        no : (r : Bool) → reaches start count (Some p) ≡ r → r ≡ false
        no false er = refl
        no true er =
            let parts = and_parts (nat_lt start (p.1.start + p.1.blocks)) (nat_le count (p.1.start + p.1.blocks - start)) er in
            let top = leb-true count (p.1.start + p.1.blocks - start) parts.1 in
            let low = begins rows start p kept at in
            let ended = last_ended (filter (is_up_to (pos start)) rows) p at in
            let is : is_free_place (values rows) count start ≡ true =
            each_from (is_free_block (values rows)) count start (λ block l h. free_kept (is_up_to (pos start)) rows block
            (ap (λ q. is_free_block (values q) block) ended.is
            ∙ last_has ended.front p block (has_from p.1.start p.1.blocks block (omega (arith, low)) (omega (arith, top, l, h))))) in
            sym is ∙ free
