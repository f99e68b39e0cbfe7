-- The hole that has a place whose blocks are free.
use Rattle.std.proofs.Common.{◌≡◌, ◌⊎◌, inl, inr, ℕ, pos, ◌<ℤ◌, ◌≤ℤ◌, ◌+◌, ◌-◌, ◌^◌, ◌<◌, ◌≤◌, Bool, true, false, ◌||◌, List, [], ◌∷◌, ◌++◌, Option, Some, filter, refl, sym, ap, subst, ◌∙◌, arith, append_assoc}
use Rattle.std.specs.Prelude.{MatchOption}
use Rattle.std.specs.List.{AllByRecursion}
use Rattle.std.proofs.lemmas.Bool.{cases_lt, or_cases}
use Rattle.std.proofs.lemmas.Int.{ints}
use Rattle.shared_tree.specs.Pairs.{is_above, is_below, is_up_to, last, values, with_pair}
use Rattle.shared_tree.proofs.Counted.{all_append}
use Rattle.object_blobs.specs.Holes.{has_block, is_free_block, is_free_place}
use Rattle.object_blobs.specs.Within.Keys.{AreHoles, Holds, hole_key}
use Rattle.object_blobs.proofs.Runs.{each_at}
use Rattle.object_blobs.proofs.Spaced.{free_below, free_behind, has_high, has_low, not_behind}
use Rattle.object_blobs.proofs.Spread.{Around, Pair, Spread, above_of, below_of, free_rows, from_on, keys_before, keys_behind, last_one, spread_around, spread_of, up_to, up_to_of}

-- the hole that has a free block, and those round it
pub record Found (rows : List Pair) (block : ℕ) : Type 0 where
  pub front : List Pair
  pub pair : Pair
  pub rest : List Pair
  pub is : rows ≡ front ++ pair ∷ rest
  pub has : has_block pair.1.start pair.1.blocks block ≡ true

pub found_in : (rows : List Pair) (block : ℕ) → is_free_block (values rows) block ≡ true → Found rows block
found_in [] block h = absurd (grind (arith, h))
found_in (p ∷ rows) block h = by (or_cases (has_block p.1.start p.1.blocks block) (is_free_block (values rows) block) h) (λ later. found_in rows block later)
  where
    by : (has_block p.1.start p.1.blocks block ≡ true) ⊎ (is_free_block (values rows) block ≡ true)
        → (is_free_block (values rows) block ≡ true → Found rows block) → Found (p ∷ rows) block
    by (inl own) rest = record { front = []; pair = p; rest = rows; is = refl; has = own }
    by (inr later) rest =
        let found = rest later in
        record { front = p ∷ found.front; pair = found.pair; rest = found.rest; is = ap (λ l. p ∷ l) found.is; has = found.has }

-- what stands round one of the holes has none of its blocks, and not the one behind it
free_round : (low top block : ℕ) (front : List Pair) (p : Pair) (rest : List Pair) → Around low top front p rest → p.1.start ≤ block
    → block ≤ p.1.start + p.1.blocks → is_free_block (values (front ++ p ∷ rest)) block ≡ has_block p.1.start p.1.blocks block
free_round low top block front p rest h l e =
    free_rows front (p ∷ rest) block
    ∙ rw (
      free_behind low p.1.start block (values front) h.before.spaced (omega arith),
      free_below (p.1.start + p.1.blocks + 1) top block (values rest)
          h.behind.spaced (omega arith),
    ) (or_none (has_block p.1.start p.1.blocks block))
  where
    or_none : (b : Bool) → (b || false) ≡ b
    or_none true = refl
    or_none false = refl

-- the last hole up to a block, where that is free, is the one that has it
last_holds : (rows : List Pair) (start count : ℕ) → AreHoles rows → 0 < count → is_free_place (values rows) count start ≡ true → (found : Found rows start)
    → (last (filter (is_up_to (pos start)) rows) ≡ Some found.pair) × Holds rows start count found.pair.1
last_holds rows start count kept some free found =
    let most : ℕ = 2 ^ 64 - 1 in
    let front = found.front in
    let p = found.pair in
    let rest = found.rest in
    let round = spread_around 0 (most + 1) front p rest (subst (Spread 0 (most + 1)) found.is (spread_of most rows kept)) in
    let low : p.1.start ≤ start = has_low p.1.start p.1.blocks start found.has in
    let high : start < p.1.start + p.1.blocks = has_high p.1.start p.1.blocks start found.has in
    let fits = round.lies.ends in
    let key = round.key in
    let before : AllByRecursion (λ q. q.0 <ℤ pos p.1.start) front = keys_before 0 p.1.start p.1.start front (omega arith) round.before in
    let early : AllByRecursion (λ q. q.0 <ℤ pos start) front = keys_before 0 p.1.start start front (omega arith) round.before in
    let behind : AllByRecursion (λ q. pos start <ℤ q.0) rest = keys_behind (p.1.start + p.1.blocks + 1) (most + 1) start rest (omega arith) round.behind in
    let later : AllByRecursion (λ q. pos p.1.start <ℤ q.0) rest = keys_behind (p.1.start + p.1.blocks + 1) (most + 1) p.1.start rest (omega arith) round.behind
    in
    let own : p.0 ≤ℤ pos start = rw key (grind (arith, ints)) in
    let up : filter (is_up_to (pos start)) rows ≡ front ++ p ∷ [] =
    rw (found.is, sym (append_assoc front (p ∷ []) rest)) (up_to_of (pos start) (front ++ p ∷ []) rest
    (all_append (λ q. q.0 ≤ℤ pos start) front (p ∷ []) (up_to (pos start) front early) (own, tt)) behind) in
    let ends : start + count ≤ p.1.start + p.1.blocks = elim (cases_lt (p.1.start + p.1.blocks) (start + count)) [
      | inl lt ↦
          absurd
          (let block : ℕ = p.1.start + p.1.blocks in
          let is_free = each_at (is_free_block (values rows)) count start block free (omega arith) lt in
          let is_not = free_round 0 (most + 1) block front p rest round (omega arith) (omega arith) ∙ not_behind p.1.start p.1.blocks block (omega arith) in
          grind (arith, subst (λ l. is_free_block (values l) block ≡ true) found.is is_free, is_not))
      | inr le ↦ le
    ] in (
      ap last up ∙ last_one front p,
      record {
        begins = low;
        ends = ends;
        last = omega (arith, fits);
        stands = found.is ∙ sym (placed key before later);
      },
    )
  where
    pair_is : (p : Pair) → p.0 ≡ hole_key p.1 → (hole_key p.1, p.1) ≡ p
    pair_is p e = ap (λ k. (k, p.1)) (sym e)

    placed : found.pair.0 ≡ hole_key found.pair.1 → AllByRecursion (λ q. q.0 <ℤ pos found.pair.1.start) found.front
        → AllByRecursion (λ q. pos found.pair.1.start <ℤ q.0) found.rest → with_pair (hole_key found.pair.1, found.pair.1) rows ≡ found.front ++ found.pair
        ∷ found.rest
    placed e before later =
        let front = found.front in
        let p = found.pair in
        let rest = found.rest in
        let key = hole_key p.1 in
        let below : filter (is_below key) (front ++ p ∷ rest) ≡ front = below_of key front (p ∷ rest) before (
          rw e (grind (arith, ints)),
          from_on key rest later,
        ) in
        let above : filter (is_above key) (front ++ p ∷ rest) ≡ rest =
        ap (filter (is_above key)) (sym (append_assoc front (p ∷ []) rest))
        ∙ above_of key (front ++ p ∷ []) rest (all_append (λ q. q.0 ≤ℤ key) front (p ∷ []) (up_to key front before) (rw e (grind (arith, ints)), tt)) later in
        rw (found.is, below, above) (ap (λ q. front ++ q ∷ rest) (pair_is p e))

pub held : (rows : List Pair) (start count : ℕ) (o : Option Pair) → AreHoles rows → 0 < count → is_free_place (values rows) count start ≡ true
    → o ≡ last (filter (is_up_to (pos start)) rows) → MatchOption o ⊥ (λ p. Holds rows start count p.1)
held rows start count o kept some free e =
    let found = found_in rows start (each_at (is_free_block (values rows)) count start start free (omega arith) (omega arith)) in
    let both = last_holds rows start count kept some free found in
    subst (λ x. MatchOption x ⊥ (λ p. Holds rows start count p.1)) (sym (e ∙ both.0)) both.1
