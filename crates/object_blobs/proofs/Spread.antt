-- Holes at their keys that lie apart between two blocks: how they are put together and taken apart.
use Rattle.std.proofs.Common.{◌≡◌, ℕ, ℤ, pos, ◌<ℤ◌, ◌≤ℤ◌, ◌+◌, ◌<◌, ◌≤◌, ◌||◌, List, [], ◌∷◌, ◌++◌, Some, None, filter, refl, sym, ap, subst, ◌∙◌, arith}
use Rattle.std.specs.List.{AllByRecursion}
use Rattle.std.proofs.lemmas.Int.{ints}
use Rattle.std.proofs.lemmas.List.{map-append, append-nil}
use Rattle.std.proofs.lemmas.List.Elements.{filter-append}
use Rattle.shared_tree.specs.Pairs.{is_above, is_below, is_up_to, last, values, with_pair}
use Rattle.shared_tree.specs.Rows.{IsKeyedBy}
use Rattle.shared_tree.proofs.Counted.{all_append}
use Rattle.shared_tree.proofs.Rising.{all_left, all_map, all_right, filter_all, filter_none}
use Rattle.object_blobs.specs.declared.space.Hole.{Hole}
use Rattle.object_blobs.specs.Holes.{is_free_block}
use Rattle.object_blobs.specs.Within.Keys.{AreHolesOf, area_of, hole_key}
use Rattle.object_blobs.proofs.Spaced.{IsSpaced, Lies, area_spaced, free_append, spaced_area, spaced_join, spaced_parts, spaced_within}

abbrev pub Pair : Type 0
Pair = ℤ × Hole

-- holes at their keys, apart from a block on and before another
pub record Spread (low top : ℕ) (rows : List Pair) : Type 0 where
  pub keyed : IsKeyedBy hole_key rows
  pub spaced : IsSpaced low top (values rows)

pub spread_of : (blocks : ℕ) (rows : List Pair) → AreHolesOf blocks rows → Spread 0 (blocks + 1) rows
spread_of blocks rows h = record { keyed = h.keyed; spaced = spaced_area (area_of blocks rows) h.area }

pub holes_of : (blocks : ℕ) (rows : List Pair) → Spread 0 (blocks + 1) rows → AreHolesOf blocks rows
holes_of blocks rows h = record { keyed = h.keyed; area = area_spaced blocks (values rows) h.spaced }

pub none_spread : (low top : ℕ) → Spread low top []
none_spread low top = record { keyed = tt; spaced = tt }

pub spread_within : (low low' top top' : ℕ) (rows : List Pair) → low' ≤ low → top ≤ top' → Spread low top rows → Spread low' top' rows
spread_within low low' top top' rows l t h = record { keyed = h.keyed; spaced = spaced_within low low' top top' (values rows) l t h.spaced }

pub spread_join : (low mid top : ℕ) (front rest : List Pair) → low ≤ mid → mid ≤ top → Spread low mid front → Spread mid top rest
    → Spread low top (front ++ rest)
spread_join low mid top front rest l t f r = record {
  keyed = all_append (λ p. p.0 ≡ hole_key p.1) front rest f.keyed r.keyed;
  spaced = subst (IsSpaced low top) (sym (map-append (λ p. p.1) front rest)) (spaced_join low mid top (values front) (values rest) l t f.spaced r.spaced);
}

-- a hole before others
pub spread_first : (low top : ℕ) (pair : Pair) (rest : List Pair) → pair.0 ≡ hole_key pair.1 → Lies low top pair.1
    → Spread (pair.1.start + pair.1.blocks + 1) top rest → Spread low top (pair ∷ rest)
spread_first low top pair rest key lies h = record { keyed = (key, h.keyed); spaced = (lies, h.spaced) }

pub spread_rest : (low top : ℕ) (pair : Pair) (rest : List Pair) → Spread low top (pair ∷ rest) → Spread (pair.1.start + pair.1.blocks + 1) top rest
spread_rest low top pair rest h = record { keyed = h.keyed.1; spaced = h.spaced.1 }

-- round one of the holes
pub record Around (low top : ℕ) (front : List Pair) (pair : Pair) (rest : List Pair) : Type 0 where
  pub before : Spread low pair.1.start front
  pub key : pair.0 ≡ hole_key pair.1
  pub lies : Lies low top pair.1
  pub behind : Spread (pair.1.start + pair.1.blocks + 1) top rest

pub spread_around : (low top : ℕ) (front : List Pair) (pair : Pair) (rest : List Pair) → Spread low top (front ++ pair ∷ rest) → Around low top front pair rest
spread_around low top front pair rest h =
    let own = all_right (λ p. p.0 ≡ hole_key p.1) front (pair ∷ rest) h.keyed in
    let parts = spaced_parts low top (values front) pair.1 (values rest) (subst (IsSpaced low top) (map-append (λ p. p.1) front (pair ∷ rest)) h.spaced) in
    record {
      before = record { keyed = all_left (λ p. p.0 ≡ hole_key p.1) front (pair ∷ rest) h.keyed; spaced = parts.before };
      key = own.0;
      lies = parts.lies;
      behind = record { keyed = own.1; spaced = parts.behind };
    }

-- ---- their keys

-- each begins before a block behind which none ends, and behind one before all of them
pub keys_before : (low top block : ℕ) (rows : List Pair) → top ≤ block + 1 → Spread low top rows → AllByRecursion (λ p. p.0 <ℤ pos block) rows
keys_before low top block [] t h = tt
keys_before low top block (p ∷ rows) t h =
    let e = h.spaced.0.ends in
    let f = h.spaced.0.filled in
    let key = h.keyed.0 in
    (rw key (grind (arith, ints)), keys_before (p.1.start + p.1.blocks + 1) top block rows t (spread_rest low top p rows h))

pub keys_behind : (low top block : ℕ) (rows : List Pair) → block < low → Spread low top rows → AllByRecursion (λ p. pos block <ℤ p.0) rows
keys_behind low top block [] l h = tt
keys_behind low top block (p ∷ rows) l h =
    let b = h.spaced.0.begins in
    let key = h.keyed.0 in
    (rw key (grind (arith, ints)), keys_behind (p.1.start + p.1.blocks + 1) top block rows (omega arith) (spread_rest low top p rows h))

-- what stands before a key and behind it
pub below_of : (key : ℤ) (front rest : List Pair) → AllByRecursion (λ p. p.0 <ℤ key) front → AllByRecursion (λ p. key ≤ℤ p.0) rest
    → filter (is_below key) (front ++ rest) ≡ front
below_of key front rest f r =
    filter-append (is_below key) front rest
    ∙ rw (
      filter_all (is_below key) front (all_map (λ p. p.0 <ℤ key) _ (λ p lt. grind (arith, ints)) front f),
      filter_none (is_below key) rest (all_map (λ p. key ≤ℤ p.0) _ (λ p le. grind (arith, ints)) rest r),
    ) (append-nil front)

pub above_of : (key : ℤ) (front rest : List Pair) → AllByRecursion (λ p. p.0 ≤ℤ key) front → AllByRecursion (λ p. key <ℤ p.0) rest
    → filter (is_above key) (front ++ rest) ≡ rest
above_of key front rest f r =
    filter-append (is_above key) front rest
    ∙ rw (
      filter_none (is_above key) front (all_map (λ p. p.0 ≤ℤ key) _ (λ p le. grind (arith, ints)) front f),
      filter_all (is_above key) rest (all_map (λ p. key <ℤ p.0) _ (λ p lt. grind (arith, ints)) rest r),
    ) refl

pub up_to_of : (key : ℤ) (front rest : List Pair) → AllByRecursion (λ p. p.0 ≤ℤ key) front → AllByRecursion (λ p. key <ℤ p.0) rest
    → filter (is_up_to key) (front ++ rest) ≡ front
up_to_of key front rest f r =
    filter-append (is_up_to key) front rest
    ∙ rw (
      filter_all (is_up_to key) front (all_map (λ p. p.0 ≤ℤ key) _ (λ p le. grind (arith, ints)) front f),
      filter_none (is_up_to key) rest (all_map (λ p. key <ℤ p.0) _ (λ p lt. grind (arith, ints)) rest r),
    ) (append-nil front)

pub up_to : (key : ℤ) (rows : List Pair) → AllByRecursion (λ p. p.0 <ℤ key) rows → AllByRecursion (λ p. p.0 ≤ℤ key) rows
up_to key rows h = all_map (λ p. p.0 <ℤ key) (λ p. p.0 ≤ℤ key) (λ p lt. grind (arith, ints)) rows h

pub from_on : (key : ℤ) (rows : List Pair) → AllByRecursion (λ p. key <ℤ p.0) rows → AllByRecursion (λ p. key ≤ℤ p.0) rows
from_on key rows h = all_map (λ p. key <ℤ p.0) (λ p. key ≤ℤ p.0) (λ p lt. grind (arith, ints)) rows h

-- a hole put between others
pub put_between : (key : ℤ) (hole : Hole) (front rest : List Pair) → AllByRecursion (λ p. p.0 <ℤ key) front → AllByRecursion (λ p. key <ℤ p.0) rest
    → with_pair (key, hole) (front ++ rest) ≡ front ++ (key, hole) ∷ rest
put_between key hole front rest f r = rw (below_of key front rest f (from_on key rest r), above_of key front rest (up_to key front f) r) refl

-- ---- the last hole and the first

pub record Ended {X : Type 0} (xs : List X) (x : X) : Type 0 where
  pub front : List X
  pub is : xs ≡ front ++ x ∷ []

pub last_ended : {X : Type 0} (xs : List X) (x : X) → Some x ≡ last xs → Ended xs x
last_ended [] x e = absurd (grind arith)
last_ended (y ∷ []) x e = record { front = []; is = ap (λ z. z ∷ []) (grind arith) }
last_ended (y ∷ z ∷ zs) x e =
    let rest = last_ended (z ∷ zs) x e in
    record { front = y ∷ rest.front; is = ap (λ l. y ∷ l) rest.is }

pub last_none : {X : Type 0} (xs : List X) → None ≡ last xs → xs ≡ []
last_none [] e = refl
last_none (y ∷ []) e = absurd (grind arith)
last_none (y ∷ z ∷ zs) e = absurd (let none = last_none (z ∷ zs) e in grind arith)

pub last_one : {X : Type 0} (front : List X) (x : X) → last (front ++ x ∷ []) ≡ Some x
last_one [] x = refl
last_one (y ∷ []) x = refl
last_one (y ∷ z ∷ zs) x = last_one (z ∷ zs) x

-- ---- free blocks

pub free_rows : (front rest : List Pair) (block : ℕ) → is_free_block (values (front ++ rest)) block
    ≡ (is_free_block (values front) block || is_free_block (values rest) block)
free_rows front rest block = ap (λ l. is_free_block l block) (map-append (λ p. p.1) front rest) ∙ free_append (values front) (values rest) block
