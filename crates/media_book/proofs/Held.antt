-- Extents and the blocks that they leave free, as an object comes, is stored or goes.
use Rattle.std.proofs.Common.{◌≡◌, Option, inl, inr, ℕ, ◌+◌, ◌-◌, ◌<◌, ◌≤◌, nat_lt, nat_le, Bool, true, false, not, ◌&&◌, ◌||◌, List, [], ◌∷◌, ◌++◌, map, refl, sym, ap, ap₂, ◌∙◌, arith}
use Rattle.std.specs.Prelude.{◌==◌}
use Rattle.std.specs.List.{list_all, sum, sum_by}
use Rattle.std.proofs.lemmas.Bool.{and_from, and_parts, le-leb, leb-true, lt-ltb, not_from_false, or_left, or_right, or_cases}
use Rattle.std.proofs.lemmas.Bool.Decides.{nat_tests}
use Rattle.std.proofs.lemmas.List.Folds.{list_all-map}
use Rattle.std.proofs.lemmas.List.Sums.{sum-map, sum_by-append, sum_by-cons}
use Rattle.media_rows.specs.declared.object.Digest.{Digest}
use Rattle.media_rows.specs.declared.object.ObjectRow.{ObjectRow}
use Rattle.media_rows.specs.declared.object.ObjectState.{ObjectState}
use Rattle.media_rows.specs.declared.object.ObjectState.TheVariants.{Allocated, Stored}
use Rattle.media_rows.specs.Good.{are_states_apart, is_extent_good}
use Rattle.media_rows.specs.Lists.{each_pair}
use Rattle.media_rows.specs.Objects.{are_apart, blocks_of, is_clear_of}
use Rattle.object_blobs.specs.Holes.{Area, IsAllFree, GivesBlocks, IsPlaceTaken, LeavesFree, has_block, is_free_block, is_free_place, is_taken_place}
use Rattle.media_book.specs.Media.{stored_size}
use Rattle.media_book.specs.Within.Ties.{AreHeld, object_states}
use Rattle.media_book.proofs.Serials.{all_amid, pairs_amid}
use Rattle.object_blobs.proofs.Runs.{each_from}

-- ---- an item amid others

pub sizes_amid : (f : List ObjectState) (s : ObjectState) (b : List ObjectState)
    → sum (map stored_size (f ++ s ∷ b)) ≡ stored_size s + sum (map stored_size (f ++ b))
sizes_amid f s b =
    sum-map stored_size (f ++ s ∷ b) ∙ sum_by-append stored_size f (s ∷ b)
    ∙ turned (sum_by stored_size f) (stored_size s) (sum_by stored_size b) (sum_by stored_size (s ∷ b)) (sum_by-cons stored_size s b)
    ∙ ap (λ n. stored_size s + n) (sym (sum-map stored_size (f ++ b) ∙ sum_by-append stored_size f b))
  where
    turned : (a n c all : ℕ) → all ≡ n + c → a + all ≡ n + (a + c)
    turned a n c all e = omega (arith, e)

-- ---- two states

pub apart_turns : (s t : ObjectState) → are_states_apart s t ≡ are_states_apart t s
apart_turns Allocated Allocated = refl
apart_turns Allocated (Stored start size digest) = refl
apart_turns (Stored start size digest) Allocated = refl
apart_turns (Stored start size digest) (Stored other n other_digest) = by (nat_le (start + blocks_of size) other) (nat_le (other + blocks_of n) start)
  where
    by : (p q : Bool) → (p || q) ≡ (q || p)
    by true true = refl
    by true false = refl
    by false true = refl
    by false false = refl

pub clear_apart : (start size : ℕ) (digest : Option Digest) (s : ObjectState) → is_clear_of start (blocks_of size) s ≡ are_states_apart (Stored start size digest) s
clear_apart start size digest Allocated = refl
clear_apart start size digest (Stored other n other_digest) = refl

-- a block is clear of an extent that doesn't have it
has_or_clear : (start count block : ℕ) → are_apart block 1 start count ≡ not (has_block start count block)
has_or_clear start count block = by (nat_le start block) (nat_lt block (start + count)) refl refl
  where
    by : (p q : Bool) → nat_le start block ≡ p → nat_lt block (start + count) ≡ q
        → (nat_le (block + 1) start || nat_le (start + count) block) ≡ not (p && q)
    by true true ep eq = grind (arith, nat_tests)
    by true false ep eq = grind (arith, nat_tests)
    by false q ep eq = grind (arith, nat_tests)

-- a block of one extent is clear of one that lies apart
clear_one : (start size : ℕ) (digest : Option Digest) (block : ℕ) (s : ObjectState) → has_block start (blocks_of size) block ≡ true → are_states_apart (Stored start size digest) s ≡ true
    → is_clear_of block 1 s ≡ true
clear_one start size digest block Allocated has apart = refl
clear_one start size digest block (Stored other n other_digest) has apart = by start (blocks_of size) other (blocks_of n) has apart
  where
    by : (a b c d : ℕ) → (nat_le a block && nat_lt block (a + b)) ≡ true → (nat_le (a + b) c || nat_le (c + d) a) ≡ true
        → (nat_le (block + 1) c || nat_le (c + d) block) ≡ true
    by a b c d h k = elim (or_cases (nat_le (a + b) c) (nat_le (c + d) a) k) [
      | inl e ↦ or_left (nat_le (block + 1) c) (nat_le (c + d) block)
          (le-leb (block + 1) c (let high = (and_parts (nat_le a block) (nat_lt block (a + b)) h).1 in grind (arith, nat_tests)))
      | inr e ↦ or_right (nat_le (block + 1) c) (nat_le (c + d) block)
          (le-leb (c + d) block (let low = (and_parts (nat_le a block) (nat_lt block (a + b)) h).0 in grind (arith, nat_tests)))
    ]

all_clear_one : (start size : ℕ) (digest : Option Digest) (block : ℕ) (states : List ObjectState) → has_block start (blocks_of size) block ≡ true
    → list_all (are_states_apart (Stored start size digest)) states ≡ true → list_all (is_clear_of block 1) states ≡ true
all_clear_one start size digest block [] has apart = refl
all_clear_one start size digest block (s ∷ states) has apart =
    let parts = and_parts (are_states_apart (Stored start size digest) s) (list_all (are_states_apart (Stored start size digest)) states) apart in
    and_from (is_clear_of block 1 s) (list_all (is_clear_of block 1) states) (clear_one start size digest block s has parts.0)
    (all_clear_one start size digest block states has parts.1)

pub same_all : {X : Type 0} (p q : X → Bool) → ((x : X) → p x ≡ q x) → (xs : List X) → list_all p xs ≡ list_all q xs
same_all p q same [] = refl
same_all p q same (x ∷ xs) = ap₂ (λ a b. a && b) (same x) (same_all p q same xs)

-- ---- nothing is held

pub none_held : (blocks : ℕ) (area : Area) → IsAllFree blocks area → AreHeld [] area 0
none_held blocks area h = record {
  free = λ block. h.free block ∙ first block ∙ ap (λ n. nat_le (block + 1) n && true) (sym h.blocks);
  inside = refl;
  apart = refl;
  counted = refl;
}
  where
    first : (block : ℕ) → nat_lt block blocks ≡ (nat_le (block + 1) blocks && true)
    first block = by (nat_le (block + 1) blocks) refl
      where
        by : (p : Bool) → nat_le (block + 1) blocks ≡ p → nat_lt block blocks ≡ (p && true)
        by true e = grind (arith, nat_tests)
        by false e = grind (arith, nat_tests)

-- ---- an object without bytes

pub with_empty : (f b : List ObjectState) (area : Area) (bytes : ℕ) → AreHeld (f ++ b) area bytes → AreHeld (f ++ Allocated ∷ b) area bytes
with_empty f b area bytes h = record {
  free = λ block. h.free block ∙ ap (λ r. nat_le (block + 1) area.blocks && r) (sym (all_amid (is_clear_of block 1) f Allocated b));
  inside = all_amid (is_extent_good area.blocks) f Allocated b ∙ h.inside;
  apart = pairs_amid are_states_apart apart_turns f Allocated b ∙ all_empty (f ++ b) (each_pair are_states_apart (f ++ b)) h.apart;
  counted = more (sum (map stored_size (f ++ Allocated ∷ b))) (sizes_amid f Allocated b);
}
  where
    more : (n : ℕ) → n ≡ 0 + sum (map stored_size (f ++ b)) → bytes ≡ n
    more n e = let was = h.counted in omega (arith, e, was)

    all_empty : (states : List ObjectState) (r : Bool) → r ≡ true → (list_all (are_states_apart Allocated) states && r) ≡ true
    all_empty [] r e = e
    all_empty (s ∷ states) r e = all_empty states r e

pub without_empty : (f b : List ObjectState) (area : Area) (bytes : ℕ) → AreHeld (f ++ Allocated ∷ b) area bytes → AreHeld (f ++ b) area bytes
without_empty f b area bytes h = record {
  free = λ block. h.free block ∙ ap (λ r. nat_le (block + 1) area.blocks && r) (all_amid (is_clear_of block 1) f Allocated b);
  inside = sym (all_amid (is_extent_good area.blocks) f Allocated b) ∙ h.inside;
  apart = (and_parts (list_all (are_states_apart Allocated) (f ++ b)) (each_pair are_states_apart (f ++ b))
      (sym (pairs_amid are_states_apart apart_turns f Allocated b) ∙ h.apart)).1;
  counted = less (sum (map stored_size (f ++ Allocated ∷ b))) h.counted (sizes_amid f Allocated b);
}
  where
    less : (n : ℕ) → bytes ≡ n → n ≡ 0 + sum (map stored_size (f ++ b)) → bytes ≡ sum (map stored_size (f ++ b))
    less n was e = omega (arith, e, was)

-- ---- an extent that is taken

pub with_extent : (f b : List ObjectState) (start size : ℕ) (digest : Option Digest) (area new : Area) (bytes : ℕ) → AreHeld (f ++ b) area bytes
    → list_all (is_clear_of start (blocks_of size)) (f ++ b) ≡ true → is_extent_good area.blocks (Stored start size digest) ≡ true
    → IsPlaceTaken start (blocks_of size) area new → AreHeld (f ++ Stored start size digest ∷ b) new (bytes + size)
with_extent f b start size digest area new bytes h clear good taken = record {
  free = λ block. taken.free block ∙ ap (λ r. r && not (has_block start (blocks_of size) block)) (h.free block)
      ∙ turned (nat_le (block + 1) area.blocks) (list_all (is_clear_of block 1) (f ++ b)) (not (has_block start (blocks_of size) block))
      ∙ ap (λ r. nat_le (block + 1) area.blocks && (r && list_all (is_clear_of block 1) (f ++ b)))
      (sym (has_or_clear start (blocks_of size) block))
      ∙ ap (λ r. nat_le (block + 1) area.blocks && r) (sym (all_amid (is_clear_of block 1) f (Stored start size digest) b))
      ∙ ap (λ n. nat_le (block + 1) n && list_all (is_clear_of block 1) (f ++ Stored start size digest ∷ b)) (sym taken.blocks);
  inside = ap (λ n. list_all (is_extent_good n) (f ++ Stored start size digest ∷ b)) taken.blocks
      ∙ all_amid (is_extent_good area.blocks) f (Stored start size digest) b
      ∙ and_from (is_extent_good area.blocks (Stored start size digest)) (list_all (is_extent_good area.blocks) (f ++ b)) good h.inside;
  apart = pairs_amid are_states_apart apart_turns f (Stored start size digest) b
      ∙ and_from (list_all (are_states_apart (Stored start size digest)) (f ++ b)) (each_pair are_states_apart (f ++ b))
      (sym (same_all (is_clear_of start (blocks_of size)) (are_states_apart (Stored start size digest)) (clear_apart start size digest) (f ++ b)) ∙ clear) h.apart;
  counted = ap (λ n. n + size) h.counted ∙ plus (sum (map stored_size (f ++ b))) ∙ sym (sizes_amid f (Stored start size digest) b);
}
  where
    turned : (a l r : Bool) → ((a && l) && r) ≡ (a && (r && l))
    turned false l r = refl
    turned true true true = refl
    turned true true false = refl
    turned true false true = refl
    turned true false false = refl

    plus : (n : ℕ) → n + size ≡ size + n
    plus n = omega arith

-- ---- an extent that is given back

pub without_extent : (f b : List ObjectState) (start size : ℕ) (digest : Option Digest) (area new : Area) (bytes : ℕ) → AreHeld (f ++ Stored start size digest ∷ b) area bytes
    → GivesBlocks start (blocks_of size) area new → AreHeld (f ++ b) new (bytes - size)
without_extent f b start size digest area new bytes h given =
    let pairs = and_parts (list_all (are_states_apart (Stored start size digest)) (f ++ b)) (each_pair are_states_apart (f ++ b))
    (sym (pairs_amid are_states_apart apart_turns f (Stored start size digest) b) ∙ h.apart) in
    let inside = and_parts (is_extent_good area.blocks (Stored start size digest)) (list_all (is_extent_good area.blocks) (f ++ b))
    (sym (all_amid (is_extent_good area.blocks) f (Stored start size digest) b) ∙ h.inside) in
    record {
      free = λ block. given.free block ∙ ap (λ r. r || has_block start (blocks_of size) block)
          (h.free block ∙ ap (λ r. nat_le (block + 1) area.blocks && r) (all_amid (is_clear_of block 1) f (Stored start size digest) b
          ∙ ap (λ r. r && list_all (is_clear_of block 1) (f ++ b)) (has_or_clear start (blocks_of size) block)))
          ∙ by (has_block start (blocks_of size) block) (nat_le (block + 1) area.blocks) (list_all (is_clear_of block 1) (f ++ b))
          (λ has. within block (and_parts (nat_le (start + blocks_of size) area.blocks) (nat_lt 0 size || (start == 0)) inside.0).0 has)
          (λ has. all_clear_one start size digest block (f ++ b) has pairs.0)
          ∙ ap (λ n. nat_le (block + 1) n && list_all (is_clear_of block 1) (f ++ b)) (sym given.blocks);
      inside = ap (λ n. list_all (is_extent_good n) (f ++ b)) given.blocks ∙ inside.1;
      apart = pairs.1;
      counted = minus (sum (map stored_size (f ++ b))) (h.counted ∙ sizes_amid f (Stored start size digest) b);
    }
  where
    by : (has le all : Bool) → (has ≡ true → le ≡ true) → (has ≡ true → all ≡ true) → ((le && (not has && all)) || has) ≡ (le && all)
    by true le all l a = rw (l refl, a refl) refl
    by false true true l a = refl
    by false true false l a = refl
    by false false all l a = refl

    within : (block : ℕ) → nat_le (start + blocks_of size) area.blocks ≡ true → has_block start (blocks_of size) block ≡ true
        → nat_le (block + 1) area.blocks ≡ true
    within block le has = high (start + blocks_of size) le (and_parts (nat_le start block) (nat_lt block (start + blocks_of size)) has).1
      where
        high : (n : ℕ) → nat_le n area.blocks ≡ true → nat_lt block n ≡ true → nat_le (block + 1) area.blocks ≡ true
        high n a b = grind (arith, nat_tests)

    minus : (n : ℕ) → bytes ≡ size + n → bytes - size ≡ n
    minus n e = omega (arith, e)

-- ---- places

-- what is clear of a run is clear of each block in it
clear_within : (start count block : ℕ) (s : ObjectState) → is_clear_of start count s ≡ true → start ≤ block → block < start + count
    → is_clear_of block 1 s ≡ true
clear_within start count block Allocated clear low high = refl
clear_within start count block (Stored other size other_digest) clear low high = by (blocks_of size) clear
  where
    by : (n : ℕ) → (nat_le (start + count) other || nat_le (other + n) start) ≡ true → (nat_le (block + 1) other || nat_le (other + n) block) ≡ true
    by n k = elim (or_cases (nat_le (start + count) other) (nat_le (other + n) start) k) [
      | inl e ↦ or_left (nat_le (block + 1) other) (nat_le (other + n) block) (le-leb (block + 1) other (grind (arith, nat_tests)))
      | inr e ↦ or_right (nat_le (block + 1) other) (nat_le (other + n) block) (le-leb (other + n) block (grind (arith, nat_tests)))
    ]

all_clear_within : (start count block : ℕ) (states : List ObjectState) → list_all (is_clear_of start count) states ≡ true → start ≤ block
    → block < start + count → list_all (is_clear_of block 1) states ≡ true
all_clear_within start count block [] clear low high = refl
all_clear_within start count block (s ∷ states) clear low high =
    let parts = and_parts (is_clear_of start count s) (list_all (is_clear_of start count) states) clear in
    and_from (is_clear_of block 1 s) (list_all (is_clear_of block 1) states) (clear_within start count block s parts.0 low high)
    (all_clear_within start count block states parts.1 low high)

-- a place that the library calls free may be taken
pub may_take : (states : List ObjectState) (area : Area) (bytes start count : ℕ) → AreHeld states area bytes → nat_le (start + count) area.blocks ≡ true
    → list_all (is_clear_of start count) states ≡ true → is_free_place area.holes count start ≡ true
may_take states area bytes start count h le clear = each_from (is_free_block area.holes) count start (λ block low high. h.free block
    ∙ and_from (nat_le (block + 1) area.blocks) (list_all (is_clear_of block 1) states) (fits block high)
    (all_clear_within start count block states clear low high))
  where
    fits : (block : ℕ) → block < start + count → nat_le (block + 1) area.blocks ≡ true
    fits block high = le-leb (block + 1) area.blocks (let all = leb-true (start + count) area.blocks le in omega (arith, all, high))

-- the blocks of an extent may be given back
pub may_give : (f b : List ObjectState) (start size : ℕ) (digest : Option Digest) (area : Area) (bytes : ℕ) → AreHeld (f ++ Stored start size digest ∷ b) area bytes
    → (start + blocks_of size ≤ area.blocks) × (is_taken_place area.holes (blocks_of size) start ≡ true)
may_give f b start size digest area bytes h =
    let inside = and_parts (is_extent_good area.blocks (Stored start size digest)) (list_all (is_extent_good area.blocks) (f ++ b))
    (sym (all_amid (is_extent_good area.blocks) f (Stored start size digest) b) ∙ h.inside) in
    let fits = (and_parts (nat_le (start + blocks_of size) area.blocks) (nat_lt 0 size || (start == 0)) inside.0).0 in (
      leb-true (start + blocks_of size) area.blocks fits,
      each_from (λ block. not (is_free_block area.holes block)) (blocks_of size) start (λ block low high. not_from_false (is_free_block area.holes block)
          (h.free block ∙ ap (λ r. nat_le (block + 1) area.blocks && r) (all_amid (is_clear_of block 1) f (Stored start size digest) b
          ∙ ap (λ r. r && list_all (is_clear_of block 1) (f ++ b)) (has_or_clear start (blocks_of size) block
          ∙ ap not (has block low high))) ∙ none (nat_le (block + 1) area.blocks))),
    )
  where
    has : (block : ℕ) → start ≤ block → block < start + blocks_of size → has_block start (blocks_of size) block ≡ true
    has block low high = by (blocks_of size) high
      where
        by : (n : ℕ) → block < start + n → (nat_le start block && nat_lt block (start + n)) ≡ true
        by n lt = and_from (nat_le start block) (nat_lt block (start + n)) (le-leb start block low) (lt-ltb block (start + n) lt)

    none : (le : Bool) → (le && false) ≡ false
    none true = refl
    none false = refl

-- ---- objects

-- free blocks in the library's words
pub leaves_free : (objects : List ObjectRow) (area : Area) (bytes : ℕ) → AreHeld (object_states objects) area bytes → LeavesFree objects area
leaves_free objects area bytes h = record {
  free = λ block. h.free block
      ∙ ap (λ r. nat_le (block + 1) area.blocks && r) (list_all-map (is_clear_of block 1) (λ (row : ObjectRow). row.state) objects);
  extents = sym (list_all-map (is_extent_good area.blocks) (λ (row : ObjectRow). row.state) objects) ∙ h.inside;
}
