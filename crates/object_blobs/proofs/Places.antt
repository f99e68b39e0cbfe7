-- What callers need of places: one that was found may be taken, and one that was taken may be given back.
use Rattle.std.proofs.Common.{◌≡◌, ℕ, ◌+◌, ◌-◌, ◌<◌, ◌≤◌, Bool, true, false, not, Some, refl, sym, ap, ◌∙◌, arith}
use Rattle.std.proofs.lemmas.Bool.{and_right, not_from_false}
use Rattle.object_blobs.specs.Holes.{Area, HasHoles, GivesBlocks, IsPlaceTaken, has_block, is_free_block, is_free_place, is_taken_place, least_place}
use Rattle.object_blobs.proofs.Placing.{found_free}
use Rattle.object_blobs.proofs.Runs.{each_at, each_from}
use Rattle.object_blobs.proofs.Spaced.{free_high, has_from, spaced_area}

-- a place that was found is free
pub place_is_free : (area : Area) (count start : ℕ) → Some start ≡ least_place area count → is_free_place area.holes count start ≡ true
place_is_free area count start e = found_free area count start (sym e)

-- a free place lies in the area
pub place_is_inside : (area : Area) (count start : ℕ) → HasHoles area → 0 < count → is_free_place area.holes count start ≡ true → start + count ≤ area.blocks
place_is_inside area count start h some free =
    let last = free_high 0 (area.blocks + 1) (start + count - 1) area.holes (spaced_area area h)
    (each_at (is_free_block area.holes) count start (start + count - 1) free (omega arith) (omega arith)) in
    omega arith

-- a place that was taken isn't free
pub taken_is_taken : (start count : ℕ) (old new : Area) → IsPlaceTaken start count old new → is_taken_place new.holes count start ≡ true
taken_is_taken start count old new h = each_from (λ block. not (is_free_block new.holes block)) count start (λ block l e.
    not_from_false (is_free_block new.holes block) (h.free block ∙ and_right (is_free_block old.holes block) _
    (not_true (has_block start count block) (has_from start count block l e))))
  where
    not_true : (b : Bool) → b ≡ true → not b ≡ false
    not_true b e = ap not e

-- it stays so while another one is taken
pub taken_stays : (start count other other_count : ℕ) (old new : Area) → IsPlaceTaken other other_count old new → is_taken_place old.holes count start ≡ true
    → is_taken_place new.holes count start ≡ true
taken_stays start count other other_count old new h taken = each_from (λ block. not (is_free_block new.holes block)) count start (λ block l e.
    by block (each_at (λ b. not (is_free_block old.holes b)) count start block taken l e))
  where
    by : (block : ℕ) → not (is_free_block old.holes block) ≡ true → not (is_free_block new.holes block) ≡ true
    by block e = let is = h.free block in grind (arith, is, e)

-- and while one that has none of its blocks is given back
pub taken_apart : (start count other other_count : ℕ) (old new : Area) → GivesBlocks other other_count old new → is_taken_place old.holes count start ≡ true
    → ((block : ℕ) → start ≤ block → block < start + count → has_block other other_count block ≡ false) → is_taken_place new.holes count start ≡ true
taken_apart start count other other_count old new h taken apart = each_from (λ block. not (is_free_block new.holes block)) count start (λ block l e.
    by block (each_at (λ b. not (is_free_block old.holes b)) count start block taken l e) (apart block l e))
  where
    by : (block : ℕ) → not (is_free_block old.holes block) ≡ true → has_block other other_count block ≡ false → not (is_free_block new.holes block) ≡ true
    by block e none = let is = h.free block in grind (arith, is, e, none)

-- a place that is free has no block of one that isn't
pub free_is_apart : (start count other other_count : ℕ) (area : Area) → is_free_place area.holes count start ≡ true
    → is_taken_place area.holes other_count other ≡ true → (block : ℕ) → start ≤ block → block < start + count → has_block other other_count block ≡ false
free_is_apart start count other other_count area free taken block l e = by (has_block other other_count block) refl
  where
    by : (b : Bool) → has_block other other_count block ≡ b → has_block other other_count block ≡ false
    by false e' = e'
    by true e' =
        absurd
        (let low : other ≤ block = grind arith in
        let high : block < other + other_count = grind arith in
        let is = each_at (is_free_block area.holes) count start block free l e in
        let not_so = each_at (λ b. not (is_free_block area.holes b)) other_count other block taken low high in
        grind (arith, is, not_so))
