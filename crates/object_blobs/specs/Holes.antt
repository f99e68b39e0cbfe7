-- Which media blocks are free, as the holes between the extents, and where so many of them lie in a
-- row. Our own rules.
use Rattle.std.specs.Prelude.{◌≡◌, ℕ, ◌+◌, ◌==◌, nat_lt, nat_le, List, Bool, not, ◌&&◌, ◌||◌, IsTrue, Option, Some, if◌then◌else◌, find}
use Rattle.std.specs.List.{list_all, list_any}
use Rattle.media_rows.specs.declared.object.ObjectRow.{ObjectRow}
use Rattle.media_rows.specs.Good.{is_extent_good}
use Rattle.media_rows.specs.Lists.{each_pair, numbers_below}
use Rattle.media_rows.specs.Objects.{is_free}
use Rattle.object_blobs.specs.declared.space.Hole.{Hole}

-- so many media blocks, by their numbers from 0 on, and the holes among them by rising start
pub record Area : Type 0 where
  pub blocks : ℕ
  pub holes : List Hole

-- ---- free blocks

-- so many blocks from a first one on have this one
abbrev pub has_block : ℕ → ℕ → ℕ → Bool
has_block start count block = nat_le start block && nat_lt block (start + count)

-- a block is free where a hole has it
abbrev pub is_free_block : List Hole → ℕ → Bool
is_free_block holes block = list_any (λ hole. has_block hole.start hole.blocks block) holes

-- each of so many blocks from a first one on passes a test
abbrev pub each_block : (ℕ → Bool) → ℕ → ℕ → Bool
each_block test count start = list_all (λ i. test (start + i)) (numbers_below count)

-- so many blocks from a first one on are free
abbrev pub is_free_place : List Hole → ℕ → ℕ → Bool
is_free_place holes count start = each_block (is_free_block holes) count start

-- none of so many blocks from a first one on is free
abbrev pub is_taken_place : List Hole → ℕ → ℕ → Bool
is_taken_place holes count start =
    each_block (λ block. not (is_free_block holes block)) count start

-- the least free place for so many blocks, where there is one; no blocks are placed at 0
abbrev pub least_place : Area → ℕ → Option ℕ
least_place area count =
    if count == 0 then Some 0
    else find (is_free_place area.holes count) (numbers_below area.blocks)

-- ---- what holds of each area

-- a hole has a block, and all of its blocks are the area's
abbrev pub is_hole_in : ℕ → Hole → Bool
is_hole_in blocks hole = nat_lt 0 hole.blocks && nat_le (hole.start + hole.blocks) blocks

-- a hole ends before another begins, and a block that isn't free lies between them
abbrev pub ends_before : Hole → Hole → Bool
ends_before hole other = nat_lt (hole.start + hole.blocks) other.start

-- the holes of an area lie in it, rise, and no two of them touch
pub record HasHoles (area : Area) : Type 0 where
  pub inside : IsTrue (list_all (is_hole_in area.blocks) area.holes)
  pub apart : IsTrue (each_pair ends_before area.holes)

-- no other area of as many blocks has the same free blocks
abbrev pub IsToldByFree : Area → Type 0
IsToldByFree area = (other : Area) → HasHoles other → other.blocks ≡ area.blocks
    → ((block : ℕ) → is_free_block other.holes block ≡ is_free_block area.holes block)
    → other ≡ area

-- ---- changes

-- an area in which all blocks are free
pub record IsAllFree (count : ℕ) (area : Area) : Type 0 where
  pub blocks : area.blocks ≡ count
  pub free : (block : ℕ) → is_free_block area.holes block ≡ nat_lt block count

-- an area once so many blocks from a first one on aren't free any more: no other block changes
pub record IsPlaceTaken (start count : ℕ) (old new : Area) : Type 0 where
  pub blocks : new.blocks ≡ old.blocks
  pub free : (block : ℕ) → is_free_block new.holes block
      ≡ (is_free_block old.holes block && not (has_block start count block))

-- an area once so many blocks from a first one on are free: no other block changes
pub record GivesBlocks (start count : ℕ) (old new : Area) : Type 0 where
  pub blocks : new.blocks ≡ old.blocks
  pub free : (block : ℕ) → is_free_block new.holes block
      ≡ (is_free_block old.holes block || has_block start count block)

-- ---- the library's places

-- An area's free blocks are those that the extents of the library's objects leave. Each extent lies
-- in the area, and one without bytes begins at block 0, as in each good library.
pub record LeavesFree (objects : List ObjectRow) (area : Area) : Type 0 where
  pub free : (block : ℕ) → is_free_block area.holes block ≡ is_free objects area.blocks 1 block
  pub extents : IsTrue (list_all (λ row. is_extent_good area.blocks row.state) objects)
