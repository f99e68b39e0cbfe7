-- Holes at the keys of their first blocks, as a version keeps them.
use Rattle.std.specs.Prelude.{◌≡◌, ℕ, ◌+◌, ◌-◌, ◌^◌, ◌≤◌, ◌==◌, nat_le, ℤ, pos, List, Option, Some, None, if◌then◌else◌, find, option_map}
use Rattle.shared_tree.specs.Pairs.{values, with_pair, without_key}
use Rattle.shared_tree.specs.Rows.{IsKeyedBy}
use Rattle.object_blobs.specs.declared.space.Hole.{Hole}
use Rattle.object_blobs.specs.Holes.{Area, HasHoles}

-- the key of a hole
abbrev pub hole_key : Hole → ℤ
hole_key hole = pos hole.start

-- the area of so many blocks with these holes
abbrev pub area_of : ℕ → List (ℤ × Hole) → Area
area_of blocks rows = record { blocks = blocks; holes = values rows }

-- holes stand at their keys, and they are those of an area of so many blocks
pub record AreHolesOf (blocks : ℕ) (rows : List (ℤ × Hole)) : Type 0 where
  pub keyed : IsKeyedBy hole_key rows
  pub area : HasHoles (area_of blocks rows)

-- the same, with an end of each that is a `u64`
abbrev pub AreHoles : List (ℤ × Hole) → Type 0
AreHoles rows = AreHolesOf (2 ^ 64 - 1) rows

-- a hole that is one of these, and has so many blocks from a first one on
pub record Holds (rows : List (ℤ × Hole)) (start count : ℕ) (hole : Hole) : Type 0 where
  pub begins : hole.start ≤ start
  pub ends : start + count ≤ hole.start + hole.blocks
  pub last : hole.start + hole.blocks ≤ 2 ^ 64 - 1
  pub stands : rows ≡ with_pair (hole_key hole, hole) rows

-- the holes with this one instead of the one that begins where it does, which is left out where
-- this one is empty
abbrev pub with_front : Hole → List (ℤ × Hole) → List (ℤ × Hole)
with_front hole rows =
    if hole.blocks == 0 then without_key (hole_key hole) rows
    else with_pair (hole_key hole, hole) rows

-- the holes and this one, unless it is empty
abbrev pub with_rest : Hole → List (ℤ × Hole) → List (ℤ × Hole)
with_rest hole rows = if hole.blocks == 0 then rows else with_pair (hole_key hole, hole) rows

-- where free blocks that end at a block begin: at the hole before it, if that ends there
abbrev pub joined_start : ℕ → Option (ℤ × Hole) → ℕ
joined_start start None = start
joined_start start (Some p) = if p.1.start + p.1.blocks == start then p.1.start else start

-- where free blocks that end before a block end: with the hole behind them, if that begins there
abbrev pub joined_end : ℕ → Option (ℤ × Hole) → ℕ
joined_end stop None = stop
joined_end stop (Some p) = if p.1.start == stop then p.1.start + p.1.blocks else stop

-- the holes without the one that begins at a block, where the free blocks before it end with it
abbrev pub without_joined : ℕ → ℕ → List (ℤ × Hole) → List (ℤ × Hole)
without_joined stop last rows = if last == stop then rows else without_key (pos stop) rows

-- the start of the first of these holes that has so many blocks
abbrev pub first_start : ℕ → List Hole → Option ℕ
first_start count holes =
    option_map (λ hole. hole.start) (find (λ hole. nat_le count hole.blocks) holes)
