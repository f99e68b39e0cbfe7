-- The least free place: it begins where the first hole does that is large enough, and it is the library's.
use Rattle.std.proofs.Common.{◌≡◌, ◌⊎◌, inl, inr, ℕ, ◌+◌, ◌-◌, ◌<◌, ◌≤◌, nat_lt, nat_le, Bool, true, false, cond, ◌||◌, List, [], ◌∷◌, Option, Some, None, option_map, refl, sym, ap, ◌∙◌, arith}
use Rattle.std.specs.Prelude.{◌==◌, MatchOption, find}
use Rattle.std.specs.List.{list_all}
use Rattle.std.proofs.lemmas.Bool.{and_from, and_parts, cases_lt, eqb-false, eqb-true, false_from_ne_true, leb-false, leb-true, le-leb, or_cases, or_from, or_left, or_right}
use Rattle.media_rows.specs.declared.object.ObjectRow.{ObjectRow}
use Rattle.media_rows.specs.declared.object.ObjectState.{ObjectState}
use Rattle.media_rows.specs.declared.object.ObjectState.TheVariants.{Allocated, Stored}
use Rattle.media_rows.specs.Good.{is_extent_good}
use Rattle.media_rows.specs.Lists.{numbers_below}
use Rattle.media_rows.specs.Objects.{blocks_of, free_place, is_clear_of, is_free}
use Rattle.object_blobs.specs.declared.space.Hole.{Hole}
use Rattle.object_blobs.specs.Holes.{Area, HasHoles, LeavesFree, has_block, is_free_block, is_free_place, least_place}
use Rattle.object_blobs.specs.Within.Keys.{first_start}
use Rattle.object_blobs.proofs.Runs.{each_at, each_from, find_least, find_none, find_same, found_passes}
use Rattle.object_blobs.proofs.Spaced.{IsSpaced, free_below, has_from, not_behind, same_tests, spaced_area}

-- ---- the first hole that is large enough

-- whether a hole has so many blocks
abbrev fits : ℕ → Hole → Bool
fits count hole = nat_le count hole.blocks

-- a place behind a hole that is too small has all of its blocks behind that
later_place : (low top count start : ℕ) (hole : Hole) (later : List Hole) → IsSpaced low top (hole ∷ later) → 0 < count → hole.blocks < count
    → is_free_place (hole ∷ later) count start ≡ true → (hole.start + hole.blocks ≤ start) × (is_free_place later count start ≡ true)
later_place low top count start hole later h some small free =
    let here : IsSpaced hole.start top (hole ∷ later) = (record { begins = omega arith; filled = h.0.filled; ends = h.0.ends }, h.1) in
    let at : (block : ℕ) → start ≤ block → block < start + count → is_free_block (hole ∷ later) block ≡ true = λ block l e.
    each_at (is_free_block (hole ∷ later)) count start block free l e in
    let begins : hole.start ≤ start = elim (cases_lt start hole.start) [
      | inl lt ↦ absurd (let none = free_below hole.start top start (hole ∷ later) here lt in let is = at start (omega arith) (omega arith) in
          grind (arith, none, is))
      | inr ge ↦ ge
    ] in
    let stop : ℕ = hole.start + hole.blocks in
    let behind : stop ≤ start = elim (cases_lt start stop) [
      | inl lt ↦
          absurd
          (let is = at stop (omega arith) (omega arith) in
          let none = or_from _ _ (not_behind hole.start hole.blocks stop (omega arith)) (free_below (stop + 1) top stop later h.1 (omega arith)) in
          grind (arith, is, none))
      | inr ge ↦ ge
    ] in
    (behind, each_from (is_free_block later) count start (λ block l e. other block (omega (arith, behind)) (at block l e)))
  where
    other : (block : ℕ) → hole.start + hole.blocks ≤ block → is_free_block (hole ∷ later) block ≡ true → is_free_block later block ≡ true
    other block le is = sym (ap (λ b. b || is_free_block later block) (not_behind hole.start hole.blocks block le)) ∙ is

-- the start of the hole is the least free place
abbrev IsLeast : ℕ → ℕ → List Hole → Option Hole → Type 0
IsLeast top count holes found = MatchOption found ((start : ℕ) → is_free_place holes count start ≡ false)
    (λ hole. (is_free_place holes count hole.start ≡ true) × (hole.start + count < top) × ((start : ℕ) → start < hole.start
    → is_free_place holes count start ≡ false))

least_hole : (low top count : ℕ) (holes : List Hole) → IsSpaced low top holes → 0 < count → IsLeast top count holes (find (fits count) holes)
least_hole low top count [] h some = λ start. false_from_ne_true (is_free_place [] count start)
    (λ is. none (each_at (is_free_block []) count start start is (omega arith) (omega arith)))
  where
    none : false ≡ true → ⊥
    none e = grind (arith, e)
least_hole low top count (hole ∷ later) h some = by (fits count hole) refl (least_hole (hole.start + hole.blocks + 1) top count later h.1 some)
  where
    first : nat_le count hole.blocks ≡ true → IsLeast top count (hole ∷ later) (Some hole)
    first enough =
        let room : count ≤ hole.blocks = leb-true count hole.blocks enough in
        let ends = h.0.ends in
        let here : IsSpaced hole.start top (hole ∷ later) = (record { begins = omega arith; filled = h.0.filled; ends = h.0.ends }, h.1) in (
          each_from (is_free_block (hole ∷ later)) count hole.start
              (λ block l e. or_left _ (is_free_block later block) (has_from hole.start hole.blocks block l (omega arith))),
          omega arith,
          λ start lt. false_from_ne_true (is_free_place (hole ∷ later) count start) (λ is.
              (let none = free_below hole.start top start (hole ∷ later) here lt in
              let own = each_at (is_free_block (hole ∷ later)) count start start is (omega arith) (omega arith) in
              grind (arith, none, own))),
        )

    behind : hole.blocks < count → (o : Option Hole) → IsLeast top count later o → IsLeast top count (hole ∷ later) o
    behind small None none = λ start. false_from_ne_true (is_free_place (hole ∷ later) count start) (λ is.
        (let rest = later_place low top count start hole later h some small is in
        let no_place = none start in
        grind (arith, rest.1, no_place)))
    behind small (Some found) is = (
      each_from (is_free_block (hole ∷ later)) count found.start (λ block l e. or_right (has_block hole.start hole.blocks block) _
          (each_at (is_free_block later) count found.start block is.0 l e)),
      is.1,
      λ start lt. false_from_ne_true (is_free_place (hole ∷ later) count start) (λ all.
          (let rest = later_place low top count start hole later h some small all in
          let no_place = is.2 start lt in
          grind (arith, rest.1, no_place))),
    )

    by : (b : Bool) → fits count hole ≡ b → IsLeast top count later (find (fits count) later)
        → IsLeast top count (hole ∷ later) (cond b (Some hole) (find (fits count) later))
    by true e rest = first e
    by false e rest = behind (leb-false count hole.blocks e) (find (fits count) later) rest

pub place_is : (area : Area) (count : ℕ) → HasHoles area → 0 < count → first_start count area.holes ≡ least_place area count
place_is area count h some =
    by (find (fits count) area.holes) (least_hole 0 (area.blocks + 1) count area.holes (spaced_area area h) some) ∙ ap
    (λ b. cond b (Some 0) (find (is_free_place area.holes count) (numbers_below area.blocks))) (sym (zero_no (count == 0) refl))
  where
    zero_no : (b : Bool) → (count == 0) ≡ b → (count == 0) ≡ false
    zero_no true e = absurd (omega (arith, eqb-true count 0 e))
    zero_no false e = e

    by : (o : Option Hole) → IsLeast (area.blocks + 1) count area.holes o → option_map (λ hole. hole.start) o ≡ find (is_free_place area.holes count)
        (numbers_below area.blocks)
    by None none = sym (find_none (is_free_place area.holes count) area.blocks (λ start lt. none start))
    by (Some hole) is = sym (find_least (is_free_place area.holes count) area.blocks hole.start (omega (arith, is.1)) is.0 is.2)

-- a place that was found is free
pub found_free : (area : Area) (count start : ℕ) → least_place area count ≡ Some start → is_free_place area.holes count start ≡ true
found_free area count start e = by (count == 0) refl e
  where
    by : (b : Bool) → (count == 0) ≡ b → cond b (Some 0) (find (is_free_place area.holes count) (numbers_below area.blocks)) ≡ Some start
        → is_free_place area.holes count start ≡ true
    by true zero e' = each_from (is_free_block area.holes) count start (λ block l h. absurd (omega (arith, eqb-true count 0 zero)))
    by false some e' = (found_passes (is_free_place area.holes count) area.blocks start e').0

-- ---- the library's place

-- an extent that has none of so many blocks is clear of them
clear_run : (blocks start count : ℕ) (state : ObjectState) → is_extent_good blocks state ≡ true → 0 < count
    → ((block : ℕ) → start ≤ block → block < start + count → is_clear_of block 1 state ≡ true) → is_clear_of start count state ≡ true
clear_run blocks start count Allocated good some h = refl
clear_run blocks start count (Stored from size digest) good some h = by (cases_lt from (start + count)) (cases_lt start (from + blocks_of size))
  where
    filled : (nat_lt 0 size ≡ true) ⊎ ((from == 0) ≡ true)
    filled = or_cases (nat_lt 0 size) (from == 0) (and_parts (nat_le (from + blocks_of size) blocks) (nat_lt 0 size || (from == 0)) good).1

    by : (from < start + count) ⊎ (start + count ≤ from) → (start < from + blocks_of size) ⊎ (from + blocks_of size ≤ start)
        → is_clear_of start count (Stored from size digest) ≡ true
    by (inr le) other = or_left _ _ (le-leb (start + count) from le)
    by (inl lt) (inr le) = or_right _ _ (le-leb (from + blocks_of size) start le)
    by (inl lt) (inl after) = absurd (meets (cases_lt start from) filled)
      where
        meets : (start < from) ⊎ (from ≤ start) → (nat_lt 0 size ≡ true) ⊎ ((from == 0) ≡ true) → ⊥
        meets (inr le) f = let clear = h start (omega arith) (omega arith) in grind (arith, clear, le, after)
        meets (inl behind) (inl has) = let clear = h from (omega arith) lt in grind (arith, clear, has)
        meets (inl behind) (inr zero) = omega (arith, eqb-true from 0 zero, behind)

all_clear : (blocks start count : ℕ) (objects : List ObjectRow) → list_all (λ row. is_extent_good blocks row.state) objects ≡ true → 0 < count
    → ((block : ℕ) → start ≤ block → block < start + count → list_all (λ row. is_clear_of block 1 row.state) objects ≡ true)
    → list_all (λ row. is_clear_of start count row.state) objects ≡ true
all_clear blocks start count [] good some h = refl
all_clear blocks start count (row ∷ rows) good some h =
    let own = and_parts (is_extent_good blocks row.state) _ good in
    and_from (is_clear_of start count row.state) _
    (clear_run blocks start count row.state own.0 some (λ block l e.
    (and_parts (is_clear_of block 1 row.state) (list_all (λ r. is_clear_of block 1 r.state) rows) (h block l e)).0))
    (all_clear blocks start count rows own.1 some (λ block l e. (and_parts (is_clear_of block 1 row.state) (list_all (λ r. is_clear_of block 1 r.state) rows)
    (h block l e)).1))

clear_block : (start count block : ℕ) (state : ObjectState) → start ≤ block → block < start + count → is_clear_of start count state ≡ true
    → is_clear_of block 1 state ≡ true
clear_block start count block Allocated l e h = refl
clear_block start count block (Stored from size digest) l e h = elim (or_cases (nat_le (start + count) from) (nat_le (from + blocks_of size) start) h) [
  | inl before ↦ or_left _ _ (le-leb (block + 1) from (omega (arith, leb-true (start + count) from before)))
  | inr behind ↦ or_right _ _ (le-leb (from + blocks_of size) block (omega (arith, leb-true (from + blocks_of size) start behind)))
]

each_clear : (start count block : ℕ) (objects : List ObjectRow) → start ≤ block → block < start + count
    → list_all (λ row. is_clear_of start count row.state) objects ≡ true → list_all (λ row. is_clear_of block 1 row.state) objects ≡ true
each_clear start count block [] l e h = refl
each_clear start count block (row ∷ rows) l e h =
    let both = and_parts (is_clear_of start count row.state) (list_all (λ r. is_clear_of start count r.state) rows) h in
    and_from _ _ (clear_block start count block row.state l e both.0) (each_clear start count block rows l e both.1)

pub same_places : (objects : List ObjectRow) (area : Area) (count : ℕ) → LeavesFree objects area → 0 < count → (start : ℕ)
    → is_free_place area.holes count start ≡ is_free objects area.blocks count start
same_places objects area count leaves some start = same_tests (is_free_place area.holes count start) (is_free objects area.blocks count start) there back
  where
    one : (block : ℕ) → is_free objects area.blocks 1 block ≡ true
        → (block + 1 ≤ area.blocks) × (list_all (λ row. is_clear_of block 1 row.state) objects ≡ true)
    one block is = let both = and_parts (nat_le (block + 1) area.blocks) (list_all (λ row. is_clear_of block 1 row.state) objects) is in
        (leb-true (block + 1) area.blocks both.0, both.1)

    there : is_free_place area.holes count start ≡ true → is_free objects area.blocks count start ≡ true
    there free =
        let at : (block : ℕ) → start ≤ block → block < start + count → is_free objects area.blocks 1 block ≡ true = λ block l e. sym (leaves.free block) ∙
        each_at (is_free_block area.holes) count start block free l e in
        let last = one (start + count - 1) (at (start + count - 1) (omega arith) (omega arith)) in
        and_from (nat_le (start + count) area.blocks) _ (le-leb (start + count) area.blocks (omega (arith, last.0)))
        (all_clear area.blocks start count objects leaves.extents some (λ block l e. (one block (at block l e)).1))

    back : is_free objects area.blocks count start ≡ true → is_free_place area.holes count start ≡ true
    back is =
        let both = and_parts (nat_le (start + count) area.blocks) (list_all (λ row. is_clear_of start count row.state) objects) is in
        let fits_in : start + count ≤ area.blocks = leb-true (start + count) area.blocks both.0 in
        each_from (is_free_block area.holes) count start (λ block l e. leaves.free block ∙ and_from (nat_le (block + 1) area.blocks) _
        (le-leb (block + 1) area.blocks (omega arith)) (each_clear start count block objects l e both.1))

pub library_place : (objects : List ObjectRow) (area : Area) (count : ℕ) → LeavesFree objects area
    → least_place area count ≡ free_place objects area.blocks count
library_place objects area count leaves = by (count == 0) refl
  where
    by : (b : Bool) → (count == 0) ≡ b → cond b (Some 0) (find (is_free_place area.holes count) (numbers_below area.blocks)) ≡ cond b (Some 0)
        (find (is_free objects area.blocks count) (numbers_below area.blocks))
    by true e = refl
    by false e =
        let other = eqb-false count 0 e in
        find_same (is_free_place area.holes count) (is_free objects area.blocks count) area.blocks
        (λ start lt. same_places objects area count leaves (omega (arith, other)) start)
