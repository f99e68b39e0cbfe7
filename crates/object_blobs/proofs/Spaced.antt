-- Holes that lie apart between two blocks, and which blocks they have.
use Rattle.std.proofs.Common.{◌≡◌, inl, inr, ℕ, ◌+◌, ◌<◌, ◌≤◌, nat_lt, nat_le, Bool, true, false, ◌||◌, List, [], ◌∷◌, ◌++◌, refl, sym, arith}
use Rattle.std.specs.Prelude.{⊤}
use Rattle.std.specs.List.{list_all}
use Rattle.std.proofs.lemmas.Bool.{and_from, and_parts, cases_lt, or_from}
use Rattle.std.proofs.lemmas.List.Folds.{list_any-append}
use Rattle.media_rows.specs.Lists.{each_pair}
use Rattle.object_blobs.specs.declared.space.Hole.{Hole}
use Rattle.object_blobs.specs.Holes.{Area, HasHoles, ends_before, has_block, is_free_block, is_hole_in}

-- ---- tests

-- tests that imply each other are the same
pub same_tests : (a b : Bool) → (a ≡ true → b ≡ true) → (b ≡ true → a ≡ true) → a ≡ b
same_tests true b f g = sym (f refl)
same_tests false true f g = g refl
same_tests false false f g = refl

pub all_pass : {X : Type 0} (p q : X → Bool) → ((x : X) → p x ≡ true → q x ≡ true) → (xs : List X) → list_all p xs ≡ true → list_all q xs ≡ true
all_pass p q f [] h = refl
all_pass p q f (x ∷ xs) h =
    let both = and_parts (p x) (list_all p xs) h in
    and_from (q x) (list_all q xs) (f x both.0) (all_pass p q f xs both.1)

-- ---- blocks of a run

pub has_from : (start count block : ℕ) → start ≤ block → block < start + count → has_block start count block ≡ true
has_from start count block low high = grind arith

pub has_low : (start count block : ℕ) → has_block start count block ≡ true → start ≤ block
has_low start count block h = grind arith

pub has_high : (start count block : ℕ) → has_block start count block ≡ true → block < start + count
has_high start count block h = grind arith

pub not_below : (start count block : ℕ) → block < start → has_block start count block ≡ false
not_below start count block h = grind arith

pub not_behind : (start count block : ℕ) → start + count ≤ block → has_block start count block ≡ false
not_behind start count block h = grind arith

-- ---- holes apart

-- a hole has a block, begins at a block or behind it, and ends before another one
pub record Lies (low top : ℕ) (hole : Hole) : Type 0 where
  pub begins : low ≤ hole.start
  pub filled : 0 < hole.blocks
  pub ends : hole.start + hole.blocks < top

-- each hole lies there, and behind a block that no earlier one has
abbrev pub IsSpaced : ℕ → ℕ → List Hole → Type 0
IsSpaced low top [] = ⊤
IsSpaced low top (hole ∷ later) = Lies low top hole × IsSpaced (hole.start + hole.blocks + 1) top later

pub spaced_within : (low low' top top' : ℕ) (holes : List Hole) → low' ≤ low → top ≤ top' → IsSpaced low top holes → IsSpaced low' top' holes
spaced_within low low' top top' [] l t h = tt
spaced_within low low' top top' (hole ∷ later) l t h =
    let b = h.0.begins in
    let e = h.0.ends in (
      record { begins = omega arith; filled = h.0.filled; ends = omega arith },
      spaced_within (hole.start + hole.blocks + 1) (hole.start + hole.blocks + 1) top
          top' later (omega arith) t h.1,
    )

pub spaced_join : (low mid top : ℕ) (front rest : List Hole) → low ≤ mid → mid ≤ top → IsSpaced low mid front → IsSpaced mid top rest
    → IsSpaced low top (front ++ rest)
spaced_join low mid top [] rest l t f r = spaced_within mid low top top rest l (omega arith) r
spaced_join low mid top (hole ∷ later) rest l t f r =
    let e = f.0.ends in (
      record { begins = f.0.begins; filled = f.0.filled; ends = omega arith },
      spaced_join (hole.start + hole.blocks + 1) mid top later rest (omega arith) t f.1
          r,
    )

-- round one of the holes
pub record Parts (low top : ℕ) (front : List Hole) (hole : Hole) (rest : List Hole) : Type 0 where
  pub before : IsSpaced low hole.start front
  pub lies : Lies low top hole
  pub behind : IsSpaced (hole.start + hole.blocks + 1) top rest

pub spaced_parts : (low top : ℕ) (front : List Hole) (hole : Hole) (rest : List Hole) → IsSpaced low top (front ++ hole ∷ rest) → Parts low top front hole rest
spaced_parts low top [] hole rest h = record { before = tt; lies = h.0; behind = h.1 }
spaced_parts low top (first ∷ front) hole rest h =
    let parts = spaced_parts (first.start + first.blocks + 1) top front hole rest h.1 in
    let behind = parts.lies.begins in
    let begins = h.0.begins in
    record {
      before = (record { begins = h.0.begins; filled = h.0.filled; ends = omega arith }, parts.before);
      lies = record { begins = omega arith; filled = parts.lies.filled; ends = parts.lies.ends };
      behind = parts.behind;
    }

-- ---- the same by tests

spaced_by : (blocks low : ℕ) (holes : List Hole) → list_all (is_hole_in blocks) holes ≡ true → each_pair ends_before holes ≡ true
    → list_all (λ h. nat_le low h.start) holes ≡ true → IsSpaced low (blocks + 1) holes
spaced_by blocks low [] inside apart behind = tt
spaced_by blocks low (hole ∷ later) inside apart behind =
    let i = and_parts (is_hole_in blocks hole) (list_all (is_hole_in blocks) later) inside in
    let a = and_parts (list_all (ends_before hole) later) (each_pair ends_before later) apart in
    let b = and_parts (nat_le low hole.start) (list_all (λ h. nat_le low h.start) later) behind in
    let own = and_parts (nat_lt 0 hole.blocks) (nat_le (hole.start + hole.blocks) blocks) i.0 in (
      record { begins = grind (arith, b.0); filled = grind (arith, own.0); ends = grind (arith, own.1) },
      spaced_by blocks (hole.start + hole.blocks + 1) later i.1 a.1
          (all_pass (ends_before hole) (λ h. nat_le (hole.start + hole.blocks + 1) h.start) (λ h lt. grind arith) later a.0),
    )

pub spaced_area : (area : Area) → HasHoles area → IsSpaced 0 (area.blocks + 1) area.holes
spaced_area area h =
    spaced_by area.blocks 0 area.holes h.inside h.apart (all_pass (is_hole_in area.blocks) (λ hole. nat_le 0 hole.start) (λ hole is. grind arith) area.holes
    h.inside)

inside_by : (blocks low : ℕ) (holes : List Hole) → IsSpaced low (blocks + 1) holes → list_all (is_hole_in blocks) holes ≡ true
inside_by blocks low [] h = refl
inside_by blocks low (hole ∷ later) h =
    let f = h.0.filled in
    let e = h.0.ends in
    and_from (is_hole_in blocks hole) _ (grind arith) (inside_by blocks (hole.start + hole.blocks + 1) later h.1)

all_behind : (low from top : ℕ) (hole : Hole) (later : List Hole) → hole.start + hole.blocks < from → from ≤ low → IsSpaced low top later
    → list_all (ends_before hole) later ≡ true
all_behind low from top hole [] lt le h = refl
all_behind low from top hole (next ∷ later) lt le h =
    let b = h.0.begins in
    and_from (ends_before hole next) _ (grind arith) (all_behind (next.start + next.blocks + 1) from top hole later lt (omega arith) h.1)

apart_by : (low top : ℕ) (holes : List Hole) → IsSpaced low top holes → each_pair ends_before holes ≡ true
apart_by low top [] h = refl
apart_by low top (hole ∷ later) h =
    and_from (list_all (ends_before hole) later) _ (all_behind _ (hole.start + hole.blocks + 1) top hole later (omega arith) (omega arith) h.1)
    (apart_by (hole.start + hole.blocks + 1) top later h.1)

pub area_spaced : (blocks : ℕ) (holes : List Hole) → IsSpaced 0 (blocks + 1) holes → HasHoles (record { blocks = blocks; holes = holes })
area_spaced blocks holes h = record { inside = inside_by blocks 0 holes h; apart = apart_by 0 (blocks + 1) holes h }

-- ---- their blocks

pub free_append : (front rest : List Hole) (block : ℕ) → is_free_block (front ++ rest) block ≡ (is_free_block front block || is_free_block rest block)
free_append front rest block = list_any-append (λ hole. has_block hole.start hole.blocks block) front rest

-- no hole has a block before all of them, or behind
pub free_below : (low top block : ℕ) (holes : List Hole) → IsSpaced low top holes → block < low → is_free_block holes block ≡ false
free_below low top block [] h lt = refl
free_below low top block (hole ∷ later) h lt =
    let b = h.0.begins in
    or_from _ _ (not_below hole.start hole.blocks block (omega arith)) (free_below (hole.start + hole.blocks + 1) top block later h.1 (omega arith))

pub free_behind : (low top block : ℕ) (holes : List Hole) → IsSpaced low top holes → top ≤ block + 1 → is_free_block holes block ≡ false
free_behind low top block [] h le = refl
free_behind low top block (hole ∷ later) h le =
    let e = h.0.ends in
    or_from _ _ (not_behind hole.start hole.blocks block (omega arith)) (free_behind (hole.start + hole.blocks + 1) top block later h.1 le)

-- a free block lies between the ends
pub free_low : (low top block : ℕ) (holes : List Hole) → IsSpaced low top holes → is_free_block holes block ≡ true → low ≤ block
free_low low top block holes h free = elim (cases_lt block low) [
  | inl lt ↦ absurd (let none = free_below low top block holes h lt in grind (arith, none, free))
  | inr ge ↦ ge
]

pub free_high : (low top block : ℕ) (holes : List Hole) → IsSpaced low top holes → is_free_block holes block ≡ true → block + 1 < top
free_high low top block holes h free = elim (cases_lt (block + 1) top) [
  | inl lt ↦ lt
  | inr ge ↦
      absurd (let none = free_behind low top block holes h ge in grind (arith, none, free))
]
