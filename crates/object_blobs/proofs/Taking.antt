-- A space of which blocks are taken, and one with a first hole.
use Rattle.std.proofs.Common.{◌≡◌, ℕ, pos, ◌<ℤ◌, ◌+◌, ◌-◌, ◌<◌, ◌≤◌, nat_lt, Bool, true, false, not, cond, if◌then◌else◌, ◌&&◌, ◌||◌, List, [], ◌∷◌, ◌++◌, filter, refl, sym, ap, subst, ◌∙◌, arith, append_assoc}
use Rattle.std.specs.Prelude.{◌==◌}
use Rattle.std.specs.List.{AllByRecursion}
use Rattle.std.proofs.lemmas.Bool.{eqb-true, eqb-false}
use Rattle.shared_tree.specs.Pairs.{is_above, is_below, values, with_pair, without_key}
use Rattle.object_blobs.specs.declared.space.Hole.{Hole}
use Rattle.object_blobs.specs.Holes.{IsAllFree, IsPlaceTaken, has_block, is_free_block}
use Rattle.object_blobs.specs.Within.Keys.{AreHolesOf, Holds, area_of, hole_key, with_front, with_rest}
use Rattle.object_blobs.proofs.Spaced.{free_behind, free_below, has_high, has_low, not_behind, not_below, same_tests}
use Rattle.object_blobs.proofs.Spread.{Around, Pair, Spread, free_rows, holes_of, keys_before, keys_behind, none_spread, put_between, spread_around, spread_first, spread_join, spread_of}

-- a hole, unless it is empty
pub piece : Hole → List Pair
piece hole = if hole.blocks == 0 then [] else (hole_key hole, hole) ∷ []

piece_spread : (low top : ℕ) (hole : Hole) → low ≤ hole.start → hole.start + hole.blocks < top → Spread low top (piece hole)
unfolding piece
piece_spread low top hole l t = by (hole.blocks == 0) refl
  where
    by : (b : Bool) → (hole.blocks == 0) ≡ b → Spread low top (cond b [] ((hole_key hole, hole) ∷ []))
    by true e = none_spread low top
    by false e = spread_first low top (hole_key hole, hole) [] refl (record { begins = l; filled = omega (arith, eqb-false hole.blocks 0 e); ends = t })
        (none_spread (hole.start + hole.blocks + 1) top)

piece_free : (hole : Hole) (block : ℕ) → is_free_block (values (piece hole)) block ≡ has_block hole.start hole.blocks block
unfolding piece
piece_free hole block = by (hole.blocks == 0) refl
  where
    or_none : (b : Bool) → (b || false) ≡ b
    or_none true = refl
    or_none false = refl

    by : (b : Bool) → (hole.blocks == 0) ≡ b → is_free_block (values (cond b [] ((hole_key hole, hole) ∷ []))) block ≡ has_block hole.start hole.blocks block
    by true e = let none : hole.blocks ≡ 0 = eqb-true hole.blocks 0 e in sym (no_blocks none)
      where
        no_blocks : hole.blocks ≡ 0 → has_block hole.start hole.blocks block ≡ false
        no_blocks none = grind arith
    by false e = or_none (has_block hole.start hole.blocks block)

-- ---- a first hole

rest_is : (hole : Hole) → with_rest hole [] ≡ piece hole
unfolding piece
rest_is hole = refl

pub all_free_of : (blocks : ℕ) (whole : Hole) (rows : List Pair) → whole.start ≡ 0 → whole.blocks ≡ blocks → rows ≡ with_rest whole [] → AreHolesOf blocks rows
all_free_of blocks whole rows start count e =
    holes_of blocks rows (subst (Spread 0 (blocks + 1)) (sym (e ∙ rest_is whole))
    (piece_spread 0 (blocks + 1) whole (omega arith) (omega (arith, start, count))))

pub all_free : (blocks : ℕ) (whole : Hole) (rows : List Pair) → whole.start ≡ 0 → whole.blocks ≡ blocks → rows ≡ with_rest whole []
    → IsAllFree blocks (area_of blocks rows)
all_free blocks whole rows start count e = record {
  blocks = refl;
  free = λ block. ap (λ l. is_free_block (values l) block) (e ∙ rest_is whole) ∙ piece_free whole block ∙ below block;
}
  where
    below : (block : ℕ) → has_block whole.start whole.blocks block ≡ nat_lt block blocks
    below block = rw (start, count) (same_tests (has_block 0 blocks block) (nat_lt block blocks) (λ h. grind arith) (λ h. grind arith))

-- ---- a place taken

-- the hole's blocks are those before the place, its own and those behind it
three : (hole : Hole) (start count block : ℕ) → hole.start ≤ start → start + count ≤ hole.start + hole.blocks → has_block start count block ≡ false
    → has_block hole.start hole.blocks block ≡ (has_block hole.start (start - hole.start) block || has_block (start + count)
    (hole.blocks - (start - hole.start) - count) block)
three hole start count block l e out = grind arith

-- the hole of the place, what is left of it before the place, and what is left behind
pub record Cut (blocks start count : ℕ) (rows : List Pair) (hole front rest : Hole) : Type 0 where
  pub kept : AreHolesOf blocks rows
  pub some : 0 < count
  pub holds : Holds rows start count hole
  pub front_start : front.start ≡ hole.start
  pub front_blocks : front.blocks ≡ start - hole.start
  pub rest_start : rest.start ≡ start + count
  pub rest_blocks : rest.blocks ≡ hole.blocks - (start - hole.start) - count

pub cut_of : (blocks start count : ℕ) (rows : List Pair) (hole : Hole) → AreHolesOf blocks rows → 0 < count → Holds rows start count hole
    → Cut blocks start count rows hole (record { start = hole.start; blocks = start - hole.start })
    (record { start = start + count; blocks = hole.blocks - (start - hole.start) - count })
cut_of blocks start count rows hole kept some holds = record {
  kept = kept;
  some = some;
  holds = holds;
  front_start = refl;
  front_blocks = refl;
  rest_start = refl;
  rest_blocks = refl;
}

front_is : (front : Hole) (rows : List Pair) → with_front front rows ≡ filter (is_below (hole_key front)) rows
    ++ (piece front ++ filter (is_above (hole_key front)) rows)
unfolding piece
front_is front rows = by (front.blocks == 0)
  where
    by : (b : Bool) → cond b (without_key (hole_key front) rows) (with_pair (hole_key front, front) rows) ≡ filter (is_below (hole_key front)) rows
        ++ (cond b [] ((hole_key front, front) ∷ []) ++ filter (is_above (hole_key front)) rows)
    by true = refl
    by false = refl

rest_put : (rest : Hole) (early late : List Pair) → AllByRecursion (λ p. p.0 <ℤ hole_key rest) early → AllByRecursion (λ p. hole_key rest <ℤ p.0) late
    → with_rest rest (early ++ late) ≡ early ++ (piece rest ++ late)
unfolding piece
rest_put rest early late e l = by (rest.blocks == 0)
  where
    by : (b : Bool) → cond b (early ++ late) (with_pair (hole_key rest, rest) (early ++ late)) ≡ early ++ (cond b [] ((hole_key rest, rest) ∷ []) ++ late)
    by true = refl
    by false = put_between (hole_key rest) rest early late e l

-- the holes once the place was taken
pub record Left (blocks start count : ℕ) (rows new : List Pair) (hole front rest : Hole) : Type 0 where
  pub early : List Pair
  pub late : List Pair
  pub round : Around 0 (blocks + 1) early (hole_key hole, hole) late
  pub was : rows ≡ early ++ (hole_key hole, hole) ∷ late
  pub is : new ≡ (early ++ piece front) ++ (piece rest ++ late)
  pub spread : Spread 0 (blocks + 1) new

left_is : (blocks start count : ℕ) (rows mid new : List Pair) (hole front rest : Hole) → Cut blocks start count rows hole front rest
    → mid ≡ with_front front rows → new ≡ with_rest rest mid → Left blocks start count rows new hole front rest
left_is blocks start count rows mid new hole front rest cut em en =
    let key = hole_key hole in
    let early = filter (is_below key) rows in
    let late = filter (is_above key) rows in
    let was : rows ≡ early ++ (key, hole) ∷ late = cut.holds.stands in
    let round = spread_around 0 (blocks + 1) early (key, hole) late (subst (Spread 0 (blocks + 1)) was (spread_of blocks rows cut.kept)) in
    let low = cut.holds.begins in
    let high = cut.holds.ends in
    let some = cut.some in
    let fits = round.lies.ends in
    let before : Spread hole.start (start + 1) (piece front) = piece_spread hole.start (start + 1) front (omega (arith, cut.front_start))
    (omega (arith, cut.front_start, cut.front_blocks)) in
    let front_part : Spread 0 (start + 1) (early ++ piece front) = spread_join 0 hole.start (start + 1) early (piece front) (omega arith) (omega arith)
    round.before before in
    let behind : Spread (start + 1) (hole.start + hole.blocks + 1) (piece rest) = piece_spread (start + 1) (hole.start + hole.blocks + 1) rest
    (omega (arith, cut.rest_start)) (omega (arith, cut.rest_start, cut.rest_blocks)) in
    let rest_part : Spread (start + 1) (blocks + 1) (piece rest ++ late) =
    spread_join (start + 1) (hole.start + hole.blocks + 1) (blocks + 1) (piece rest) late (omega arith) (omega arith) behind round.behind in
    let mid_is : mid ≡ (early ++ piece front) ++ late =
    em ∙ front_is front rows ∙ ap (λ k. filter (is_below k) rows ++ (piece front ++ filter (is_above k) rows)) (ap pos cut.front_start) ∙ sym
    (append_assoc early (piece front) late) in
    let is : new ≡ (early ++ piece front) ++ (piece rest ++ late) =
    en ∙ ap (with_rest rest) mid_is ∙ rest_put rest (early ++ piece front) late
    (keys_before 0 (start + 1) rest.start (early ++ piece front) (omega (arith, cut.rest_start)) front_part)
    (keys_behind (hole.start + hole.blocks + 1) (blocks + 1) rest.start late (omega (arith, cut.rest_start)) round.behind) in
    record {
      early = early;
      late = late;
      round = round;
      was = was;
      is = is;
      spread = subst (Spread 0 (blocks + 1)) (sym is) (spread_join 0 (start + 1) (blocks + 1) (early ++ piece front) (piece rest ++ late) (omega arith)
          (omega arith) front_part rest_part);
    }

pub taken_holes : (blocks start count : ℕ) (rows mid new : List Pair) (hole front rest : Hole) → Cut blocks start count rows hole front rest
    → mid ≡ with_front front rows → new ≡ with_rest rest mid → AreHolesOf blocks new
taken_holes blocks start count rows mid new hole front rest cut em en =
    let left = left_is blocks start count rows mid new hole front rest cut em en in
    holes_of blocks new left.spread

-- which blocks are free then
still_free : (blocks start count : ℕ) (rows new : List Pair) (hole front rest : Hole) → Cut blocks start count rows hole front rest
    → Left blocks start count rows new hole front rest → (block : ℕ)
    → is_free_block (values new) block ≡ (is_free_block (values rows) block && not (has_block start count block))
still_free blocks start count rows new hole front rest cut left block =
    new_free ∙ by (has_block start count block) refl ∙ ap (λ b. b && not (has_block start count block)) (sym old_free)
  where
    e : Bool
    e = is_free_block (values left.early) block

    l : Bool
    l = is_free_block (values left.late) block

    f : Bool
    f = has_block front.start front.blocks block

    r : Bool
    r = has_block rest.start rest.blocks block

    new_free : is_free_block (values new) block ≡ ((e || f) || (r || l))
    new_free =
        ap (λ xs. is_free_block (values xs) block) left.is
        ∙ free_rows (left.early ++ piece front) (piece rest ++ left.late) block
        ∙ rw (free_rows left.early (piece front) block, free_rows (piece rest) left.late block, piece_free front block, piece_free rest block) refl

    old_free : is_free_block (values rows) block ≡ (e || (has_block hole.start hole.blocks block || l))
    old_free = ap (λ xs. is_free_block (values xs) block) left.was ∙ free_rows left.early ((hole_key hole, hole) ∷ left.late) block

    and_false : (b : Bool) → (b && false) ≡ false
    and_false true = refl
    and_false false = refl

    shuffled : (a b c d : Bool) → ((a || b) || (c || d)) ≡ ((a || ((b || c) || d)) && true)
    shuffled true b c d = refl
    shuffled false true c d = refl
    shuffled false false true d = refl
    shuffled false false false true = refl
    shuffled false false false false = refl

    by : (t : Bool) → has_block start count block ≡ t → ((e || f) || (r || l)) ≡ ((e || (has_block hole.start hole.blocks block || l)) && not
        (has_block start count block))
    by true at =
        let low = has_low start count block at in
        let high = has_high start count block at in
        let b = cut.holds.begins in
        let s = cut.holds.ends in
        let none_early : e ≡ false = free_behind 0 hole.start block (values left.early) left.round.before.spaced (omega arith) in
        let none_late : l ≡ false = free_below (hole.start + hole.blocks + 1) (blocks + 1) block (values left.late) left.round.behind.spaced (omega arith) in
        let none_front : f ≡ false = not_behind front.start front.blocks block (omega (arith, cut.front_start, cut.front_blocks)) in
        let none_rest : r ≡ false = not_below rest.start rest.blocks block (omega (arith, cut.rest_start)) in
        rw (none_early, none_late, none_front, none_rest, at) (sym (and_false (has_block hole.start hole.blocks block || false)))
    by false at =
        rw (at, three hole start count block cut.holds.begins cut.holds.ends at, cut.front_start, cut.front_blocks, cut.rest_start, cut.rest_blocks)
        (shuffled e (has_block hole.start (start - hole.start) block) (has_block (start + count) (hole.blocks - (start - hole.start) - count) block) l)

pub taken_area : (blocks start count : ℕ) (rows mid new : List Pair) (hole front rest : Hole) → Cut blocks start count rows hole front rest
    → mid ≡ with_front front rows → new ≡ with_rest rest mid → IsPlaceTaken start count (area_of blocks rows) (area_of blocks new)
taken_area blocks start count rows mid new hole front rest cut em en = record {
  blocks = refl;
  free = still_free blocks start count rows new hole front rest cut (left_is blocks start count rows mid new hole front rest cut em en);
}
