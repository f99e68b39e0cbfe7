-- A space to which blocks are given back.
use Rattle.std.proofs.Common.{◌≡◌, ◌⊎◌, inl, inr, ℕ, ℤ, pos, ◌<ℤ◌, ◌≤ℤ◌, ◌+◌, ◌-◌, ◌<◌, ◌≤◌, Bool, true, false, not, ◌||◌, List, [], ◌∷◌, ◌++◌, Option, Some, None, filter, refl, sym, ap, subst, ◌∙◌, arith, append_assoc, append-nil}
use Rattle.std.specs.Prelude.{◌==◌, if◌then◌else◌}
use Rattle.std.specs.List.{AllByRecursion}
use Rattle.std.proofs.lemmas.Bool.{cases_lt, eqb-true, eqb-false, eq-eqb, ne_eqb, not-true, or_parts}
use Rattle.std.proofs.lemmas.Int.{ints}
use Rattle.std.proofs.lemmas.List.Elements.{filter-append}
use Rattle.shared_tree.specs.Pairs.{first, is_above, is_below, is_up_to, last, values, with_pair, without_key}
use Rattle.shared_tree.proofs.Counted.{all_append}
use Rattle.shared_tree.proofs.Rising.{all_map, filter_all, filter_none}
use Rattle.object_blobs.specs.declared.space.Hole.{Hole}
use Rattle.object_blobs.specs.Holes.{GivesBlocks, has_block, is_free_block, is_taken_place}
use Rattle.object_blobs.specs.Within.Keys.{AreHolesOf, area_of, joined_end, joined_start, without_joined}
use Rattle.object_blobs.proofs.Runs.{each_at}
use Rattle.object_blobs.proofs.Spaced.{has_from, same_tests}
use Rattle.object_blobs.proofs.Spread.{Around, Ended, Pair, Spread, above_of, below_of, free_rows, from_on, holes_of, keys_before, keys_behind, last_ended, last_none, none_spread, spread_around, spread_first, spread_join, spread_of, spread_rest, spread_within, up_to, up_to_of}

-- ---- holes before a block that isn't free, and behind it

pub record Split (low top block : ℕ) (rows : List Pair) : Type 0 where
  pub early : List Pair
  pub late : List Pair
  pub is : rows ≡ early ++ late
  pub before : Spread low (block + 1) early
  pub behind : Spread (block + 1) top late

split_at : (low top block : ℕ) (rows : List Pair) → Spread low top rows → is_free_block (values rows) block ≡ false → Split low top block rows
split_at low top block [] h none = record { early = []; late = []; is = refl; before = none_spread low (block + 1); behind = none_spread (block + 1) top }
split_at low top block (p ∷ rows) h none = by (cases_lt block p.1.start) (λ taken. split_at (p.1.start + p.1.blocks + 1) top block rows
    (spread_rest low top p rows h) taken)
  where
    by : (block < p.1.start) ⊎ (p.1.start ≤ block) → (is_free_block (values rows) block ≡ false → Split (p.1.start + p.1.blocks + 1) top block rows)
        → Split low top block (p ∷ rows)
    by (inl lt) rest =
        let lies = h.spaced.0 in
        record {
          early = [];
          late = p ∷ rows;
          is = refl;
          before = none_spread low (block + 1);
          behind = spread_first (block + 1) top p rows h.keyed.0 (record { begins = omega arith; filled = lies.filled; ends = lies.ends })
              (spread_rest low top p rows h);
        }
    by (inr le) rest =
        let lies = h.spaced.0 in
        let parts = or_parts (has_block p.1.start p.1.blocks block) (is_free_block (values rows) block) none in
        let ended : p.1.start + p.1.blocks ≤ block = elim (cases_lt block (p.1.start + p.1.blocks)) [
          | inl lt ↦
              absurd (let has = has_from p.1.start p.1.blocks block le lt in grind (arith, has, parts.0))
          | inr ge ↦ ge
        ] in
        let split = rest parts.1 in
        record {
          early = p ∷ split.early;
          late = split.late;
          is = ap (λ l. p ∷ l) split.is;
          before = spread_first low (block + 1) p split.early h.keyed.0 (record { begins = lies.begins; filled = lies.filled; ends = omega arith })
              split.before;
          behind = split.behind;
        }

-- holes behind a block begin behind all blocks from it on that aren't free
raised : (start stop top : ℕ) (rows : List Pair) → start ≤ stop → Spread start top rows
    → ((block : ℕ) → start ≤ block → block < stop → is_free_block (values rows) block ≡ false) → Spread stop top rows
raised start stop top [] le h none = none_spread stop top
raised start stop top (p ∷ rows) le h none =
    let lies = h.spaced.0 in
    let begins = lies.begins in
    let some = lies.filled in
    let behind : stop ≤ p.1.start = elim (cases_lt p.1.start stop) [
      | inl lt ↦
          absurd
          (let own = has_from p.1.start p.1.blocks p.1.start (omega arith) (omega arith) in
          let parts = or_parts (has_block p.1.start p.1.blocks p.1.start) (is_free_block (values rows) p.1.start) (none p.1.start begins lt) in
          grind (arith, own, parts.0))
      | inr ge ↦ ge
    ] in
    spread_first stop top p rows h.keyed.0 (record { begins = behind; filled = some; ends = lies.ends }) (spread_rest start top p rows h)

-- ---- joined with the hole before

no_blocks : (start block : ℕ) → has_block start 0 block ≡ false
no_blocks start block = grind arith

or_none : (b : Bool) → (b || false) ≡ b
or_none true = refl
or_none false = refl

pub record JoinsLeft (start from : ℕ) (early front : List Pair) : Type 0 where
  pub spread : Spread 0 from front
  pub low : from ≤ start
  pub below : filter (is_below (pos from)) early ≡ front
  pub not_above : filter (is_above (pos from)) early ≡ []
  pub free : (block : ℕ) → is_free_block (values early) block ≡ (is_free_block (values front) block || has_block from (start - from) block)

none_above : (key : ℤ) (rows : List Pair) → AllByRecursion (λ p. p.0 ≤ℤ key) rows → filter (is_above key) rows ≡ []
none_above key rows h = filter_none (is_above key) rows (all_map (λ p. p.0 ≤ℤ key) _ (λ p le. grind (arith, ints)) rows h)

-- no hole ends at the block
apart_left : (start : ℕ) (early : List Pair) → Spread 0 start early → JoinsLeft start start early early
apart_left start early h =
    let keys : AllByRecursion (λ p. p.0 <ℤ pos start) early = keys_before 0 start start early (omega arith) h in
    record {
      spread = h;
      low = omega arith;
      below = filter_all (is_below (pos start)) early (all_map (λ p. p.0 <ℤ pos start) _ (λ p lt. grind (arith, ints)) early keys);
      not_above = none_above (pos start) early (up_to (pos start) early keys);
      free = λ block. sym (ap (λ n. is_free_block (values early) block || has_block start n block) (gone start) ∙ ap
          (λ b. is_free_block (values early) block || b) (no_blocks start block) ∙ or_none (is_free_block (values early) block));
    }
  where
    gone : (n : ℕ) → n - n ≡ 0
    gone n = omega arith

-- one does
meets_left : (start : ℕ) (front : List Pair) (p : Pair) → Around 0 (start + 1) front p [] → p.1.start + p.1.blocks ≡ start
    → JoinsLeft start p.1.start (front ++ p ∷ []) front
meets_left start front p round ended =
    let key = round.key in
    let keys : AllByRecursion (λ q. q.0 <ℤ pos p.1.start) front = keys_before 0 p.1.start p.1.start front (omega arith) round.before in
    record {
      spread = round.before;
      low = omega arith;
      below = below_of (pos p.1.start) front (p ∷ []) keys (rw key (grind (arith, ints)), tt);
      not_above = none_above (pos p.1.start) (front ++ p ∷ []) (all_append (λ q. q.0 ≤ℤ pos p.1.start) front (p ∷ []) (up_to (pos p.1.start) front keys)
          (rw key (grind (arith, ints)), tt));
      free = λ block. free_rows front (p ∷ []) block ∙ ap (λ b. is_free_block (values front) block || b)
          (or_none (has_block p.1.start p.1.blocks block) ∙ ap (λ n. has_block p.1.start n block) (omega (arith, ended)));
    }

joins_left : (start : ℕ) (early : List Pair) (o : Option Pair) → Spread 0 (start + 1) early → o ≡ last early
    → (front : List Pair) × JoinsLeft start (joined_start start o) early front
joins_left start early None h e = (early, apart_left start early (subst (Spread 0 start) (sym (last_none early e)) (none_spread 0 start)))
joins_left start early (Some p) h e =
    let ended = last_ended early p e in
    let round = spread_around 0 (start + 1) ended.front p [] (subst (Spread 0 (start + 1)) ended.is h) in
    by ended round (p.1.start + p.1.blocks == start) refl
  where
    by : (ended : Ended early p) → Around 0 (start + 1) ended.front p [] → (b : Bool) → (p.1.start + p.1.blocks == start) ≡ b
        → (front : List Pair) × JoinsLeft start (if p.1.start + p.1.blocks == start then p.1.start else start) early front
    by ended round true at = (
      ended.front,
      rw at (subst (λ l. JoinsLeft start p.1.start l ended.front) (sym ended.is)
          (meets_left start ended.front p round (eqb-true (p.1.start + p.1.blocks) start at))),
    )
    by ended round false at =
        let ends = round.lies.ends in
        let apart : Spread 0 start (ended.front ++ p ∷ []) =
        spread_join 0 p.1.start start ended.front (p ∷ []) (omega arith) (omega arith) round.before
        (spread_first p.1.start start p [] round.key (record {
          begins = omega arith;
          filled = round.lies.filled;
          ends =
              omega (arith, eqb-false (p.1.start + p.1.blocks) start at);
        }) (none_spread (p.1.start + p.1.blocks + 1) start)) in
        (early, rw at (apart_left start early (subst (Spread 0 start) (sym ended.is) apart)))

-- ---- joined with the hole behind

pub record JoinsRight (stop to top : ℕ) (late rest : List Pair) : Type 0 where
  pub spread : Spread (to + 1) top rest
  pub high : stop ≤ to
  pub ends : to < top
  pub rows : (early : List Pair) → AllByRecursion (λ p. p.0 <ℤ pos stop) early → without_joined stop to (early ++ late) ≡ early ++ rest
  pub free : (block : ℕ) → is_free_block (values late) block ≡ (has_block stop (to - stop) block || is_free_block (values rest) block)

-- no hole begins at the block
apart_right : (stop top : ℕ) (late : List Pair) → stop < top → Spread (stop + 1) top late → JoinsRight stop stop top late late
apart_right stop top late lt h = record {
  spread = h;
  high = omega arith;
  ends = lt;
  rows = λ early keys. rw (eq-eqb stop stop refl) refl;
  free = λ block. sym (ap (λ n. has_block stop n block || is_free_block (values late) block) (gone stop) ∙ ap (λ b. b || is_free_block (values late) block)
      (no_blocks stop block));
}
  where
    gone : (n : ℕ) → n - n ≡ 0
    gone n = omega arith

-- one does
meets_right : (stop top : ℕ) (p : Pair) (rest : List Pair) → Around 0 top [] p rest → p.1.start ≡ stop
    → JoinsRight stop (p.1.start + p.1.blocks) top (p ∷ rest) rest
meets_right stop top p rest round begins =
    let some = round.lies.filled in
    record {
      spread = round.behind;
      high = omega arith;
      ends = round.lies.ends;
      rows = λ early keys. rw (ne_eqb (p.1.start + p.1.blocks) stop (λ e. omega arith)) (gone early keys);
      free = λ block. ap (λ b. b || is_free_block (values rest) block) (rw begins (ap (λ n. has_block stop n block) (omega arith)));
    }
  where
    gone : (early : List Pair) → AllByRecursion (λ q. q.0 <ℤ pos stop) early → without_key (pos stop) (early ++ p ∷ rest) ≡ early ++ rest
    gone early keys =
        let key = round.key in
        let some = round.lies.filled in
        let later : AllByRecursion (λ q. pos stop <ℤ q.0) rest = keys_behind (p.1.start + p.1.blocks + 1) top stop rest (omega arith) round.behind in
        let here : p.0 ≡ pos stop = key ∙ ap pos begins in
        let below : filter (is_below (pos stop)) (early ++ p ∷ rest) ≡ early = below_of (pos stop) early (p ∷ rest) keys (
          rw here (grind (arith, ints)),
          from_on (pos stop) rest later,
        ) in
        let above : filter (is_above (pos stop)) (early ++ p ∷ rest) ≡ rest =
        ap (filter (is_above (pos stop))) (sym (append_assoc early (p ∷ []) rest))
        ∙ above_of (pos stop) (early ++ p ∷ []) rest (all_append (λ q. q.0 ≤ℤ pos stop) early (p ∷ []) (up_to (pos stop) early keys)
        (rw here (grind (arith, ints)), tt)) later in
        rw (below, above) refl

joins_right : (stop top : ℕ) (late : List Pair) (o : Option Pair) → stop < top → Spread stop top late → o ≡ first late
    → (rest : List Pair) × JoinsRight stop (joined_end stop o) top late rest
joins_right stop top [] o lt h e = (rw e ([], apart_right stop top [] lt (none_spread (stop + 1) top)))
joins_right stop top (p ∷ rest) o lt h e = rw e (by (p.1.start == stop) refl)
  where
    lies : Spread stop top (p ∷ rest) → Around 0 top [] p rest
    lies s = spread_around 0 top [] p rest (spread_within stop 0 top top (p ∷ rest) (omega arith) (omega arith) s)

    by : (b : Bool) → (p.1.start == stop) ≡ b → (late : List Pair) × JoinsRight stop (if p.1.start == stop then p.1.start + p.1.blocks else stop) top (p ∷ rest)
        late
    by true at = (rest, rw at (meets_right stop top p rest (lies h) (eqb-true p.1.start stop at)))
    by false at =
        let own = h.spaced.0 in
        let begins = own.begins in
        let apart : Spread (stop + 1) top (p ∷ rest) =
        spread_first (stop + 1) top p rest h.keyed.0 (record { begins = omega (arith, eqb-false p.1.start stop at); filled = own.filled; ends = own.ends })
        (spread_rest stop top p rest h) in
        (p ∷ rest, rw at (apart_right stop top (p ∷ rest) lt apart))

-- ---- both

-- the holes once so many blocks from a first one on were given
pub record Given (blocks start count : ℕ) (rows new : List Pair) (from to : ℕ) : Type 0 where
  pub early : List Pair
  pub late : List Pair
  pub front : List Pair
  pub rest : List Pair
  pub was : rows ≡ early ++ late
  pub left : JoinsLeft start from early front
  pub right : JoinsRight (start + count) to (blocks + 1) late rest
  pub is : new ≡ front ++ (pos from, record { start = from; blocks = to - from }) ∷ rest
  pub spread : Spread 0 (blocks + 1) new

-- what is known where blocks are given
pub record Asked (blocks start count : ℕ) (rows : List Pair) (from to : ℕ) : Type 0 where
  pub kept : AreHolesOf blocks rows
  pub some : 0 < count
  pub inside : start + count ≤ blocks
  pub taken : is_taken_place (values rows) count start ≡ true
  pub from_is : from ≡ joined_start start (last (filter (is_up_to (pos start)) rows))
  pub to_is : to ≡ joined_end (start + count) (first (filter (is_above (pos start)) rows))

none_free : (rows : List Pair) (start count block : ℕ) → is_taken_place (values rows) count start ≡ true → start ≤ block → block < start + count
    → is_free_block (values rows) block ≡ false
none_free rows start count block taken low high = not-true (is_free_block (values rows) block) (each_at (λ k. not (is_free_block (values rows) k)) count start
    block taken low high)

given_is : (blocks start count : ℕ) (rows others new : List Pair) (from to : ℕ) → Asked blocks start count rows from to
    → others ≡ without_joined (start + count) to rows
    → new ≡ with_pair (pos from, record { start = from; blocks = to - from }) others → Given blocks start count rows new from to
given_is blocks start count rows others new from to asked eo en =
    let some = asked.some in
    let inside = asked.inside in
    let top : ℕ = blocks + 1 in
    let stop : ℕ = start + count in
    let split = split_at 0 top start rows (spread_of blocks rows asked.kept) (none_free rows start count start asked.taken (omega arith) (omega arith)) in
    let early = split.early in
    let late = split.late in
    let late_free : (block : ℕ) → start + 1 ≤ block → block < stop → is_free_block (values late) block ≡ false = λ block low high.
    (or_parts (is_free_block (values early) block) (is_free_block (values late) block)
    (sym (free_rows early late block) ∙ subst (λ l. is_free_block (values l) block ≡ false) split.is
    (none_free rows start count block asked.taken (omega arith) high))).1 in
    let behind : Spread stop top late = raised (start + 1) stop top late (omega arith) split.behind late_free in
    let early_keys : AllByRecursion (λ p. p.0 ≤ℤ pos start) early = up_to (pos start) early (keys_before 0 (start + 1) start early (omega arith) split.before)
    in
    let late_keys : AllByRecursion (λ p. pos start <ℤ p.0) late = keys_behind (start + 1) top start late (omega arith) split.behind in
    let last_is : last (filter (is_up_to (pos start)) rows) ≡ last early =
    ap last (ap (filter (is_up_to (pos start))) split.is ∙ up_to_of (pos start) early late early_keys late_keys) in
    let first_is : first (filter (is_above (pos start)) rows) ≡ first late =
    ap first (ap (filter (is_above (pos start))) split.is ∙ above_of (pos start) early late early_keys late_keys) in
    let left = joins_left start early (last early) split.before refl in
    let right = joins_right stop top late (first late) (omega arith) behind refl in
    put left.0 right.0 split.is (subst (λ n. JoinsLeft start n early left.0) (sym (asked.from_is ∙ ap (joined_start start) last_is)) left.1)
    (subst (λ n. JoinsRight stop n top late right.0) (sym (asked.to_is ∙ ap (joined_end stop) first_is)) right.1)
    (keys_before 0 (start + 1) stop early (omega arith) split.before)
  where
    put : {early late : List Pair} (front rest : List Pair) → rows ≡ early ++ late → JoinsLeft start from early front
        → JoinsRight (start + count) to (blocks + 1) late rest → AllByRecursion (λ p. p.0 <ℤ pos (start + count)) early
        → Given blocks start count rows new from to
    put {early} {late} front rest was left right keys =
        let hole : Hole = record { start = from; blocks = to - from } in
        let low = left.low in
        let high = right.high in
        let some = asked.some in
        let ends = right.ends in
        let others_is : others ≡ early ++ rest = eo ∙ ap (without_joined (start + count) to) was ∙ right.rows early keys in
        let rest_keys : AllByRecursion (λ p. pos from <ℤ p.0) rest = keys_behind (to + 1) (blocks + 1) from rest (omega arith) right.spread in
        let below : filter (is_below (pos from)) (early ++ rest) ≡ front =
        filter-append (is_below (pos from)) early rest
        ∙ rw (left.below, filter_none (is_below (pos from)) rest (all_map (λ p. pos from <ℤ p.0) _ (λ p lt. grind (arith, ints)) rest rest_keys))
        (append-nil front) in
        let above : filter (is_above (pos from)) (early ++ rest) ≡ rest =
        filter-append (is_above (pos from)) early rest
        ∙ rw (left.not_above, filter_all (is_above (pos from)) rest (all_map (λ p. pos from <ℤ p.0) _ (λ p lt. grind (arith, ints)) rest rest_keys)) refl in
        let is : new ≡ front ++ (pos from, hole) ∷ rest = en ∙ ap (with_pair (pos from, hole)) others_is ∙ rw (below, above) refl in
        let own : Spread from (blocks + 1) ((pos from, hole) ∷ rest) =
        spread_first from (blocks + 1) (pos from, hole) rest refl (record { begins = omega arith; filled = omega arith; ends = omega arith })
        (subst (λ n. Spread n (blocks + 1) rest) (omega arith) right.spread) in
        record {
          early = early;
          late = late;
          front = front;
          rest = rest;
          was = was;
          left = left;
          right = right;
          is = is;
          spread = subst (Spread 0 (blocks + 1)) (sym is) (spread_join 0 from (blocks + 1) front ((pos from, hole) ∷ rest) (omega arith) (omega arith)
              left.spread own);
        }

pub given_holes : (blocks start count : ℕ) (rows others new : List Pair) (from to : ℕ) → Asked blocks start count rows from to
    → others ≡ without_joined (start + count) to rows
    → new ≡ with_pair (pos from, record { start = from; blocks = to - from }) others → AreHolesOf blocks new
given_holes blocks start count rows others new from to asked eo en =
    let given = given_is blocks start count rows others new from to asked eo en in
    holes_of blocks new given.spread

-- the blocks of the joined hole
three : (from start count to block : ℕ) → from ≤ start → start + count ≤ to
    → has_block from (to - from) block ≡ ((has_block from (start - from) block || has_block start count block) || has_block (start + count)
    (to - (start + count)) block)
three from start count to block low high = same_tests _ _ there back
  where
    there : has_block from (to - from) block ≡ true → ((has_block from (start - from) block || has_block start count block) || has_block (start + count)
        (to - (start + count)) block) ≡ true
    there h = grind arith

    back : ((has_block from (start - from) block || has_block start count block) || has_block (start + count) (to - (start + count)) block) ≡ true
        → has_block from (to - from) block ≡ true
    back h = grind arith

shuffled : (f a c b r : Bool) → (f || (((a || c) || b) || r)) ≡ (((f || a) || (b || r)) || c)
shuffled true a c b r = refl
shuffled false true c b r = refl
shuffled false false true true r = refl
shuffled false false true false true = refl
shuffled false false true false false = refl
shuffled false false false true r = refl
shuffled false false false false true = refl
shuffled false false false false false = refl

now_free : (blocks start count : ℕ) (rows new : List Pair) (from to : ℕ) → Given blocks start count rows new from to → (block : ℕ)
    → is_free_block (values new) block ≡ (is_free_block (values rows) block || has_block start count block)
now_free blocks start count rows new from to given block =
    let hole : Hole = record { start = from; blocks = to - from } in
    let f = is_free_block (values given.front) block in
    let r = is_free_block (values given.rest) block in
    let new_is : is_free_block (values new) block ≡ (f || (has_block from (to - from) block || r)) =
    ap (λ l. is_free_block (values l) block) given.is ∙ free_rows given.front ((pos from, hole) ∷ given.rest) block in
    let old_is : is_free_block (values rows) block ≡ ((f || has_block from (start - from) block)
    || (has_block (start + count) (to - (start + count)) block || r)) =
    ap (λ l. is_free_block (values l) block) given.was ∙ free_rows given.early given.late block ∙ rw (given.left.free block, given.right.free block) refl in
    new_is ∙ ap (λ b. f || (b || r)) (three from start count to block given.left.low given.right.high)
    ∙ shuffled f (has_block from (start - from) block) (has_block start count block) (has_block (start + count) (to - (start + count)) block) r
    ∙ ap (λ b. b || has_block start count block) (sym old_is)

pub given_area : (blocks start count : ℕ) (rows others new : List Pair) (from to : ℕ) → Asked blocks start count rows from to
    → others ≡ without_joined (start + count) to rows
    → new ≡ with_pair (pos from, record { start = from; blocks = to - from }) others → GivesBlocks start count (area_of blocks rows) (area_of blocks new)
given_area blocks start count rows others new from to asked eo en = record {
  blocks = refl;
  free = now_free blocks start count rows new from to (given_is blocks start count rows others new from to asked eo en);
}
