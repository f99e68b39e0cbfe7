-- The free blocks of an area tell its holes.
use Rattle.std.proofs.Common.{◌≡◌, ◌⊎◌, inl, inr, ℕ, ◌+◌, ◌<◌, ◌≤◌, Bool, true, false, ◌||◌, List, [], ◌∷◌, refl, sym, ap, subst, ◌∙◌, arith}
use Rattle.std.proofs.lemmas.Bool.{cases_lt, or_from, or_left}
use Rattle.object_blobs.specs.declared.space.Hole.{Hole}
use Rattle.object_blobs.specs.Holes.{Area, HasHoles, has_block, is_free_block}
use Rattle.object_blobs.proofs.Spaced.{IsSpaced, free_below, has_from, not_behind, spaced_area}

abbrev SameFree : List Hole → List Hole → Type 0
SameFree holes others = (block : ℕ) → is_free_block holes block ≡ is_free_block others block

own_first : (hole : Hole) (later : List Hole) (block : ℕ) → hole.start ≤ block → block < hole.start + hole.blocks → is_free_block (hole ∷ later) block ≡ true
own_first hole later block l e = or_left (has_block hole.start hole.blocks block) _ (has_from hole.start hole.blocks block l e)

differ : (b : Bool) → b ≡ true → b ≡ false → ⊥
differ b t f = grind (arith, t, f)

-- none begins before the other
begins : (low top other_low : ℕ) (hole other : Hole) (later others : List Hole) → IsSpaced low top (hole ∷ later) → IsSpaced other_low top (other ∷ others)
    → SameFree (hole ∷ later) (other ∷ others) → other.start ≤ hole.start
begins low top other_low hole other later others h o same = elim (cases_lt hole.start other.start) [
  | inl lt ↦
      (let some = h.0.filled in
      let from : IsSpaced other.start top (other ∷ others) = (record { begins = omega arith; filled = o.0.filled; ends = o.0.ends }, o.1) in
      absurd (differ (is_free_block (hole ∷ later) hole.start) (own_first hole later hole.start (omega arith) (omega arith))
      (same hole.start ∙ free_below other.start top hole.start (other ∷ others) from lt)))
  | inr ge ↦ ge
]

-- nor ends before it
ends : (low top : ℕ) (hole other : Hole) (later others : List Hole) → IsSpaced low top (hole ∷ later) → SameFree (hole ∷ later) (other ∷ others)
    → hole.start ≡ other.start → other.start + other.blocks ≤ hole.start + hole.blocks
ends low top hole other later others h same start = elim (cases_lt (hole.start + hole.blocks) (other.start + other.blocks)) [
  | inl lt ↦
      (let stop : ℕ = hole.start + hole.blocks in
      absurd (differ (is_free_block (hole ∷ later) stop) (same stop ∙ own_first other others stop (omega arith) lt)
      (or_from (has_block hole.start hole.blocks stop) _ (not_behind hole.start hole.blocks stop (omega arith))
      (free_below (stop + 1) top stop later h.1 (omega arith)))))
  | inr ge ↦ ge
]

same_hole : (hole other : Hole) → hole.start ≡ other.start → hole.blocks ≡ other.blocks → hole ≡ other
same_hole hole other s b = ap (λ n. record { start = n; blocks = hole.blocks }) s ∙ ap (λ n. record { start = other.start; blocks = n }) b

-- the later ones have the same blocks too
rest_same : (top : ℕ) (hole : Hole) (later others : List Hole) → IsSpaced (hole.start + hole.blocks + 1) top later
    → IsSpaced (hole.start + hole.blocks + 1) top others → SameFree (hole ∷ later) (hole ∷ others) → SameFree later others
rest_same top hole later others l o same block = by (cases_lt block (hole.start + hole.blocks))
  where
    by : (block < hole.start + hole.blocks) ⊎ (hole.start + hole.blocks ≤ block) → is_free_block later block ≡ is_free_block others block
    by (inl lt) = free_below (hole.start + hole.blocks + 1) top block later l (omega arith) ∙ sym
        (free_below (hole.start + hole.blocks + 1) top block others o (omega arith))
    by (inr ge) =
        let none = not_behind hole.start hole.blocks block ge in
        sym (ap (λ b. b || is_free_block later block) none) ∙ same block ∙ ap (λ b. b || is_free_block others block) none

same_holes : (low top : ℕ) (holes others : List Hole) → IsSpaced low top holes → IsSpaced low top others → SameFree holes others → holes ≡ others
same_holes low top [] [] h o same = refl
same_holes low top [] (other ∷ others) h o same = let some = o.0.filled in
    absurd (differ (is_free_block (other ∷ others) other.start) (own_first other others other.start (omega arith) (omega arith)) (sym (same other.start)))
same_holes low top (hole ∷ later) [] h o same = let some = h.0.filled in
    absurd (differ (is_free_block (hole ∷ later) hole.start) (own_first hole later hole.start (omega arith) (omega arith)) (same hole.start))
same_holes low top (hole ∷ later) (other ∷ others) h o same =
    let back : SameFree (other ∷ others) (hole ∷ later) = λ block. sym (same block) in
    let low_one = begins low top low hole other later others h o same in
    let low_two = begins low top low other hole others later o h back in
    let start : hole.start ≡ other.start = omega arith in
    let high_one = ends low top hole other later others h same start in
    let high_two = ends low top other hole others later o back (sym start) in
    let own : hole ≡ other = same_hole hole other start (omega arith) in
    let others_spaced : IsSpaced (hole.start + hole.blocks + 1) top others = subst (λ (x : Hole). IsSpaced (x.start + x.blocks + 1) top others) (sym own) o.1 in
    let rest = same_holes (hole.start + hole.blocks + 1) top later others h.1 others_spaced
    (rest_same top hole later others h.1 others_spaced (λ block. same block ∙ ap (λ x. is_free_block (x ∷ others) block) (sym own))) in
    ap (λ x. x ∷ later) own ∙ ap (λ l. other ∷ l) rest

pub told : (area other : Area) → HasHoles area → HasHoles other → area.blocks ≡ other.blocks
    → ((block : ℕ) → is_free_block area.holes block ≡ is_free_block other.holes block) → area ≡ other
told area other h o blocks same =
    let holes = same_holes 0 (area.blocks + 1) area.holes other.holes (spaced_area area h)
    (subst (λ n. IsSpaced 0 (n + 1) other.holes) (sym blocks) (spaced_area other o)) same in
    ap (λ n. record { blocks = n; holes = area.holes }) blocks ∙ ap (λ l. record { blocks = other.blocks; holes = l }) holes
