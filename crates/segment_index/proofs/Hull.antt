-- The hull of segments that lie apart is that of the first and the last.
use Rattle.std.proofs.Common.{◌≡◌, ℤ, pos, negsuc, ◌<ℤ◌, ◌≤ℤ◌, ◌^◌, ◌-◌, List, [], ◌∷◌, Option, Some, filter, refl, sym, ap, ◌∙◌, arith}
use Rattle.std.specs.Int.{int_min, int_max}
use Rattle.std.specs.List.{AllByRecursion, last_or}
use Rattle.std.proofs.lemmas.Int.{ints, clamps}
use Rattle.media_rows.specs.declared.segment.SegmentRow.{SegmentRow}
use Rattle.media_rows.specs.Ranges.{hull}
use Rattle.media_rows.specs.Segments.{hull_of_segments}
use Rattle.shared_tree.specs.Pairs.{is_above, is_up_to, first, last, values}
use Rattle.shared_tree.proofs.Rising.{all_map, filter_all}
use Rattle.segment_index.specs.Within.Keyed.{IsKeyed, IsApart, last_point, span, row_of, segment_or}
use Rattle.segment_index.proofs.Meeting.{range_is}
use Rattle.segment_index.proofs.Reach.{Pair, last_all}

-- a kept segment's range
kept_range : (p : Pair) → IsKeyed p → p.1.segment.range ≡ span (Some p.0) (Some (last_point p.1))
kept_range p k = range_is p.1.segment.range p.0 (last_point p.1) k.low k.high

-- the hull of two ranges of which one begins first and the other ends last
hull_two : (a b c d : ℤ) → a ≤ℤ c → b ≤ℤ d → hull (span (Some a) (Some b)) (span (Some c) (Some d)) ≡ span (Some a) (Some d)
hull_two a b c d first last =
    let low : int_min a c ≡ a = omega (arith, ints, clamps) in
    let high : int_max b d ≡ d = omega (arith, ints, clamps) in
    rw (low, high) refl

-- the hull of all from one on, by the last of them
hull_from : (p : Pair) (ps : List Pair) (q : Pair) → AllByRecursion IsKeyed (p ∷ ps) → IsApart (p ∷ ps) → last_or (Some p) ps ≡ Some q
    → hull_of_segments (values (p ∷ ps)) ≡ span (Some p.0) (Some (last_point q.1))
hull_from p [] q keyed apart e =
    let same : p ≡ q = some_same e in
    rw (kept_range p keyed.0) (ap (λ r. span (Some p.0) (Some (last_point r.1))) same)
  where
    some_same : Some p ≡ Some q → p ≡ q
    some_same e' = grind arith
hull_from p (r ∷ rest) q keyed apart e =
    let later = last_all (λ x. last_point p.1 ≤ℤ last_point x.1) r q rest (behind r keyed.1.0 apart.0.0) (all_behind rest keyed.1.1 apart.0.1) e in
    let first : p.0 ≤ℤ r.0 = (let o = keyed.0.ordered in let a = apart.0.0 in grind (arith, ints)) in
    rw (kept_range p keyed.0, hull_from r rest q keyed.1 apart.1 e) (hull_two p.0 (last_point p.1) r.0 (last_point q.1) first later)
  where
    behind : (x : Pair) → IsKeyed x → last_point p.1 <ℤ x.0 → last_point p.1 ≤ℤ last_point x.1
    behind x k lt = let o = k.ordered in grind (arith, ints)

    all_behind : (xs : List Pair) → AllByRecursion IsKeyed xs → AllByRecursion (λ x. last_point p.1 <ℤ x.0) xs
        → AllByRecursion (λ x. last_point p.1 ≤ℤ last_point x.1) xs
    all_behind [] k a = tt
    all_behind (x ∷ xs) k a = (behind x k.0 a.0, all_behind xs k.1 a.1)

-- there is a last one
last_there : (p : Pair) (ps : List Pair) → (q : Pair) × (last_or (Some p) ps ≡ Some q)
last_there p [] = (p, refl)
last_there p (r ∷ rest) = last_there r rest

-- a pair that begins and ends no earlier than another
abbrev Behind : Pair → Pair → Type 0
Behind p x = (p.0 ≤ℤ x.0) × (last_point p.1 ≤ℤ last_point x.1)

hull_pairs : (p q : Pair) → IsKeyed p → IsKeyed q → Behind p q → hull p.1.segment.range q.1.segment.range ≡ span (Some p.0) (Some (last_point q.1))
hull_pairs p q kp kq far = rw (kept_range p kp, kept_range q kq) (hull_two p.0 (last_point p.1) q.0 (last_point q.1) far.0 far.1)

same_ends : (a b f : SegmentRow) (l : Option SegmentRow) → f ≡ a → l ≡ Some b → hull f.segment.range (segment_or l f).segment.range ≡ hull a.segment.range
    b.segment.range
same_ends a b f l ef el = rw (ef, el) refl

-- by the first and the last of them
pub hull_ends : (ps : List Pair) (f : SegmentRow) (l : Option SegmentRow) → AllByRecursion IsKeyed ps → IsApart ps → Some f ≡ row_of (first ps)
    → l ≡ row_of (last ps) → hull_of_segments (values ps) ≡ hull f.segment.range (segment_or l f).segment.range
hull_ends [] f l keyed apart ef el = absurd (grind (arith, ef))
hull_ends (p ∷ ps) f l keyed apart ef el =
    let there = last_there p ps in
    let q = there.0 in
    let kept = last_all IsKeyed p q ps keyed.0 keyed.1 there.1 in
    let far = last_all (Behind p) p q ps (near p keyed.0) (all_near ps keyed.1 apart.0) there.1 in
    hull_from p ps q keyed apart there.1
    ∙ sym (same_ends p.1 q.1 f l (some_same ef) (el ∙ ap row_of there.1) ∙ hull_pairs p q keyed.0 kept far)
  where
    some_same : {X : Type 0} {a b : X} → Some a ≡ Some b → a ≡ b
    some_same e' = grind arith

    near : (x : Pair) → IsKeyed x → Behind x x
    near x k = (omega (arith, ints), omega (arith, ints))

    all_near : (xs : List Pair) → AllByRecursion IsKeyed xs → AllByRecursion (λ x. last_point p.1 <ℤ x.0) xs → AllByRecursion (Behind p) xs
    all_near [] k a = tt
    all_near (x ∷ xs) k a = (
      (let o = keyed.0.ordered in let b = k.0.ordered in let lt = a.0 in (grind (arith, ints), grind (arith, ints))),
      all_near xs k.1 a.1,
    )

-- all of them stand above the least key, and up to the greatest
pub all_above : (ps : List Pair) → AllByRecursion IsKeyed ps → filter (is_above (negsuc (2 ^ 127 - 1))) ps ≡ ps
all_above ps keyed = filter_all (is_above (negsuc (2 ^ 127 - 1))) ps (all_map IsKeyed _ (λ p k. let i = k.inner in grind (arith, ints)) ps keyed)

pub all_up_to : (ps : List Pair) → AllByRecursion IsKeyed ps → filter (is_up_to (pos (2 ^ 127 - 1))) ps ≡ ps
all_up_to ps keyed = filter_all (is_up_to (pos (2 ^ 127 - 1))) ps (all_map IsKeyed _ (λ p k. let o = k.outer in grind (arith, ints)) ps keyed)
