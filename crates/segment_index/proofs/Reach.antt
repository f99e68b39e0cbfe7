-- Which segments reach a point: the last one that begins up to it may, and all behind it do.
use Rattle.std.proofs.Common.{◌≡◌, ℤ, ◌<ℤ◌, int_le, int_lt, Bool, true, false, cond, List, [], ◌∷◌, Some, filter, refl, sym, subst, arith}
use Rattle.std.specs.List.{AllByRecursion, last_or}
use Rattle.std.proofs.lemmas.Int.{ints}
use Rattle.media_rows.specs.declared.segment.SegmentRow.{SegmentRow}
use Rattle.shared_tree.specs.Pairs.{IsRising, is_up_to, is_above, last}
use Rattle.shared_tree.proofs.Counted.{all_kept, each_passes}
use Rattle.shared_tree.proofs.Rising.{all_map, filter_all, filter_none}
use Rattle.segment_index.specs.Within.Keyed.{IsKeyed, IsApart, last_point, reaches, from_last}

abbrev pub Pair : Type 0
Pair = ℤ × SegmentRow

-- what holds of all holds of the last one
pub last_all : (P : Pair → Type 0) (q p : Pair) (xs : List Pair) → P q → AllByRecursion P xs → last_or (Some q) xs ≡ Some p → P p
last_all P q p [] h all e = subst P (some_same e) h
  where
    some_same : Some q ≡ Some p → q ≡ p
    some_same e' = grind arith
last_all P q p (x ∷ xs) h all e = last_all P x p xs all.0 all.1 e

-- all pairs stand behind a point
behind : (point : ℤ) (p : Pair) (rest : List Pair) → AllByRecursion IsKeyed (p ∷ rest) → IsRising (p ∷ rest) → int_le p.0 point ≡ false
    → filter (reaches point) (p ∷ rest) ≡ from_last point (last (filter (is_up_to point) (p ∷ rest))) (filter (is_above point) (p ∷ rest))
behind point p rest keyed rising past =
    let above : AllByRecursion (λ q. point <ℤ q.0) (p ∷ rest) =
    (grind (arith, ints), all_map (λ q. p.0 <ℤ q.0) (λ q. point <ℤ q.0) (λ q lt. grind (arith, ints)) rest rising.0) in
    let reach = both_map (p ∷ rest) above keyed in
    rw (
      filter_all (reaches point) (p ∷ rest) reach,
      filter_none (is_up_to point) (p ∷ rest)
          (all_map (λ q. point <ℤ q.0) _ (λ q lt. grind (arith, ints)) (p ∷ rest) above),
      filter_all (is_above point) (p ∷ rest)
          (all_map (λ q. point <ℤ q.0) _ (λ q lt. grind (arith, ints)) (p ∷ rest) above),
    ) refl
  where
    both_map : (xs : List Pair) → AllByRecursion (λ q. point <ℤ q.0) xs → AllByRecursion IsKeyed xs → AllByRecursion (λ q. reaches point q ≡ true) xs
    both_map [] a k = tt
    both_map (x ∷ xs) a k = (let o = k.0.ordered in let b = a.0 in grind (arith, ints), both_map xs a.1 k.1)

pub reach_from : (point : ℤ) (ps : List Pair) → AllByRecursion IsKeyed ps → IsApart ps → IsRising ps
    → filter (reaches point) ps ≡ from_last point (last (filter (is_up_to point) ps)) (filter (is_above point) ps)
reach_from point [] keyed apart rising = refl
reach_from point (p ∷ rest) keyed apart rising = by (int_le p.0 point) refl (reach_from point rest keyed.1 apart.1 rising.1)
  where
    -- the last of the rest that begins up to the point, if there is one, begins behind p's end
    next : (us : List Pair) → us ≡ filter (is_up_to point) rest → int_le p.0 point ≡ true
        → filter (reaches point) rest ≡ from_last point (last us) (filter (is_above point) rest)
        → cond (reaches point p) (p ∷ filter (reaches point) rest) (filter (reaches point) rest) ≡ from_last point (last_or (Some p) us)
        (filter (is_above point) rest)
    next [] e up ih = rw ih refl
    next (u ∷ us) e up ih =
        let early = subst (AllByRecursion (λ q. is_up_to point q ≡ true)) (sym e) (each_passes (is_up_to point) rest) in
        let later = subst (AllByRecursion (λ q. last_point p.1 <ℤ q.0)) (sym e) (all_kept (λ q. last_point p.1 <ℤ q.0) (is_up_to point) rest apart.0) in
        let until : int_le u.0 point ≡ true = early.0 in
        let from : last_point p.1 <ℤ u.0 = later.0 in
        let ended : reaches point p ≡ false = grind (arith, ints) in
        rw ended ih

    by : (t : Bool) → int_le p.0 point ≡ t → filter (reaches point) rest ≡ from_last point (last (filter (is_up_to point) rest)) (filter (is_above point) rest)
        → filter (reaches point) (p ∷ rest) ≡ from_last point (last (filter (is_up_to point) (p ∷ rest))) (filter (is_above point) (p ∷ rest))
    by false past ih = behind point p rest keyed rising past
    by true up ih =
        let not_above : int_lt point p.0 ≡ false = grind (arith, ints) in
        rw (up, not_above) (next (filter (is_up_to point) rest) refl up ih)
