-- Segments that are left out by their first points, and by their serials.
use Rattle.std.proofs.Common.{◌≡◌, ◌==◌, ℤ, int_eq, int_lt, Bool, true, false, not, ◌&&◌, ◌||◌, [], ◌∷◌, filter, refl, sym, ap, ◌∙◌, arith}
use Rattle.std.specs.List.{AllByRecursion, list_any}
use Rattle.std.proofs.lemmas.Int.{ints}
use Rattle.media_rows.specs.declared.segment.SegmentRow.{SegmentRow}
use Rattle.media_rows.specs.Segments.{first_point, without_segments}
use Rattle.shared_tree.proofs.Counted.{all_kept}
use Rattle.shared_tree.proofs.Rising.{all_map, filter_all}
use Rattle.segment_index.specs.Answers.{begins_before, without_start}
use Rattle.delete_work.specs.Within.Seeking.{without_starts}
use Rattle.delete_work.proofs.Lists.{agreed, all_two, always, filter_twice, number_same, number_turn}
use Rattle.delete_work.proofs.Wanted.{Distinct, Segments, Starts}

-- among some segments, just the one of its serial begins where this one does
abbrev pub Agrees : Segments → SegmentRow → Type 0
Agrees xs gone = AllByRecursion (λ x. int_eq (first_point x) (first_point gone) ≡ (gone.serial == x.serial)) xs

not_equal : (a b : ℤ) → int_lt a b ≡ true → int_eq b a ≡ false
not_equal a b e = by (int_eq b a) refl
  where
    by : (t : Bool) → int_eq b a ≡ t → int_eq b a ≡ false
    by true f = absurd (grind (arith, ints))
    by false f = f

not_equal_low : (a b : ℤ) → int_lt a b ≡ true → int_eq a b ≡ false
not_equal_low a b e = by (int_eq a b) refl
  where
    by : (t : Bool) → int_eq a b ≡ t → int_eq a b ≡ false
    by true f = absurd (grind (arith, ints))
    by false f = f

equal : (a : ℤ) → int_eq a a ≡ true
equal a = by (int_eq a a) refl
  where
    by : (t : Bool) → int_eq a a ≡ t → int_eq a a ≡ true
    by true f = f
    by false f = absurd (grind (arith, ints))

pub all_agree : (xs : Segments) → Starts xs → Distinct xs → AllByRecursion (Agrees xs) xs
all_agree [] up apart = tt
all_agree (x ∷ xs) up apart = (
  (
    equal (first_point x) ∙ sym (number_same x.serial),
    all_two (λ y. begins_before x y ≡ true) (λ y. (x.serial == y.serial) ≡ false) (λ y. int_eq (first_point y) (first_point x) ≡ (x.serial == y.serial))
        (λ y lt e. not_equal (first_point x) (first_point y) lt ∙ sym e) xs up.0 apart.0,
  ),
  each xs up.0 apart.0 (all_agree xs up.1 apart.1),
)
  where
    each : (ys : Segments) → AllByRecursion (λ y. begins_before x y ≡ true) ys → AllByRecursion (λ y. (x.serial == y.serial) ≡ false) ys
        → AllByRecursion (Agrees xs) ys → AllByRecursion (Agrees (x ∷ xs)) ys
    each [] lt e h = tt
    each (y ∷ ys) lt e h = (
      (not_equal_low (first_point x) (first_point y) lt.0 ∙ sym (number_turn y.serial x.serial ∙ e.0), h.0),
      each ys lt.1 e.1 h.1,
    )

kept_agree : (test : SegmentRow → Bool) (xs gone : Segments) → AllByRecursion (Agrees xs) gone → AllByRecursion (Agrees (filter test xs)) gone
kept_agree test xs [] h = tt
kept_agree test xs (g ∷ gone) h = (all_kept _ test xs h.0, kept_agree test xs gone h.1)

neither : (a b : Bool) → (not a && not b) ≡ not (a || b)
neither true b = refl
neither false b = refl

pub starts_are_serials : (gone xs : Segments) → AllByRecursion (Agrees xs) gone → without_starts gone xs ≡ without_segments gone xs
starts_are_serials [] xs h = sym (filter_all (λ row. not false) xs (always (λ (row : SegmentRow). not false ≡ true) (λ row. refl) xs))
starts_are_serials (g ∷ gone) xs h =
    let one : without_start (first_point g) xs ≡ filter (λ row. not (g.serial == row.serial)) xs =
    agreed (λ row. not (int_eq (first_point row) (first_point g))) (λ row. not (g.serial == row.serial)) xs
    (all_map (λ x. int_eq (first_point x) (first_point g) ≡ (g.serial == x.serial))
    (λ x. not (int_eq (first_point x) (first_point g)) ≡ not (g.serial == x.serial)) (λ x e. ap not e) xs h.0) in
    ap (without_starts gone) one
    ∙ starts_are_serials gone (filter (λ row. not (g.serial == row.serial)) xs) (kept_agree (λ row. not (g.serial == row.serial)) xs gone h.1)
    ∙ filter_twice (λ row. not (list_any (λ other. other.serial == row.serial) gone)) (λ row. not (g.serial == row.serial)) xs
    ∙ agreed (λ row. not (g.serial == row.serial) && not (list_any (λ other. other.serial == row.serial) gone))
    (λ row. not ((g.serial == row.serial) || list_any (λ other. other.serial == row.serial) gone)) xs
    (always (λ row. (not (g.serial == row.serial) && not (list_any (λ other. other.serial == row.serial) gone))
    ≡ not ((g.serial == row.serial) || list_any (λ other. other.serial == row.serial) gone))
    (λ row. neither (g.serial == row.serial) (list_any (λ other. other.serial == row.serial) gone)) xs)
