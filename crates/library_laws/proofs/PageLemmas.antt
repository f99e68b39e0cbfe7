-- The answer to a range has just the segments that are asked for, in order; and a page without a next key has all.
use Rattle.library_laws.proofs.ListLemmas.{list_all-from_In, list_all-In, In-inserted, In-filter, filter-In, In-in_order, in_order-In, In-from_Contains, Contains-from_In, take-whole, length-take_most}
use Rattle.std.proofs.Common.{Option, Some, inl, inr, ap, ◌∙◌, ◌≡◌, ℕ, zero, suc, ◌≤◌, ◌<◌, ℤ, Bool, true, false, not, ◌&&◌, ◌||◌, cond, List, [], ◌∷◌, filter, length, take, None, nat_lt, refl, arith}
use Rattle.time_range.specs.Points.{low_of}
use Rattle.library_laws.specs.Laws.{RangeAnswerIsInOrder, RangeAnswerIsOnPoints, PagesHaveAll}
use Rattle.std.specs.Prelude.{◌==◌}
use Rattle.std.specs.List.{list_all}
use Rattle.std.proofs.lemmas.Bool.Decides.{nat_tests}
use Rattle.std.proofs.lemmas.Int.{ints}
use Rattle.std.proofs.lemmas.Bool.{and_parts, and_from, eqb-true, eq-eqb, ltb-true, ltb-false, not-true, not_from_false}
use Rattle.media_rows.proofs.RangeLemmas.{overlaps_decides}
use Rattle.media_rows.specs.declared.segment.SegmentRow.{SegmentRow}
use Rattle.media_rows.specs.Lists.{rises, inserted, in_order, items_past, last_key}
use Rattle.media_rows.specs.Ranges.{overlaps}
use Rattle.media_rows.specs.Segments.{first_point, segments_of, names_object, overlapping, low_before, starts_before}

pub range_answer_on_points : RangeAnswerIsOnPoints
range_answer_on_points segments flow range object fine is row =
    let test : SegmentRow → Bool = λ r. overlaps r.segment.range range && names_object object r in (
      λ here.
          let asked = In-filter test (segments_of flow segments) row
          (In-in_order starts_before (filter test (segments_of flow segments)) row (In-from_Contains (overlapping segments flow range object) row here)) in
          let own = In-filter (λ r. r.flow == flow) segments row asked.0 in
          let parts = and_parts (overlaps row.segment.range range) (names_object object row) asked.1 in
          let kept = Contains-from_In segments row own.0 in
          record {
            kept = kept;
            under = eqb-true row.flow flow own.1;
            meets = (overlaps_decides row.segment.range range (fine row kept) is).0 parts.0;
            names =
                parts.1;
          },
      λ asked.
          let test_holds = and_from (overlaps row.segment.range range) (names_object object row)
          ((overlaps_decides row.segment.range range (fine row asked.kept) is).1 asked.meets) asked.names in
          Contains-from_In (overlapping segments flow range object) row (in_order-In starts_before (filter test (segments_of flow segments)) row
          (filter-In test (segments_of flow segments) row (filter-In (λ r. r.flow == flow) segments row (In-from_Contains segments row asked.kept)
          (eq-eqb row.flow flow asked.under)) test_holds)),
    )

-- a list that isn't empty has a last key
some_last : {X : Type 0} (key : X → ℤ) (xs : List X) → 1 ≤ length xs → last_key key xs ≡ None → ⊥
some_last key [] some e = absurd (omega arith)
some_last key (x ∷ []) some e = absurd (cc)
some_last key (x ∷ y ∷ ys) some e = some_last key (y ∷ ys) (omega arith) e

some_taken : {X : Type 0} (n : ℕ) (xs : List X) → 1 ≤ n → n < length xs → 1 ≤ length (take n xs)
some_taken zero xs least more = absurd (omega arith)
some_taken (suc n) [] least more = absurd (omega arith)
some_taken (suc n) (x ∷ xs) least more = omega arith

-- no next key comes only where the page has all
no_more : {X : Type 0} (key : X → ℤ) (limit : ℕ) (xs : List X) → 1 ≤ limit → (b : Bool) → nat_lt limit (length xs) ≡ b
    → cond b (last_key key (take limit xs)) None ≡ None → take limit xs ≡ xs
no_more key limit xs least true more e = absurd (some_last key (take limit xs) (some_taken limit xs least (ltb-true limit (length xs) more)) e)
no_more key limit xs least false few e = take-whole limit xs (ltb-false limit (length xs) few)

pub pages_have_all : PagesHaveAll
pages_have_all segments page least = record {
  whole = no_more first_point page.limit (items_past first_point page segments) least (nat_lt page.limit (length (items_past first_point page segments))) refl;
  most = length-take_most page.limit (items_past first_point page segments);
}

-- ---- the order

-- a test that orders items: of two at most one stands before the other, and what isn't before one that isn't
-- before a third isn't before that one
pub record IsOrder {X : Type 0} (before : X → X → Bool) : Type 0 where
  pub one_way : (a b : X) → before a b ≡ true → before b a ≡ false
  pub passes_on : (a b c : X) → before b a ≡ false → before c b ≡ false → before c a ≡ false

inserted_case : {X : Type 0} (b : Bool) (before : X → X → Bool) → IsOrder before → (x y : X) (ys : List X) → before y x ≡ b
    → list_all (λ z. not (before z y)) ys ≡ true → rises (λ a c. not (before c a)) ys ≡ true
    → rises (λ a c. not (before c a)) (inserted before x ys) ≡ true → rises (λ a c. not (before c a)) (cond b (y ∷ inserted before x ys) (x ∷ y ∷ ys)) ≡ true
inserted_case true before is x y ys e later rise rest =
    and_from (list_all (λ z. not (before z y)) (inserted before x ys)) (rises (λ a c. not (before c a)) (inserted before x ys))
    (list_all-from_In (λ z. not (before z y)) (inserted before x ys) (λ z here. elim (In-inserted before x ys z here) [
      | inl same ↦ not_from_false (before z y) (ap (λ w. before w y) same ∙ is.one_way y x e)
      | inr old ↦ list_all-In (λ w. not (before w y)) ys later z old
    ])) rest
inserted_case false before is x y ys e later rise rest =
    and_from (list_all (λ z. not (before z x)) (y ∷ ys)) (rises (λ a c. not (before c a)) (y ∷ ys))
    (and_from (not (before y x)) (list_all (λ z. not (before z x)) ys) (not_from_false (before y x) e)
    (list_all-from_In (λ z. not (before z x)) ys (λ z here. not_from_false (before z x)
    (is.passes_on x y z e (not-true (before z y) (list_all-In (λ w. not (before w y)) ys later z here))))))
    (and_from (list_all (λ z. not (before z y)) ys) (rises (λ a c. not (before c a)) ys) later rise)

inserted_rises : {X : Type 0} (before : X → X → Bool) → IsOrder before → (x : X) (ys : List X) → rises (λ a b. not (before b a)) ys ≡ true
    → rises (λ a b. not (before b a)) (inserted before x ys) ≡ true
inserted_rises before is x [] e = refl
inserted_rises before is x (y ∷ ys) e =
    let parts = and_parts (list_all (λ z. not (before z y)) ys) (rises (λ a b. not (before b a)) ys) e in
    inserted_case (before y x) before is x y ys refl parts.0 parts.1 (inserted_rises before is x ys parts.1)

pub in_order_rises : {X : Type 0} (before : X → X → Bool) → IsOrder before → (xs : List X) → rises (λ a b. not (before b a)) (in_order before xs) ≡ true
in_order_rises before is [] = refl
in_order_rises before is (x ∷ xs) = inserted_rises before is x (in_order before xs) (in_order_rises before is xs)

-- the order of first points, with serials behind
stands_before : Option ℤ → ℕ → Option ℤ → ℕ → Bool
stands_before a s b t = low_before a b || (not (low_before b a) && nat_lt s t)

one_way_low : (a : Option ℤ) (s : ℕ) (b : Option ℤ) (t : ℕ) → stands_before a s b t ≡ true → stands_before b t a s ≡ false
unfolding stands_before
one_way_low None s None t e = grind (arith, nat_tests)
one_way_low None s (Some b) t e = refl
one_way_low (Some a) s None t e = absurd (cc)
one_way_low (Some a) s (Some b) t e = grind (arith, ints, nat_tests)

passes_on_low : (a : Option ℤ) (s : ℕ) (b : Option ℤ) (t : ℕ) (c : Option ℤ) (u : ℕ) → stands_before b t a s ≡ false → stands_before c u b t ≡ false
    → stands_before c u a s ≡ false
unfolding stands_before
passes_on_low None s None t None u e k = grind (arith, nat_tests)
passes_on_low None s None t (Some c) u e k = refl
passes_on_low None s (Some b) t None u e k = absurd (cc)
passes_on_low None s (Some b) t (Some c) u e k = refl
passes_on_low (Some a) s None t c u e k = absurd (cc)
passes_on_low (Some a) s (Some b) t None u e k = absurd (cc)
passes_on_low (Some a) s (Some b) t (Some c) u e k = grind (arith, ints, nat_tests)

pub starts_in_order : IsOrder starts_before
unfolding stands_before
starts_in_order = record {
  one_way = λ a b. one_way_low (low_of a.segment.range) a.serial (low_of b.segment.range) b.serial;
  passes_on = λ a b c. passes_on_low (low_of a.segment.range) a.serial (low_of b.segment.range) b.serial (low_of c.segment.range) c.serial;
}

pub range_answer_in_order : RangeAnswerIsInOrder
range_answer_in_order segments flow range object =
    in_order_rises starts_before starts_in_order (filter (λ row. overlaps row.segment.range range && names_object object row) (segments_of flow segments))
