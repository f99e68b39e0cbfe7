-- The segments of a good library in a range: by first points that don't fall, and no two neighbours overlap.
use Rattle.std.proofs.Common.{◌≡◌, ◌≢◌, ◌≤◌, ◌<◌, ◌+◌, ◌-◌, ◌↔◌, ◌∙◌, inl, inr, ℕ, ℤ, pos, Bool, true, false, not, ◌&&◌, List, [], ◌∷◌, filter, length, slice_get, get_or, Option, Some, None, IfSome, IsTrue, refl, sym, subst, ap, arith}
use Rattle.std.specs.Prelude.{◌==◌, int_lt, is_some, unwrap_or}
use Rattle.std.specs.List.{list_all}
use Rattle.std.proofs.lemmas.Bool.Decides.{nat_tests}
use Rattle.std.proofs.lemmas.Option.{slice_get_read}
use Rattle.time_range.specs.Ends.{are_ordered}
use Rattle.std.proofs.lemmas.Bool.{and_from, and_cases, and_left, and_right, cond_both, eq-eqb, false≢true, and_parts, not-true, not_from_false, or_parts, eqb-true, true≢false}
use Rattle.std.proofs.lemmas.Int.{ints}
use Rattle.time_range.specs.Points.{Has, IsFirst, Overlap, low_of}
use Rattle.time_range.specs.declared.ranges.Span.{Span}
use Rattle.media_rows.specs.declared.segment.SegmentRow.{SegmentRow}
use Rattle.media_rows.specs.Good.{Good, are_compatible, is_segment_good}
use Rattle.media_rows.specs.Library.{Library}
use Rattle.media_rows.specs.Lists.{in_order, inserted, rises}
use Rattle.media_rows.specs.Ranges.{has_both_ends, overlaps}
use Rattle.media_rows.specs.Segments.{first_point, low_before, names_object, overlapping, segments_of, starts_before}
use Rattle.library_laws.specs.Laws.{RangeAnswerIsInOrder}
use Rattle.library_laws.proofs.ListLemmas.{In, In-filter, In-inserted, In-in_order, list_all-In, list_all-from_In, rises-filter}
use Rattle.segment_pages.specs.Pages.{AreApart, AreApartRanges}
use Rattle.segment_pages.proofs.CutLemmas.{NoneFalls}

-- ---- orders keep tests on pairs that go both ways

inserted_keeps : {X : Type 0} (t : X → X → Bool) → ((a b : X) → t a b ≡ true → t b a ≡ true) → (before : X → X → Bool) (x : X) (ys : List X)
    → list_all (t x) ys ≡ true → rises t ys ≡ true → rises t (inserted before x ys) ≡ true
inserted_keeps t both before x [] all rise = refl
inserted_keeps t both before x (y ∷ ys) all rise =
    let first = and_parts (t x y) (list_all (t x) ys) all in
    let parts = and_parts (list_all (t y) ys) (rises t ys) rise in
    cond_both (before y x) (y ∷ inserted before x ys) (x ∷ y ∷ ys) (λ l. rises t l ≡ true)
    (λ e. and_from (list_all (t y) (inserted before x ys)) (rises t (inserted before x ys))
    (list_all-from_In (t y) (inserted before x ys) (λ z here. elim (In-inserted before x ys z here) [
      | inl same ↦ ap (t y) same ∙ both x y first.0
      | inr old ↦ list_all-In (t y) ys parts.0 z old
    ]))
    (inserted_keeps t both before x ys first.1 parts.1))
    (λ e. and_from (list_all (t x) (y ∷ ys)) (rises t (y ∷ ys)) all rise)

in_order_keeps : {X : Type 0} (t : X → X → Bool) → ((a b : X) → t a b ≡ true → t b a ≡ true) → (before : X → X → Bool) (xs : List X)
    → rises t xs ≡ true → rises t (in_order before xs) ≡ true
in_order_keeps t both before [] rise = refl
in_order_keeps t both before (x ∷ xs) rise =
    let parts = and_parts (list_all (t x) xs) (rises t xs) rise in
    inserted_keeps t both before x (in_order before xs)
    (list_all-from_In (t x) (in_order before xs) (λ z here. list_all-In (t x) xs parts.0 z (In-in_order before xs z here)))
    (in_order_keeps t both before xs parts.1)

-- two tests on pairs that give a third one
rises-joined : {X : Type 0} (t u v : X → X → Bool) (xs : List X) → ((a b : X) → In a xs → In b xs → t a b ≡ true → u a b ≡ true → v a b ≡ true)
    → rises t xs ≡ true → rises u xs ≡ true → rises v xs ≡ true
rises-joined t u v [] h e f = refl
rises-joined t u v (x ∷ xs) h e f =
    let one = and_parts (list_all (t x) xs) (rises t xs) e in
    let two = and_parts (list_all (u x) xs) (rises u xs) f in
    and_from (list_all (v x) xs) (rises v xs)
    (list_all-from_In (v x) xs (λ y here. h x y (inl refl) (inr here) (list_all-In (t x) xs one.0 y here) (list_all-In (u x) xs two.0 y here)))
    (rises-joined t u v xs (λ a b here there. h a b (inr here) (inr there)) one.1 two.1)

-- ---- segments that are compatible

swap_and : (x y : Bool) → (x && y) ≡ false → (y && x) ≡ false
swap_and x y e = elim (and_cases x y e) [ inl l ↦ and_right y x l | inr r ↦ and_left y x r ]

overlaps_swapped : (r q : Option Span) → overlaps r q ≡ false → overlaps q r ≡ false
overlaps_swapped None None e = refl
overlaps_swapped None (Some t) e = refl
overlaps_swapped (Some s) None e = refl
overlaps_swapped (Some s) (Some t) e = swap_and (are_ordered s.low t.high) (are_ordered t.low s.high) e

same_swapped : (a b : ℕ) → (a == b) ≡ false → (b == a) ≡ false
same_swapped a b e = grind (arith, nat_tests)

compatible_swapped : (a b : SegmentRow) → are_compatible a b ≡ true → are_compatible b a ≡ true
compatible_swapped a b e =
    not_from_false ((b.flow == a.flow) && overlaps b.segment.range a.segment.range)
    (elim (and_cases (a.flow == b.flow) (overlaps a.segment.range b.segment.range)
    (not-true ((a.flow == b.flow) && overlaps a.segment.range b.segment.range) e)) [
      | inl other ↦ and_left (b.flow == a.flow) (overlaps b.segment.range a.segment.range) (same_swapped a.flow b.flow other)
      | inr clear ↦ and_right (b.flow == a.flow) (overlaps b.segment.range a.segment.range) (overlaps_swapped a.segment.range b.segment.range clear)
    ])

-- rows of one flow that are compatible don't overlap
pub clear_of : (a b : SegmentRow) (flow : ℕ) → a.flow ≡ flow → b.flow ≡ flow → are_compatible a b ≡ true → overlaps a.segment.range b.segment.range ≡ false
clear_of a b flow e f fits =
    elim (and_cases (a.flow == b.flow) (overlaps a.segment.range b.segment.range)
    (not-true ((a.flow == b.flow) && overlaps a.segment.range b.segment.range) fits)) [
      | inl other ↦ absurd (false≢true (sym other ∙ eq-eqb a.flow b.flow (e ∙ sym f)))
      | inr clear ↦ clear
    ]

-- what is known of a segment of an answer
pub record IsAnswered (flow : ℕ) (row : SegmentRow) : Type 0 where
  pub under : row.flow ≡ flow
  pub ended : has_both_ends row.segment.range ≡ true

pub answered : (library : Library) → Good library → (flow : ℕ) (range : Option Span) (row : SegmentRow)
    → In row (overlapping library.segments flow range None) → IsAnswered flow row
answered library good flow range row here =
    let test : SegmentRow → Bool = λ r. overlaps r.segment.range range && names_object None r in
    let rows : List SegmentRow = filter test (segments_of flow library.segments) in
    let parts = and_parts (rises are_compatible library.segments) (list_all (is_segment_good library.catalog.flows) library.segments) good.segments in
    let own = In-filter (λ r. r.flow == flow) library.segments row
    (In-filter test (segments_of flow library.segments) row (In-in_order starts_before rows row here)).0 in
    record {
      under = eqb-true row.flow flow own.1;
      ended = (and_parts (has_both_ends row.segment.range) _ (list_all-In (is_segment_good library.catalog.flows) library.segments parts.1 row own.0)).0;
    }

-- lows that aren't before each other's aren't less
by_lows : (a b : Option ℤ) → is_some a ≡ true → is_some b ≡ true → low_before b a ≡ false
    → not (int_lt (unwrap_or b (pos 0)) (unwrap_or a (pos 0))) ≡ true
by_lows None b e f order = absurd (true≢false (sym e))
by_lows (Some a) None e f order = absurd (true≢false (sym f))
by_lows (Some a) (Some b) e f order = not_from_false (int_lt b a) order

pub low_there : (range : Option Span) → has_both_ends range ≡ true → is_some (low_of range) ≡ true
low_there None e = absurd (true≢false (sym e))
low_there (Some s) e = (and_parts (is_some s.low) (is_some s.high) e).0

-- the answer to a range doesn't fall by first points
pub none_falls : RangeAnswerIsInOrder → (library : Library) → Good library → (flow : ℕ) (range : Option Span)
    → NoneFalls first_point (overlapping library.segments flow range None)
none_falls in_order_by library good flow range =
    let xs = overlapping library.segments flow range None in
    let rise = in_order_by library.segments flow range None in
    rises-joined (λ a b. not (starts_before b a)) (λ a b. not (starts_before b a)) (λ a b. not (int_lt (first_point b) (first_point a))) xs
    (λ a b here there order again.
    let one = answered library good flow range a here in
    let two = answered library good flow range b there in
    by_lows (low_of a.segment.range) (low_of b.segment.range) (low_there a.segment.range one.ended) (low_there b.segment.range two.ended)
    (or_parts (low_before (low_of b.segment.range) (low_of a.segment.range)) _ (not-true (starts_before b a) order)).0)
    rise rise

-- any two of its segments are compatible
pub all_compatible : (library : Library) → Good library → (flow : ℕ) (range : Option Span)
    → rises are_compatible (overlapping library.segments flow range None) ≡ true
all_compatible library good flow range =
    let test : SegmentRow → Bool = λ r. overlaps r.segment.range range && names_object None r in
    let parts = and_parts (rises are_compatible library.segments) (list_all (is_segment_good library.catalog.flows) library.segments) good.segments in
    in_order_keeps are_compatible compatible_swapped starts_before (filter test (segments_of flow library.segments))
    (rises-filter are_compatible test (segments_of flow library.segments) (rises-filter are_compatible (λ r. r.flow == flow) library.segments parts.0))

-- first points that differ and don't fall rise
pub rises_apart : (a b : Option ℤ) → is_some a ≡ true → is_some b ≡ true
    → not (int_lt (unwrap_or b (pos 0)) (unwrap_or a (pos 0))) ≡ true → IfSome a (λ p. IfSome b (λ q. p ≢ q))
    → int_lt (unwrap_or a (pos 0)) (unwrap_or b (pos 0)) ≡ true
rises_apart None b e f order apart = absurd (true≢false (sym e))
rises_apart (Some a) None e f order apart = absurd (true≢false (sym f))
rises_apart (Some a) (Some b) e f order apart = go (int_lt a b) refl
  where
    go : (less : Bool) → int_lt a b ≡ less → int_lt a b ≡ true
    go true e = e
    go false e = absurd (apart (let clear = not-true (int_lt b a) order in grind (arith, ints)))

-- ---- ranges apart

first_points : (a b : Option Span) (p q : Option ℤ) → (Overlap a b → ⊥) → IfSome p (IsFirst a) → IfSome q (IsFirst b) → IfSome p (λ x. IfSome q (λ y. x ≢ y))
first_points a b None q clear first second = tt
first_points a b (Some x) None clear first second = tt
first_points a b (Some x) (Some y) clear first second = λ same. clear (x, first.0, subst (Has b) (sym same) second.0)

pub apart_by : (a b : Option Span) (test : Bool) → test ≡ overlaps a b → (IsTrue test ↔ Overlap a b) → IfSome (low_of a) (IsFirst a)
    → IfSome (low_of b) (IsFirst b) → AreApartRanges a b
apart_by a b test is points first second clear =
    first_points a b (low_of a) (low_of b) (λ overlap. true≢false (sym (points.1 overlap) ∙ (is ∙ clear))) first second

pub apart_at : (rows : List SegmentRow) (a b : SegmentRow) → 2 ≤ length rows → slice_get rows (length rows - 2) ≡ Some a
    → slice_get rows (length rows - 2 + 1) ≡ Some b → AreApartRanges a.segment.range b.segment.range → AreApart rows (length rows - 2)
apart_at rows a b two first second apart = go (slice_get rows (length rows - 2)) (slice_get rows (length rows - 2 + 1)) first second
  where
    go : (o p : Option SegmentRow) → o ≡ Some a → p ≡ Some b
        → IfSome o (λ c. IfSome p (λ d. AreApartRanges c.segment.range d.segment.range))
    go None p e f = absurd (cc)
    go (Some c) None e f = absurd (cc)
    go (Some c) (Some d) e f =
        let left : a ≡ c = cc in
        let right : b ≡ d = cc in
        subst (λ (r : SegmentRow). AreApartRanges r.segment.range d.segment.range) left
        (subst (λ (r : SegmentRow). AreApartRanges a.segment.range r.segment.range) right apart)

-- what an index read is the item at its place
pub read_at : (rows items : List SegmentRow) (k i : ℕ) (x : SegmentRow) → items ≡ rows → k ≡ i → i < length rows → x ≡ get_or items k x
    → slice_get rows i ≡ Some x
read_at rows items k i x same place within read =
    slice_get_read rows (length rows) i x refl within (subst (λ (l : List SegmentRow). x ≡ get_or l i x) same (subst (λ j. x ≡ get_or items j x) place read))

-- the same of rows that are others
pub apart_as : (x y v w : SegmentRow) → x ≡ v → y ≡ w → AreApartRanges v.segment.range w.segment.range
    → AreApartRanges x.segment.range y.segment.range
apart_as x y v w left right apart =
    subst (λ (r : SegmentRow). AreApartRanges r.segment.range y.segment.range) (sym left)
    (subst (λ (r : SegmentRow). AreApartRanges v.segment.range r.segment.range) (sym right) apart)
