-- The lists of a good library rise by the keys of their pages, and so their pages follow one another.
use Rattle.std.proofs.Common.{◌≡◌, inl, inr, ℕ, ℤ, pos, ◌-ℤ◌, ◌^◌, Bool, true, false, not, ◌&&◌, List, [], ◌∷◌, filter, Option, Some, None, IfSome, ◌≤ℤ◌, nat_lt, refl, sym, ap, ◌∙◌, arith}
use Rattle.std.specs.Prelude.{◌==◌, int_lt, is_some, unwrap_or}
use Rattle.std.specs.List.{list_all}
use Rattle.std.proofs.lemmas.Bool.{and_parts, and_from, and_cases, and_left, and_right, cond_both, or_parts, not-true, not_from_false, eqb-true, eq-eqb, false≢true}
use Rattle.std.proofs.lemmas.Bool.Decides.{nat_tests}
use Rattle.std.proofs.lemmas.Int.{ints}
use Rattle.time_range.specs.Points.{IsRange, low_of}
use Rattle.time_range.specs.Ends as ends
use Rattle.time_range.specs.declared.ranges.Span.{Span}
use Rattle.media_rows.specs.declared.segment.SegmentRow.{SegmentRow}
use Rattle.media_rows.specs.Catalog.{source_before, flow_before}
use Rattle.media_rows.specs.Good.{Good, are_compatible, is_segment_good}
use Rattle.media_rows.specs.Library.{Library}
use Rattle.media_rows.specs.Lists.{rises, inserted, in_order}
use Rattle.media_rows.specs.Ranges.{overlaps, has_both_ends}
use Rattle.media_rows.specs.Segments.{first_point, segments_of, names_object, overlapping, low_before, starts_before}
use Rattle.media_rows.specs.Views.{source_key, flow_key}
use Rattle.library_laws.specs.Laws.{HaveRanges, ListsFollow, PagesFollow}
use Rattle.library_laws.proofs.ListLemmas.{In, In-filter, In-inserted, In-in_order, Contains-from_In, list_all-In, list_all-from_In, rises-filter}
use Rattle.library_laws.proofs.OutboxKept.{Names-from}
use Rattle.library_laws.proofs.PageLemmas.{range_answer_in_order}
use Rattle.library_laws.proofs.FollowLemmas.{follows}

-- ---- orders keep tests on pairs that go both ways

inserted_keeps : {X : Type 0} (t : X → X → Bool) → ((a b : X) → t a b ≡ true → t b a ≡ true) → (before : X → X → Bool) (x : X) (ys : List X)
    → list_all (t x) ys ≡ true → rises t ys ≡ true → rises t (inserted before x ys) ≡ true
inserted_keeps t both before x [] all rise = refl
inserted_keeps t both before x (y ∷ ys) all rise =
    let first = and_parts (t x y) (list_all (t x) ys) all in
    let parts = and_parts (list_all (t y) ys) (rises t ys) rise in
    cond_both (before y x) (y ∷ inserted before x ys) (x ∷ y ∷ ys) (λ l. rises t l ≡ true)
    (λ e. and_from (list_all (t y) (inserted before x ys)) (rises t (inserted before x ys))
    (list_all-from_In (t y) (inserted before x ys) (λ z here. elim (In-inserted before x ys z here) [
      | inl same ↦ ap (t y) same ∙ both x y first.0
      | inr old ↦ list_all-In (t y) ys parts.0 z old
    ]))
    (inserted_keeps t both before x ys first.1 parts.1))
    (λ e. and_from (list_all (t x) (y ∷ ys)) (rises t (y ∷ ys)) all rise)

pub in_order_keeps : {X : Type 0} (t : X → X → Bool) → ((a b : X) → t a b ≡ true → t b a ≡ true) → (before : X → X → Bool) (xs : List X)
    → rises t xs ≡ true → rises t (in_order before xs) ≡ true
in_order_keeps t both before [] rise = refl
in_order_keeps t both before (x ∷ xs) rise =
    let parts = and_parts (list_all (t x) xs) (rises t xs) rise in
    inserted_keeps t both before x (in_order before xs)
    (list_all-from_In (t x) (in_order before xs) (λ z here. list_all-In (t x) xs parts.0 z (In-in_order before xs z here)))
    (in_order_keeps t both before xs parts.1)

-- two tests on pairs that give a third one
pub rises-joined : {X : Type 0} (t u v : X → X → Bool) (xs : List X) → ((a b : X) → In a xs → In b xs → t a b ≡ true → u a b ≡ true → v a b ≡ true)
    → rises t xs ≡ true → rises u xs ≡ true → rises v xs ≡ true
rises-joined t u v [] h e f = refl
rises-joined t u v (x ∷ xs) h e f =
    let one = and_parts (list_all (t x) xs) (rises t xs) e in
    let two = and_parts (list_all (u x) xs) (rises u xs) f in
    and_from (list_all (v x) xs) (rises v xs)
    (list_all-from_In (v x) xs (λ y here. h x y (inl refl) (inr here) (list_all-In (t x) xs one.0 y here) (list_all-In (u x) xs two.0 y here)))
    (rises-joined t u v xs (λ a b here there. h a b (inr here) (inr there)) one.1 two.1)

-- ---- segments of one flow begin at points of their own

swap_and : (x y : Bool) → (x && y) ≡ false → (y && x) ≡ false
swap_and x y e = elim (and_cases x y e) [ inl l ↦ and_right y x l | inr r ↦ and_left y x r ]

overlaps_swapped : (r q : Option Span) → overlaps r q ≡ false → overlaps q r ≡ false
overlaps_swapped None None e = refl
overlaps_swapped None (Some t) e = refl
overlaps_swapped (Some s) None e = refl
overlaps_swapped (Some s) (Some t) e = swap_and (ends.are_ordered s.low t.high) (ends.are_ordered t.low s.high) e

same_swapped : (a b : ℕ) → (a == b) ≡ false → (b == a) ≡ false
same_swapped a b e = grind (arith, nat_tests)

pub compatible_swapped : (a b : SegmentRow) → are_compatible a b ≡ true → are_compatible b a ≡ true
compatible_swapped a b e =
    not_from_false ((b.flow == a.flow) && overlaps b.segment.range a.segment.range)
    (elim (and_cases (a.flow == b.flow) (overlaps a.segment.range b.segment.range)
    (not-true ((a.flow == b.flow) && overlaps a.segment.range b.segment.range) e)) [
      | inl other ↦ and_left (b.flow == a.flow) (overlaps b.segment.range a.segment.range) (same_swapped a.flow b.flow other)
      | inr clear ↦ and_right (b.flow == a.flow) (overlaps b.segment.range a.segment.range) (overlaps_swapped a.segment.range b.segment.range clear)
    ])

by_ends : (a b c d : Option ℤ) → IfSome a (λ p. IfSome b (λ q. p ≤ℤ q)) → IfSome c (λ p. IfSome d (λ q. p ≤ℤ q))
    → is_some a ≡ true → is_some b ≡ true → is_some c ≡ true → is_some d ≡ true
    → (ends.are_ordered a d && ends.are_ordered c b) ≡ false → low_before c a ≡ false → int_lt (unwrap_or a (pos 0)) (unwrap_or c (pos 0)) ≡ true
by_ends None b c d h k i j l m e f = absurd (false≢true i)
by_ends (Some a) None c d h k i j l m e f = absurd (false≢true j)
by_ends (Some a) (Some b) None d h k i j l m e f = absurd (false≢true l)
by_ends (Some a) (Some b) (Some c) None h k i j l m e f = absurd (false≢true m)
by_ends (Some a) (Some b) (Some c) (Some d) h k i j l m e f =
    elim (and_cases (ends.are_ordered (Some a) (Some d)) (ends.are_ordered (Some c) (Some b)) e) [ inl x ↦ grind (arith, ints) | inr x ↦ grind (arith, ints) ]

pub apart_points : (r q : Option Span) → IsRange r → IsRange q → has_both_ends r ≡ true → has_both_ends q ≡ true → overlaps r q ≡ false
    → low_before (low_of q) (low_of r) ≡ false
    → int_lt (unwrap_or (low_of r) (pos 0)) (unwrap_or (low_of q) (pos 0)) ≡ true
apart_points None q fine fine₂ e f clear order = absurd (false≢true e)
apart_points (Some s) None fine fine₂ e f clear order = absurd (false≢true f)
apart_points (Some s) (Some t) fine fine₂ e f clear order =
    let x = and_parts (is_some s.low) (is_some s.high) e in
    let y = and_parts (is_some t.low) (is_some t.high) f in
    by_ends s.low s.high t.low t.high fine.ordered fine₂.ordered x.0 x.1 y.0 y.1 clear order

-- rows of one flow that are compatible don't overlap
pub clear_of : (a b : SegmentRow) (flow : ℕ) → a.flow ≡ flow → b.flow ≡ flow → are_compatible a b ≡ true → overlaps a.segment.range b.segment.range ≡ false
clear_of a b flow e f fits =
    elim (and_cases (a.flow == b.flow) (overlaps a.segment.range b.segment.range)
    (not-true ((a.flow == b.flow) && overlaps a.segment.range b.segment.range) fits)) [
      | inl other ↦ absurd (false≢true (sym other ∙ eq-eqb a.flow b.flow (e ∙ sym f)))
      | inr clear ↦ clear
    ]

-- what is known of a segment of an answer
record Asked (library : Library) (flow : ℕ) (row : SegmentRow) : Type 0 where
  under : row.flow ≡ flow
  range : IsRange row.segment.range
  ended : has_both_ends row.segment.range ≡ true

answers_rise : (library : Library) → Good library → HaveRanges library.segments → (flow : ℕ) (range : Option Span) (object : Option (List ℕ))
    → rises (λ a b. int_lt (first_point a) (first_point b)) (overlapping library.segments flow range object) ≡ true
answers_rise library good fine flow range object =
    let test : SegmentRow → Bool = λ row. overlaps row.segment.range range && names_object object row in
    let rows : List SegmentRow = filter test (segments_of flow library.segments) in
    let parts = and_parts (rises are_compatible library.segments) (list_all (is_segment_good library.catalog.flows) library.segments) good.segments in
    let known : (row : SegmentRow) → In row (in_order starts_before rows) → Asked library flow row = λ row here.
    let own = In-filter (λ r. r.flow == flow) library.segments row
    (In-filter test (segments_of flow library.segments) row (In-in_order starts_before rows row here)).0 in
    record {
      under = eqb-true row.flow flow own.1;
      range = fine row (Contains-from_In library.segments row own.0);
      ended = (and_parts (has_both_ends row.segment.range) _ (list_all-In (is_segment_good library.catalog.flows) library.segments parts.1 row own.0)).0;
    } in
    rises-joined are_compatible (λ a b. not (starts_before b a)) (λ a b. int_lt (first_point a) (first_point b)) (in_order starts_before rows)
    (λ a b here there fits order.
    let one = known a here in
    let two = known b there in
    apart_points a.segment.range b.segment.range one.range two.range one.ended two.ended (clear_of a b flow one.under two.under fits)
    (or_parts (low_before (low_of b.segment.range) (low_of a.segment.range)) _ (not-true (starts_before b a) order)).0)
    (in_order_keeps are_compatible compatible_swapped starts_before rows
    (rises-filter are_compatible test (segments_of flow library.segments) (rises-filter are_compatible (λ r. r.flow == flow) library.segments parts.0)))
    (range_answer_in_order library.segments flow range object)

-- ---- ids

key_rises : (m a b : ℕ) → nat_lt a b ≡ true → int_lt (pos a -ℤ pos m) (pos b -ℤ pos m) ≡ true
key_rises m a b e = grind (arith, ints, nat_tests)

lists_follow : (library : Library) → Good library → HaveRanges library.segments → ListsFollow library
lists_follow library good fine =
    let order = and_parts (rises source_before library.catalog.sources) (rises flow_before library.catalog.flows) (Names-from library good.names).catalog in
    record {
      segments = λ flow range object page. follows first_point (overlapping library.segments flow range object) page
          (answers_rise library good fine flow range object);
      sources = λ test page. let risen = rises-filter source_before test library.catalog.sources order.0 in
          follows source_key (filter test library.catalog.sources) page
          (rises-joined source_before source_before (λ a b. int_lt (source_key a) (source_key b)) (filter test library.catalog.sources)
          (λ a b here there e f. key_rises (2 ^ 127) a.id b.id e) risen risen);
      flows = λ test page. let risen = rises-filter flow_before test library.catalog.flows order.1 in
          follows flow_key (filter test library.catalog.flows) page
          (rises-joined flow_before flow_before (λ a b. int_lt (flow_key a) (flow_key b)) (filter test library.catalog.flows)
          (λ a b here there e f. key_rises (2 ^ 127) a.body.id b.body.id e) risen risen);
    }

pub pages_follow : PagesFollow
pages_follow = lists_follow
