-- A playlist names just the whole objects of a flow within a range.
use Rattle.std.proofs.Common.{◌≡◌, ◌≢◌, ℕ, ℤ, ◌≤ℤ◌, Bool, true, not, ◌&&◌, List, [], ◌∷◌, All, Option, Some, None, IfSome, filter, refl, sym, subst, arith}
use Rattle.std.specs.Prelude.{◌==◌}
use Rattle.std.specs.List.Sorted.{IsPermutation}
use Rattle.std.proofs.lemmas.Bool.{and_from, and_parts, false≢true}
use Rattle.std.proofs.lemmas.Bool.Decides.{nat_tests}
use Rattle.std.proofs.lemmas.Int.{ints}
use Rattle.std.proofs.lemmas.List.Elements.{All-head, All-tail}
use Rattle.std.proofs.lemmas.List.Sorted.{Contains-permutation, IsPermutation-sym}
use Rattle.media_rows.specs.declared.segment.SegmentRow.{SegmentRow}
use Rattle.media_rows.specs.Ranges.{covers, overlaps, reaches_down, reaches_up}
use Rattle.media_rows.specs.Segments.{names_object, segments_of, starts_before}
use Rattle.time_range.specs.Ends.{are_ordered}
use Rattle.time_range.specs.Points.{IsRange, high_of, low_of}
use Rattle.time_range.specs.declared.ranges.Span.{Span}
use Rattle.hls_manifest.specs.Entries.{duration_of, is_whole, nanos_between, whole_objects}
use Rattle.hls_manifest.specs.Laws.{IsWholeObject, NamesWhole, is_whole_object}
use Rattle.hls_manifest.proofs.FilterLemmas.{filter-in_order, filter_had, filter_has, three_filters}

-- ---- ranges

-- ends that reach over those of a range that lasts are in order with them
ends_ordered : (low high first last : Option ℤ) → IfSome first (λ a. IfSome last (λ b. a ≤ℤ b))
    → (reaches_down low first && reaches_up high last) ≡ true → nanos_between first last ≢ 0
    → (are_ordered first high && are_ordered low last) ≡ true
ends_ordered low high None last order over lasts = absurd (lasts refl)
ends_ordered low high (Some a) None order over lasts = absurd (lasts refl)
ends_ordered None None (Some a) (Some b) order over lasts = refl
ends_ordered None (Some d) (Some a) (Some b) order over lasts = grind (arith, ints)
ends_ordered (Some c) None (Some a) (Some b) order over lasts = grind (arith, ints)
ends_ordered (Some c) (Some d) (Some a) (Some b) order over lasts = grind (arith, ints)

-- a range that lasts overlaps each one that covers it
covered_overlaps : (outer inner : Option Span) → IsRange inner → covers outer inner ≡ true
    → nanos_between (low_of inner) (high_of inner) ≢ 0 → overlaps inner outer ≡ true
covered_overlaps outer None is covered lasts = absurd (lasts refl)
covered_overlaps None (Some inner) is covered lasts = absurd (false≢true covered)
covered_overlaps (Some outer) (Some inner) is covered lasts =
    ends_ordered outer.low outer.high inner.low inner.high is.ordered covered lasts

-- ---- tests

-- four tests that all pass
four_parts : (a b c d : Bool) → (a && (b && c && d)) ≡ true
    → (a ≡ true) × (b ≡ true) × (c ≡ true) × (d ≡ true)
four_parts a b c d e =
    let outer = and_parts a (b && c && d) e in
    let inner = and_parts (b && c) d outer.1 in
    let first = and_parts b c inner.0 in
    (outer.0, first.0, first.1, inner.1)

-- and the other way round
four_from : (a b c d : Bool) → a ≡ true → b ≡ true → c ≡ true → d ≡ true
    → (a && (b && c && d)) ≡ true
four_from a b c d first second third fourth =
    and_from a (b && c && d) first (and_from (b && c) d (and_from b c second third) fourth)

-- the test whether numbers are the same
same_number : (m n : ℕ) → (m == n) ≡ true → m ≡ n
same_number m n e = grind (arith, nat_tests)

-- and the other way round
number_same : (m n : ℕ) → m ≡ n → (m == n) ≡ true
number_same m n e = grind (arith, nat_tests)

-- the test whether a number isn't 0
not_zero : (n : ℕ) → not (n == 0) ≡ true → n ≢ 0
not_zero n e = grind (arith, nat_tests)

-- and the other way round
zero_not : (n : ℕ) → n ≢ 0 → not (n == 0) ≡ true
zero_not n e = grind (arith, nat_tests)

-- what the test on a segment says
whole_from_test : (flow : ℕ) (range : Option Span) (row : SegmentRow)
    → is_whole_object flow range row ≡ true → IsWholeObject flow range row
whole_from_test flow range row e =
    let parts = four_parts (row.flow == flow) (covers range row.segment.range)
    (row.segment.sample_offset == 0) (not (duration_of row == 0)) e in
    record {
      of_flow = same_number row.flow flow parts.0;
      covered = parts.1;
      from_start = same_number row.segment.sample_offset 0 parts.2;
      lasts = not_zero (duration_of row) parts.3;
    }

-- and what says it
test_from_whole : (flow : ℕ) (range : Option Span) (row : SegmentRow)
    → IsWholeObject flow range row → is_whole_object flow range row ≡ true
test_from_whole flow range row is =
    four_from (row.flow == flow) (covers range row.segment.range)
    (row.segment.sample_offset == 0) (not (duration_of row == 0))
    (number_same row.flow flow is.of_flow) is.covered
    (number_same row.segment.sample_offset 0 is.from_start) (zero_not (duration_of row) is.lasts)

-- ---- segments

-- what is true of each segment: its range is one
abbrev HasRange : SegmentRow → Type 0
HasRange row = IsRange row.segment.range

-- a segment that overlaps the range, whatever object it shows
abbrev is_shown : Option Span → SegmentRow → Bool
is_shown range row = overlaps row.segment.range range && names_object None row

-- a whole object is one
whole_shown : (flow : ℕ) (range : Option Span) (row : SegmentRow) → HasRange row
    → is_whole_object flow range row ≡ true → is_shown range row ≡ true
whole_shown flow range row is e =
    let whole = whole_from_test flow range row e in
    and_from (overlaps row.segment.range range) true
    (covered_overlaps range row.segment.range is whole.covered whole.lasts) refl

-- so one filter gives what the three do
one_filter : (flow : ℕ) (range : Option Span) (segments : List SegmentRow) → All HasRange segments
    → filter (is_whole_object flow range) segments
    ≡ filter (is_whole range) (filter (is_shown range) (segments_of flow segments))
one_filter flow range [] ranges = refl
one_filter flow range (row ∷ rows) ranges =
    three_filters (is_whole range) (is_shown range) (row.flow == flow) row
    (filter (is_whole_object flow range) rows) (segments_of flow rows)
    (whole_shown flow range row (All-head HasRange row rows ranges))
    (one_filter flow range rows (All-tail HasRange row rows ranges))

-- the named ones are those, in another order
named_moved : (segments : List SegmentRow) (flow : ℕ) (range : Option Span) → All HasRange segments
    → IsPermutation (filter (is_whole_object flow range) segments)
    (whole_objects segments flow range)
named_moved segments flow range ranges =
    subst (λ rows. IsPermutation rows (whole_objects segments flow range))
    (sym (one_filter flow range segments ranges))
    (filter-in_order starts_before (is_whole range)
    (filter (is_shown range) (segments_of flow segments)))

-- just the whole objects are named
pub whole_named : (segments : List SegmentRow) (flow : ℕ) (range : Option Span)
    → All HasRange segments → NamesWhole segments flow range (whole_objects segments flow range)
whole_named segments flow range ranges =
    let test : SegmentRow → Bool = is_whole_object flow range in
    let whole : List SegmentRow = filter test segments in
    let named : List SegmentRow = whole_objects segments flow range in
    let moved : IsPermutation whole named = named_moved segments flow range ranges in
    let back : IsPermutation named whole = IsPermutation-sym whole named moved in
    record {
      these = λ row. (
        λ has.
            let kept = Contains-permutation named whole row back has in
            let had = filter_had test segments row kept in
            (had.0, whole_from_test flow range row had.1),
        λ has.
            let passes = test_from_whole flow range row has.1 in
            Contains-permutation whole named row moved (filter_has test segments row has.0 passes),
      );
      as_often = moved;
    }
