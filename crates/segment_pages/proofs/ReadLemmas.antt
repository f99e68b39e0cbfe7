-- What a page of segments is, and what is left behind it.
use Rattle.std.proofs.Common.{[], ◌∷◌, pos, not, IfSome, zero, true≢false, ◌≡◌, ◌∙◌, ◌≤◌, ◌<◌, ◌+◌, ◌-◌, ℕ, suc, ℤ, Bool, true, false, cond, List, ◌++◌, length, take, filter, slice_get, Option, Some, None, Ok, Err, refl, sym, subst, ap, arith}
use Rattle.std.specs.Prelude.{int_lt, is_some, nat_lt, unwrap_or, option_and_then}
use Rattle.std.proofs.lemmas.Bool.{ltb-true}
use Rattle.std.proofs.lemmas.Int.{ints}
use Rattle.std.proofs.lemmas.List.{append-nil, length-take-le}
use Rattle.time_range.specs.Points.{low_of}
use Rattle.time_range.specs.declared.ranges.Span.{Span}
use Rattle.media_rows.specs.declared.flow.FlowRow.{FlowRow}
use Rattle.media_rows.specs.declared.refusal.Refusal.{Refusal}
use Rattle.media_rows.specs.declared.refusal.Refusal.TheVariants.{NoFlow}
use Rattle.media_rows.specs.declared.reply.Reply.TheVariants as replies
use Rattle.media_rows.specs.declared.reply.View.TheVariants as views
use Rattle.media_rows.specs.declared.segment.SegmentRow.{SegmentRow}
use Rattle.media_rows.specs.Catalog.{flow_of}
use Rattle.media_rows.specs.Good.{Good, are_compatible}
use Rattle.media_rows.specs.Library.{Library}
use Rattle.media_rows.specs.Lists.{is_past, items_past, last_key, page_items}
use Rattle.media_rows.specs.Segments.{first_point, overlapping}
use Rattle.media_rows.specs.Views.{asked, kept_or, shown_segments}
use Rattle.core_queries.specs.Replies.{replied}
use Rattle.library_laws.specs.Laws.{PagesHaveAll, RangeAnswerIsInOrder}
use Rattle.library_laws.proofs.ListLemmas.{In, In-filter, length-take_most, rises-filter, take-whole}
use Rattle.segment_pages.specs.declared.reading.SegmentsRead.{SegmentsRead}
use Rattle.segment_pages.specs.Pages.{AreApart, AreApartRanges, IsPageOf, IsRead, left_behind, page_behind, point_at, question_of, segments_behind}
use Rattle.segment_pages.proofs.CutLemmas.{cut_behind, filter_implied, neighbours, slice_get-In, slice_get-take, take-take}
use Rattle.segment_pages.proofs.OrderLemmas.{all_compatible, answered, clear_of, low_there, none_falls, rises_apart}

page_by : (library : Library) (flow : ℕ) (range : Option Span) (after : Option ℤ) (rows : List SegmentRow) (next : Option ℤ) (row : Option FlowRow)
    → flow_of flow library.catalog.flows ≡ row
    → replied (kept_or NoFlow (λ (r : FlowRow). Ok (shown_segments (page_behind after) (overlapping library.segments flow range None))) row)
    ≡ Ok (replies.Shown (views.Segments rows next))
    → IsPageOf library flow range after rows next
page_by library flow range after rows next None there e = absurd (cc)
page_by library flow range after rows next (Some row) there e = record {
  kept = ap (λ (o : Option FlowRow). is_some o) there;
  rows_are = cc;
  next_is = cc;
}

pub page_of : (library : Library) (flow : ℕ) (range : Option Span) (after : Option ℤ) (rows : List SegmentRow) (next : Option ℤ)
    → replied (asked library (question_of flow range after)) ≡ Ok (replies.Shown (views.Segments rows next)) → IsPageOf library flow range after rows next
page_of library flow range after rows next e = page_by library flow range after rows next (flow_of flow library.catalog.flows) refl e

-- a refusal says that the flow isn't kept
pub refused_by : (library : Library) (flow : ℕ) (range : Option Span) (after : Option ℤ) (why : Refusal)
    → replied (asked library (question_of flow range after)) ≡ Err why → flow_of flow library.catalog.flows ≡ None
refused_by library flow range after why e = go (flow_of flow library.catalog.flows) e
  where
    go : (row : Option FlowRow)
        → replied (kept_or NoFlow (λ (r : FlowRow). Ok (shown_segments (page_behind after) (overlapping library.segments flow range None))) row) ≡ Err why
        → row ≡ None
    go None e = refl
    go (Some row) e = absurd (cc)

-- ---- a page without a next one

all_taken : (rows : List SegmentRow) → rows ≡ take (length rows) rows ++ []
all_taken rows = sym (append-nil (take (length rows) rows) ∙ take-whole (length rows) rows (omega arith))

pub read_all : PagesHaveAll → (library : Library) (flow : ℕ) (range : Option Span) (after : Option ℤ) (rows : List SegmentRow)
    → IsPageOf library flow range after rows None → IsRead library flow range after (record { rows = rows; count = length rows; next = None })
read_all all library flow range after rows is =
    let xs = overlapping library.segments flow range None in
    let cut = all xs (page_behind after) (omega arith) in
    record {
      follows = sym (is.rows_are ∙ cut.whole (sym is.next_is)) ∙ all_taken rows;
      counted = omega arith;
      most = subst (λ (l : List SegmentRow). length l ≤ 1000) (sym is.rows_are) (length-take_most 1000 (items_past first_point (page_behind after) xs));
      some = λ none. absurd (true≢false (sym none));
    }

-- ---- a page with a next one

more_by : (limit : ℕ) (xs : List SegmentRow) (b : Bool) (last : Option ℤ) (k : ℤ) → nat_lt limit (length xs) ≡ b → Some k ≡ cond b last None → limit < length xs
more_by limit xs true last k e some = ltb-true limit (length xs) e
more_by limit xs false last k e some = absurd (cc)

-- the page has as many rows as it may, and at least one more is left
pub full : (library : Library) (flow : ℕ) (range : Option Span) (after : Option ℤ) (rows : List SegmentRow) (k : ℤ)
    → IsPageOf library flow range after rows (Some k) → (length rows ≡ 1000) × (1000 < length (segments_behind library flow range after))
full library flow range after rows k is =
    let xs = overlapping library.segments flow range None in
    let ys = segments_behind library flow range after in
    let more = more_by 1000 ys (nat_lt 1000 (length ys)) (last_key first_point (page_items first_point (page_behind after) xs)) k refl is.next_is in
    (ap (λ (l : List SegmentRow). length l) is.rows_are ∙ length-take-le 1000 ys (omega (arith, more)), more)

past_on : (after : Option ℤ) (k j : ℤ) → is_past after false k ≡ true → int_lt k j ≡ true → is_past after false j ≡ true
past_on None k j e f = refl
past_on (Some a) k j e f = grind (arith, ints)

-- what lies past a point, and then past one of these, lies past that one
onward : (library : Library) (flow : ℕ) (range : Option Span) (after : Option ℤ) (a : SegmentRow) → In a (segments_behind library flow range after)
    → filter (λ x. int_lt (first_point a) (first_point x)) (segments_behind library flow range after)
    ≡ segments_behind library flow range (Some (first_point a))
onward library flow range after a here =
    let xs = overlapping library.segments flow range None in
    let past : SegmentRow → Bool = λ x. is_past after false (first_point x) in
    let own = (In-filter past xs a here).1 in
    filter_implied past (λ x. int_lt (first_point a) (first_point x)) xs (λ x more. past_on after (first_point a) (first_point x) own more)

low_is : (low : Option ℤ) → is_some low ≡ true → low ≡ Some (unwrap_or low (pos 0))
low_is None e = absurd (true≢false (sym e))
low_is (Some p) e = refl

none_within : (rows : List SegmentRow) (i : ℕ) → i < length rows → slice_get rows i ≡ None → ⊥
none_within [] i within e = omega (arith, within)
none_within (x ∷ xs) zero within e = absurd (cc)
none_within (x ∷ xs) (suc i) within e = none_within xs i (omega (arith, within)) e

-- two neighbours of a page, of which the second isn't used
record HasNeighbours (library : Library) (flow : ℕ) (range : Option Span) (after : Option ℤ) (rows : List SegmentRow) (at : ℕ) (a b : SegmentRow) : Type 0 where
  first : slice_get rows at ≡ Some a
  second : slice_get rows (suc at) ≡ Some b
  within : length rows ≡ suc (suc at)
  taken : rows ≡ take (suc (suc at)) (segments_behind library flow range after)
  apart : AreApartRanges a.segment.range b.segment.range

-- the first of them is the last one that is used: what lies behind its first point is left
left_over : RangeAnswerIsInOrder → (library : Library) → Good library → (flow : ℕ) (range : Option Span) (after : Option ℤ) (rows : List SegmentRow)
    (at : ℕ) (a b : SegmentRow) → HasNeighbours library flow range after rows at a b
    → (segments_behind library flow range after ≡ take (suc at) rows ++ segments_behind library flow range (Some (first_point a)))
    × (low_of a.segment.range ≡ Some (first_point a))
left_over in_order_by library good flow range after rows at a b has =
    let xs = overlapping library.segments flow range None in
    let ys = segments_behind library flow range after in
    let past : SegmentRow → Bool = λ x. is_past after false (first_point x) in
    let first : slice_get ys at ≡ Some a = sym (ap (λ (l : List SegmentRow). slice_get l at) has.taken ∙ slice_get-take (suc (suc at)) ys at (omega arith)) ∙ has.first in
    let second : slice_get ys (suc at) ≡ Some b = sym (ap (λ (l : List SegmentRow). slice_get l (suc at)) has.taken ∙ slice_get-take (suc (suc at)) ys (suc at) (omega arith)) ∙ has.second in
    let here = slice_get-In ys at a first in
    let there = slice_get-In ys (suc at) b second in
    let one = answered library good flow range a (In-filter past xs a here).0 in
    let two = answered library good flow range b (In-filter past xs b there).0 in
    let rise = rises-filter (λ x y. not (int_lt (first_point y) (first_point x))) past xs (none_falls in_order_by library good flow range) in
    let fits = neighbours are_compatible ys at a b (rises-filter are_compatible past xs (all_compatible library good flow range)) first second in
    let order = neighbours (λ x y. not (int_lt (first_point y) (first_point x))) ys at a b rise first second in
    let less = rises_apart (low_of a.segment.range) (low_of b.segment.range) (low_there a.segment.range one.ended) (low_there b.segment.range two.ended) order
    (has.apart (clear_of a b flow one.under two.under fits)) in
    let cut = cut_behind first_point ys at a b rise first second less in
    let front : take (suc at) ys ≡ take (suc at) rows = sym (ap (take (suc at)) has.taken ∙ take-take (suc at) (suc (suc at)) ys (omega arith)) in (
      cut ∙ (ap (λ (l : List SegmentRow). l ++ filter (λ x. int_lt (first_point a) (first_point x)) ys) front
          ∙ ap (λ (l : List SegmentRow). take (suc at) rows ++ l) (onward library flow range after a here)),
      low_is (low_of a.segment.range) (low_there a.segment.range one.ended),
    )

-- the same of the last two rows of a page, as they stand there
read_two : RangeAnswerIsInOrder → (library : Library) → Good library → (flow : ℕ) (range : Option Span) (after : Option ℤ) (read : SegmentsRead)
    (at : ℕ) → length read.rows ≡ suc (suc at) → read.count ≡ suc at → read.rows ≡ take (suc (suc at)) (segments_behind library flow range after)
    → length read.rows ≤ 1000 → (o p : Option SegmentRow) → slice_get read.rows at ≡ o → slice_get read.rows (suc at) ≡ p
    → IfSome o (λ a. IfSome p (λ b. AreApartRanges a.segment.range b.segment.range))
    → read.next ≡ option_and_then (λ row. low_of row.segment.range) o → IsRead library flow range after read
read_two in_order_by library good flow range after read at many count taken most None p first second apart next =
    absurd (none_within read.rows at (omega (arith, many)) first)
read_two in_order_by library good flow range after read at many count taken most (Some a) None first second apart next =
    absurd (none_within read.rows (suc at) (omega (arith, many)) second)
read_two in_order_by library good flow range after read at many count taken most (Some a) (Some b) first second apart next =
    let left = left_over in_order_by library good flow range after read.rows at a b
    (record { first = first; second = second; within = many; taken = taken; apart = apart }) in
    let is : read.next ≡ Some (first_point a) = next ∙ left.1 in
    record {
      follows = left.0 ∙ (ap (λ n. take n read.rows ++ segments_behind library flow range (Some (first_point a))) (sym count)
          ∙ ap (λ (o : Option ℤ). take read.count read.rows ++ left_behind library flow range o) (sym is));
      counted = omega (arith, many, count);
      most = most;
      some = λ there. omega (arith, count);
    }

-- a page with a next one, without its last row
pub read_more : RangeAnswerIsInOrder → (library : Library) → Good library → (flow : ℕ) (range : Option Span) (after : Option ℤ) (rows : List SegmentRow)
    (k : ℤ) (read : SegmentsRead) → IsPageOf library flow range after rows (Some k) → read.rows ≡ rows → read.count + 1 ≡ length rows
    → read.next ≡ point_at rows (length rows - 2) → AreApart rows (length rows - 2) → IsRead library flow range after read
read_more in_order_by library good flow range after rows k read is same count next apart =
    let has = full library flow range after rows k is in
    let many : length read.rows ≡ 1000 = ap (λ (l : List SegmentRow). length l) same ∙ has.0 in
    let place : length rows - 2 ≡ 998 = omega (arith, has.0) in
    read_two in_order_by library good flow range after read 998 many (omega (arith, count, has.0)) (same ∙ is.rows_are) (omega (arith, many))
    (slice_get rows 998) (slice_get rows 999) (ap (λ (l : List SegmentRow). slice_get l 998) same) (ap (λ (l : List SegmentRow). slice_get l 999) same)
    (subst (AreApart rows) place apart) (next ∙ ap (point_at rows) place)
