-- The rows of a good library stand in their order.
use Rattle.std.proofs.Common.{◌≡◌, ◌⊎◌, inl, inr, ℕ, suc, ◌≤◌, ℤ, Bool, true, false, not, ◌&&◌, ◌||◌, List, [], ◌∷◌, ◌++◌, map, Option, Some, None, nat_lt, refl, sym, ap, ◌∙◌, arith}
use Rattle.std.specs.Prelude.{◌==◌, int_lt, unwrap_or, pos, is_some}
use Rattle.std.specs.List.{list_all}
use Rattle.std.proofs.lemmas.Bool.{and_parts, and_from, or_left, or_right, or_parts, not-true, lt-ltb, ltb-false, eq-eqb, false≢true}
use Rattle.std.proofs.lemmas.List.{append_assoc}
use Rattle.std.proofs.lemmas.Bool.Decides.{nat_tests}
use Rattle.time_range.specs.Points.{IsRange, low_of}
use Rattle.time_range.specs.declared.ranges.Span.{Span}
use Rattle.media_rows.specs.declared.event.EventRow.{EventRow}
use Rattle.media_rows.specs.declared.flow.FlowRow.{FlowRow}
use Rattle.media_rows.specs.declared.hook.HookRow.{HookRow}
use Rattle.media_rows.specs.declared.object.ObjectRow.{ObjectRow}
use Rattle.media_rows.specs.declared.request.DeleteRow.{DeleteRow}
use Rattle.media_rows.specs.declared.row.Row.{Row}
use Rattle.media_rows.specs.declared.row.Row.TheVariants as rows
use Rattle.media_rows.specs.declared.segment.SegmentRow.{SegmentRow}
use Rattle.media_rows.specs.declared.source.SourceRow.{SourceRow}
use Rattle.media_rows.specs.Catalog.{source_before, flow_before}
use Rattle.media_rows.specs.Good.{Good, are_compatible, is_segment_good}
use Rattle.media_rows.specs.Library.{Library}
use Rattle.media_rows.specs.Lists.{rises, in_order}
use Rattle.media_rows.specs.Ranges.{has_both_ends}
use Rattle.media_rows.specs.Segments.{low_before, starts_before}
use Rattle.media_rows.specs.Snapshot.{segment_row_before, kind_number, row_before}
use Rattle.library_laws.specs.Laws.{HaveRanges}
use Rattle.library_laws.specs.RowLaws.{RowsRise}
use Rattle.library_laws.proofs.ListLemmas.{In, In-append, In-map, In-in_order, Contains-from_In, list_all-In}
use Rattle.library_laws.proofs.KeptLemmas.{rises-both, rises-mapped}
use Rattle.library_laws.proofs.OutboxKept.{Names-from}
use Rattle.library_laws.proofs.PageLemmas.{IsOrder, in_order_rises, starts_in_order}
use Rattle.library_laws.proofs.ListsFollow.{in_order_keeps, compatible_swapped, apart_points, clear_of}

-- ---- segments by flow, and then by first point

-- an order of numbers, and behind it another one
lex_one_way : (f g : ℕ) (p q : Bool) → (p ≡ true → q ≡ false) → (nat_lt f g || ((f == g) && p)) ≡ true → (nat_lt g f || ((g == f) && q)) ≡ false
lex_one_way f g true true h e = let bad = h refl in absurd (cc)
lex_one_way f g true false h e = grind (arith, nat_tests)
lex_one_way f g false true h e = grind (arith, nat_tests)
lex_one_way f g false false h e = grind (arith, nat_tests)

lex_passes_on : (f g k : ℕ) (p q r : Bool) → (p ≡ false → q ≡ false → r ≡ false) → (nat_lt g f || ((g == f) && p)) ≡ false → (nat_lt k g || ((k == g) && q))
    ≡ false
    → (nat_lt k f || ((k == f) && r)) ≡ false
lex_passes_on f g k false false true h e j = let bad = h refl refl in absurd (cc)
lex_passes_on f g k false false false h e j = grind (arith, nat_tests)
lex_passes_on f g k false true true h e j = grind (arith, nat_tests)
lex_passes_on f g k false true false h e j = grind (arith, nat_tests)
lex_passes_on f g k true q true h e j = grind (arith, nat_tests)
lex_passes_on f g k true q false h e j = grind (arith, nat_tests)

pub by_flow : IsOrder segment_row_before
by_flow = record {
  one_way = λ a b. lex_one_way a.flow b.flow (starts_before a b) (starts_before b a) (starts_in_order.one_way a b);
  passes_on = λ a b c. lex_passes_on a.flow b.flow c.flow (starts_before b a) (starts_before c b) (starts_before c a) (starts_in_order.passes_on a b c);
}

-- what is known of a segment of a good library
record Known (row : SegmentRow) : Type 0 where
  range : IsRange row.segment.range
  ended : has_both_ends row.segment.range ≡ true

-- first points that are told apart are in order
low_from_points : (a b : Option Span) → has_both_ends a ≡ true → has_both_ends b ≡ true → int_lt (unwrap_or (low_of a) (pos 0)) (unwrap_or (low_of b) (pos 0))
    ≡ true
    → low_before (low_of a) (low_of b) ≡ true
low_from_points None b e f h = absurd (false≢true e)
low_from_points (Some s) None e f h = absurd (false≢true f)
low_from_points (Some s) (Some t) e f h = lows s.low t.low (and_parts (is_some s.low) (is_some s.high) e).0 (and_parts (is_some t.low) (is_some t.high) f).0 h
  where
    lows : (p q : Option ℤ) → is_some p ≡ true → is_some q ≡ true → int_lt (unwrap_or p (pos 0)) (unwrap_or q (pos 0)) ≡ true → low_before p q ≡ true
    lows None q e f h = absurd (false≢true e)
    lows (Some x) None e f h = absurd (false≢true f)
    lows (Some x) (Some y) e f h = h

-- flows that don't fall are rising or the same
flows_or : (f g : ℕ) → nat_lt g f ≡ false → (nat_lt f g ≡ true) ⊎ (f ≡ g)
flows_or f g e = by_test (nat_lt f g) refl
  where
    by_test : (b : Bool) → nat_lt f g ≡ b → (nat_lt f g ≡ true) ⊎ (f ≡ g)
    by_test true h = inl h
    by_test false h = inr (omega (arith, ltb-false g f e, ltb-false f g h))

-- the order of the rows, from that of their segments
segment_step : (a b : SegmentRow) → Known a → Known b → are_compatible a b ≡ true → not (segment_row_before b a) ≡ true
    → row_before (rows.Segment a) (rows.Segment b) ≡ true
segment_step a b one two fits order =
    let parts = or_parts (nat_lt b.flow a.flow) ((b.flow == a.flow) && starts_before b a) (not-true (segment_row_before b a) order) in
    elim (flows_or a.flow b.flow parts.0) [
      | inl less ↦ or_left (nat_lt a.flow b.flow) ((a.flow == b.flow) && low_before (low_of a.segment.range) (low_of b.segment.range)) less
      | inr same ↦
          let starts : starts_before b a ≡ false = behind (b.flow == a.flow) (starts_before b a) (eq-eqb b.flow a.flow (sym same)) parts.1 in
          let clear = clear_of a b b.flow same refl fits in
          let points = apart_points a.segment.range b.segment.range one.range two.range one.ended two.ended clear
          (or_parts (low_before (low_of b.segment.range) (low_of a.segment.range)) _ starts).0 in
          or_right (nat_lt a.flow b.flow) ((a.flow == b.flow) && low_before (low_of a.segment.range) (low_of b.segment.range))
          (and_from (a.flow == b.flow) (low_before (low_of a.segment.range) (low_of b.segment.range)) (eq-eqb a.flow b.flow same)
          (low_from_points a.segment.range b.segment.range one.ended two.ended points))
    ]
  where
    behind : (p q : Bool) → p ≡ true → (p && q) ≡ false → q ≡ false
    behind true q e f = f
    behind false q e f = absurd (false≢true e)

segments_rise : (library : Library) → Good library → HaveRanges library.segments
    → rises row_before (map rows.Segment (in_order segment_row_before library.segments)) ≡ true
segments_rise library good fine =
    let parts = and_parts (rises are_compatible library.segments) (list_all (is_segment_good library.catalog.flows) library.segments) good.segments in
    let listed : List SegmentRow = in_order segment_row_before library.segments in
    let known : (row : SegmentRow) → In row listed → Known row = λ row here.
    let own = In-in_order segment_row_before library.segments row here in
    record {
      range = fine row (Contains-from_In library.segments row own);
      ended = (and_parts (has_both_ends row.segment.range) _ (list_all-In (is_segment_good library.catalog.flows) library.segments parts.1 row own)).0;
    } in
    rises-mapped are_compatible (λ a b. not (segment_row_before b a)) row_before rows.Segment listed
    (λ a b here there fits order. segment_step a b (known a here) (known b there) fits order)
    (in_order_keeps are_compatible compatible_swapped segment_row_before library.segments parts.0)
    (in_order_rises segment_row_before by_flow library.segments)

-- ---- kind by kind

-- eight lists, one behind the other
pub nested : {X : Type 0} (a b c d e f g h : List X) → a ++ b ++ c ++ d ++ e ++ f ++ g ++ h ≡ a ++ (b ++ (c ++ (d ++ (e ++ (f ++ (g ++ h))))))
nested a b c d e f g h =
    append_assoc (a ++ b ++ c ++ d ++ e ++ f) g h ∙ append_assoc (a ++ b ++ c ++ d ++ e) f (g ++ h) ∙ append_assoc (a ++ b ++ c ++ d) e (f ++ (g ++ h))
    ∙ append_assoc (a ++ b ++ c) d (e ++ (f ++ (g ++ h))) ∙ append_assoc (a ++ b) c (d ++ (e ++ (f ++ (g ++ h))))
    ∙ append_assoc a b (c ++ (d ++ (e ++ (f ++ (g ++ h)))))

-- rows of this kind and of later ones, in their order
record Rising (kind : ℕ) (listed : List Row) : Type 0 where
  rise : rises row_before listed ≡ true
  kinds : (row : Row) → In row listed → kind ≤ kind_number row

-- rows of one kind before those of later ones
block : {A : Type 0} (kind : ℕ) (make : A → Row) → ((x : A) → kind_number (make x) ≡ kind) → (xs : List A) (later : List Row)
    → rises row_before (map make xs) ≡ true → Rising (suc kind) later → Rising kind (map make xs ++ later)
block kind make is xs later rise rest = record {
  rise = rises-both row_before (map make xs) later rise rest.rise (λ a b here there.
      let old = In-map make xs a here in
      let low : kind_number a ≡ kind = ap kind_number old.2 ∙ is old.0 in
      let high = rest.kinds b there in
      or_left (nat_lt (kind_number a) (kind_number b)) _ (lt-ltb (kind_number a) (kind_number b) (omega (arith, low, high))));
  kinds = λ row here. elim (In-append (map make xs) later row here) [
    | inl own ↦ let old = In-map make xs row own in let same : kind_number row ≡ kind = ap kind_number old.2 ∙ is old.0 in omega (arith, same)
    | inr other ↦ let high = rest.kinds row other in omega (arith, high)
  ];
}

-- rows that rise by a number of theirs
by_number : {A : Type 0} (key : A → ℕ) (make : A → Row) → ((a b : A) → nat_lt (key a) (key b) ≡ true → row_before (make a) (make b) ≡ true) → (xs : List A)
    → rises (λ a b. nat_lt (key a) (key b)) xs ≡ true → rises row_before (map make xs) ≡ true
by_number key make h xs e = rises-mapped (λ a b. nat_lt (key a) (key b)) (λ a b. nat_lt (key a) (key b)) row_before make xs (λ a b here there f g. h a b f) e e

pub rows_rise : RowsRise
rows_rise library good fine =
    let names = Names-from library good.names in
    let order = and_parts (rises source_before library.catalog.sources) (rises flow_before library.catalog.flows) names.catalog in
    let last : Rising 8 (rows.Numbers library.next_serial ∷ []) = record {
      rise = refl;
      kinds = λ row here. elim here [ inl same ↦ let is : kind_number row ≡ 8 = ap kind_number same in omega (arith, is) | inr bad ↦ absurd bad ];
    } in
    let events = block 7 rows.Event (λ x. refl) library.outbox.events _
    (by_number (λ (r : EventRow). r.serial) rows.Event (λ a b e. or_left _ _ e) library.outbox.events names.events_rise) last in
    let hooks = block 6 rows.Hook (λ x. refl) library.outbox.hooks _
    (by_number (λ (r : HookRow). r.serial) rows.Hook (λ a b e. or_left _ _ e) library.outbox.hooks names.hooks_rise) events in
    let requests = block 5 rows.Request (λ x. refl) library.requests _
    (by_number (λ (r : DeleteRow). r.serial) rows.Request (λ a b e. or_left _ _ e) library.requests names.requests_rise) hooks in
    let segments = block 4 rows.Segment (λ x. refl) (in_order segment_row_before library.segments) _ (segments_rise library good fine) requests in
    let objects = block 3 rows.Object (λ x. refl) library.objects _
    (by_number (λ (r : ObjectRow). r.serial) rows.Object (λ a b e. or_left _ _ e) library.objects names.objects_rise) segments in
    let flows = block 2 rows.Flow (λ x. refl) library.catalog.flows _
    (by_number (λ (r : FlowRow). r.body.id) rows.Flow (λ a b e. or_left _ _ e) library.catalog.flows order.1) objects in
    let sources = block 1 rows.Source (λ x. refl) library.catalog.sources _
    (by_number (λ (r : SourceRow). r.id) rows.Source (λ a b e. or_left _ _ e) library.catalog.sources order.0) flows in
    ap (rises row_before) (nested (map rows.Source library.catalog.sources) (map rows.Flow library.catalog.flows) (map rows.Object library.objects)
    (map rows.Segment (in_order segment_row_before library.segments))
    (map rows.Request library.requests) (map rows.Hook library.outbox.hooks) (map rows.Event library.outbox.events) (rows.Numbers library.next_serial ∷ []))
    ∙ sources.rise
