-- All segments by serial, as a book's calls change them and look at them.
use Rattle.std.proofs.Common.{◌≡◌, ℕ, ℤ, ◌+◌, ◌-◌, int_eq, Bool, true, false, not, ◌&&◌, ◌||◌, cond, List, [], ◌∷◌, ◌++◌, Option, Some, None, Err, filter, length, take, nat_lt, refl, sym, ap, ap₂, subst, ◌∙◌, arith}
use Rattle.std.specs.Prelude.{◌==◌, option_map, slice_get}
use Rattle.std.specs.List.{AllByRecursion, list_all, list_any}
use Rattle.std.proofs.lemmas.Bool.{and_from, and_parts}
use Rattle.std.proofs.lemmas.Bool.Decides.{nat_tests}
use Rattle.std.proofs.lemmas.Int.{ints, clamps}
use Rattle.time_range.specs.declared.ranges.Span.{Span}
use Rattle.media_rows.specs.declared.refusal.BookFault.{BookFault}
use Rattle.media_rows.specs.declared.refusal.BookFault.TheVariants as books
use Rattle.media_rows.specs.declared.refusal.Refusal.{Refusal}
use Rattle.media_rows.specs.declared.refusal.Refusal.TheVariants as refusals
use Rattle.media_rows.specs.declared.segment.SegmentRow.{SegmentRow}
use Rattle.media_rows.specs.Posts.{overlap_refusal}
use Rattle.media_rows.specs.Lists.{inserted, in_order, is_past, placed, rises}
use Rattle.media_rows.specs.Ranges.{higher, hull, lower, overlaps}
use Rattle.media_rows.specs.Refusals.{IsChange}
use Rattle.media_rows.specs.Segments.{first_point, hull_of_segments, names_object, overlapping, ranges_of, segments_of, starts_before, without_segments}
use Rattle.media_rows.specs.Snapshot.{older}
use Rattle.media_rows.specs.Views.{id_key}
use Rattle.shared_tree.specs.Pairs.{IsRising, first, with_pair}
use Rattle.shared_tree.proofs.Counted.{all_append, all_kept}
use Rattle.segment_index.specs.Answers.{begins_before, first_met, is_met, met, met_page, page_of, without_start}
use Rattle.library_laws.proofs.ListLemmas.{In, In-in_order, filter-In, length-in_order}
use Rattle.library_laws.proofs.PageLemmas.{starts_in_order}
use Rattle.segment_book.specs.Answers.{are_older, has_other_serial, is_flow_met, is_new, meeting_refusal}
use Rattle.segment_book.specs.Within.Flows.{AreOthers, AreCountedFlows, IsFlow, IsOther, flow_rows, has_ends, rows_in, segments_in_flows, with_rows_at}
use Rattle.segment_book.proofs.FlowRows.{Flows, at_key, each_left, each_with, flow_rows_are, gains_less, gains_more, others_kept, rows_at}
use Rattle.segment_book.proofs.Gaining.{Gains, gains_length, gains_order, gains_others, loses_others, placed_gains, put_left_out, start_gains}
use Rattle.segment_book.proofs.Ordered.{each_before, each_of, kept_in_order, order_after, stays}
use Rattle.segment_book.proofs.Serials.{each_compares, serials_in_order, starts_compare, starts_follow}

-- ---- a new serial

differs : (a b : ℕ) → not (a == b) ≡ true → (a == b) ≡ false
differs a b e = by (a == b) e
  where
    by : (t : Bool) → not t ≡ true → t ≡ false
    by true held = sym held
    by false held = refl

each_differs : (row : SegmentRow) (rows : List SegmentRow) → list_all (has_other_serial row) rows ≡ true → IsOther row rows
each_differs row [] e = tt
each_differs row (other ∷ rows) e =
    let parts = and_parts (has_other_serial row other) (list_all (has_other_serial row) rows) e in
    (differs row.serial other.serial parts.0, each_differs row rows parts.1)

pub is_other : (row : SegmentRow) (flows : Flows) → is_new (segments_in_flows flows) row ≡ true → IsOther row (rows_in flows)
is_other row flows e = each_before older (λ other. (row.serial == other.serial) ≡ false) (rows_in flows) (each_differs row (segments_in_flows flows) e)

-- ---- the segments of a flow

pub flow_others : (flow : ℕ) (flows : Flows) (count : ℕ) → IsRising flows → AreCountedFlows flows count → AreOthers (flow_rows flow flows)
flow_others flow flows count rising book =
    subst AreOthers (flow_rows_are flow flows rising book.each) (others_kept (λ row. row.flow == flow) (rows_in flows) book.others)

-- the segments of a flow, by serial
pub flow_by_serial : (flow : ℕ) (flows : Flows) (count : ℕ) → IsRising flows → AreCountedFlows flows count
    → segments_of flow (segments_in_flows flows) ≡ in_order older (flow_rows flow flows)
flow_by_serial flow flows count rising book =
    kept_in_order older serials_in_order (λ row. row.flow == flow) (rows_in flows) ∙ ap (in_order older) (flow_rows_are flow flows rising book.each)

-- and by first point, as they stand at the flow's key
pub flow_by_start : (flow : ℕ) (flows : Flows) (count : ℕ) → IsRising flows → AreCountedFlows flows count
    → in_order starts_before (segments_of flow (segments_in_flows flows)) ≡ flow_rows flow flows
flow_by_start flow flows count rising book =
    let rows = flow_rows flow flows in
    let is = at_key (id_key flow) flows book.each in
    ap (in_order starts_before) (flow_by_serial flow flows count rising book)
    ∙ order_after starts_before starts_in_order older rows (each_compares starts_before starts_compare rows (flow_others flow flows count rising book))
    ∙ stays starts_before starts_in_order rows (starts_follow rows is.bounded is.starts)

-- those that pass a test, by first point
pub flow_kept : (test : SegmentRow → Bool) (flow : ℕ) (flows : Flows) (count : ℕ) → IsRising flows → AreCountedFlows flows count
    → in_order starts_before (filter test (segments_of flow (segments_in_flows flows))) ≡ filter test (flow_rows flow flows)
flow_kept test flow flows count rising book =
    sym (kept_in_order starts_before starts_in_order test (segments_of flow (segments_in_flows flows)))
    ∙ ap (filter test) (flow_by_start flow flows count rising book)

same_test : {X : Type 0} (p q : X → Bool) → ((x : X) → p x ≡ q x) → (xs : List X) → filter p xs ≡ filter q xs
same_test p q same [] = refl
same_test p q same (x ∷ xs) = ap₂ (λ (b : Bool) (l : List _). cond b (x ∷ l) l) (same x) (same_test p q same xs)

and_true : (b : Bool) → (b && true) ≡ b
and_true true = refl
and_true false = refl

pub met_is : (flow : ℕ) (range : Option Span) (flows : Flows) (count : ℕ) → IsRising flows → AreCountedFlows flows count
    → overlapping (segments_in_flows flows) flow range None ≡ met (flow_rows flow flows) range
met_is flow range flows count rising book =
    flow_kept (λ row. overlaps row.segment.range range && names_object None row) flow flows count rising book
    ∙ same_test (λ row. overlaps row.segment.range range && names_object None row) (is_met range) (λ row. and_true (overlaps row.segment.range range))
    (flow_rows flow flows)

-- ---- the refusal to add one

pub refused_with : Option (Option Span) → Option Refusal
refused_with range = option_map refusals.Overlap range

first_refused : (met : List SegmentRow) → overlap_refusal (slice_get met 0) ≡ option_map refusals.Overlap (first (ranges_of met))
first_refused [] = refl
first_refused (row ∷ more) = refl

pub meeting_is : (row : SegmentRow) (flows : Flows) (count : ℕ) → IsRising flows → AreCountedFlows flows count
    → meeting_refusal (segments_in_flows flows) row ≡ option_map refusals.Overlap (first_met (flow_rows row.flow flows) row.segment.range)
meeting_is row flows count rising book =
    ap (λ l. overlap_refusal (slice_get l 0)) (met_is row.flow row.segment.range flows count rising book)
    ∙ first_refused (met (flow_rows row.flow flows) row.segment.range)

-- a refusal of the one is that of the other
pub same_refusal : (refusal other : Option Refusal) (next other_next : List SegmentRow) (fault : BookFault) → other ≡ refusal
    → IsChange refusal next (Err fault) → IsChange other other_next (Err fault)
same_refusal refusal other next other_next (books.Refused why) e is = e ∙ is
same_refusal refusal other next other_next books.Memory e is = tt

-- ---- one more

module _ (row : SegmentRow) (flows : Flows) (count : ℕ) (rising : IsRising flows) (book : AreCountedFlows flows count)
    (other : IsOther row (rows_in flows)) where
  abbrev pub key : ℤ
  key = id_key row.flow

  gains : Gains row (rows_in flows) (rows_in (with_pair (key, placed starts_before row (rows_at key flows)) flows))
  gains =
      let is = at_key key flows book.each in
      gains_more row key (placed starts_before row (rows_at key flows)) flows rising
      (placed_gains row (rows_at key flows) (starts_follow (rows_at key flows) is.bounded is.starts) other_here)
    where
      other_here : IsOther row (rows_at key flows)
      other_here =
          subst (IsOther row) (flow_rows_are row.flow flows rising book.each)
          (all_kept (λ o. (row.serial == o.serial) ≡ false) (λ o. o.flow == row.flow) (rows_in flows) other)

  pub view_with : (rows : List SegmentRow) (next : Flows) → rows ≡ placed starts_before row (flow_rows row.flow flows) → next ≡ with_pair (key, rows) flows
      → segments_in_flows next ≡ inserted older row (segments_in_flows flows)
  view_with rows next er en = rw (en, er) (gains_order row _ _ gains other)

  placed_under : AllByRecursion (λ r. id_key r.flow ≡ key) (placed starts_before row (rows_at key flows))
  placed_under =
      let is = at_key key flows book.each in
      let P : SegmentRow → Type 0 = λ r. id_key r.flow ≡ key in
      all_append P (filter (λ y. starts_before y row) (rows_at key flows)) (row ∷ filter (λ y. starts_before row y) (rows_at key flows))
      (all_kept P (λ y. starts_before y row) (rows_at key flows) is.under)
      (refl, all_kept P (λ y. starts_before row y) (rows_at key flows) is.under)

  pub book_with : (rows : List SegmentRow) (next : Flows) (more : ℕ) → rows ≡ placed starts_before row (flow_rows row.flow flows)
      → rises begins_before rows ≡ true → list_all has_ends rows ≡ true → next ≡ with_pair (key, rows) flows → more ≡ count + 1 → AreCountedFlows next more
  book_with rows next more er starts bounded en em = rw en (record {
    each = each_with (key, rows) flows book.each
        (record { under = subst (AllByRecursion (λ r. id_key r.flow ≡ key)) (sym er) placed_under; starts = starts; bounded = bounded });
    others = rw er (gains_others row _ _ gains book.others other);
    counted = em ∙ ap (λ n. n + 1) book.counted ∙ sym (gains_length row _ _ gains) ∙ ap (λ l. length (rows_in (with_pair (key, l) flows))) (sym er);
  })

-- ---- one less

-- a segment of all stands among those of its flow
pub flow_has : (row : SegmentRow) (flows : Flows) → IsRising flows → AllByRecursion IsFlow flows → In row (segments_in_flows flows)
    → In row (flow_rows row.flow flows)
flow_has row flows rising each here =
    let itself : (row.flow == row.flow) ≡ true = grind (arith, nat_tests) in
    subst (In row) (flow_rows_are row.flow flows rising each)
    (filter-In (λ r. r.flow == row.flow) (rows_in flows) row (In-in_order older (rows_in flows) row here) itself)

module _ (row : SegmentRow) (flows : Flows) (count : ℕ) (rising : IsRising flows) (book : AreCountedFlows flows count)
    (here : In row (segments_in_flows flows)) where
  abbrev pub left : List SegmentRow
  left = without_start (first_point row) (flow_rows row.flow flows)

  loses : Gains row (rows_in (with_rows_at (id_key row.flow) left flows)) (rows_in flows)
  loses =
      let is = at_key (id_key row.flow) flows book.each in
      gains_less row (id_key row.flow) left flows rising
      (start_gains row (flow_rows row.flow flows) is.starts (flow_has row flows rising book.each here))

  pub view_without : (rows : List SegmentRow) (next : Flows) → rows ≡ left → next ≡ with_rows_at (id_key row.flow) rows flows
      → segments_in_flows next ≡ without_segments (row ∷ []) (segments_in_flows flows)
  view_without rows next er en =
      let both = loses_others row _ _ loses book.others in
      rw (en, er) (sym (put_left_out row (segments_in_flows (with_rows_at (id_key row.flow) left flows))
      (each_of older (λ other. (row.serial == other.serial) ≡ false) _ both.1))
      ∙ ap (without_segments (row ∷ [])) (sym (gains_order row _ _ loses both.1)))

  pub book_without : (rows : List SegmentRow) (next : Flows) (fewer : ℕ) → rows ≡ left → rises begins_before rows ≡ true → list_all has_ends rows ≡ true
      → next ≡ with_rows_at (id_key row.flow) rows flows → fewer ≡ count - 1 → AreCountedFlows next fewer
  book_without rows next fewer er starts bounded en ef =
      let is = at_key (id_key row.flow) flows book.each in
      let under = all_kept (λ r. id_key r.flow ≡ id_key row.flow) (λ r. not (int_eq (first_point r) (first_point row))) (flow_rows row.flow flows) is.under in
      rw en (record {
        each = each_left (id_key row.flow) rows flows book.each
            (record { under = subst (AllByRecursion (λ r. id_key r.flow ≡ id_key row.flow)) (sym er) under; starts = starts; bounded = bounded });
        others = rw er ((loses_others row _ _ loses book.others).0);
        counted = counts (length (rows_in (with_rows_at (id_key row.flow) left flows))) (length (rows_in flows)) (gains_length row _ _ loses) book.counted
            ∙ ap (λ l. length (rows_in (with_rows_at (id_key row.flow) l flows))) (sym er);
      })
    where
      counts : (n m : ℕ) → m ≡ n + 1 → count ≡ m → fewer ≡ n
      counts n m e ec = omega (arith, ef, ec, e)

-- ---- looks

-- a hull is the same in any order
lower_swap : (a b c : Option ℤ) → lower a (lower b c) ≡ lower b (lower a c)
lower_swap None None c = refl
lower_swap None (Some b) None = refl
lower_swap None (Some b) (Some c) = refl
lower_swap (Some a) None None = refl
lower_swap (Some a) None (Some c) = refl
lower_swap (Some a) (Some b) None = refl
lower_swap (Some a) (Some b) (Some c) = ap Some (omega (arith, ints, clamps))

higher_swap : (a b c : Option ℤ) → higher a (higher b c) ≡ higher b (higher a c)
higher_swap None None c = refl
higher_swap None (Some b) None = refl
higher_swap None (Some b) (Some c) = refl
higher_swap (Some a) None None = refl
higher_swap (Some a) None (Some c) = refl
higher_swap (Some a) (Some b) None = refl
higher_swap (Some a) (Some b) (Some c) = ap Some (omega (arith, ints, clamps))

lower_turn : (a b : Option ℤ) → lower a b ≡ lower b a
lower_turn None None = refl
lower_turn None (Some b) = refl
lower_turn (Some a) None = refl
lower_turn (Some a) (Some b) = ap Some (omega (arith, ints, clamps))

higher_turn : (a b : Option ℤ) → higher a b ≡ higher b a
higher_turn None None = refl
higher_turn None (Some b) = refl
higher_turn (Some a) None = refl
higher_turn (Some a) (Some b) = ap Some (omega (arith, ints, clamps))

-- a range with these ends
abbrev ends : Option ℤ → Option ℤ → Option Span
ends low high = Some (record { low = low; high = high })

hull_swap : (a b c : Option Span) → hull a (hull b c) ≡ hull b (hull a c)
hull_swap None b c = refl
hull_swap (Some a) None c = refl
hull_swap (Some a) (Some b) None = ap₂ ends (lower_turn a.low b.low) (higher_turn a.high b.high)
hull_swap (Some a) (Some b) (Some c) = ap₂ ends (lower_swap a.low b.low c.low) (higher_swap a.high b.high c.high)

hull_put : (t : SegmentRow → SegmentRow → Bool) (x : SegmentRow) (rows : List SegmentRow)
    → hull_of_segments (inserted t x rows) ≡ hull x.segment.range (hull_of_segments rows)
hull_put t x [] = refl
hull_put t x (y ∷ ys) = by (t y x) (hull_put t x ys)
  where
    by : (b : Bool) → hull_of_segments (inserted t x ys) ≡ hull x.segment.range (hull_of_segments ys)
        → hull_of_segments (cond b (y ∷ inserted t x ys) (x ∷ y ∷ ys)) ≡ hull x.segment.range (hull y.segment.range (hull_of_segments ys))
    by true rest = ap (hull y.segment.range) rest ∙ hull_swap y.segment.range x.segment.range (hull_of_segments ys)
    by false rest = refl

hull_in_order : (t : SegmentRow → SegmentRow → Bool) (rows : List SegmentRow) → hull_of_segments (in_order t rows) ≡ hull_of_segments rows
hull_in_order t [] = refl
hull_in_order t (x ∷ xs) = hull_put t x (in_order t xs) ∙ ap (hull x.segment.range) (hull_in_order t xs)

pub hull_is : (flow : ℕ) (flows : Flows) (count : ℕ) → IsRising flows → AreCountedFlows flows count
    → hull_of_segments (segments_of flow (segments_in_flows flows)) ≡ hull_of_segments (flow_rows flow flows)
hull_is flow flows count rising book =
    ap hull_of_segments (flow_by_serial flow flows count rising book) ∙ hull_in_order older (flow_rows flow flows)

-- and so is the number of segments
pub length_is : (flows : Flows) (count : ℕ) → AreCountedFlows flows count → count ≡ length (segments_in_flows flows)
length_is flows count book = book.counted ∙ sym (length-in_order older (rows_in flows))

-- ---- a segment above all others

pub above_is_new : (row : SegmentRow) (rows : List SegmentRow) → are_older rows row ≡ true → is_new rows row ≡ true
above_is_new row [] e = refl
above_is_new row (other ∷ rows) e =
    let parts = and_parts (older other row) (are_older rows row) e in
    and_from (has_other_serial row other) (is_new rows row) (apart other.serial row.serial parts.0) (above_is_new row rows parts.1)
  where
    apart : (a b : ℕ) → nat_lt a b ≡ true → not (b == a) ≡ true
    apart a b lt = grind (arith, nat_tests)

pub put_behind : (row : SegmentRow) (rows : List SegmentRow) → are_older rows row ≡ true → inserted older row rows ≡ rows ++ row ∷ []
put_behind row [] e = refl
put_behind row (other ∷ rows) e =
    let parts = and_parts (older other row) (are_older rows row) e in by (older other row) parts.0 (put_behind row rows parts.1)
  where
    by : (b : Bool) → b ≡ true → inserted older row rows ≡ rows ++ row ∷ []
        → cond b (other ∷ inserted older row rows) (row ∷ other ∷ rows) ≡ other ∷ (rows ++ row ∷ [])
    by true e' rest = ap (λ l. other ∷ l) rest
    by false e' rest = absurd (grind (arith, e'))

-- ---- the number of a flow's segments, and whether a range meets one

pub flow_length : (flow : ℕ) (flows : Flows) (count : ℕ) → IsRising flows → AreCountedFlows flows count
    → length (segments_of flow (segments_in_flows flows)) ≡ length (flow_rows flow flows)
flow_length flow flows count rising book =
    ap length (flow_by_serial flow flows count rising book) ∙ length-in_order older (flow_rows flow flows)

any_put : (t : SegmentRow → SegmentRow → Bool) (test : SegmentRow → Bool) (x : SegmentRow) (rows : List SegmentRow)
    → list_any test (inserted t x rows) ≡ (test x || list_any test rows)
any_put t test x [] = refl
any_put t test x (y ∷ ys) = by (t y x) (any_put t test x ys)
  where
    turn : (a b c : Bool) → (a || (b || c)) ≡ (b || (a || c))
    turn true true c = refl
    turn true false c = refl
    turn false b c = refl

    by : (b : Bool) → list_any test (inserted t x ys) ≡ (test x || list_any test ys)
        → list_any test (cond b (y ∷ inserted t x ys) (x ∷ y ∷ ys)) ≡ (test x || (test y || list_any test ys))
    by true rest = ap (λ b. test y || b) rest ∙ turn (test y) (test x) (list_any test ys)
    by false rest = refl

any_in_order : (t : SegmentRow → SegmentRow → Bool) (test : SegmentRow → Bool) (rows : List SegmentRow) → list_any test (in_order t rows) ≡ list_any test rows
any_in_order t test [] = refl
any_in_order t test (x ∷ xs) = any_put t test x (in_order t xs) ∙ ap (λ b. test x || b) (any_in_order t test xs)

pub flow_met_is : (flow : ℕ) (range : Option Span) (flows : Flows) (count : ℕ) → IsRising flows → AreCountedFlows flows count
    → is_flow_met (segments_in_flows flows) flow range ≡ list_any (is_met range) (flow_rows flow flows)
flow_met_is flow range flows count rising book =
    ap (list_any (is_met range)) (flow_by_serial flow flows count rising book) ∙ any_in_order older (is_met range) (flow_rows flow flows)

-- the first page of one segment tells whether there is one
pub first_page : (rows : List SegmentRow) (range : Option Span) (page : List SegmentRow) → page ≡ met_page rows range (page_of None 1 false)
    → not (length page == 0) ≡ list_any (is_met range) rows
first_page rows range page e =
    ap (λ l. not (length l == 0)) (e ∙ ap (take 1) (all_past (met rows range))) ∙ filled rows
  where
    all_past : (xs : List SegmentRow) → filter (λ x. is_past None false (first_point x)) xs ≡ xs
    all_past [] = refl
    all_past (x ∷ xs) = ap (λ l. x ∷ l) (all_past xs)

    filled : (xs : List SegmentRow) → not (length (take 1 (met xs range)) == 0) ≡ list_any (is_met range) xs
    filled [] = refl
    filled (x ∷ xs) = by (is_met range x) (filled xs)
      where
        by : (b : Bool) → not (length (take 1 (met xs range)) == 0) ≡ list_any (is_met range) xs
            → not (length (take 1 (cond b (x ∷ met xs range) (met xs range))) == 0) ≡ (b || list_any (is_met range) xs)
        by true rest = refl
        by false rest = rest
