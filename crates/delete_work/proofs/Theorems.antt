-- Laws for callers: a step of a request on the segments of its flow, by rising first point, is one on all segments.
use Rattle.std.proofs.Common.{◌≡◌, ℕ, ◌==◌, ℤ, int_lt, nat_lt, Bool, true, false, not, ◌&&◌, ◌||◌, List, Option, Some, None, filter, length, take, refl, sym, ap, ◌∙◌, arith}
use Rattle.std.specs.List.{list_any}
use Rattle.std.proofs.lemmas.Int.{ints}
use Rattle.std.proofs.lemmas.Bool.Decides.{nat_tests}
use Rattle.time_range.specs.Points.{low_of}
use Rattle.media_rows.specs.declared.request.DeleteRow.{DeleteRow}
use Rattle.media_rows.specs.declared.segment.SegmentRow.{SegmentRow}
use Rattle.media_rows.specs.Lists.{in_order}
use Rattle.media_rows.specs.Ranges.{covers}
use Rattle.media_rows.specs.Requests.{is_finished_by_step, removed_by_step, requested, step_size}
use Rattle.media_rows.specs.Segments.{low_before, segments_of, starts_before, without_segments}
use Rattle.id_index.proofs.Pairs.{filter_swap, filter_within}
use Rattle.delete_work.proofs.Ordered.{Orders, ordered_again, ordered_kept}

-- ---- the order of segments

abbrev by_low : Option ℤ → ℕ → Option ℤ → ℕ → Bool
by_low a x b y = low_before a b || (not (low_before b a) && nat_lt x y)

low_turned : (a b : Option ℤ) (x y : ℕ) → by_low a x b y ≡ true → by_low b y a x ≡ false
low_turned None None x y e = by (nat_lt y x) refl
  where
    by : (t : Bool) → nat_lt y x ≡ t → nat_lt y x ≡ false
    by true f = absurd (grind (arith, nat_tests))
    by false f = f
low_turned None (Some b) x y e = refl
low_turned (Some a) None x y e = absurd (grind (arith, e))
low_turned (Some a) (Some b) x y e = by (int_lt b a) (int_lt a b) (nat_lt y x) (nat_lt x y) refl refl refl refl
  where
    by : (s t u v : Bool) → int_lt b a ≡ s → int_lt a b ≡ t → nat_lt y x ≡ u → nat_lt x y ≡ v → (s || (not t && u)) ≡ false
    by true true u v es et eu ev = absurd (grind (arith, ints))
    by true false u v es et eu ev = absurd (let f : false ≡ true = sym (rw (et, es) refl) ∙ e in grind (arith, f))
    by false true u v es et eu ev = refl
    by false false true true es et eu ev = absurd (grind (arith, nat_tests))
    by false false true false es et eu ev = absurd (let f : false ≡ true = sym (rw (et, es, ev) refl) ∙ e in grind (arith, f))
    by false false false v es et eu ev = refl

low_through : (a b c : Option ℤ) (x y z : ℕ) → by_low b y a x ≡ false → by_low c z b y ≡ false → by_low c z a x ≡ false
low_through None None None x y z e f = by (nat_lt z x) refl
  where
    by : (t : Bool) → nat_lt z x ≡ t → nat_lt z x ≡ false
    by true g = absurd (grind (arith, nat_tests))
    by false g = g
low_through None None (Some c) x y z e f = refl
low_through None (Some b) None x y z e f = absurd (grind (arith, f))
low_through None (Some b) (Some c) x y z e f = refl
low_through (Some a) None c x y z e f = absurd (grind (arith, e))
low_through (Some a) (Some b) None x y z e f = absurd (grind (arith, f))
low_through (Some a) (Some b) (Some c) x y z e f = by (int_lt c a) (int_lt a c) (nat_lt z x) refl refl refl
  where
    not_less : (l m : ℤ) (i j : ℕ) → (int_lt l m || (not (int_lt m l) && nat_lt i j)) ≡ false → int_lt l m ≡ false
    not_less l m i j g = on (int_lt l m) g
      where
        on : (t : Bool) → (t || (not (int_lt m l) && nat_lt i j)) ≡ false → t ≡ false
        on true h = absurd (grind (arith, h))
        on false h = refl

    not_tied : (l m : ℤ) (i j : ℕ) → (int_lt l m || (not (int_lt m l) && nat_lt i j)) ≡ false → int_lt m l ≡ false → nat_lt i j ≡ false
    not_tied l m i j g k = on (int_lt l m) (nat_lt i j) (sym (ap (λ t. int_lt l m || (not t && nat_lt i j)) k) ∙ g)
      where
        on : (t u : Bool) → (t || (not false && u)) ≡ false → u ≡ false
        on true u h = absurd (grind (arith, h))
        on false u h = h

    by : (s t u : Bool) → int_lt c a ≡ s → int_lt a c ≡ t → nat_lt z x ≡ u → (s || (not t && u)) ≡ false
    by true t u es et eu = absurd (let g = not_less b a y x e in let h = not_less c b z y f in grind (arith, ints))
    by false true u es et eu = refl
    by false false false es et eu = refl
    by false false true es et eu = absurd (on (int_lt a b) (int_lt b c) refl refl)
      where
        on : (p q : Bool) → int_lt a b ≡ p → int_lt b c ≡ q → ⊥
        on true q ep eq = let h = not_less c b z y f in grind (arith, ints)
        on false true ep eq = let g = not_less b a y x e in grind (arith, ints)
        on false false ep eq = let g = not_tied b a y x e ep in let h = not_tied c b z y f eq in grind (arith, nat_tests)

pub start_orders : Orders starts_before
start_orders = record {
  turned = λ a b e. low_turned (low_of a.segment.range) (low_of b.segment.range) a.serial b.serial e;
  through = λ x y z e f. low_through (low_of x.segment.range) (low_of y.segment.range) (low_of z.segment.range) x.serial y.serial z.serial e f;
}

-- ---- the segments of one flow among all

-- the segments of a flow by rising first point
abbrev pub index_of : ℕ → List SegmentRow → List SegmentRow
index_of flow segments = in_order starts_before (segments_of flow segments)

own_again : (flow : ℕ) (segments : List SegmentRow) → segments_of flow (index_of flow segments) ≡ index_of flow segments
own_again flow segments =
    sym (ordered_kept starts_before start_orders (λ row. row.flow == flow) (segments_of flow segments))
    ∙ ap (in_order starts_before) (filter_within (λ row. row.flow == flow) (λ row. row.flow == flow) segments (λ row e. e))

pub requested_of_all : (request : DeleteRow) (segments : List SegmentRow)
    → requested (index_of request.flow segments) request ≡ requested segments request
requested_of_all request segments =
    let test : SegmentRow → Bool = λ row. covers request.range row.segment.range in
    ap (λ l. filter (λ (row : SegmentRow). nat_lt row.serial request.serial) (in_order starts_before (filter test l))) (own_again request.flow segments)
    ∙ ap (λ l. filter (λ (row : SegmentRow). nat_lt row.serial request.serial) (in_order starts_before l))
    (sym (ordered_kept starts_before start_orders test (segments_of request.flow segments)))
    ∙ ap (filter (λ (row : SegmentRow). nat_lt row.serial request.serial))
    (ordered_again starts_before start_orders (filter test (segments_of request.flow segments)))

-- the segments that a step removes
pub removed_of_all : (request : DeleteRow) (segments : List SegmentRow)
    → removed_by_step (index_of request.flow segments) request ≡ removed_by_step segments request
removed_of_all request segments = ap (take step_size) (requested_of_all request segments)

-- the index of a flow without some segments
pub index_without_all : (flow : ℕ) (removed segments : List SegmentRow)
    → without_segments removed (index_of flow segments) ≡ index_of flow (without_segments removed segments)
index_without_all flow removed segments =
    let test : SegmentRow → Bool = λ row. not (list_any (λ gone. gone.serial == row.serial) removed) in
    sym (ordered_kept starts_before start_orders test (segments_of flow segments))
    ∙ ap (in_order starts_before) (filter_swap (λ row. row.flow == flow) test segments)

-- whether the step is the last one
pub finished_of_all : (request : DeleteRow) (segments : List SegmentRow)
    → is_finished_by_step (index_of request.flow segments) request ≡ is_finished_by_step segments request
finished_of_all request segments =
    let removed = removed_by_step segments request in
    ap (λ l. length l == 0)
    (ap (λ r. requested (without_segments r (index_of request.flow segments)) request) (removed_of_all request segments)
    ∙ ap (λ l. requested l request) (index_without_all request.flow removed segments)
    ∙ requested_of_all request (without_segments removed segments))
