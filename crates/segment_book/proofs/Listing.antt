-- All segments by flow and first point, as they stand below a book.
use Rattle.std.proofs.Common.{◌≡◌, inl, inr, ℕ, ℤ, int_eq, int_lt, ◌<ℤ◌, nat_lt, Bool, true, false, ◌&&◌, ◌||◌, List, [], ◌∷◌, ◌++◌, Option, Some, None, filter, length, take, refl, sym, ap, ◌∙◌, arith}
use Rattle.std.specs.Prelude.{◌==◌}
use Rattle.std.specs.List.{AllByRecursion, list_all}
use Rattle.std.proofs.lemmas.Bool.{and_from, and_parts}
use Rattle.std.proofs.lemmas.Bool.Decides.{nat_tests}
use Rattle.std.proofs.lemmas.Int.{ints}
use Rattle.time_range.specs.declared.ranges.Span.{Span}
use Rattle.time_range.specs.Ends.{are_ordered}
use Rattle.media_rows.specs.declared.segment.SegmentRow.{SegmentRow}
use Rattle.media_rows.specs.Lists.{in_order, is_past, rises}
use Rattle.media_rows.specs.Ranges.{eternity, has_both_ends, overlaps}
use Rattle.media_rows.specs.Segments.{first_point, starts_before}
use Rattle.media_rows.specs.Snapshot.{older, segment_row_before}
use Rattle.media_rows.specs.Views.{id_key}
use Rattle.shared_tree.specs.Pairs.{IsRising, values}
use Rattle.segment_index.specs.Answers.{is_bounded, met, met_page, page_of}
use Rattle.id_index.proofs.Ids.{below_key, same_key}
use Rattle.library_laws.proofs.ListLemmas.{take-whole}
use Rattle.library_laws.proofs.RowOrder.{by_flow}
use Rattle.segment_book.specs.Within.Flows.{AreCountedFlows, IsFlow, rows_joined, rows_in, segments_in_flows}
use Rattle.segment_book.proofs.FlowRows.{Flows}
use Rattle.segment_book.proofs.Ordered.{Comparable, order_after, stays}
use Rattle.segment_book.proofs.Serials.{each_compares, starts_follow, starts_one_way}

-- ---- a page of all

bounded_meets : (range : Option Span) → (has_both_ends range && overlaps range range) ≡ true → overlaps range eternity ≡ true
bounded_meets None e = absurd (grind (arith, e))
bounded_meets (Some s) e = by s.low s.high
  where
    by : (low high : Option ℤ) → (are_ordered low None && are_ordered None high) ≡ true
    by None high = refl
    by (Some a) high = refl

all_met : (rows : List SegmentRow) → list_all is_bounded rows ≡ true → met rows eternity ≡ rows
all_met [] e = refl
all_met (row ∷ rows) e =
    let parts = and_parts (is_bounded row) (list_all is_bounded rows) e in
    rw (bounded_meets row.segment.range parts.0) (ap (λ l. row ∷ l) (all_met rows parts.1))

all_past : (rows : List SegmentRow) → filter (λ row. is_past None false (first_point row)) rows ≡ rows
all_past [] = refl
all_past (row ∷ rows) = ap (λ l. row ∷ l) (all_past rows)

pub page_of_all : (rows : List SegmentRow) (count : ℕ) → list_all is_bounded rows ≡ true → count ≡ length rows
    → met_page rows eternity (page_of None count false) ≡ rows
page_of_all rows count bounded is =
    ap (take count) (all_past (met rows eternity) ∙ all_met rows bounded) ∙ take-whole count rows (omega (arith, is))

-- ---- the order of a snapshot

-- two whose serials differ compare
flows_compare : (a b : SegmentRow) → (a.serial == b.serial) ≡ false → Comparable segment_row_before a b
flows_compare a b apart = by (nat_lt a.flow b.flow) (nat_lt b.flow a.flow) refl refl
  where
    tied : nat_lt a.flow b.flow ≡ false → nat_lt b.flow a.flow ≡ false → ((a.flow == b.flow) ≡ true) × ((b.flow == a.flow) ≡ true)
    tied p q = (grind (arith, nat_tests), grind (arith, nat_tests))

    by : (p q : Bool) → nat_lt a.flow b.flow ≡ p → nat_lt b.flow a.flow ≡ q → Comparable segment_row_before a b
    by true q ep eq = inl (rw ep refl)
    by false true ep eq = inr (inl (rw eq refl))
    by false false ep eq =
        let same = tied ep eq in
        elim (starts_one_way a b apart) [
          | inl e ↦ inl (rw (ep, same.0, e) refl)
          | inr e ↦ inr (inl (rw (eq, same.1, e) refl))
        ]

-- ---- flow by flow they stand in that order

rises_append : {X : Type 0} (t : X → X → Bool) (a b : List X) → rises t a ≡ true → rises t b ≡ true → list_all (λ x. list_all (t x) b) a ≡ true
    → rises t (a ++ b) ≡ true
rises_append t [] b ea eb cross = eb
rises_append t (x ∷ a) b ea eb cross =
    let parts = and_parts (list_all (t x) a) (rises t a) ea in
    let over = and_parts (list_all (t x) b) (list_all (λ y. list_all (t y) b) a) cross in
    and_from (list_all (t x) (a ++ b)) (rises t (a ++ b)) (rows_joined a parts.0) (rises_append t a b parts.1 eb over.1)
  where
    rows_joined : (ys : List _) → list_all (t x) ys ≡ true → list_all (t x) (ys ++ b) ≡ true
    rows_joined [] e = (and_parts (list_all (t x) b) (list_all (λ y. list_all (t y) b) a) cross).0
    rows_joined (y ∷ ys) e = let p = and_parts (t x y) (list_all (t x) ys) e in and_from (t x y) (list_all (t x) (ys ++ b)) p.0 (rows_joined ys p.1)

module _ (key : ℤ) where
  abbrev Under : SegmentRow → Type 0
  Under row = id_key row.flow ≡ key

  same_flow : (a b : SegmentRow) → Under a → Under b → (a.flow == b.flow) ≡ true
  same_flow a b ea eb = same_key a.flow b.flow ∙ itself (id_key a.flow) (id_key b.flow) (ea ∙ sym eb)
    where
      itself : (x y : ℤ) → x ≡ y → int_eq x y ≡ true
      itself x y e = grind (arith, ints)

  one_flow : (rows : List SegmentRow) → AllByRecursion Under rows → rises starts_before rows ≡ true → rises segment_row_before rows ≡ true
  one_flow [] under e = refl
  one_flow (row ∷ rows) under e =
      let parts = and_parts (list_all (starts_before row) rows) (rises starts_before rows) e in
      and_from (list_all (segment_row_before row) rows) (rises segment_row_before rows) (later rows under.1 parts.0) (one_flow rows under.1 parts.1)
    where
      tied : (a b : Bool) → b ≡ true → (a || (b && true)) ≡ true
      tied true b eb = refl
      tied false true eb = refl
      tied false false eb = absurd (grind (arith, eb))

      later : (others : List SegmentRow) → AllByRecursion Under others → list_all (starts_before row) others ≡ true
          → list_all (segment_row_before row) others ≡ true
      later [] u h = refl
      later (other ∷ others) u h =
          let p = and_parts (starts_before row other) (list_all (starts_before row) others) h in
          and_from (segment_row_before row other) (list_all (segment_row_before row) others)
          (ap (λ b. nat_lt row.flow other.flow || ((row.flow == other.flow) && b)) p.0
          ∙ tied (nat_lt row.flow other.flow) (row.flow == other.flow) (same_flow row other under.0 u.0)) (later others u.1 p.1)

  -- those of later flows stand behind
  before_flow : (row : SegmentRow) → Under row → (k : ℤ) → key <ℤ k → (others : List SegmentRow) → AllByRecursion (λ o. id_key o.flow ≡ k) others
      → list_all (segment_row_before row) others ≡ true
  before_flow row u k lt [] under = refl
  before_flow row u k lt (other ∷ others) under =
      and_from (segment_row_before row other) (list_all (segment_row_before row) others) (first (nat_lt row.flow other.flow) refl)
      (before_flow row u k lt others under.1)
    where
      less : (x y : ℤ) → x ≡ key → y ≡ k → int_lt x y ≡ true
      less x y ex ey = grind (arith, ints)

      first : (b : Bool) → nat_lt row.flow other.flow ≡ b → (b || ((row.flow == other.flow) && starts_before row other)) ≡ true
      first true e = refl
      first false e = absurd (let is = below_key row.flow other.flow ∙ less (id_key row.flow) (id_key other.flow) u under.0 in grind (arith, e, is))

  all_append : {X : Type 0} (p : X → Bool) (a b : List X) → list_all p a ≡ true → list_all p b ≡ true → list_all p (a ++ b) ≡ true
  all_append p [] b ea eb = eb
  all_append p (x ∷ a) b ea eb = let q = and_parts (p x) (list_all p a) ea in and_from (p x) (list_all p (a ++ b)) q.0 (all_append p a b q.1 eb)

  before_all : (row : SegmentRow) → Under row → (flows : Flows) → AllByRecursion (λ p. key <ℤ p.0) flows → AllByRecursion IsFlow flows
      → list_all (segment_row_before row) (rows_in flows) ≡ true
  before_all row u [] above each = refl
  before_all row u (p ∷ flows) above each =
      all_append (segment_row_before row) p.1 (rows_in flows) (before_flow row u p.0 above.0 p.1 each.0.under) (before_all row u flows above.1 each.1)

  cross : (rows : List SegmentRow) → AllByRecursion Under rows → (flows : Flows) → AllByRecursion (λ p. key <ℤ p.0) flows → AllByRecursion IsFlow flows
      → list_all (λ row. list_all (segment_row_before row) (rows_in flows)) rows ≡ true
  cross [] under flows above each = refl
  cross (row ∷ rows) under flows above each =
      and_from (list_all (segment_row_before row) (rows_in flows)) (list_all (λ r. list_all (segment_row_before r) (rows_in flows)) rows)
      (before_all row under.0 flows above each) (cross rows under.1 flows above each)

rows_rise : (flows : Flows) → IsRising flows → AllByRecursion IsFlow flows → rises segment_row_before (rows_in flows) ≡ true
rows_rise [] rising each = refl
rows_rise (p ∷ flows) rising each =
    rises_append segment_row_before p.1 (rows_in flows)
    (one_flow p.0 p.1 each.0.under (starts_follow p.1 each.0.bounded each.0.starts)) (rows_rise flows rising.1 each.1)
    (cross p.0 p.1 each.0.under flows rising.0 each.1)

pub listed_is : (flows : Flows) (count : ℕ) → IsRising flows → AreCountedFlows flows count
    → in_order segment_row_before (segments_in_flows flows) ≡ rows_in flows
listed_is flows count rising book =
    order_after segment_row_before by_flow older (rows_in flows) (each_compares segment_row_before flows_compare (rows_in flows) book.others)
    ∙ stays segment_row_before by_flow (rows_in flows) (rows_rise flows rising book.each)

pub joined_is : (flows : Flows) → rows_joined (values flows) ≡ rows_in flows
joined_is [] = refl
joined_is (p ∷ flows) = ap (λ l. p.1 ++ l) (joined_is flows)
