-- What a flow shows, by the segments that contain a point.
use Rattle.std.proofs.Common.{◌≡◌, ◌≢◌, ◌⊎◌, inl, inr, ℕ, ℤ, ◌≤◌, true, not, List, [], ◌∷◌, ◌++◌, filter, length, Some, None, refl, sym, ap, ◌∙◌, append-nil, arith}
use Rattle.std.specs.Prelude.{◌==◌, option_map, slice_get}
use Rattle.std.specs.List.{list_all}
use Rattle.std.proofs.lemmas.Bool.{and_from, and_parts, eq-eqb, eqb-true, false≢true}
use Rattle.std.proofs.lemmas.List.Elements.{filter-append}
use Rattle.time_range.specs.Points.{Has}
use Rattle.media_rows.specs.declared.segment.SegmentRow.{SegmentRow}
use Rattle.media_rows.specs.Good.{Good, are_compatible, is_segment_good}
use Rattle.media_rows.specs.Library.{Library}
use Rattle.media_rows.specs.Lists.{rises}
use Rattle.media_rows.specs.Ranges.{covers, overlaps}
use Rattle.media_rows.specs.Segments.{segments_of}
use Rattle.library_laws.proofs.ListLemmas.{In, In-filter, filter-In, rises-In, rises-filter}
use Rattle.edit_laws.specs.Laws.{OneSegmentShows}
use Rattle.edit_laws.specs.Showing.{Shown, just, showing, shown_by, shows}
use Rattle.edit_laws.proofs.EndLemmas.{both_overlap, covers_has, has_covers}
use Rattle.edit_laws.proofs.PairLemmas.{filter-none}

-- ---- segments that contain a point

-- a segment of a flow contains the point
pub record IsShowing (segments : List SegmentRow) (flow : ℕ) (p : ℤ) (row : SegmentRow)
    : Type 0 where
  pub among : In row segments
  pub under : row.flow ≡ flow
  pub has : Has row.segment.range p

-- such a one is among those that show
In-showing : (segments : List SegmentRow) (flow : ℕ) (p : ℤ) (row : SegmentRow)
    → In row (showing segments flow p) → IsShowing segments flow p row
In-showing segments flow p row here =
    let found =
    In-filter (λ r. covers r.segment.range (just p)) (segments_of flow segments) row here in
    let kept = In-filter (λ r. r.flow == flow) segments row found.0 in
    record {
      among = kept.0;
      under = eqb-true row.flow flow kept.1;
      has = covers_has row.segment.range p found.1;
    }

-- and the other way
showing-In : (segments : List SegmentRow) (flow : ℕ) (p : ℤ) (row : SegmentRow)
    → IsShowing segments flow p row → In row (showing segments flow p)
showing-In segments flow p row is =
    filter-In (λ r. covers r.segment.range (just p)) (segments_of flow segments) row
    (filter-In (λ r. r.flow == flow) segments row is.among (eq-eqb row.flow flow is.under))
    (has_covers row.segment.range p is.has)

-- ---- what is shown

-- the first of none
first_none : (rows : List SegmentRow) (p : ℤ) → ((row : SegmentRow) → In row rows → ⊥)
    → option_map (shown_by p) (slice_get rows 0) ≡ None
first_none [] p none = refl
first_none (row ∷ rows) p none = absurd (none row (inl refl))

-- where no segment contains the point nothing is shown
pub shows_none : (segments : List SegmentRow) (flow : ℕ) (p : ℤ)
    → ((row : SegmentRow) → IsShowing segments flow p row → ⊥) → shows segments flow p ≡ None
shows_none segments flow p none =
    first_none (showing segments flow p) p
    (λ row here. none row (In-showing segments flow p row here))

-- the first of those that all show the same
first_some : (rows : List SegmentRow) (p : ℤ) (what : Shown) (row : SegmentRow) → In row rows
    → ((other : SegmentRow) → In other rows → shown_by p other ≡ what)
    → option_map (shown_by p) (slice_get rows 0) ≡ Some what
first_some [] p what row here same = absurd here
first_some (first ∷ rows) p what row here same = ap Some (same first (inl refl))

-- where all that contain the point show the same, this is shown
pub shows_some : (segments : List SegmentRow) (flow : ℕ) (p : ℤ) (what : Shown) (row : SegmentRow)
    → IsShowing segments flow p row
    → ((other : SegmentRow) → IsShowing segments flow p other → shown_by p other ≡ what)
    → shows segments flow p ≡ Some what
shows_some segments flow p what row is same =
    first_some (showing segments flow p) p what row (showing-In segments flow p row is)
    (λ other here. same other (In-showing segments flow p other here))

-- a list has no member, or a first one
list_cases : (rows : List SegmentRow)
    → ((row : SegmentRow) → In row rows → ⊥) ⊎ ((row : SegmentRow) × In row rows)
list_cases [] = inl (λ row here. here)
list_cases (row ∷ rows) = inr (row, inl refl)

-- no segment contains the point, or some does
pub shown_cases : (segments : List SegmentRow) (flow : ℕ) (p : ℤ)
    → ((row : SegmentRow) → IsShowing segments flow p row → ⊥)
    ⊎ ((row : SegmentRow) × IsShowing segments flow p row)
shown_cases segments flow p =
    elim (list_cases (showing segments flow p)) [
      | inl none ↦ inl (λ row is. none row (showing-In segments flow p row is))
      | inr some ↦ inr (some.0, In-showing segments flow p some.0 some.1)
    ]

-- ---- one segment

-- the segments of a good library don't overlap within a flow
pub compatible : (library : Library) → Good library → rises are_compatible library.segments ≡ true
compatible library good =
    (and_parts (rises are_compatible library.segments)
    (list_all (is_segment_good library.catalog.flows) library.segments) good.segments).0

-- two such segments have no point in common
pub no_common_point : (a b : SegmentRow) (p : ℤ) → are_compatible a b ≡ true → a.flow ≡ b.flow
    → Has a.segment.range p → Has b.segment.range p → ⊥
no_common_point a b p test same h k =
    let both = and_from (a.flow == b.flow) (overlaps a.segment.range b.segment.range)
    (eq-eqb a.flow b.flow same) (both_overlap a.segment.range b.segment.range p h k) in
    false≢true (sym (ap not both) ∙ test)

-- segments of a flow of a good library that contain one point are one
pub one_shows : (library : Library) → Good library → (flow : ℕ) (p : ℤ) (a b : SegmentRow)
    → IsShowing library.segments flow p a → IsShowing library.segments flow p b → a ≡ b
one_shows library good flow p a b one two =
    elim (rises-In are_compatible library.segments (compatible library good) a b one.among
    two.among) [
      | inl same ↦ same
      | inr (inl test) ↦ absurd (no_common_point a b p test (one.under ∙ sym two.under) one.has
          two.has)
      | inr (inr test) ↦ absurd (no_common_point b a p test (two.under ∙ sym one.under) two.has
          one.has)
    ]

-- a list of compatible segments that contain one point is short
one_at_most : (rows segments : List SegmentRow) (flow : ℕ) (p : ℤ)
    → rises are_compatible rows ≡ true
    → ((row : SegmentRow) → In row rows → IsShowing segments flow p row) → length rows ≤ 1
one_at_most [] segments flow p rise is = omega arith
one_at_most (a ∷ []) segments flow p rise is = omega arith
one_at_most (a ∷ b ∷ rows) segments flow p rise is =
    let first =
    (and_parts (list_all (are_compatible a) (b ∷ rows)) (rises are_compatible (b ∷ rows)) rise).0
    in
    let test = (and_parts (are_compatible a b) (list_all (are_compatible a) rows) first).0 in
    let one = is a (inl refl) in
    let two = is b (inr (inl refl)) in
    absurd (no_common_point a b p test (one.under ∙ sym two.under) one.has two.has)

-- and those that show are one
pub one_segment_shows : OneSegmentShows
one_segment_shows library good flow p =
    one_at_most (showing library.segments flow p) library.segments flow p
    (rises-filter are_compatible (λ row. covers row.segment.range (just p))
    (segments_of flow library.segments)
    (rises-filter are_compatible (λ row. row.flow == flow) library.segments
    (compatible library good)))
    (λ row here. In-showing library.segments flow p row here)

-- ---- further segments

-- none of the added segments is of this flow
pub segments_of-more : (old added : List SegmentRow) (flow : ℕ)
    → ((row : SegmentRow) → In row added → row.flow ≢ flow)
    → segments_of flow (old ++ added) ≡ segments_of flow old
segments_of-more old added flow apart =
    filter-append (λ row. row.flow == flow) old added
    ∙ ap (λ l. segments_of flow old ++ l)
    (filter-none (λ row. row.flow == flow) added
    (λ row here e. apart row here (eqb-true row.flow flow e)))
    ∙ append-nil (segments_of flow old)

-- none of the added segments contains the point
pub shows-more : (old added : List SegmentRow) (flow : ℕ) (p : ℤ)
    → ((row : SegmentRow) → In row added → Has row.segment.range p → ⊥)
    → shows (old ++ added) flow p ≡ shows old flow p
shows-more old added flow p none =
    ap (λ l. option_map (shown_by p) (slice_get l 0))
    (ap (filter (λ row. covers row.segment.range (just p)))
    (filter-append (λ row. row.flow == flow) old added)
    ∙ filter-append (λ row. covers row.segment.range (just p)) (segments_of flow old)
    (segments_of flow added)
    ∙ ap (λ l. showing old flow p ++ l)
    (filter-none (λ row. covers row.segment.range (just p)) (segments_of flow added)
    (λ row here e. none row (In-filter (λ r. r.flow == flow) added row here).0
    (covers_has row.segment.range p e)))
    ∙ append-nil (showing old flow p))
