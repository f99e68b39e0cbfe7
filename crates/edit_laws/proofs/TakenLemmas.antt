-- What rows that are taken tell of their places, and what a list takes.
use Rattle.std.proofs.Common.{◌≡◌, ◌≢◌, inl, inr, ℕ, ◌+◌, true, List, [], ◌∷◌, Option, None, refl, sym, ap}
use Rattle.std.specs.Prelude.{◌==◌, ◌&&◌}
use Rattle.std.proofs.lemmas.Bool.{and_from, and_parts, eq-eqb, eqb-true}
use Rattle.time_range.specs.Points.{Overlap}
use Rattle.time_range.specs.declared.ranges.Span.{Span}
use Rattle.media_rows.specs.declared.segment.Segment.{Segment}
use Rattle.media_rows.specs.declared.segment.SegmentRow.{SegmentRow}
use Rattle.media_rows.specs.Library.{Library}
use Rattle.media_rows.specs.Ranges.{overlaps}
use Rattle.media_rows.specs.Segments.{names_object, overlapping, posted, segments_of, starts_before}
use Rattle.segment_pieces.specs.Pieces.{GoesTooFar, NeedsRate}
use Rattle.library_laws.proofs.ListLemmas.{Contains-from_In, In, In-filter, In-flat_map, In-in_order, In-map, filter-In, flat_map-In, in_order-In, map-In}
use Rattle.range_edit.specs.Assembling.{EachIsTaken, HaveTwoFormats, IsUnkept, NoFault, PassesLimit, RowFault, SomeTaken, StandsOverEarlier, StandsOverSegment, Taking, Where, clip_of, number_behind, place_of, taken_by, takings_in, takings_of}
use Rattle.range_edit.specs.declared.fault.EditFault.{EditFault}
use Rattle.range_edit.specs.declared.fault.EditFault.TheVariants as faults
use Rattle.range_edit.specs.declared.list.EditRow.{EditRow}
use Rattle.edit_laws.proofs.PairLemmas.{EachPair, EachPair-from_splits, In-split}

-- ---- faults in their order

-- where no fault stands, the first one doesn't
not_first : (Stands : Type 0) (this : EditFault) (Later : EditFault → Type 0)
    → ((fault : EditFault) → Where Stands this Later fault → ⊥) → Stands → ⊥
not_first Stands this Later none stands = none this (inl (stands, refl))

-- and no later one does
not_later : (Stands : Type 0) (this : EditFault) (Later : EditFault → Type 0)
    → ((fault : EditFault) → Where Stands this Later fault → ⊥)
    → (fault : EditFault) → Later fault → ⊥
not_later Stands this Later none fault later =
    none fault (inr (not_first Stands this Later none, later))

-- ---- a row that is taken

-- its place is that of no earlier row, and none of the target's segments stands there
pub record IsFree (library : Library) (target : ℕ) (before : List EditRow) (row : EditRow)
    : Type 0 where
  pub earlier : StandsOverEarlier before row → ⊥
  pub segments : overlapping library.segments target (place_of row) None ≡ []

-- a list that isn't anything but empty
is_empty : {X : Type 0} (xs : List X) → (xs ≢ [] → ⊥) → xs ≡ []
is_empty [] none = refl
is_empty (x ∷ xs) none = absurd (none (λ e. cc))

-- a row that isn't refused has such a place
row_is_free : (library : Library) (target : ℕ) (before : List EditRow) (row : EditRow) (n : ℕ)
    → ((fault : EditFault) → RowFault library target before row n fault → ⊥)
    → IsFree library target before row
row_is_free library target before row n none =
    let Rates : EditFault → Type 0 =
    Where (SomeTaken NeedsRate library row) (faults.NoRate n)
    (Where (SomeTaken GoesTooFar library row) (faults.TooFar n) NoFault) in
    let Segments : EditFault → Type 0 =
    Where (StandsOverSegment library target row) (faults.Occupied n) Rates in
    let Rows : EditFault → Type 0 =
    Where (StandsOverEarlier before row) (faults.RowsOverlap n) Segments in
    let Limits : EditFault → Type 0 = Where (PassesLimit row) (faults.TooFar n) Rows in
    let Formats : EditFault → Type 0 =
    Where (HaveTwoFormats library row.flow target) (faults.FormatDiffers n) Limits in
    let formats = not_later (IsUnkept library row.flow) (faults.NoFlow n) Formats none in
    let limits =
    not_later (HaveTwoFormats library row.flow target) (faults.FormatDiffers n) Limits formats in
    let rows = not_later (PassesLimit row) (faults.TooFar n) Rows limits in
    let segments =
    not_later (StandsOverEarlier before row) (faults.RowsOverlap n) Segments rows in
    record {
      earlier = not_first (StandsOverEarlier before row) (faults.RowsOverlap n) Segments rows;
      segments = is_empty (overlapping library.segments target (place_of row) None)
          (not_first (StandsOverSegment library target row) (faults.Occupied n) Rates segments);
    }

-- the places of two rows have no point in common
abbrev pub PlacesApart : EditRow → EditRow → Type 0
PlacesApart one other = Overlap (place_of one) (place_of other) → ⊥

-- the places of rows that are taken are apart
pub places_are_apart : (library : Library) (target : ℕ) (rows : List EditRow)
    → EachIsTaken library target rows → EachPair PlacesApart rows
places_are_apart library target rows taken =
    EachPair-from_splits PlacesApart rows (λ before row behind is earlier here overlap.
    (row_is_free library target before row (number_behind before)
    (taken before row behind is)).earlier (earlier, Contains-from_In before earlier here, overlap))

-- and no segment of the target stands there
pub places_are_free : (library : Library) (target : ℕ) (rows : List EditRow)
    → EachIsTaken library target rows → (row : EditRow) → In row rows
    → overlapping library.segments target (place_of row) None ≡ []
places_are_free library target rows taken row here =
    let cut = In-split rows row here in
    (row_is_free library target cut.0 row (number_behind cut.0)
    (taken cut.0 row cut.1 cut.2)).segments

-- ---- segments that overlap

-- those of a flow that do are among those that are listed
pub overlapping-In : (segments : List SegmentRow) (flow : ℕ) (range : Option Span)
    (row : SegmentRow) → In row segments → row.flow ≡ flow
    → overlaps row.segment.range range ≡ true → In row (overlapping segments flow range None)
overlapping-In segments flow range row here under e =
    in_order-In starts_before _ row
    (filter-In (λ r. overlaps r.segment.range range && names_object None r)
    (segments_of flow segments) row
    (filter-In (λ r. r.flow == flow) segments row here (eq-eqb row.flow flow under))
    (and_from (overlaps row.segment.range range) true e refl))

-- a segment that a row takes
pub record IsTakenBy (library : Library) (row : EditRow) (s : SegmentRow) : Type 0 where
  pub among : In s library.segments
  pub under : s.flow ≡ row.flow
  pub overlap : overlaps s.segment.range row.range ≡ true

-- is one that is listed for it
pub In-taken_by : (library : Library) (row : EditRow) (s : SegmentRow)
    → In s (taken_by library row) → IsTakenBy library row s
In-taken_by library row s here =
    let passed =
    In-filter (λ r. overlaps r.segment.range row.range && names_object None r)
    (segments_of row.flow library.segments) s (In-in_order starts_before _ s here) in
    let kept = In-filter (λ r. r.flow == row.flow) library.segments s passed.0 in
    record {
      among = kept.0;
      under = eqb-true s.flow row.flow kept.1;
      overlap = (and_parts (overlaps s.segment.range row.range) true passed.1).0;
    }

-- ---- takings

-- what a row takes of a segment
abbrev pub taking_of : Library → EditRow → SegmentRow → Taking
taking_of library row s = record { clip = clip_of library row; segment = s.segment }

-- a taking is that of a row and of a segment that the row takes
pub record IsTaken (library : Library) (rows : List EditRow) (taking : Taking) : Type 0 where
  pub row : EditRow
  pub among : In row rows
  pub s : SegmentRow
  pub taken : IsTakenBy library row s
  pub is : taking ≡ taking_of library row s

-- those of a row
pub In-takings_of : (library : Library) (row : EditRow) (taking : Taking)
    → In taking (takings_of library row)
    → (s : SegmentRow) × IsTakenBy library row s × (taking ≡ taking_of library row s)
In-takings_of library row taking here =
    let found = In-map (taking_of library row) (taken_by library row) taking here in
    (found.0, In-taken_by library row found.0 found.1, found.2)

-- those of a list
pub In-takings_in : (library : Library) (rows : List EditRow) (taking : Taking)
    → In taking (takings_in library rows) → IsTaken library rows taking
In-takings_in library rows taking here =
    let found = In-flat_map (takings_of library) rows taking here in
    let own = In-takings_of library found.0 taking found.2 in
    record { row = found.0; among = found.1; s = own.0; taken = own.1; is = own.2 }

-- and the other way
pub takings_in-In : (library : Library) (rows : List EditRow) (row : EditRow) (s : SegmentRow)
    → In row rows → IsTakenBy library row s
    → In (taking_of library row s) (takings_in library rows)
takings_in-In library rows row s here taken =
    flat_map-In (takings_of library) rows row (taking_of library row s) here
    (map-In (taking_of library row) (taken_by library row) s
    (overlapping-In library.segments row.flow row.range s taken.among taken.under taken.overlap))

-- ---- the rows of a post

-- a row of a post is of its flow, and has one of its segments
pub In-posted : (flow serial : ℕ) (posts : List Segment) (row : SegmentRow)
    → In row (posted flow serial posts) → (row.flow ≡ flow) × In row.segment posts
In-posted flow serial [] row here = absurd here
In-posted flow serial (post ∷ later) row (inl same) =
    (ap (λ (r : SegmentRow). r.flow) same, inl (ap (λ (r : SegmentRow). r.segment) same))
In-posted flow serial (post ∷ later) row (inr more) =
    let found = In-posted flow (serial + 1) later row more in (found.0, inr found.1)

-- a segment of a post has a row
pub record HasRow (flow serial : ℕ) (posts : List Segment) (post : Segment) : Type 0 where
  pub row : SegmentRow
  pub among : In row (posted flow serial posts)
  pub under : row.flow ≡ flow
  pub segment : row.segment ≡ post

-- each has
pub posted-In : (flow serial : ℕ) (posts : List Segment) (post : Segment) → In post posts
    → HasRow flow serial posts post
posted-In flow serial [] post here = absurd here
posted-In flow serial (first ∷ later) post (inl same) = record {
  row = record { flow = flow; serial = serial; segment = first };
  among = inl refl;
  under = refl;
  segment = sym same;
}
posted-In flow serial (first ∷ later) post (inr more) =
    let found = posted-In flow (serial + 1) later post more in
    record {
      row = found.row;
      among = inr found.among;
      under = found.under;
      segment = found.segment;
    }
