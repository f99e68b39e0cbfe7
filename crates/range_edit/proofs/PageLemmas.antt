-- Pieces that are taken page by page, as those of one list.
use Rattle.std.proofs.Common.{◌≡◌, ◌∙◌, inl, inr, All, ℕ, ℤ, Bool, true, false, List, [], ◌∷◌, ◌++◌, take, filter, refl, sym, ap, subst, Option, Some, None}
use Rattle.std.specs.Prelude.{◌&&◌, ◌==◌, is_some}
use Rattle.std.proofs.lemmas.Bool.{and_parts}
use Rattle.std.proofs.lemmas.List.Elements.{All-cons, All-nil}
use Rattle.std.specs.List.{list_all}
use Rattle.std.proofs.lemmas.List.{append-nil, append_assoc, map-append}
use Rattle.time_range.specs.declared.ranges.Span.{Span}
use Rattle.media_rows.specs.Good.{Good, are_compatible, is_segment_good}
use Rattle.media_rows.specs.Library.{Library}
use Rattle.media_rows.specs.Lists.{is_past, rises}
use Rattle.media_rows.specs.Ranges.{has_both_ends, overlaps}
use Rattle.media_rows.specs.Segments.{first_point, names_object, overlapping, segments_of, starts_before}
use Rattle.media_rows.specs.declared.segment.SegmentRow.{SegmentRow}
use Rattle.library_laws.proofs.ListLemmas.{In, In-filter, In-front, In-in_order, list_all-In}
use Rattle.segment_pages.specs.Pages.{IsRead, left_behind, segments_behind}
use Rattle.segment_pages.specs.declared.reading.SegmentsRead.{SegmentsRead}
use Rattle.segment_pieces.specs.Pieces.{NeedsRate}
use Rattle.segment_pieces.specs.declared.clip.Clip.{Clip}
use Rattle.segment_pieces.specs.declared.piece.PieceFault.{PieceFault}
use Rattle.segment_pieces.specs.declared.piece.PieceFault.TheVariants as faults
use Rattle.range_edit.specs.Within.Cutting.{Adds, IsRateFault, IsTakable, SomeOf, taking_by, takings_by}
use Rattle.range_edit.specs.declared.pieces.Pieces.{Pieces}
use Rattle.range_edit.proofs.FlowLemmas.{from_the_first}
use Rattle.range_edit.proofs.PieceLemmas.{SomeOf-left, SomeOf-right, adds_both, adds_none}

-- a segment of an answer is bounded, and overlaps the range
answered : (library : Library) → Good library → (flow : ℕ) (clip : Clip) (row : SegmentRow)
    → In row (overlapping library.segments flow clip.range None) → IsTakable clip row.segment
answered library good flow clip row here =
    let test : SegmentRow → Bool = λ r. overlaps r.segment.range clip.range && names_object None r
    in
    let rows : List SegmentRow = filter test (segments_of flow library.segments) in
    let parts = and_parts (rises are_compatible library.segments)
    (list_all (is_segment_good library.catalog.flows) library.segments) good.segments in
    let asked = In-filter test (segments_of flow library.segments) row
    (In-in_order starts_before rows row here) in
    let own = In-filter (λ r. r.flow == flow) library.segments row asked.0 in
    record {
      bounded = (and_parts (has_both_ends row.segment.range) _
          (list_all-In (is_segment_good library.catalog.flows) library.segments parts.1 row
          own.0)).0;
      overlap = (and_parts (overlaps row.segment.range clip.range) _ asked.1).0;
    }

-- each of a list is so where each member is
all_from_In : {X : Type 0} (P : X → Type 0) (xs : List X) → ((x : X) → In x xs → P x) → All P xs
all_from_In P [] each = All-nil P
all_from_In P (x ∷ xs) each =
    All-cons P x xs (each x (inl refl)) (all_from_In P xs (λ y here. each y (inr here)))

-- and so are the segments that a read gives
pub page_takable : (library : Library) → Good library → (flow : ℕ) (clip : Clip) (after : Option ℤ)
    (read : SegmentsRead) → IsRead library flow clip.range after read
    → All (λ row. IsTakable clip row.segment) (take read.count read.rows)
page_takable library good flow clip after read is =
    all_from_In (λ row. IsTakable clip row.segment) (take read.count read.rows) (λ row here.
    answered library good flow clip row
    (In-filter (λ r. is_past after false (first_point r))
    (overlapping library.segments flow clip.range None) row
    (subst (In row) (sym is.follows)
    (In-front (take read.count read.rows) (left_behind library flow clip.range read.next) row
    here))).0)

-- the pieces of all segments but those that are left behind a point are taken
pub record HasTaken (library : Library) (flow : ℕ) (clip : Clip) (after : Option ℤ)
    (old new : Pieces) : Type 0 where
  pub done : List SegmentRow
  pub adds : Adds (takings_by clip done) old new
  pub split : overlapping library.segments flow clip.range None
      ≡ done ++ segments_behind library flow clip.range after

-- at first none is
pub takes_nothing : (library : Library) (flow : ℕ) (clip : Clip) (pieces : Pieces)
    → HasTaken library flow clip None pieces pieces
takes_nothing library flow clip pieces = record {
  done = [];
  adds = adds_none pieces;
  split = sym (from_the_first library flow clip.range);
}

-- what isn't some is none
none_is : (next : Option ℤ) → is_some next ≡ false → next ≡ None
none_is None e = refl
none_is (Some k) e = absurd (cc)

-- what is left where a point is told
left_over : (library : Library) (flow : ℕ) (range : Option Span) (next : Option ℤ)
    → is_some next ≡ true
    → left_behind library flow range next ≡ segments_behind library flow range next
left_over library flow range None e = absurd (cc)
left_over library flow range (Some k) e = refl

module _ (library : Library) (flow : ℕ) (clip : Clip) (after : Option ℤ) (read : SegmentsRead)
    (start old : Pieces) (has : HasTaken library flow clip after start old)
    (is : IsRead library flow clip.range after read) where
  -- the segments that the read gives
  abbrev pub page : List SegmentRow
  page = take read.count read.rows

  -- the takings of one page more
  takings_on : takings_by clip (has.done ++ page) ≡ takings_by clip has.done ++ takings_by clip page
  takings_on = map-append (λ row. taking_by clip row.segment) has.done page

  -- a page more
  more : (new : Pieces) → Adds (takings_by clip page) old new
      → Adds (takings_by clip (has.done ++ page)) start new
  more new adds = subst (λ ts. Adds ts start new) (sym takings_on)
      (adds_both (takings_by clip has.done) (takings_by clip page) start old new has.adds adds)

  -- all segments, as they are split by the page
  split_on : overlapping library.segments flow clip.range None
      ≡ (has.done ++ page) ++ left_behind library flow clip.range read.next
  split_on = has.split ∙ (ap (λ l. has.done ++ l) is.follows
      ∙ sym (append_assoc has.done page (left_behind library flow clip.range read.next)))

  -- the last page
  pub takes_all : (new : Pieces) → is_some read.next ≡ false → Adds (takings_by clip page) old new
      → Adds (takings_by clip (overlapping library.segments flow clip.range None)) start new
  takes_all new last adds =
      let whole = split_on
      ∙ (ap (λ o. (has.done ++ page) ++ left_behind library flow clip.range o)
      (none_is read.next last)
      ∙ append-nil (has.done ++ page)) in
      subst (λ l. Adds (takings_by clip l) start new) (sym whole) (more new adds)

  -- a page behind which others are left
  pub takes_more : (new : Pieces) → is_some read.next ≡ true → Adds (takings_by clip page) old new
      → HasTaken library flow clip read.next start new
  takes_more new there adds = record {
    done = has.done ++ page;
    adds = more new adds;
    split = split_on ∙ ap (λ l. (has.done ++ page) ++ l)
        (left_over library flow clip.range read.next there);
  }

  -- the fault of a page is that of all
  pub fault_of_page : (fault : PieceFault) → IsRateFault (takings_by clip page) fault
      → IsRateFault (takings_by clip (overlapping library.segments flow clip.range None)) fault
  fault_of_page faults.NoRate some =
      let rest = left_behind library flow clip.range read.next in
      subst (λ l. SomeOf NeedsRate (takings_by clip l)) (sym split_on)
      (subst (SomeOf NeedsRate) (sym (map-append (λ row. taking_by clip row.segment)
      (has.done ++ page) rest))
      (SomeOf-left NeedsRate (takings_by clip (has.done ++ page)) (takings_by clip rest)
      (subst (SomeOf NeedsRate) (sym takings_on)
      (SomeOf-right NeedsRate (takings_by clip has.done) (takings_by clip page) some))))
  fault_of_page faults.TooFar none = none
  fault_of_page faults.Memory any = tt
