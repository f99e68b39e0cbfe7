-- Where rows come to stand.
use Rattle.std.proofs.Common.{◌≡◌, ◌<◌, ◌≤◌, ◌+◌, inl, inr, All, ℕ, List, [], ◌∷◌, length, take, get_or, refl, sym, subst, Option}
use Rattle.std.proofs.lemmas.List.{take_all, take_more}
use Rattle.std.proofs.lemmas.List.Elements.{All-append, All-contains, All-cons, All-nil}
use Rattle.time_range.specs.Points.{Overlap}
use Rattle.time_range.specs.declared.ranges.Span.{Span}
use Rattle.library_laws.proofs.ListLemmas.{Contains-from_In, In, In-from_Contains, In-map, map-In}
use Rattle.media_rows.specs.Library.{Library}
use Rattle.segment_pieces.specs.declared.rate.Rate.{Rate}
use Rattle.range_edit.specs.Assembling.{PassesLimit, RowFault, StandsOverEarlier, StandsOverSegment, place_of}
use Rattle.range_edit.specs.Within.Cutting.{ArePlacesOf, HasRate, StandsOverPlace}
use Rattle.range_edit.specs.declared.fault.EditFault.TheVariants.{Occupied, RowsOverlap, TooFar}
use Rattle.range_edit.specs.declared.list.EditRow.{EditRow}

-- one more place that has no point of the range
pub apart_more : (places : List (Option Span)) (range : Option Span) (i : ℕ) (place : Option Span)
    → i < length places → place ≡ get_or places i place
    → All (λ p. ¬ (Overlap p range)) (take i places) → ¬ (Overlap place range)
    → All (λ p. ¬ (Overlap p range)) (take (i + 1) places)
apart_more places range i place within is apart clear =
    subst (All (λ p. ¬ (Overlap p range))) (sym (take_more places i place within))
    (All-append (λ p. ¬ (Overlap p range)) (take i places) (get_or places i place ∷ []) apart
    (All-cons (λ p. ¬ (Overlap p range)) (get_or places i place) []
    (subst (λ p. ¬ (Overlap p range)) is clear) (All-nil (λ p. ¬ (Overlap p range)))))

-- a range stands over none of places that have no point of it
pub over_none : (places : List (Option Span)) (range : Option Span) (i : ℕ) → length places ≤ i
    → All (λ p. ¬ (Overlap p range)) (take i places) → ¬ (StandsOverPlace places range)
over_none places range i all apart stands =
    All-contains (λ p. ¬ (Overlap p range)) places stands.0
    (subst (All (λ p. ¬ (Overlap p range))) (take_all i places all) apart) stands.1 stands.2

-- ---- why a row is refused

module _ (library : Library) (target : ℕ) (before : List EditRow) (row : EditRow) (n : ℕ)
    (rate : Option Rate) (right : HasRate library target row rate) where
  -- its place would pass the limit
  pub too_far : PassesLimit row → RowFault library target before row n (TooFar n)
  too_far passes = inr (right.kept, inr (right.format, inl (passes, refl)))

  -- it would stand over an earlier one
  pub rows_overlap : ¬ (PassesLimit row) → StandsOverEarlier before row
      → RowFault library target before row n (RowsOverlap n)
  rows_overlap within stands =
      inr (right.kept, inr (right.format, inr (within, inl (stands, refl))))

  -- it would stand over a segment
  pub occupied : ¬ (PassesLimit row) → ¬ (StandsOverEarlier before row)
      → StandsOverSegment library target row → RowFault library target before row n (Occupied n)
  occupied within apart stands =
      inr (right.kept, inr (right.format, inr (within, inr (apart, inl (stands, refl)))))

module _ (before : List EditRow) (row : EditRow) (places : List (Option Span))
    (are : ArePlacesOf before places) (place : Option Span) (is : place ≡ place_of row) where
  -- a place of earlier rows is that of one of them
  pub stands_over : StandsOverPlace places place → StandsOverEarlier before row
  stands_over stands =
      let found = In-map place_of before stands.0
      (subst (In stands.0) are (In-from_Contains places stands.0 stands.1)) in (
        found.0,
        Contains-from_In before found.0 found.1,
        subst (Overlap (place_of found.0)) is
            (subst (λ (p : Option Span). Overlap p place) found.2 stands.2),
      )

  -- and the other way round
  pub stands_over_place : StandsOverEarlier before row → StandsOverPlace places place
  stands_over_place stands = (
    place_of stands.0,
    Contains-from_In places (place_of stands.0)
        (subst (In (place_of stands.0)) (sym are)
        (map-In place_of before stands.0 (In-from_Contains before stands.0 stands.1))),
    subst (Overlap (place_of stands.0)) (sym is) stands.2,
  )
