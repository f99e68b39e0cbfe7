-- How far the cutting of a list has come. No public clause cites it.
use Rattle.std.specs.Prelude.{◌≡◌, ◌<◌, ◌≤◌, ◌⊎◌, ℕ, ℤ, List, [], ◌∷◌, ◌++◌, true, false, Option, Some, None, IsTrue, map, length}
use Rattle.std.specs.List.{AllZip, Contains}
use Rattle.time_range.specs.Points.{Overlap}
use Rattle.time_range.specs.declared.ranges.Span.{Span}
use Rattle.media_rows.specs.Library.{Library}
use Rattle.media_rows.specs.Ranges.{has_both_ends, overlaps}
use Rattle.media_rows.specs.Segments.{overlapping}
use Rattle.media_rows.specs.declared.flow.FlowBody.{FlowBody}
use Rattle.media_rows.specs.declared.segment.Segment.{Segment}
use Rattle.media_rows.specs.declared.segment.SegmentRow.{SegmentRow}
use Rattle.segment_pieces.specs.Pieces.{GoesTooFar, NeedsRate}
use Rattle.segment_pieces.specs.Rates.{rate_of}
use Rattle.segment_pieces.specs.declared.clip.Clip.{Clip}
use Rattle.segment_pieces.specs.declared.piece.PieceFault.{PieceFault}
use Rattle.segment_pieces.specs.declared.piece.PieceFault.TheVariants as pieces
use Rattle.segment_pieces.specs.declared.rate.Rate.{Rate}
use Rattle.range_edit.specs.Assembling.{EachIsTaken, HaveTwoFormats, IsPieceOf, IsUnkept, NoFault, PassesLimit, RowFault, StandsOverSegment, Taking, Where, clip_of, format_in, most_pieces, number_behind, place_of, rate_in, shift_of, takings_in}
use Rattle.range_edit.specs.declared.assembling.Cutting.{Cutting}
use Rattle.range_edit.specs.declared.flows.FlowSeen.{FlowSeen}
use Rattle.range_edit.specs.declared.list.EditRow.{EditRow}
use Rattle.range_edit.specs.declared.fault.EditFault.{EditFault}
use Rattle.range_edit.specs.declared.fault.EditFault.TheVariants.{NoRate, TooFar, Memory}
use Rattle.range_edit.specs.declared.pieces.Pieces.{Pieces}
use Rattle.range_edit.specs.declared.placing.Placed.{Placed}
use Rattle.range_edit.specs.declared.placing.Target.{Target}

-- ---- flows

-- this is seen of a flow as a client says it
pub record IsSeenIn (body : FlowBody) (seen : FlowSeen) : Type 0 where
  pub format_is : seen.format ≡ body.format
  pub rate_is : seen.rate ≡ rate_of body.essence

-- this is seen of a flow that is kept
pub record IsSeen (library : Library) (flow : ℕ) (seen : FlowSeen) : Type 0 where
  pub kept : ¬ (IsUnkept library flow)
  pub format_is : format_in library flow ≡ Some seen.format
  pub rate_is : seen.rate ≡ rate_in library flow

-- and nothing of one that isn't kept
abbrev pub IsSeenOf : Library → ℕ → Option FlowSeen → Type 0
IsSeenOf library flow None = IsUnkept library flow
IsSeenOf library flow (Some seen) = IsSeen library flow seen

-- a row's flow is kept, of the target's format, and has this rate
pub record HasRate (library : Library) (target : ℕ) (row : EditRow) (rate : Option Rate)
    : Type 0 where
  pub kept : ¬ (IsUnkept library row.flow)
  pub format : ¬ (HaveTwoFormats library row.flow target)
  pub rate_is : rate ≡ rate_in library row.flow

-- a row is refused for its flow behind any rows, or there was no memory
abbrev pub MayRefuseFlow : Library → ℕ → EditRow → ℕ → EditFault → Type 0
MayRefuseFlow library target row n fault =
    (before : List EditRow) → RowFault library target before row n fault ⊎ (fault ≡ Memory)

-- ---- places

-- a target is kept, and has this format
abbrev pub IsTarget : Library → Target → Type 0
IsTarget library target = format_in library target.flow ≡ Some target.format

-- a row's range is moved by so many nanoseconds, and comes to stand there
pub record IsPlaceOf (row : EditRow) (shift : ℤ) (place : Option Span) : Type 0 where
  pub shift_is : shift ≡ shift_of row
  pub place_is : place ≡ place_of row

-- a range has a point in one of these places
abbrev pub StandsOverPlace : List (Option Span) → Option Span → Type 0
StandsOverPlace places range =
    (place : Option Span) × Contains places place × Overlap place range

-- a row has this clip and this place, and none of the reasons stands for which it would have none
pub record IsPlaced (library : Library) (target : ℕ) (places : List (Option Span)) (row : EditRow)
    (placed : Placed) : Type 0 where
  pub clip_is : placed.clip ≡ clip_of library row
  pub place_is : placed.place ≡ place_of row
  pub kept : ¬ (IsUnkept library row.flow)
  pub format : ¬ (HaveTwoFormats library row.flow target)
  pub within : ¬ (PassesLimit row)
  pub apart : ¬ (StandsOverPlace places (place_of row))
  pub free : ¬ (StandsOverSegment library target row)

-- these are the places of rows
abbrev pub ArePlacesOf : List EditRow → List (Option Span) → Type 0
ArePlacesOf rows places = places ≡ map place_of rows

-- a row is refused for this reason, or there was no memory
abbrev pub MayRefuse : Library → ℕ → List (Option Span) → EditRow → ℕ → EditFault → Type 0
MayRefuse library target places row n fault =
    (before : List EditRow) → ArePlacesOf before places
    → RowFault library target before row n fault ⊎ (fault ≡ Memory)

-- ---- pieces

-- what a clip takes of a segment
abbrev pub taking_by : Clip → Segment → Taking
taking_by clip segment = record { clip = clip; segment = segment }

-- and of some
abbrev pub takings_by : Clip → List SegmentRow → List Taking
takings_by clip rows = map (λ row. taking_by clip row.segment) rows

-- a segment is bounded at both ends, and its clip overlaps it
pub record IsTakable (clip : Clip) (segment : Segment) : Type 0 where
  pub bounded : IsTrue (has_both_ends segment.range)
  pub overlap : overlaps segment.range clip.range ≡ true

-- one of these takings is so
abbrev pub SomeOf : (Clip → Segment → Type 0) → List Taking → Type 0
SomeOf IsSo takings = (t : Taking) × Contains takings t × IsSo t.clip t.segment

-- the fault of a piece that wants a rate
abbrev pub IsRateFault : List Taking → PieceFault → Type 0
IsRateFault takings pieces.NoRate = SomeOf NeedsRate takings
IsRateFault takings pieces.TooFar = ⊥
IsRateFault takings pieces.Memory = Unit {0}

-- These are the pieces of takings of which none wants a rate. Where one goes too far, that is told;
-- else where there are too many, that is told; and else all are there.
pub record HasPieces (takings : List Taking) (pieces : Pieces) : Type 0 where
  pub list : pieces.posts.single ≡ false
  pub rated : ¬ (SomeOf NeedsRate takings)
  pub far : pieces.far ≡ true → SomeOf GoesTooFar takings
  pub near : pieces.far ≡ false → ¬ (SomeOf GoesTooFar takings)
  pub many : pieces.far ≡ false → pieces.many ≡ true → most_pieces < length takings
  pub few : pieces.far ≡ false → pieces.many ≡ false
      → AllZip IsPieceOf takings pieces.posts.segments
  pub most : pieces.far ≡ false → pieces.many ≡ false → length takings ≤ most_pieces

-- the pieces of further takings are added
abbrev pub Adds : List Taking → Pieces → Pieces → Type 0
Adds takings old new =
    (before : List Taking) → HasPieces before old → HasPieces (before ++ takings) new

-- a piece has been added, of whichever taking it is the piece
abbrev pub AddsPiece : Segment → Pieces → Pieces → Type 0
AddsPiece piece old new =
    (t : Taking) → IsPieceOf t piece → ¬ (NeedsRate t.clip t.segment)
    → ¬ (GoesTooFar t.clip t.segment) → Adds (t ∷ []) old new

-- ---- rows

-- what a clip takes of a flow
abbrev pub takings_from : Library → ℕ → Clip → List Taking
takings_from library flow clip =
    takings_by clip (overlapping library.segments flow clip.range None)

-- the pieces of a row are added, and none goes too far
abbrev pub TakesRow : Library → ℕ → Clip → Pieces → Pieces → Type 0
TakesRow library flow clip old new =
    Adds (takings_from library flow clip) old new × (new.far ≡ false)

-- a piece of a row wants a rate, or else goes too far
abbrev pub TakingFault : List Taking → ℕ → EditFault → Type 0
TakingFault takings n =
    Where (SomeOf NeedsRate takings) (NoRate n)
    (Where (SomeOf GoesTooFar takings) (TooFar n)
    NoFault)

-- the same of a row behind others of which none goes too far, or there was no memory
abbrev pub MayRefuseTaking : Library → ℕ → Clip → Pieces → ℕ → EditFault → Type 0
MayRefuseTaking library flow clip old n fault =
    (before : List Taking) → HasPieces before old → old.far ≡ false
    → TakingFault (takings_from library flow clip) n fault ⊎ (fault ≡ Memory)

-- all pieces of these rows are cut, and none of the rows is refused
pub record HasCut (library : Library) (target : ℕ) (rows : List EditRow) (cutting : Cutting)
    : Type 0 where
  pub taken : EachIsTaken library target rows
  pub places : ArePlacesOf rows cutting.places
  pub pieces : HasPieces (takings_in library rows) cutting.pieces
  pub near : cutting.pieces.far ≡ false

-- the pieces of one more row are cut
abbrev pub CutsRow : Library → ℕ → EditRow → Cutting → Cutting → Type 0
CutsRow library target row old new =
    (before : List EditRow) → HasCut library target before old
    → HasCut library target (before ++ row ∷ []) new

-- one more row is refused for this reason, or there was no memory
abbrev pub RefusesRow : Library → ℕ → EditRow → Cutting → EditFault → Type 0
RefusesRow library target row old fault =
    (before : List EditRow) → HasCut library target before old
    → RowFault library target before row (number_behind before) fault ⊎ (fault ≡ Memory)
