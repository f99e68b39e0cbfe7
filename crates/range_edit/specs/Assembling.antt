-- Assembling: which pieces the rows of a list take from segments of their flows, and why a list
-- isn't taken. Our own profile of the Time-addressable Media Store.
use Rattle.std.specs.Prelude.{◌≡◌, ◌≢◌, ◌<◌, ◌≤◌, ◌+◌, ◌⊎◌, ℕ, ℤ, List, [], ◌∷◌, ◌++◌, false, Option, None, Result, Ok, Err, option_map, map, length}
use Rattle.std.specs.List.{AllZip, Contains, flat_map}
use Rattle.std.specs.Option.{option_and_then}
use Rattle.time_range.specs.Points.{IsNanos, Overlap, StaysWithin}
use Rattle.time_range.specs.declared.ranges.Span.{Span}
use Rattle.media_rows.specs.Catalog.{flow_of}
use Rattle.media_rows.specs.Library.{Library}
use Rattle.media_rows.specs.Segments.{overlapping}
use Rattle.media_rows.specs.declared.flow.FormatKind.{FormatKind}
use Rattle.media_rows.specs.declared.segment.PostList.{PostList}
use Rattle.media_rows.specs.declared.segment.Segment.{Segment}
use Rattle.media_rows.specs.declared.segment.SegmentRow.{SegmentRow}
use Rattle.segment_pieces.specs.Pieces.{GoesTooFar, IsPiece, NeedsRate, moved, shift_to}
use Rattle.segment_pieces.specs.Rates.{rate_of}
use Rattle.segment_pieces.specs.declared.clip.Clip.{Clip}
use Rattle.segment_pieces.specs.declared.rate.Rate.{Rate}
use Rattle.range_edit.specs.declared.list.EditRow.{EditRow}
use Rattle.range_edit.specs.declared.fault.EditFault.{EditFault}
use Rattle.range_edit.specs.declared.fault.EditFault.TheVariants.{NoFlow, FormatDiffers, TooFar, RowsOverlap, Occupied, NoRate, TooMany, Memory}

-- ---- rows

-- by how many nanoseconds a row's range is moved
abbrev pub shift_of : EditRow → ℤ
shift_of row = shift_to row.at row.range

-- where a row's range comes to stand
abbrev pub place_of : EditRow → Option Span
place_of row = moved (shift_of row) row.range

-- the format of a flow, where it is kept
abbrev pub format_in : Library → ℕ → Option FormatKind
format_in library flow = option_map (λ kept. kept.body.format) (flow_of flow library.catalog.flows)

-- the rate of a flow, where it is kept and tells one
abbrev pub rate_in : Library → ℕ → Option Rate
rate_in library flow =
    option_and_then (λ kept. rate_of kept.body.essence) (flow_of flow library.catalog.flows)

-- the clip of a row: its range, moved, and the rate of its flow
abbrev pub clip_of : Library → EditRow → Clip
clip_of library row =
    record { range = row.range; shift = shift_of row; rate = rate_in library row.flow }

-- the segments of which a row takes a piece each: those of its flow that overlap its range, by
-- rising first point
abbrev pub taken_by : Library → EditRow → List SegmentRow
taken_by library row = overlapping library.segments row.flow row.range None

-- ---- pieces

-- a segment, and the clip that takes a piece of it
pub record Taking : Type 0 where
  pub clip : Clip
  pub segment : Segment

-- what a row takes, in the order of its segments
abbrev pub takings_of : Library → EditRow → List Taking
takings_of library row =
    map (λ s. record { clip = clip_of library row; segment = s.segment }) (taken_by library row)

-- what a list takes, row by row
abbrev pub takings_in : Library → List EditRow → List Taking
takings_in library rows = flat_map (takings_of library) rows

-- a segment is the piece of a taking
abbrev pub IsPieceOf : Taking → Segment → Type 0
IsPieceOf taking piece = IsPiece taking.clip taking.segment piece

-- the most pieces of a list
abbrev pub most_pieces : ℕ
most_pieces = 1000

-- ---- why a row is refused

-- the flow of an id isn't kept
abbrev pub IsUnkept : Library → ℕ → Type 0
IsUnkept library flow = flow_of flow library.catalog.flows ≡ None

-- two flows are of two formats
abbrev pub HaveTwoFormats : Library → ℕ → ℕ → Type 0
HaveTwoFormats library flow target = format_in library flow ≢ format_in library target

-- the row's shift is no timestamp, or an end of its range would come to stand past the limit
abbrev pub PassesLimit : EditRow → Type 0
PassesLimit row = (¬ (IsNanos (shift_of row))) ⊎ (¬ (StaysWithin row.range (shift_of row)))

-- the row's range would come to stand over that of an earlier row
abbrev pub StandsOverEarlier : List EditRow → EditRow → Type 0
StandsOverEarlier before row =
    (earlier : EditRow) × Contains before earlier × Overlap (place_of earlier) (place_of row)

-- the row's range would come to stand over a segment of the target
abbrev pub StandsOverSegment : Library → ℕ → EditRow → Type 0
StandsOverSegment library target row =
    overlapping library.segments target (place_of row) None ≢ []

-- one of the segments of which the row takes a piece is so for the row's clip
abbrev pub SomeTaken : (Clip → Segment → Type 0) → Library → EditRow → Type 0
SomeTaken IsSo library row =
    (s : SegmentRow) × Contains (taken_by library row) s × IsSo (clip_of library row) s.segment

-- this fault where that stands, and one of the later ones where it doesn't
abbrev pub Where : Type 0 → EditFault → (EditFault → Type 0) → EditFault → Type 0
Where Stands this Later fault = (Stands × (fault ≡ this)) ⊎ ((¬ Stands) × Later fault)

-- there is no fault
abbrev pub NoFault : EditFault → Type 0
NoFault fault = ⊥

-- Why a row, record n of its list, is refused behind these rows: the first of these that stands, in
-- their order.
abbrev pub RowFault : Library → ℕ → List EditRow → EditRow → ℕ → EditFault → Type 0
RowFault library target before row n =
    Where (IsUnkept library row.flow) (NoFlow n)
    (Where (HaveTwoFormats library row.flow target) (FormatDiffers n)
    (Where (PassesLimit row) (TooFar n)
    (Where (StandsOverEarlier before row) (RowsOverlap n)
    (Where (StandsOverSegment library target row) (Occupied n)
    (Where (SomeTaken NeedsRate library row) (NoRate n)
    (Where (SomeTaken GoesTooFar library row) (TooFar n)
    NoFault))))))

-- ---- why a list is refused

-- the number of the record behind the head and those of these rows
abbrev pub number_behind : List EditRow → ℕ
number_behind before = length before + 2

-- no row is refused behind those that stand before it
abbrev pub EachIsTaken : Library → ℕ → List EditRow → Type 0
EachIsTaken library target rows =
    (before : List EditRow) (row : EditRow) (behind : List EditRow)
    → rows ≡ before ++ row ∷ behind → (fault : EditFault)
    → ¬ (RowFault library target before row (number_behind before) fault)

-- a row is refused, and none before it
pub record FirstRefused (library : Library) (target : ℕ) (rows : List EditRow) (fault : EditFault)
    : Type 0 where
  pub before : List EditRow
  pub row : EditRow
  pub behind : List EditRow
  pub split : rows ≡ before ++ row ∷ behind
  pub taken : EachIsTaken library target before
  pub refused : RowFault library target before row (number_behind before) fault

-- no row is refused, and there would be too many pieces
pub record TakesTooMany (library : Library) (target : ℕ) (rows : List EditRow) (fault : EditFault)
    : Type 0 where
  pub taken : EachIsTaken library target rows
  pub many : most_pieces < length (takings_in library rows)
  pub is : fault ≡ TooMany

-- why rows are refused: the first one that is, and behind them all too many pieces
abbrev pub RowsFault : Library → ℕ → List EditRow → EditFault → Type 0
RowsFault library target rows fault =
    FirstRefused library target rows fault ⊎ TakesTooMany library target rows fault

-- Why nothing is cut for a target by a list: the target isn't kept, and else its rows are refused.
-- Want of memory may come at any time.
abbrev pub IsCuttingFault : Library → ℕ → List EditRow → EditFault → Type 0
IsCuttingFault library target rows fault =
    Where (IsUnkept library target) (NoFlow 0) (RowsFault library target rows) fault
    ⊎ (fault ≡ Memory)

-- ---- what is cut

-- a post is what a list cuts for a target: its pieces, row by row
pub record IsCutFor (library : Library) (target : ℕ) (rows : List EditRow) (posts : PostList)
    : Type 0 where
  pub kept : ¬ (IsUnkept library target)
  pub taken : EachIsTaken library target rows
  pub few : length (takings_in library rows) ≤ most_pieces
  pub list : posts.single ≡ false
  pub pieces : AllZip IsPieceOf (takings_in library rows) posts.segments

-- ---- one answer

-- what is answered for a target to a list
abbrev pub IsCuttingAnswer : Library → ℕ → List EditRow → Result PostList EditFault → Type 0
IsCuttingAnswer library target rows (Ok posts) = IsCutFor library target rows posts
IsCuttingAnswer library target rows (Err fault) = IsCuttingFault library target rows fault

-- two answers for one target to one list are the same one, unless memory was wanting
abbrev pub IsOneCut : Type 0
IsOneCut =
    (library : Library) (target : ℕ) (rows : List EditRow) (a b : Result PostList EditFault)
    → IsCuttingAnswer library target rows a → IsCuttingAnswer library target rows b
    → a ≢ Err Memory → b ≢ Err Memory → a ≡ b
