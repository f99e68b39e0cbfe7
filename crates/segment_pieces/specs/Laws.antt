-- Laws of pieces.
use Rattle.std.specs.Prelude.{◌≡◌, ◌↔◌, ℕ, ℤ, ◌-ℤ◌, false, Option, All, IsTrue}
use Rattle.std.specs.Bool.{Decides}
use Rattle.time_range.specs.Points.{Has, IsRange, Overlap, instant}
use Rattle.time_range.specs.declared.ranges.Span.{Span}
use Rattle.media_rows.specs.declared.command.Command.TheVariants.{AddSegments}
use Rattle.media_rows.specs.declared.segment.PostList.{PostList}
use Rattle.media_rows.specs.declared.segment.Segment.{Segment}
use Rattle.media_rows.specs.Library.{Library}
use Rattle.media_rows.specs.Objects.{is_stored_object}
use Rattle.media_rows.specs.Ranges.{has_both_ends}
use Rattle.media_rows.specs.Sound.{is_good_command}
use Rattle.segment_pieces.specs.declared.clip.Clip.{Clip}
use Rattle.segment_pieces.specs.Pieces.{IsPiece, is_cut, part_of}
use Rattle.segment_pieces.specs.Samples.{has_point}

-- ---- one piece

-- a clip takes one piece of a segment at most
abbrev pub IsOnePiece : Type 0
IsOnePiece =
    (clip : Clip) (segment piece other : Segment)
    → IsPiece clip segment piece → IsPiece clip segment other → piece ≡ other

-- ---- cut pieces

-- a clip has all of a segment, which it doesn't cut, exactly where the points in both ranges are
-- those of the segment
abbrev pub WholePartsAreWhole : Type 0
WholePartsAreWhole =
    (clip : Clip) (segment : Segment) → IsRange clip.range → IsRange segment.range
    → (is_cut clip segment ≡ false) ↔ (part_of clip segment ≡ segment.range)

-- ---- what a piece shows

-- the point of media that a segment shows at a point of its flow's line
abbrev pub media_point : Segment → ℤ → ℤ
media_point segment point = point -ℤ instant segment.ts_offset

-- A piece has a point exactly where the segment and the clip have the one from which it was moved,
-- and shows there what the segment showed at that one.
pub record ShowsWhatWasShown (clip : Clip) (segment piece : Segment) : Type 0 where
  pub points : (p : ℤ) → Has piece.range p
      ↔ (Has segment.range (p -ℤ instant clip.shift) × Has clip.range (p -ℤ instant clip.shift))
  pub media : (p : ℤ) → Has piece.range p
      → media_point piece p ≡ media_point segment (p -ℤ instant clip.shift)

-- each piece does
abbrev pub PiecesShowWhatWasShown : Type 0
PiecesShowWhatWasShown =
    (clip : Clip) (segment piece : Segment)
    → IsPiece clip segment piece → ShowsWhatWasShown clip segment piece

-- ---- posts of pieces

-- a piece of a segment that is bounded at both ends and isn't never, and that its clip overlaps
pub record IsPieceOfGood (piece : Segment) : Type 0 where
  pub clip : Clip
  pub segment : Segment
  pub is_piece : IsPiece clip segment piece
  pub overlap : Overlap segment.range clip.range
  pub bounded : IsTrue (has_both_ends segment.range)

-- such a piece is bounded and isn't never
abbrev pub PiecesAreBounded : Type 0
PiecesAreBounded =
    (piece : Segment) → IsPieceOfGood piece → IsTrue (has_both_ends piece.range)

-- the object of a piece is stored where the segment's is
abbrev pub PiecesAreStored : Type 0
PiecesAreStored =
    (library : Library) (clip : Clip) (segment piece : Segment) → IsPiece clip segment piece
    → is_stored_object library.objects piece.object
    ≡ is_stored_object library.objects segment.object

-- a post of such pieces is a good command
abbrev pub PostsAreGood : Type 0
PostsAreGood =
    (library : Library) (flow : ℕ) (posts : PostList) → All IsPieceOfGood posts.segments
    → IsTrue (is_good_command library (AddSegments flow posts))

-- ---- counting

-- the test on a point says whether a range has it
abbrev pub PointsAreTested : Type 0
PointsAreTested = (range : Option Span) (p : ℤ) → Decides (has_point range p) (Has range p)
