-- Laws of edits by ranges: what flows show once the pieces of a list are posted, and that nothing
-- of the pieces refuses their post.
use Rattle.std.specs.Prelude.{◌≡◌, ◌≢◌, ◌≤◌, ◌⊎◌, ℕ, ℤ, ◌-ℤ◌, List, [], ◌++◌, All, Contains, IfSome, IsTrue, length}
use Rattle.time_range.specs.Points.{Has, IsRange, instant}
use Rattle.media_rows.specs.declared.change.Change.TheVariants as changes
use Rattle.media_rows.specs.declared.command.Command.TheVariants as commands
use Rattle.media_rows.specs.declared.refusal.Refusal.{Refusal}
use Rattle.media_rows.specs.declared.refusal.Refusal.TheVariants as refusals
use Rattle.media_rows.specs.declared.reply.Reply.TheVariants as replies
use Rattle.media_rows.specs.declared.segment.PostList.{PostList}
use Rattle.media_rows.specs.declared.segment.SegmentRow.{SegmentRow}
use Rattle.media_rows.specs.Answer.{answer, answer_by, change_refusal, changed, refusal_of}
use Rattle.media_rows.specs.Good.{Good}
use Rattle.media_rows.specs.Library.{Library}
use Rattle.media_rows.specs.Posts.{sorted}
use Rattle.media_rows.specs.Segments.{posted, segments_of}
use Rattle.media_rows.specs.Sound.{is_good_command}
use Rattle.range_edit.specs.Assembling.{IsCutFor, place_of, shift_of}
use Rattle.range_edit.specs.declared.list.EditRow.{EditRow}
use Rattle.edit_laws.specs.Showing.{showing, shows}

-- ---- premises

-- a post is what a list cuts for a target of a good library
pub record IsGoodCut (library : Library) (target : ℕ) (rows : List EditRow) (posts : PostList)
    : Type 0 where
  pub good : Good library
  pub cut : IsCutFor library target rows posts

-- a later library has the segments of one, and behind them those of a post to a flow
abbrev pub HasPosted : Library → Library → ℕ → PostList → Type 0
HasPosted library later flow posts =
    (serial : ℕ) × (later.segments ≡ library.segments ++ posted flow serial posts.segments)

-- ---- what flows show

-- at most one segment of a flow of a good library contains a point
abbrev pub OneSegmentShows : Type 0
OneSegmentShows =
    (library : Library) → Good library → (flow : ℕ) (p : ℤ)
    → length (showing library.segments flow p) ≤ 1

-- the point is in the place of none of the rows
abbrev pub IsOutside : List EditRow → ℤ → Type 0
IsOutside rows p = (row : EditRow) → Contains rows row → ¬ (Has (place_of row) p)

-- What flows show once pieces were posted to a target. In the place of a row the target shows what
-- the row's flow showed at the point from which it was moved, and at other points what it showed.
pub record ShowsWhatWasTaken (old new : List SegmentRow) (target : ℕ) (rows : List EditRow)
    : Type 0 where
  pub within : (p : ℤ) (row : EditRow) → Contains rows row → Has (place_of row) p
      → shows new target p ≡ shows old row.flow (p -ℤ instant (shift_of row))
  pub outside : (p : ℤ) → IsOutside rows p → shows new target p ≡ shows old target p
  pub other_segments : (flow : ℕ) → flow ≢ target → segments_of flow new ≡ segments_of flow old
  pub others : (flow : ℕ) → flow ≢ target → (p : ℤ) → shows new flow p ≡ shows old flow p

-- so they do, whatever serials the pieces got
abbrev pub EditsShow : Type 0
EditsShow =
    (library later : Library) (target : ℕ) (rows : List EditRow) (posts : PostList)
    → IsGoodCut library target rows posts → HasPosted library later target posts
    → ShowsWhatWasTaken library.segments later.segments target rows

-- ---- the post of pieces

-- the refusals of a change of segments whose flow is kept: it is being deleted, or is read-only
abbrev pub IsOfFlow : Refusal → Type 0
IsOfFlow refusal = (refusal ≡ refusals.Deleting) ⊎ (refusal ≡ refusals.ReadOnly)

-- all segments of a post are kept, in its order, unless the state of its flow refuses it
pub record AreKept (library : Library) (target : ℕ) (posts : PostList) : Type 0 where
  pub whole : sorted library target [] posts.segments
      ≡ record { kept = posts.segments; failed = [] }
  pub refusal : refusal_of library (commands.AddSegments target posts)
      ≡ change_refusal library target
  pub reasons : IfSome (change_refusal library target) IsOfFlow
  pub answered : (moment : ℕ) → answer library (commands.AddSegments target posts) moment
      ≡ answer_by (change_refusal library target)
      (changed replies.Created (changes.AddSegments moment target posts))

-- so are the pieces
abbrev pub PiecesAreKept : Type 0
PiecesAreKept =
    (library : Library) (target : ℕ) (rows : List EditRow) (posts : PostList)
    → IsGoodCut library target rows posts → AreKept library target posts

-- the ends of all ranges are in order and within the limit, as in each value of the code
pub record HaveSoundRanges (library : Library) (rows : List EditRow) : Type 0 where
  pub of_segments : All (λ row. IsRange row.segment.range) library.segments
  pub of_rows : All (λ row. IsRange row.range) rows

-- and where ranges are sound their post is a good command
abbrev pub PiecesAreGoodPosts : Type 0
PiecesAreGoodPosts =
    (library : Library) (target : ℕ) (rows : List EditRow) (posts : PostList)
    → IsGoodCut library target rows posts → HaveSoundRanges library rows
    → IsTrue (is_good_command library (commands.AddSegments target posts))
