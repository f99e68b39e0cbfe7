-- Posts of segments: why a segment of a post can't be kept, and which ones are kept of a list that
-- is answered segment by segment. Our own profile of the Time-addressable Media Store.
use Rattle.std.specs.Prelude.{ℕ, List, [], ◌∷◌, ◌++◌, not, Option, Some, None, slice_get}
use Rattle.media_rows.specs.declared.refusal.Refusal.{Refusal}
use Rattle.media_rows.specs.declared.refusal.Refusal.TheVariants as refusals
use Rattle.media_rows.specs.declared.reply.FailedSegment.{FailedSegment}
use Rattle.media_rows.specs.declared.reply.SortedPosts.{SortedPosts}
use Rattle.media_rows.specs.declared.segment.Segment.{Segment}
use Rattle.media_rows.specs.declared.segment.SegmentRow.{SegmentRow}
use Rattle.media_rows.specs.Library.{Library}
use Rattle.media_rows.specs.Lists.{or_else}
use Rattle.media_rows.specs.Objects.{is_stored_object}
use Rattle.media_rows.specs.Refusals.{when, first_refusal}
use Rattle.media_rows.specs.Segments.{overlapping, posted}

-- ---- why a segment can't be kept

-- the refusal of a segment of a post, with the range of the kept segment that overlaps it and
-- begins first
abbrev pub overlap_refusal : Option SegmentRow → Option Refusal
overlap_refusal None = None
overlap_refusal (Some row) = Some (refusals.Overlap row.segment.range)

-- the segments that count as kept behind a front of a post: the library's, and those of the front
abbrev pub kept_behind : Library → ℕ → List Segment → List SegmentRow
kept_behind library flow front = library.segments ++ posted flow library.next_serial front

-- the refusal of a segment behind a front of its post: its object isn't stored, or a segment of the
-- flow that counts as kept overlaps it
abbrev pub post_refusal : Library → ℕ → List Segment → Segment → Option Refusal
post_refusal library flow front post =
    or_else
    (when (not (is_stored_object library.objects post.object)) (refusals.NoObject post.object))
    (overlap_refusal
    (slice_get (overlapping (kept_behind library flow front) flow post.range None) 0))

-- the refusals of segments in order, each behind the front and the ones before it
abbrev pub refusals_behind : Library → ℕ → List Segment → List Segment → List (Option Refusal)
refusals_behind library flow front [] = []
refusals_behind library flow front (post ∷ later) =
    post_refusal library flow front post ∷ refusals_behind library flow (front ++ post ∷ []) later

-- the first refusal that stands of a post, whose segments each have the earlier ones before them
abbrev pub posts_refusal : Library → ℕ → List Segment → Option Refusal
posts_refusal library flow posts = first_refusal (refusals_behind library flow [] posts)

-- ---- a list, answered segment by segment

-- a segment that isn't kept, with the refusal that says why
abbrev pub failed_of : Refusal → Segment → FailedSegment
failed_of refusal post =
    record { refusal = refusal; object = post.object; range = post.range }

-- A segment before later ones: it is kept where nothing refuses it, and the later ones are as they
-- are behind it; otherwise it fails, and they are as they are without it.
abbrev pub sorted_by : Option Refusal → Segment → SortedPosts → SortedPosts → SortedPosts
sorted_by None post behind without = record behind { kept = post ∷ behind.kept }
sorted_by (Some refusal) post behind without =
    record without { failed = failed_of refusal post ∷ without.failed }

-- The segments of a list behind those that are kept of it already: each in order is kept, or fails
-- against the library with the ones kept before it.
abbrev pub sorted : Library → ℕ → List Segment → List Segment → SortedPosts
sorted library flow front [] = record { kept = []; failed = [] }
sorted library flow front (post ∷ later) =
    sorted_by (post_refusal library flow front post) post
    (sorted library flow (front ++ post ∷ []) later) (sorted library flow front later)
