-- How segments, objects and holes are kept side by side.
use Rattle.std.specs.Prelude.{◌≡◌, ◌≤◌, ℕ, ◌+◌, ◌-◌, nat_le, List, true, not, ◌&&◌, IsTrue, Contains, Option, map, length}
use Rattle.std.specs.List.{AllByRecursion, list_all, sum}
use Rattle.media_rows.specs.declared.object.ObjectRow.{ObjectRow}
use Rattle.media_rows.specs.declared.object.ObjectState.{ObjectState}
use Rattle.media_rows.specs.declared.object.ObjectState.TheVariants.{Allocated, Stored}
use Rattle.media_rows.specs.declared.refusal.Refusal.{Refusal}
use Rattle.media_rows.specs.declared.refusal.Refusal.TheVariants.{NoObject}
use Rattle.media_rows.specs.declared.reply.SortedPosts.{SortedPosts}
use Rattle.media_rows.specs.declared.segment.Segment.{Segment}
use Rattle.media_rows.specs.declared.segment.SegmentRow.{SegmentRow}
use Rattle.media_rows.specs.Posts.{posts_refusal}
use Rattle.media_rows.specs.Good.{are_references_good, are_states_apart, is_extent_good, rises_by}
use Rattle.media_rows.specs.Lists.{are_distinct, each_pair, or_else}
use Rattle.media_rows.specs.Objects.{blocks_of, is_clear_of, is_stored_object, without_objects}
use Rattle.media_rows.specs.Refusals.{when}
use Rattle.media_rows.specs.Sound.{are_posts_good}
use Rattle.library_laws.specs.ListLaws.{joined}
use Rattle.object_blobs.specs.Holes.{Area, GivesBlocks, is_free_block, is_taken_place}
use Rattle.object_refs.specs.declared.kept.Kept.{Kept}
use Rattle.object_refs.specs.References.{Book, objects_in}
use Rattle.reference_laws.specs.Ties.{AreTied}
use Rattle.segment_book.specs.Answers.{meeting_refusal}
use Rattle.media_book.specs.Media.{AreSome, HeldMedia, Media, allocation_refusal, are_objects_below, are_segments_below, library_with, list_told, stored_size, with_allocated, with_posts, without_rows}

-- the states of objects
abbrev pub object_states : List ObjectRow → List ObjectState
object_states objects = map (λ row. row.state) objects

-- Extents lie apart within the blocks of an area, the blocks that they leave are its free ones, and
-- their bytes are so many.
pub record AreHeld (states : List ObjectState) (area : Area) (bytes : ℕ) : Type 0 where
  pub free : (block : ℕ) → is_free_block area.holes block
      ≡ (nat_le (block + 1) area.blocks && list_all (is_clear_of block 1) states)
  pub inside : list_all (is_extent_good area.blocks) states ≡ true
  pub apart : each_pair are_states_apart states ≡ true
  pub counted : bytes ≡ sum (map stored_size states)

-- References are those of the segments, each object that a segment names is kept and stored, free
-- blocks are those that the objects leave, and segments stand by rising serial.
pub record IsMedia (segments : List SegmentRow) (kept : List Kept) (area : Area) (bytes : ℕ)
    : Type 0 where
  pub tied : AreTied segments kept
  pub named : are_references_good (objects_in kept) segments ≡ true
  pub held : AreHeld (object_states (objects_in kept)) area bytes
  pub rising : rises_by (λ row. row.serial) segments ≡ true

-- segments, objects and an area as media
abbrev pub media_seen : List SegmentRow → List Kept → Area → Media
media_seen segments kept area =
    record { blocks = area.blocks; segments = segments; objects = objects_in kept }

-- the same beside a book of objects, with the serial of the row that it holds apart
abbrev pub held_seen : List SegmentRow → Book → Area → HeldMedia
held_seen segments book area =
    record { media = media_seen segments book.kept area; apart = book.apart }

-- the refusal of one segment: its object isn't stored, or one of its flow overlaps it
abbrev pub row_refusal : Media → SegmentRow → Option Refusal
row_refusal media row =
    or_else
    (when (not (is_stored_object media.objects row.segment.object)) (NoObject row.segment.object))
    (meeting_refusal media.segments row)

-- ---- loops

-- segments of a post came, and these are left to come, with serials from this one on
pub record Adding (flow serial next : ℕ) (start media : Media) (all left : List Segment) : Type 0
  where
    pub rest : with_posts flow next left media ≡ with_posts flow serial all start
    pub refusal : posts_refusal (library_with start serial) flow all
        ≡ posts_refusal (library_with media next) flow left
    pub below : are_segments_below next media.segments ≡ true
    pub bounded : are_posts_good left ≡ true

-- segments of a list were told, and these are left, with serials from this one on
pub record Telling (flow serial next : ℕ) (start media : Media) (told : SortedPosts)
    (all left : List Segment) : Type 0 where
  pub rest : list_told start serial flow all ≡ joined told (list_told media next flow left)
  pub came : media ≡ with_posts flow serial told.kept start
  pub at : next ≡ serial + length told.kept
  pub below : are_segments_below next media.segments ≡ true
  pub bounded : are_posts_good left ≡ true
  pub fits : next + length left ≤ serial + length all

-- segments went, and these are left to go
pub record Removing (moment : ℕ) (start media : Media) (all left : List SegmentRow) : Type 0 where
  pub rest : without_rows left moment media ≡ without_rows all moment start
  pub some : AreSome left media.segments

-- objects came, and these are left to come, with serials from this one on
pub record Allocating (serial next moment : ℕ) (start media : Media) (all left : List (List ℕ))
    : Type 0 where
  pub rest : with_allocated next moment left media ≡ with_allocated serial moment all start
  pub refusal : allocation_refusal start all ≡ allocation_refusal media left
  pub below : are_objects_below next media.objects ≡ true

-- ---- objects that go

-- these are some of the objects, each of them once
pub record AreSomeObjects (rows objects : List ObjectRow) : Type 0 where
  pub there : AllByRecursion (Contains objects) rows
  pub once : IsTrue (are_distinct (map (λ row. row.serial) rows))

-- the blocks of so many bytes are the area's, none of them is free, and all bytes are no fewer
pub record MayFree (start size : ℕ) (area : Area) (bytes : ℕ) : Type 0 where
  pub inside : start + blocks_of size ≤ area.blocks
  pub taken : IsTrue (is_taken_place area.holes (blocks_of size) start)
  pub counted : size ≤ bytes

-- what an object has may be given back
abbrev pub MayLose : ObjectState → Area → ℕ → Type 0
MayLose Allocated area bytes = Unit {0}
MayLose (Stored start size digest) area bytes = MayFree start size area bytes

-- the blocks of so many bytes were given back
pub record IsFreed (start size : ℕ) (old new : Area) (before after : ℕ) : Type 0 where
  pub given : GivesBlocks start (blocks_of size) old new
  pub counted : after ≡ before - size

-- what an object has was given back
abbrev pub IsLost : ObjectState → Area → Area → ℕ → ℕ → Type 0
IsLost Allocated old new before after = (new ≡ old) × (after ≡ before)
IsLost (Stored start size digest) old new before after = IsFreed start size old new before after

-- the blocks of some objects were given back, and those of others are left to be
pub record Freeing (start : List ObjectRow) (blocks : ℕ) (area : Area) (bytes : ℕ)
    (all left : List ObjectRow) : Type 0 where
  pub objects : List ObjectRow
  pub rest : without_objects left objects ≡ without_objects all start
  pub held : AreHeld (object_states objects) area bytes
  pub same : area.blocks ≡ blocks
  pub some : AreSomeObjects left objects
  pub rising : rises_by (λ row. row.serial) objects ≡ true
