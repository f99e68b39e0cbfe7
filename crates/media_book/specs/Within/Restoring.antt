-- Rows that come one after the other, each behind those that came before it.
use Rattle.std.specs.Prelude.{◌≡◌, ℕ, List, ◌++◌, Bool, true, not, ◌&&◌, is_none, is_some, take}
use Rattle.media_rows.specs.declared.object.ObjectRow.{ObjectRow}
use Rattle.media_rows.specs.declared.object.ObjectState.{ObjectState}
use Rattle.media_rows.specs.declared.object.ObjectState.TheVariants.{Allocated, Stored}
use Rattle.media_rows.specs.declared.segment.SegmentRow.{SegmentRow}
use Rattle.media_rows.specs.Objects.{object_of}
use Rattle.media_rows.specs.Ranges.{has_both_ends}
use Rattle.media_book.specs.Media.{Media, are_objects_below, are_objects_good, are_rows_good, are_segments_below, can_take, no_media}
use Rattle.media_book.specs.Within.Ties.{row_refusal}

-- these objects come behind all others
abbrev pub with_objects : List ObjectRow → Media → Media
with_objects rows media = record media { objects = media.objects ++ rows }

-- these segments come behind all others
abbrev pub with_segments_behind : List SegmentRow → Media → Media
with_segments_behind rows media = record media { segments = media.segments ++ rows }

-- the blocks of an object in this state are free
abbrev pub can_hold : Media → ObjectState → Bool
can_hold media Allocated = true
can_hold media (Stored start size digest) = can_take media (record { start = start; length = size })

-- an object may come behind all others: its serial is above theirs, its id is new and its blocks
-- are free
abbrev pub can_follow : Media → ObjectRow → Bool
can_follow media row =
    are_objects_below row.serial media.objects
    && (not (is_some (object_of row.id media.objects)) && can_hold media row.state)

-- a segment may come behind all others: its serial is above theirs, it is bounded, and it isn't
-- refused
abbrev pub can_come : Media → SegmentRow → Bool
can_come media row =
    are_segments_below row.serial media.segments
    && (has_both_ends row.segment.range && is_none (row_refusal media row))

-- ---- loops

-- so many of the objects came to a book without any
pub record ObjectsCame (blocks count : ℕ) (all : List ObjectRow) (media : Media) : Type 0 where
  pub is : media ≡ with_objects (take count all) (no_media blocks)
  pub good : are_objects_good blocks (take count all) ≡ true

-- so many of the segments came to a book without any
pub record RowsCame (start : Media) (count : ℕ) (all : List SegmentRow) (media : Media) : Type 0
  where
    pub is : media ≡ with_segments_behind (take count all) start
    pub good : are_rows_good start.objects (take count all) ≡ true
