-- A page of segments from the first ones that lie past its key.
use Rattle.std.specs.Prelude.{◌≡◌, ◌+◌, ℕ, ℤ, List, Option, Some, None, if◌then◌else◌, length, nat_lt, take}
use Rattle.media_rows.specs.declared.reply.View.{View}
use Rattle.media_rows.specs.declared.reply.View.TheVariants.{Segments}
use Rattle.media_rows.specs.declared.segment.SegmentRow.{SegmentRow}
use Rattle.media_rows.specs.Lists.{last_key}
use Rattle.media_rows.specs.Segments.{first_point}

-- as many rows as tell a page of so many: its own, and whether there are more
pub record IsFront (limit : ℕ) (rows past : List SegmentRow) : Type 0 where
  pub page : take limit rows ≡ take limit past
  pub more : nat_lt limit (length rows) ≡ nat_lt limit (length past)

-- how many of so many are looked at for a page: all where an object is asked for, and otherwise one
-- more than the page has
abbrev pub front_len : ℕ → Option (List ℕ) → ℕ → ℕ
front_len count (Some object) limit = count
front_len count None limit = if nat_lt limit count then limit + 1 else count

-- the first point of the last of the first so many rows, where there are more
abbrev pub last_point_behind : ℕ → List SegmentRow → Option ℤ
last_point_behind limit rows =
    if nat_lt limit (length rows) then last_key first_point (take limit rows) else None

-- a page of the first so many rows
abbrev pub shown_rows : ℕ → List SegmentRow → View
shown_rows limit rows = Segments (take limit rows) (last_point_behind limit rows)
