-- The rows of a library, in the order in which a snapshot has them: by kind, then sources and flows
-- by id, segments by flow and first point, and all else by serial; the next serial comes last. And
-- the library of such rows. Our own rules.
use Rattle.std.specs.Prelude.{ℕ, ℤ, None, ◌==◌, nat_lt, List, [], ◌∷◌, ◌++◌, Bool, true, false, ◌&&◌, ◌||◌, Option, map}
use Rattle.std.specs.List.{list_any}
use Rattle.time_range.specs.Points.{low_of}
use Rattle.media_rows.specs.declared.event.EventRow.{EventRow}
use Rattle.media_rows.specs.declared.flow.FlowRow.{FlowRow}
use Rattle.media_rows.specs.declared.hook.HookRow.{HookRow}
use Rattle.media_rows.specs.declared.row.Row.{Row}
use Rattle.media_rows.specs.declared.row.Row.TheVariants as rows
use Rattle.media_rows.specs.declared.segment.SegmentRow.{SegmentRow}
use Rattle.media_rows.specs.declared.source.SourceRow.{SourceRow}
use Rattle.media_rows.specs.Catalog.{Catalog}
use Rattle.media_rows.specs.Library.{Library, empty_library}
use Rattle.media_rows.specs.Lists.{inserted, in_order}
use Rattle.media_rows.specs.Outbox.{Outbox}
use Rattle.media_rows.specs.Segments.{starts_before, low_before}

-- by flow, then by first point
abbrev pub segment_row_before : SegmentRow → SegmentRow → Bool
segment_row_before a b = nat_lt a.flow b.flow || ((a.flow == b.flow) && starts_before a b)

-- the number of a row's kind in the file
abbrev pub kind_number : Row → ℕ
kind_number (rows.Source row) = 1
kind_number (rows.Flow row) = 2
kind_number (rows.Object row) = 3
kind_number (rows.Segment row) = 4
kind_number (rows.Request row) = 5
kind_number (rows.Hook row) = 6
kind_number (rows.Event row) = 7
kind_number (rows.Numbers next_serial) = 8

-- the number that a row has in the order of its kind; segments have an order of their own
abbrev pub place_number : Row → ℕ
place_number (rows.Source row) = row.id
place_number (rows.Flow row) = row.body.id
place_number (rows.Object row) = row.serial
place_number (rows.Segment row) = row.flow
place_number (rows.Request row) = row.serial
place_number (rows.Hook row) = row.serial
place_number (rows.Event row) = row.serial
place_number (rows.Numbers next_serial) = 0

-- the first point of a row that is a segment
abbrev pub place_point : Row → Option ℤ
place_point (rows.Source row) = None
place_point (rows.Flow row) = None
place_point (rows.Object row) = None
place_point (rows.Segment row) = low_of row.segment.range
place_point (rows.Request row) = None
place_point (rows.Hook row) = None
place_point (rows.Event row) = None
place_point (rows.Numbers next_serial) = None

-- a row is that of the next serial
abbrev pub is_numbers : Row → Bool
is_numbers (rows.Numbers next_serial) = true
is_numbers _ = false

-- the row of the next serial is among these
abbrev pub have_numbers : List Row → Bool
have_numbers all = list_any is_numbers all

-- a row stands before another in a snapshot: by kind, then in the order of its kind
abbrev pub row_before : Row → Row → Bool
row_before a b =
    nat_lt (kind_number a) (kind_number b)
    || ((kind_number a == kind_number b)
    &&
    (nat_lt (place_number a) (place_number b)
    || ((place_number a == place_number b) && low_before (place_point a) (place_point b))))

-- the rows of all that a library keeps; its id and the number of its media blocks follow from the
-- file's header
abbrev pub rows_of : Library → List Row
rows_of library =
    map rows.Source library.catalog.sources
    ++ map rows.Flow library.catalog.flows
    ++ map rows.Object library.objects
    ++ map rows.Segment (in_order segment_row_before library.segments)
    ++ map rows.Request library.requests
    ++ map rows.Hook library.outbox.hooks
    ++ map rows.Event library.outbox.events
    ++ rows.Numbers library.next_serial ∷ []

-- ---- the library of rows

-- segments stand by rising serial in a library
abbrev pub older : SegmentRow → SegmentRow → Bool
older a b = nat_lt a.serial b.serial

-- one more source
abbrev pub with_source_row : SourceRow → Catalog → Catalog
with_source_row row catalog = record catalog { sources = row ∷ catalog.sources }

-- one more flow
abbrev pub with_flow_row : FlowRow → Catalog → Catalog
with_flow_row row catalog = record catalog { flows = row ∷ catalog.flows }

-- one more hook
abbrev pub with_hook_row : HookRow → Outbox → Outbox
with_hook_row row outbox = record outbox { hooks = row ∷ outbox.hooks }

-- one more event
abbrev pub with_event_row : EventRow → Outbox → Outbox
with_event_row row outbox = record outbox { events = row ∷ outbox.events }

-- A library with one row more, which stands before those of its kind. A segment comes to its place
-- by serial, since a snapshot has segments in another order.
abbrev pub with_row : Row → Library → Library
with_row (rows.Source row) library =
    record library { catalog = with_source_row row library.catalog }
with_row (rows.Flow row) library = record library { catalog = with_flow_row row library.catalog }
with_row (rows.Object row) library = record library { objects = row ∷ library.objects }
with_row (rows.Segment row) library =
    record library { segments = inserted older row library.segments }
with_row (rows.Request row) library = record library { requests = row ∷ library.requests }
with_row (rows.Hook row) library = record library { outbox = with_hook_row row library.outbox }
with_row (rows.Event row) library = record library { outbox = with_event_row row library.outbox }
with_row (rows.Numbers next_serial) library = record library { next_serial = next_serial }

-- the library of an id, of so many media blocks and of these rows
abbrev pub library_of : ℕ → ℕ → List Row → Library
library_of id blocks [] = empty_library id blocks
library_of id blocks (row ∷ later) = with_row row (library_of id blocks later)
