-- The library: what the store keeps, without the bytes of its objects, which stand beside it as a
-- list along the objects. Sources and flows stand by id and all else by serial, so equal libraries
-- are equal lists.
use Rattle.std.specs.Prelude.{ℕ, List, [], ◌++◌, map}
use Rattle.media_rows.specs.declared.event.Happened.{Happened}
use Rattle.media_rows.specs.declared.object.ObjectRow.{ObjectRow}
use Rattle.media_rows.specs.declared.request.DeleteRow.{DeleteRow}
use Rattle.media_rows.specs.declared.segment.SegmentRow.{SegmentRow}
use Rattle.media_rows.specs.Catalog.{Catalog}
use Rattle.media_rows.specs.Outbox.{Outbox, Posted, after_post}

-- the store's id, the number of its media blocks, its rows of each kind, and the serial that the
-- next new row of a kind with serials gets
pub record Library : Type 0 where
  pub id : ℕ
  pub blocks : ℕ
  pub catalog : Catalog
  pub segments : List SegmentRow
  pub objects : List ObjectRow
  pub requests : List DeleteRow
  pub outbox : Outbox
  pub next_serial : ℕ

-- the library of a new store, with its id and the number of its media blocks
abbrev pub empty_library : ℕ → ℕ → Library
empty_library id blocks = record {
  id = id;
  blocks = blocks;
  catalog = record { sources = []; flows = [] };
  segments = [];
  objects = [];
  requests = [];
  outbox = record { hooks = []; events = [] };
  next_serial = 1;
}

-- the last serial that a library may come to
abbrev pub last_serial : ℕ
last_serial = 9223372036854775807

-- the library once events were posted: they wait, and the next serial stands behind theirs
abbrev pub with_posted : Posted → Library → Library
with_posted posted library = record library { outbox = posted.outbox; next_serial = posted.next }

-- the library once these things happened at a moment: their events wait, with the next serials
abbrev pub with_happened : List Happened → ℕ → Library → Library
with_happened happened moment library =
    with_posted
    (after_post happened moment (record { outbox = library.outbox; next = library.next_serial }))
    library

-- all serials of a library
abbrev pub serials_of : Library → List ℕ
serials_of library =
    map (λ row. row.serial) library.objects
    ++ map (λ row. row.serial) library.segments
    ++ map (λ row. row.serial) library.requests
    ++ map (λ row. row.serial) library.outbox.hooks
    ++ map (λ row. row.serial) library.outbox.events
