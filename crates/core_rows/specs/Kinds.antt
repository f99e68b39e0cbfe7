-- The rows of a snapshot by their kinds, and the library that they make. Our own rules.
use Rattle.std.specs.Prelude.{◌≡◌, ℕ, List, [], ◌∷◌, ◌++◌, Option, Some, None, unwrap_or}
use Rattle.media_rows.specs.declared.event.EventRow.{EventRow}
use Rattle.media_rows.specs.declared.flow.FlowRow.{FlowRow}
use Rattle.media_rows.specs.declared.hook.HookRow.{HookRow}
use Rattle.media_rows.specs.declared.object.ObjectRow.{ObjectRow}
use Rattle.media_rows.specs.declared.request.DeleteRow.{DeleteRow}
use Rattle.media_rows.specs.declared.row.Row.{Row}
use Rattle.media_rows.specs.declared.row.Row.TheVariants as rows
use Rattle.media_rows.specs.declared.segment.SegmentRow.{SegmentRow}
use Rattle.media_rows.specs.declared.source.SourceRow.{SourceRow}
use Rattle.media_rows.specs.Library.{Library}
use Rattle.media_rows.specs.Lists.{in_order, or_else}
use Rattle.media_rows.specs.Snapshot.{library_of, older}

-- what rows of each kind there are, in their order
pub record Kinds : Type 0 where
  pub sources : List SourceRow
  pub flows : List FlowRow
  pub objects : List ObjectRow
  pub segments : List SegmentRow
  pub requests : List DeleteRow
  pub hooks : List HookRow
  pub events : List EventRow
  pub next_serial : Option ℕ

-- no row
abbrev pub no_kinds : Kinds
no_kinds = record {
  sources = [];
  flows = [];
  objects = [];
  segments = [];
  requests = [];
  hooks = [];
  events = [];
  next_serial = None;
}

-- one row
abbrev pub kind_of : Row → Kinds
kind_of (rows.Source row) = record no_kinds { sources = row ∷ [] }
kind_of (rows.Flow row) = record no_kinds { flows = row ∷ [] }
kind_of (rows.Object row) = record no_kinds { objects = row ∷ [] }
kind_of (rows.Segment row) = record no_kinds { segments = row ∷ [] }
kind_of (rows.Request row) = record no_kinds { requests = row ∷ [] }
kind_of (rows.Hook row) = record no_kinds { hooks = row ∷ [] }
kind_of (rows.Event row) = record no_kinds { events = row ∷ [] }
kind_of (rows.Numbers next_serial) = record no_kinds { next_serial = Some next_serial }

-- rows, and others behind them; the first next serial counts
abbrev pub joined : Kinds → Kinds → Kinds
joined front back = record {
  sources = front.sources ++ back.sources;
  flows = front.flows ++ back.flows;
  objects = front.objects ++ back.objects;
  segments = front.segments ++ back.segments;
  requests = front.requests ++ back.requests;
  hooks = front.hooks ++ back.hooks;
  events = front.events ++ back.events;
  next_serial = or_else front.next_serial back.next_serial;
}

-- rows by their kinds
abbrev pub kinds_of : List Row → Kinds
kinds_of [] = no_kinds
kinds_of (row ∷ later) = joined (kind_of row) (kinds_of later)

-- the library of an id, of so many media blocks and of these rows, which a new library's next
-- serial has where they have none
abbrev pub library_of_kinds : ℕ → ℕ → Kinds → Library
library_of_kinds id blocks kinds = record {
  id = id;
  blocks = blocks;
  catalog = record { sources = kinds.sources; flows = kinds.flows };
  segments = in_order older kinds.segments;
  objects = kinds.objects;
  requests = kinds.requests;
  outbox = record { hooks = kinds.hooks; events = kinds.events };
  next_serial = unwrap_or kinds.next_serial 1;
}

-- rows make the library that their kinds make
abbrev pub KindsMakeTheLibrary : Type 0
KindsMakeTheLibrary = (id blocks : ℕ) (rows : List Row)
    → library_of id blocks rows ≡ library_of_kinds id blocks (kinds_of rows)
