-- What a library keeps beside its media: its catalog, its delete requests, its hooks with the
-- events that wait for them, and the next serial; and what a change that looks at no media makes
-- of it. Our own rules.
use Rattle.std.specs.Prelude.{ℕ, nat_le, List, [], Option, Some, None, if◌then◌else◌}
use Rattle.media_rows.specs.declared.change.Change.{Change}
use Rattle.media_rows.specs.declared.event.Happened.{Happened}
use Rattle.media_rows.specs.declared.request.DeleteRow.{DeleteRow}
use Rattle.media_rows.specs.Catalog.{Catalog}
use Rattle.media_rows.specs.Changes.{after}
use Rattle.media_rows.specs.Library.{Library, last_serial, with_happened}
use Rattle.media_rows.specs.Outbox.{Outbox}

-- all that a library keeps but its id and its media
pub record Registry : Type 0 where
  pub catalog : Catalog
  pub requests : List DeleteRow
  pub outbox : Outbox
  pub next_serial : ℕ

-- what a library keeps beside its media
abbrev pub registry_of : Library → Registry
registry_of library = record {
  catalog = library.catalog;
  requests = library.requests;
  outbox = library.outbox;
  next_serial = library.next_serial;
}

-- the library that keeps just this, and has no media
abbrev pub bare_library : Registry → Library
bare_library registry = record {
  id = 0;
  blocks = 0;
  catalog = registry.catalog;
  segments = [];
  objects = [];
  requests = registry.requests;
  outbox = registry.outbox;
  next_serial = registry.next_serial;
}

-- the registry of a new store
abbrev pub empty_registry : Registry
empty_registry = record {
  catalog = record { sources = []; flows = [] };
  requests = [];
  outbox = record { hooks = []; events = [] };
  next_serial = 1;
}

-- a registry, unless its serials have ended
abbrev pub within : Registry → Option Registry
within registry = if nat_le registry.next_serial last_serial then Some registry else None

-- the registry once these things happened at a moment: their events wait, with the next serials
abbrev pub with_events_of : List Happened → ℕ → Registry → Registry
with_events_of happened moment registry =
    registry_of (with_happened happened moment (bare_library registry))

-- what a change makes of a registry, where the change looks at no media
abbrev pub after_change : Change → Registry → Registry
after_change change registry = registry_of (after change (bare_library registry))
