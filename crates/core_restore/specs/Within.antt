-- Words that the calls within this crate cite, and no other crate.
use Rattle.std.specs.Prelude.{◌≡◌, ℕ, ◌==◌, ℤ, nat_lt, nat_le, List, [], ◌∷◌, ◌++◌, Bool, not, ◌&&◌, ◌||◌, IsTrue}
use Rattle.std.specs.List.{list_all}
use Rattle.media_rows.specs.declared.flow.FlowRow.{FlowRow}
use Rattle.media_rows.specs.declared.request.DeleteRow.{DeleteRow}
use Rattle.media_rows.specs.declared.segment.SegmentRow.{SegmentRow}
use Rattle.media_rows.specs.Catalog.{flow_before, source_before}
use Rattle.media_rows.specs.Collections.{is_kept}
use Rattle.media_rows.specs.Good.{are_serials_good, are_texts_good, is_request_good, rises_by}
use Rattle.media_rows.specs.Library.{Library, last_serial, serials_of}
use Rattle.media_rows.specs.Lists.{is_behind, rises}
use Rattle.media_rows.specs.Views.{id_key}
use Rattle.core_registry.specs.declared.restores.RegistryRows.{RegistryRows}
use Rattle.core_registry.specs.Restoring.{can_restore}
use Rattle.core_rows.specs.Kinds.{Kinds}
use Rattle.media_book.specs.Media.{are_media_good, media_of}
use Rattle.shared_tree.specs.Pairs.{value_at}

-- ---- rows by their kinds

-- rows of each kind but segments stand in their order
pub record AreInOrder (kinds : Kinds) : Type 0 where
  pub sources : IsTrue (rises source_before kinds.sources)
  pub flows : IsTrue (rises flow_before kinds.flows)
  pub objects : IsTrue (rises_by (λ row. row.serial) kinds.objects)
  pub requests : IsTrue (rises_by (λ row. row.serial) kinds.requests)
  pub hooks : IsTrue (rises_by (λ row. row.serial) kinds.hooks)
  pub events : IsTrue (rises_by (λ row. row.serial) kinds.events)

-- the library of an id and of so many media blocks that has just these rows, in their order, and
-- this next serial
abbrev pub library_from_kinds : ℕ → ℕ → ℕ → Kinds → Library
library_from_kinds id blocks next_serial kinds = record {
  id = id;
  blocks = blocks;
  catalog = record { sources = kinds.sources; flows = kinds.flows };
  segments = kinds.segments;
  objects = kinds.objects;
  requests = kinds.requests;
  outbox = record { hooks = kinds.hooks; events = kinds.events };
  next_serial = next_serial;
}

-- ---- what a good library says, in four parts

-- texts, moments and serials are good
abbrev pub are_values_good : Library → Bool
are_values_good library =
    are_serials_good library.next_serial (serials_of library) && are_texts_good library

-- the rows that a library keeps beside its media
abbrev pub registry_rows : Library → RegistryRows
registry_rows library = record {
  sources = library.catalog.sources;
  flows = library.catalog.flows;
  requests = library.requests;
  hooks = library.outbox.hooks;
  events = library.outbox.events;
}

-- the flows of segments are kept, and delete requests are good
abbrev pub are_tied : List FlowRow → List SegmentRow → List DeleteRow → Bool
are_tied flows segments requests =
    list_all (λ row. is_kept flows row.flow) segments
    && list_all (is_request_good flows segments) requests

-- what is left once values and media are good
abbrev pub is_rest_good : Library → Bool
is_rest_good library =
    can_restore (registry_rows library)
    && are_tied library.catalog.flows library.segments library.requests

-- all four
abbrev pub are_parts_good : Library → Bool
are_parts_good library =
    are_values_good library && (are_media_good (media_of library) && is_rest_good library)

-- ---- serials

-- numbers from 1 up to this one rise, each one below the next, and this one isn't past the last
abbrev pub rise_within : ℕ → List ℕ → Bool
rise_within next numbers = rises nat_lt (0 ∷ (numbers ++ next ∷ [])) && nat_le next last_serial

-- ---- the last segments of flows

-- a serial lies behind those of all segments of a flow
abbrev pub is_behind_flow : List SegmentRow → ℕ → ℕ → Bool
is_behind_flow segments flow serial =
    list_all (λ row. not (row.flow == flow) || nat_lt row.serial serial) segments

-- at the keys of flows stand the last serials of their segments
abbrev pub AreLast : List SegmentRow → List (ℤ × ℕ) → Type 0
AreLast segments last = (flow serial : ℕ)
    → is_behind (value_at (id_key flow) last) serial ≡ is_behind_flow segments flow serial
