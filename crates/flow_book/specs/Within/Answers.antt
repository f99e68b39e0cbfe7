-- The catalog of two lists.
use Rattle.std.specs.Prelude.{List}
use Rattle.media_rows.specs.declared.flow.FlowRow.{FlowRow}
use Rattle.media_rows.specs.declared.source.SourceRow.{SourceRow}
use Rattle.media_rows.specs.Catalog.{Catalog}

-- the catalog of these sources and flows
abbrev pub catalog_with : List SourceRow → List FlowRow → Catalog
catalog_with sources flows = record { sources = sources; flows = flows }
