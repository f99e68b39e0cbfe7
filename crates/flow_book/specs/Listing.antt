-- Lists of a catalog: the rows that pass a filter behind an id, and their count. Our own profile of
-- the Time-addressable Media Store.
use Rattle.std.specs.Prelude.{ℕ, ◌-◌, ◌^◌, List, Bool, ◌&&◌, Option, filter, length, min}
use Rattle.media_rows.specs.declared.command.FlowFilter.{FlowFilter}
use Rattle.media_rows.specs.declared.command.SourceFilter.{SourceFilter}
use Rattle.media_rows.specs.declared.flow.FlowRow.{FlowRow}
use Rattle.media_rows.specs.declared.source.SourceRow.{SourceRow}
use Rattle.media_rows.specs.Lists.{is_behind}
use Rattle.media_rows.specs.Views.{passes_flow, passes_source}

-- a flow passes and lies behind the id after which a list begins, if there is one
unfoldable pub is_flow_listed : FlowFilter → Option ℕ → FlowRow → Bool
is_flow_listed wanted after row = is_behind after row.body.id && passes_flow wanted row

-- a source passes and lies behind such an id
unfoldable pub is_source_listed : SourceFilter → Option ℕ → SourceRow → Bool
is_source_listed wanted after row = is_behind after row.id && passes_source wanted row

-- the flows that pass and lie behind an id, in the catalog's order
abbrev pub flows_listed : FlowFilter → Option ℕ → List FlowRow → List FlowRow
flows_listed wanted after flows = filter (is_flow_listed wanted after) flows

-- the sources that pass and lie behind an id, in the catalog's order
abbrev pub sources_listed : SourceFilter → Option ℕ → List SourceRow → List SourceRow
sources_listed wanted after sources = filter (is_source_listed wanted after) sources

-- how many rows there are, cut at the last value of 64 bits
abbrev pub cut_count : {X : Type 0} → List X → ℕ
cut_count rows = min (length rows) (2 ^ 64 - 1)
