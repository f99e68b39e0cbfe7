-- What a change makes happen, in order, as the webhooks are told. Our own profile of the
-- Time-addressable Media Store.
use Rattle.std.specs.Prelude.{ℕ, ◌==◌, List, [], ◌∷◌, ◌++◌, Bool, not, Option, Some, None, if◌then◌else◌, length}
use Rattle.std.specs.List.{list_any}
use Rattle.media_rows.specs.declared.event.EventKind.{EventKind}
use Rattle.media_rows.specs.declared.event.EventKind.TheVariants.{FlowCreated, FlowUpdated, FlowDeleted, SegmentsAdded, SegmentsDeleted, SourceCreated, SourceDeleted}
use Rattle.media_rows.specs.declared.event.Happened.{Happened}
use Rattle.media_rows.specs.declared.flow.FlowBody.{FlowBody}
use Rattle.media_rows.specs.declared.flow.FlowRow.{FlowRow}
use Rattle.media_rows.specs.declared.source.SourceRow.{SourceRow}
use Rattle.media_rows.specs.declared.segment.SegmentRow.{SegmentRow}
use Rattle.media_rows.specs.Catalog.{Catalog, flow_of, source_of, flows_after_drop}
use Rattle.media_rows.specs.Segments.{hull_of_segments}

-- an event of a flow under its source, without a range
abbrev pub flow_event : EventKind → ℕ → ℕ → Happened
flow_event kind flow source = record { kind = kind; subject = flow; source = source; range = None }

-- an event of a source, which stands as its own source, without a range
abbrev pub source_event : EventKind → ℕ → Happened
source_event kind source = record { kind = kind; subject = source; source = source; range = None }

-- an event of segments that came or went, with the hull of them
abbrev pub segments_event : EventKind → ℕ → ℕ → List SegmentRow → Happened
segments_event kind flow source rows =
    record { kind = kind; subject = flow; source = source; range = Some (hull_of_segments rows) }

-- a flow that is put: where it is new, its source comes first if that is new too
abbrev pub new_flow_events : Option SourceRow → FlowBody → List Happened
new_flow_events None body =
    source_event SourceCreated body.source ∷ flow_event FlowCreated body.id body.source ∷ []
new_flow_events (Some source) body = flow_event FlowCreated body.id body.source ∷ []

-- a new flow is created, perhaps with its source; a kept one is updated, and its source isn't
abbrev pub put_events_for : Option FlowRow → Catalog → FlowBody → List Happened
put_events_for None catalog body = new_flow_events (source_of body.source catalog.sources) body
put_events_for (Some old) catalog body = flow_event FlowUpdated body.id body.source ∷ []

-- what a PUT of a flow makes happen
abbrev pub put_events : Catalog → FlowBody → List Happened
put_events catalog body = put_events_for (flow_of body.id catalog.flows) catalog body

-- an event of a kept flow
abbrev pub kept_flow_events : EventKind → Option FlowRow → List Happened
kept_flow_events kind None = []
kept_flow_events kind (Some row) = flow_event kind row.body.id row.body.source ∷ []

-- what a part of a flow makes happen: the flow is updated
abbrev pub set_events : Catalog → ℕ → List Happened
set_events catalog flow = kept_flow_events FlowUpdated (flow_of flow catalog.flows)

-- segments that came to a kept flow, or went from it
abbrev pub kept_segments_events : EventKind → Option FlowRow → List SegmentRow → List Happened
kept_segments_events kind None rows = []
kept_segments_events kind (Some row) rows =
    segments_event kind row.body.id row.body.source rows ∷ []

-- what a post makes happen: segments were added, with the hull of all of its own
abbrev pub added_events : Catalog → ℕ → List SegmentRow → List Happened
added_events catalog flow rows =
    kept_segments_events SegmentsAdded (flow_of flow catalog.flows) rows

-- segments that went, if any did
abbrev pub removed_events : Catalog → ℕ → List SegmentRow → List Happened
removed_events catalog flow rows =
    if length rows == 0
    then [] else kept_segments_events SegmentsDeleted (flow_of flow catalog.flows) rows

-- the source of a flow that goes has no other flow
abbrev pub source_goes : Catalog → FlowRow → Bool
source_goes catalog row =
    not
    (list_any (λ other. other.body.source == row.body.source)
    (flows_after_drop row.body.id catalog.flows))

-- a flow that goes, and its source where it goes too
abbrev pub gone_events : Catalog → Option FlowRow → List Happened
gone_events catalog None = []
gone_events catalog (Some row) =
    flow_event FlowDeleted row.body.id row.body.source
    ∷ (if source_goes catalog row then source_event SourceDeleted row.body.source ∷ [] else [])

-- what a flow that goes makes happen: segments were deleted if it had any, then the flow, then
-- perhaps its source
abbrev pub drop_events : Catalog → ℕ → List SegmentRow → List Happened
drop_events catalog flow rows =
    removed_events catalog flow rows ++ gone_events catalog (flow_of flow catalog.flows)
