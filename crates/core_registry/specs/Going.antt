-- Segments that go from a flow, of which a registry is told the hull alone, and flows that go with
-- them. Our own rules.
use Rattle.std.specs.Prelude.{ℕ, ◌==◌, List, [], ◌∷◌, ◌++◌, Bool, Option, Some, None, if◌then◌else◌, length}
use Rattle.time_range.specs.declared.ranges.Span.{Span}
use Rattle.media_rows.specs.declared.event.EventKind.{EventKind}
use Rattle.media_rows.specs.declared.event.EventKind.TheVariants.{SegmentsDeleted}
use Rattle.media_rows.specs.declared.event.Happened.{Happened}
use Rattle.media_rows.specs.declared.flow.FlowRow.{FlowRow}
use Rattle.media_rows.specs.declared.request.DeleteRow.{DeleteRow}
use Rattle.media_rows.specs.declared.segment.SegmentRow.{SegmentRow}
use Rattle.media_rows.specs.Catalog.{Catalog, flow_of, after_touch, after_drop}
use Rattle.media_rows.specs.Events.{gone_events}
use Rattle.media_rows.specs.Requests.{after_end}
use Rattle.media_rows.specs.Segments.{hull_of_segments}
use Rattle.core_registry.specs.Registry.{Registry}

-- the hull of segments, where there are any
abbrev pub hull_if_any : List SegmentRow → Option (Option Span)
hull_if_any rows = if length rows == 0 then None else Some (hull_of_segments rows)

-- segments of a flow came or went, with the hull of them
abbrev pub hull_event : EventKind → FlowRow → Option Span → Happened
hull_event kind row hull =
    record { kind = kind; subject = row.body.id; source = row.body.source; range = Some hull }

-- segments with this hull came to a flow or went from it, if it is kept
abbrev pub hull_events : EventKind → Option FlowRow → Option Span → List Happened
hull_events kind None hull = []
hull_events kind (Some row) hull = hull_event kind row hull ∷ []

-- what the going of segments makes happen, if any go
abbrev pub going_events : Catalog → ℕ → Option (Option Span) → List Happened
going_events catalog flow None = []
going_events catalog flow (Some hull) =
    hull_events SegmentsDeleted (flow_of flow catalog.flows) hull

-- what the going of a flow makes happen, with its segments if it has any
abbrev pub ending_events : Catalog → ℕ → Option (Option Span) → List Happened
ending_events catalog flow range =
    going_events catalog flow range ++ gone_events catalog (flow_of flow catalog.flows)

-- the registry once segments went from a flow, if any did
abbrev pub touched_by : ℕ → Option (Option Span) → ℕ → Registry → Registry
touched_by flow None moment registry = registry
touched_by flow (Some hull) moment registry =
    record registry { catalog = after_touch flow moment registry.catalog }

-- the registry once a flow went: its unfinished requests are done
abbrev pub without_flow : ℕ → ℕ → Registry → Registry
without_flow flow moment registry = record registry {
  catalog = after_drop flow registry.catalog;
  requests = after_end flow moment registry.requests;
}

-- the registry with these requests
abbrev pub with_requests : List DeleteRow → Registry → Registry
with_requests requests registry = record registry { requests = requests }
