-- Words that the calls within this crate cite, and no other crate.
use Rattle.std.specs.Prelude.{ℕ, List, [], ◌∷◌, Bool, Option, Some, None, if◌then◌else◌}
use Rattle.time_range.specs.declared.ranges.Span.{Span}
use Rattle.media_rows.specs.declared.event.EventKind.TheVariants.{FlowDeleted, SegmentsDeleted, SourceDeleted}
use Rattle.media_rows.specs.declared.event.Happened.{Happened}
use Rattle.media_rows.specs.declared.flow.FlowRow.{FlowRow}
use Rattle.media_rows.specs.Events.{flow_event, source_event}
use Rattle.media_rows.specs.Outbox.{Outbox}
use Rattle.webhook_outbox.specs.declared.outbox.Posted.{Posted}
use Rattle.core_registry.specs.Going.{hull_event}
use Rattle.core_registry.specs.Registry.{Registry}

-- the registry with this outbox and the serial behind its events, where there is one
abbrev pub reached_at : Registry → Outbox → Option ℕ → Option Registry
reached_at registry outbox None = None
reached_at registry outbox (Some serial) =
    Some (record registry { outbox = outbox; next_serial = serial })

-- the registry to which posting has come
abbrev pub registry_reached : Registry → Posted → Option Registry
registry_reached registry posted = reached_at registry posted.outbox posted.next

-- segments of a flow went, if a hull of them is told
abbrev pub hull_if_told : FlowRow → Option (Option Span) → List Happened
hull_if_told row None = []
hull_if_told row (Some hull) = hull_event SegmentsDeleted row hull ∷ []

-- a flow went, and its source where that is said
abbrev pub gone_if : Bool → FlowRow → List Happened
gone_if with_source row =
    flow_event FlowDeleted row.body.id row.body.source
    ∷ (if with_source then source_event SourceDeleted row.body.source ∷ [] else [])
