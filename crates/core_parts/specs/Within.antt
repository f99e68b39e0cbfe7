-- Words that the calls within this crate cite, and no other crate.
use Rattle.std.specs.Prelude.{ℕ, suc, List, [], ◌∷◌, Bool, Option, nat_eq, if◌then◌else◌}
use Rattle.std.specs.List.{starts_with}
use Rattle.time_range.specs.declared.ranges.Span.{Span}
use Rattle.media_rows.specs.declared.segment.SegmentRow.{SegmentRow}
use Rattle.media_rows.specs.Changes.{remove_segments, touch_flow}
use Rattle.media_rows.specs.Events.{removed_events}
use Rattle.media_rows.specs.Library.{Library, with_happened}
use Rattle.core_registry.specs.Going.{ending_events, going_events, touched_by, without_flow}
use Rattle.core_registry.specs.Registry.{Registry, with_events_of}

-- the library once these segments went from a flow, if any did, with what that makes happen
abbrev pub after_going : ℕ → List SegmentRow → ℕ → Library → Library
after_going flow rows moment library =
    with_happened (removed_events library.catalog flow rows) moment
    (touch_flow flow rows moment (remove_segments rows moment library))

-- the registry once segments with this hull went from a flow, if any did, and the flow with them
-- where that is said
abbrev pub lost_by : Bool → ℕ → Option (Option Span) → ℕ → Registry → Registry
lost_by gone flow hull moment registry =
    if gone
    then with_events_of (ending_events registry.catalog flow hull) moment
    (without_flow flow moment registry)
    else with_events_of (going_events registry.catalog flow hull) moment
    (touched_by flow hull moment registry)

-- how many ids stand before the first that begins in this way, or at all where none does
abbrev pub front_length : List ℕ → List (List ℕ) → ℕ
front_length prefix [] = 0
front_length prefix (id ∷ later) =
    if starts_with nat_eq id prefix then 0 else suc (front_length prefix later)
