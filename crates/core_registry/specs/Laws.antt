-- Laws that lead from the library's own words to those of a registry.
use Rattle.std.specs.Prelude.{◌≡◌, ℕ, List}
use Rattle.media_rows.specs.declared.segment.SegmentRow.{SegmentRow}
use Rattle.media_rows.specs.Catalog.{Catalog, after_drop, after_touch}
use Rattle.media_rows.specs.Events.{drop_events, removed_events}
use Rattle.core_registry.specs.Going.{ending_events, going_events, hull_if_any}

-- of segments that go, what happens needs their hull alone; so it does where their flow goes too
pub record GoingIsTold : Type 0 where
  pub segments : (catalog : Catalog) (flow : ℕ) (rows : List SegmentRow)
      → removed_events catalog flow rows ≡ going_events catalog flow (hull_if_any rows)
  pub flows : (catalog : Catalog) (flow : ℕ) (rows : List SegmentRow)
      → drop_events catalog flow rows ≡ ending_events catalog flow (hull_if_any rows)

-- a flow that goes leaves nothing of the moment at which its segments did
abbrev pub GoingFlowsForget : Type 0
GoingFlowsForget = (catalog : Catalog) (flow moment : ℕ)
    → after_drop flow (after_touch flow moment catalog) ≡ after_drop flow catalog
