-- The page of the flows that pass.
use Rattle.std.proofs.Common.{◌≡◌, ℕ, ◌&&◌, List, Option, filter, map, take, ap, ap₂, ◌∙◌}
use Rattle.std.specs.Prelude.{option_map}
use Rattle.time_range.specs.declared.ranges.Span.{Span}
use Rattle.media_rows.specs.declared.command.FlowFilter.{FlowFilter}
use Rattle.media_rows.specs.declared.command.Page.{Page}
use Rattle.media_rows.specs.declared.flow.FlowRow.{FlowRow}
use Rattle.media_rows.specs.declared.reply.View.TheVariants.{Flows}
use Rattle.media_rows.specs.declared.segment.SegmentRow.{SegmentRow}
use Rattle.media_rows.specs.Library.{Library}
use Rattle.media_rows.specs.Lists.{items_past}
use Rattle.media_rows.specs.Views.{flow_key, id_key, listed_flows, passes_flow, passes_range, shown_flow, shown_flows}
use Rattle.flow_book.specs.Listing.{flows_listed}
use Rattle.core_views.specs.Pages.{key_before, key_behind}
use Rattle.core_views.proofs.Listed.{flows_past}
use Rattle.core_views.proofs.Paging.{past_both}

-- The page from what lies past its key: that is taken of all that pass but for the range, and the range is asked for
-- behind it.
pub flows_shown : (library : Library) (page : Page) (wanted : FlowFilter) (range : Option (Option Span)) (start : Option ℕ) (segments : List SegmentRow)
    (flows listed given past handed met rows : List FlowRow) → segments ≡ library.segments → flows ≡ library.catalog.flows
    → option_map id_key start ≡ key_before page → listed ≡ flows_listed wanted start flows → given ≡ listed
    → past ≡ items_past flow_key page given → handed ≡ past → met ≡ filter (passes_range segments range) handed → rows ≡ met
    → Flows (map (shown_flow segments) (take page.limit rows)) (key_behind flow_key page.limit rows)
    ≡ shown_flows library page (listed_flows library wanted range)
flows_shown library page wanted range start segments flows listed given past handed met rows es ef begins is same lies eh em er =
    let all : rows ≡ items_past flow_key page (filter (λ row. passes_flow wanted row && passes_range library.segments range row) library.catalog.flows) =
    er ∙ em ∙ ap (filter (passes_range segments range)) (eh ∙ lies ∙ ap (items_past flow_key page) (same ∙ is) ∙ flows_past page wanted start flows begins)
    ∙ past_both flow_key page (passes_flow wanted) (passes_range segments range) flows
    ∙ ap₂ (λ (s : List SegmentRow) (f : List FlowRow). items_past flow_key page (filter (λ row. passes_flow wanted row && passes_range s range row) f)) es ef in
    ap₂ (λ (s : List SegmentRow) (l : List FlowRow). Flows (map (shown_flow s) (take page.limit l)) (key_behind flow_key page.limit l)) es all
