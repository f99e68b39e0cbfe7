-- A delete step, from what its media and its registry become.
use Rattle.std.proofs.Common.{◌≡◌, ℕ, Bool, true, false, List, Option, Some, None, refl, sym, ap, ◌∙◌}
use Rattle.std.specs.Prelude.{◌==◌, ◌&&◌, if◌then◌else◌, length}
use Rattle.time_range.specs.declared.ranges.Span.{Span}
use Rattle.media_rows.specs.declared.change.Change.TheVariants as changes
use Rattle.media_rows.specs.declared.event.Happened.{Happened}
use Rattle.media_rows.specs.declared.request.DeleteRow.{DeleteRow}
use Rattle.media_rows.specs.declared.segment.SegmentRow.{SegmentRow}
use Rattle.media_rows.specs.Catalog.{Catalog, after_drop, after_touch}
use Rattle.media_rows.specs.Changes.{after, after_step_of, is_flow_gone, remove_flow, remove_segments, step_events, touch_flow, with_step}
use Rattle.media_rows.specs.Events.{drop_events, removed_events}
use Rattle.media_rows.specs.Library.{Library, with_happened}
use Rattle.media_rows.specs.Requests.{after_end, after_step, first_unfinished, is_finished_by_step, removed_by_step}
use Rattle.media_rows.specs.Segments.{hull_of_segments}
use Rattle.media_book.specs.Media.{Media, media_of, without_rows}
use Rattle.core_registry.specs.Going.{ending_events, going_events, hull_if_any, touched_by, with_requests, without_flow}
use Rattle.core_registry.specs.Laws.{GoingFlowsForget, GoingIsTold}
use Rattle.core_registry.specs.Registry.{Registry, registry_of, with_events_of, within}
use Rattle.core_parts.specs.Parts.{library_of_parts, made_of, within_serials}
use Rattle.core_parts.specs.Within.{lost_by}
use Rattle.core_parts.proofs.Changed.{both_within, touched_unless}

-- the library with these requests
abbrev with_book : List DeleteRow → Library → Library
with_book book library = record library { requests = book }

going : (library : Library) (flow : ℕ) (rows : List SegmentRow) (moment : ℕ) (happened : List Happened) (book : List DeleteRow) (hull : Option Span)
    (none : Bool)
    → library_of_parts library.id (without_rows rows moment (media_of library))
    (with_events_of happened moment (touched_by flow (if none then None else Some hull) moment (with_requests book (registry_of library))))
    ≡ with_happened happened moment (remove_segments rows moment (touched_unless none flow moment (with_book book library)))
going library flow rows moment happened book hull true = refl
going library flow rows moment happened book hull false = refl

ending : GoingFlowsForget → (library : Library) (flow : ℕ) (rows : List SegmentRow) (moment : ℕ) (happened : List Happened) (book : List DeleteRow)
    (none : Bool)
    → library_of_parts library.id (without_rows rows moment (media_of library))
    (with_events_of happened moment (without_flow flow moment (with_requests book (registry_of library))))
    ≡ with_happened happened moment (remove_flow flow moment (remove_segments rows moment (touched_unless none flow moment (with_book book library))))
ending forget library flow rows moment happened book true = refl
ending forget library flow rows moment happened book false =
    ap (λ catalog. library_of_parts library.id (without_rows rows moment (media_of library))
    (with_events_of happened moment (record (registry_of library) { catalog = catalog; requests = after_end flow moment book })))
    (sym (forget library.catalog flow moment))

-- the first segments of a request go, and its flow with them where that is said
either : GoingIsTold → GoingFlowsForget → (library : Library) (flow : ℕ) (rows : List SegmentRow) (moment : ℕ) (book : List DeleteRow) (gone : Bool)
    → library_of_parts library.id (without_rows rows moment (media_of library)) (lost_by gone flow (hull_if_any rows) moment
    (with_requests book (registry_of library)))
    ≡ with_happened (if gone then drop_events library.catalog flow rows else removed_events library.catalog flow rows) moment
    (if gone
    then remove_flow flow moment (remove_segments rows moment (touch_flow flow rows moment (with_book book library)))
    else remove_segments rows moment (touch_flow flow rows moment (with_book book library)))
either told forget library flow rows moment book true =
    ap (λ happened. library_of_parts library.id (without_rows rows moment (media_of library))
    (with_events_of happened moment (without_flow flow moment (with_requests book (registry_of library))))) (sym (told.flows library.catalog flow rows))
    ∙ ending forget library flow rows moment (drop_events library.catalog flow rows) book (length rows == 0)
either told forget library flow rows moment book false =
    ap (λ happened. library_of_parts library.id (without_rows rows moment (media_of library))
    (with_events_of happened moment (touched_by flow (hull_if_any rows) moment (with_requests book (registry_of library)))))
    (sym (told.segments library.catalog flow rows))
    ∙ going library flow rows moment (removed_events library.catalog flow rows) book (hull_of_segments rows) (length rows == 0)

-- a step of the request that is due
pub stepping : GoingIsTold → GoingFlowsForget → (library : Library) (request : DeleteRow) (moment : ℕ) (media : Media) (registry : Option Registry)
    → first_unfinished library.requests ≡ Some request
    → media ≡ without_rows (removed_by_step library.segments request) moment (media_of library)
    → registry ≡ within (lost_by (is_flow_gone request library) request.flow (hull_if_any (removed_by_step library.segments request)) moment
    (with_requests (after_step request.serial (is_finished_by_step library.segments request) moment library.requests) (registry_of library)))
    → made_of library.id media registry ≡ within_serials (after (changes.DeleteStep moment) library)
stepping told forget library request moment media registry due same lost =
    let rows = removed_by_step library.segments request in
    let book = after_step request.serial (is_finished_by_step library.segments request) moment library.requests in
    both_within library.id media (without_rows rows moment (media_of library)) registry
    (lost_by (is_flow_gone request library) request.flow (hull_if_any rows) moment (with_requests book (registry_of library))) same lost
    ∙ ap within_serials
    (either told forget library request.flow rows moment book (is_flow_gone request library)
    ∙ ap (λ o. with_happened (step_events o library) moment (after_step_of o moment library)) (sym due))
