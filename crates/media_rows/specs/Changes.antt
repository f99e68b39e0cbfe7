-- What each change makes of a library, and what it makes happen. First come the changes of rows,
-- with the next serials in list order, and last the events of the change. Our own rules.
use Rattle.std.specs.Prelude.{ℕ, ◌+◌, ◌==◌, List, [], ◌∷◌, ◌++◌, Bool, ◌&&◌, Option, Some, None, if◌then◌else◌, length}
use Rattle.time_range.specs.declared.ranges.Span.{Span}
use Rattle.media_rows.specs.declared.change.Change.{Change}
use Rattle.media_rows.specs.declared.change.Change.TheVariants as changes
use Rattle.media_rows.specs.declared.event.Happened.{Happened}
use Rattle.media_rows.specs.declared.event.EventKind.TheVariants.{SourceUpdated}
use Rattle.media_rows.specs.declared.flow.FlowBody.{FlowBody}
use Rattle.media_rows.specs.declared.hook.Hook.{Hook}
use Rattle.media_rows.specs.declared.object.Digest.{Digest}
use Rattle.media_rows.specs.declared.part.Part.{Part}
use Rattle.media_rows.specs.declared.request.DeleteRow.{DeleteRow}
use Rattle.media_rows.specs.declared.request.Deletion.{Deletion}
use Rattle.media_rows.specs.declared.segment.Segment.{Segment}
use Rattle.media_rows.specs.declared.segment.SegmentRow.{SegmentRow}
use Rattle.media_rows.specs.Catalog.{after_put, after_set, after_set_source, after_touch, after_drop}
use Rattle.media_rows.specs.Events.{put_events, set_events, source_event, added_events, removed_events, drop_events}
use Rattle.media_rows.specs.Library.{Library, with_happened}
use Rattle.media_rows.specs.Objects.{allocated_rows, stored_row, with_object, idled, swept_objects, without_objects}
use Rattle.media_rows.specs.Outbox.{after_put_hook, after_drop_hook, after_delivered}
use Rattle.media_rows.specs.Requests.{asked_row, first_unfinished, removed_by_step, is_finished_by_step, after_step, after_end}
use Rattle.media_rows.specs.Segments.{segments_of, covered, posted, without_segments}

-- ---- parts that several changes share

-- segments are gone: an object that lost its last reference is idle since this moment
abbrev pub remove_segments : List SegmentRow → ℕ → Library → Library
remove_segments removed moment library = record library {
  segments = without_segments removed library.segments;
  objects = idled library.segments
      (without_segments removed library.segments) moment library.objects;
}

-- segments came to a flow or went from it, if any did
abbrev pub touch_flow : ℕ → List SegmentRow → ℕ → Library → Library
touch_flow flow rows moment library =
    if length rows == 0
    then library else record library { catalog = after_touch flow moment library.catalog }

-- a flow is gone, with its entries in collections, and with its source where that has no other
-- flow; its unfinished requests are done
abbrev pub remove_flow : ℕ → ℕ → Library → Library
remove_flow flow moment library = record library {
  catalog = after_drop flow library.catalog;
  requests = after_end flow moment library.requests;
}

-- ---- the changes

-- a flow is put: it comes, with its source where that is new too, or its body is replaced
abbrev pub after_put_flow : ℕ → FlowBody → Library → Library
after_put_flow moment body library =
    record library { catalog = after_put body moment library.catalog }

-- a part of a flow is set or cleared
abbrev pub after_set_flow : ℕ → ℕ → Part → Library → Library
after_set_flow moment flow part library =
    record library { catalog = after_set flow part moment library.catalog }

-- a part of a source is set or cleared
abbrev pub after_set_source_part : ℕ → ℕ → Part → Library → Library
after_set_source_part moment source part library =
    record library { catalog = after_set_source source part moment library.catalog }

-- a flow goes with all its segments
abbrev pub after_drop_flow : ℕ → ℕ → Library → Library
after_drop_flow moment flow library =
    remove_flow flow moment (remove_segments (segments_of flow library.segments) moment library)

-- objects without bytes come, with the next serials in list order
abbrev pub after_allocate : ℕ → List (List ℕ) → Library → Library
after_allocate moment ids library = record library {
  objects = library.objects ++ allocated_rows library.next_serial moment ids;
  next_serial = library.next_serial + length ids;
}

-- an allocated object has its bytes at a place from now on, and their digest where one is kept
abbrev pub after_store : ℕ → List ℕ → ℕ → ℕ → Option Digest → Library → Library
after_store moment object start size digest library =
    record library {
      objects = with_object object (stored_row start size digest moment) library.objects;
    }

-- the rows of a post, with rising serials in its order
abbrev pub added_rows : ℕ → List Segment → Library → List SegmentRow
added_rows flow segments library = posted flow library.next_serial segments

-- the segments of a post come to a flow
abbrev pub after_add : ℕ → ℕ → List Segment → Library → Library
after_add moment flow segments library = record library {
  catalog = after_touch flow moment library.catalog;
  segments = library.segments ++ added_rows flow segments library;
  next_serial = library.next_serial + length segments;
}

-- the segments that a range covers go
abbrev pub after_cut : ℕ → ℕ → Option Span → Library → Library
after_cut moment flow range library =
    touch_flow flow (covered library.segments flow range) moment
    (remove_segments (covered library.segments flow range) moment library)

-- a delete request comes, with the next serial; no segment goes yet
abbrev pub after_ask : ℕ → Deletion → Library → Library
after_ask moment asked library = record library {
  requests = library.requests ++ asked_row asked library.next_serial moment ∷ [];
  next_serial = library.next_serial + 1;
}

-- ---- a delete step

-- the step leaves none of the request's segments, and the request deletes its flow
abbrev pub is_flow_gone : DeleteRow → Library → Bool
is_flow_gone request library = is_finished_by_step library.segments request && request.delete_flow

-- the request after its segments went
abbrev pub with_step : DeleteRow → ℕ → Library → Library
with_step request moment library =
    let finished = is_finished_by_step library.segments request in
    record library { requests = after_step request.serial finished moment library.requests }

-- the first segments of the request go, and the flow with the last ones where the request deletes
-- it
abbrev pub after_request_step : ℕ → DeleteRow → Library → Library
after_request_step moment request library =
    let removed = removed_by_step library.segments request in
    let touched : Library = touch_flow request.flow removed moment
    (with_step request moment library) in
    let stepped : Library = remove_segments removed moment touched in
    if is_flow_gone request library then remove_flow request.flow moment stepped else stepped

-- a step of the request that is due; where none is, all stays
abbrev pub after_step_of : Option DeleteRow → ℕ → Library → Library
after_step_of None moment library = library
after_step_of (Some request) moment library = after_request_step moment request library

-- the unfinished request of least serial is worked off by one step
abbrev pub after_delete_step : ℕ → Library → Library
after_delete_step moment library = after_step_of (first_unfinished library.requests) moment library

-- ---- a sweep, hooks, and deliveries

-- the first objects that are due go
abbrev pub after_sweep : ℕ → Library → Library
after_sweep moment library =
    let swept = swept_objects library.segments library.objects moment in
    record library { objects = without_objects swept library.objects }

-- a hook comes, with the next serial, in place of the one of its address
abbrev pub after_hook : Hook → Library → Library
after_hook hook library = record library {
  outbox = after_put_hook hook library.next_serial library.outbox;
  next_serial = library.next_serial + 1;
}

-- the hook of an address goes with the events that wait for it
abbrev pub without_hook : List ℕ → Library → Library
without_hook url library = record library { outbox = after_drop_hook url library.outbox }

-- an event was delivered, and waits no longer
abbrev pub without_event : ℕ → Library → Library
without_event event library = record library { outbox = after_delivered event library.outbox }

-- ---- what each change makes happen

-- a step makes happen what the going of its segments does, and where the flow goes, what that does
abbrev pub request_step_events : DeleteRow → Library → List Happened
request_step_events request library =
    if is_flow_gone request library
    then drop_events library.catalog request.flow (removed_by_step library.segments request)
    else removed_events library.catalog request.flow (removed_by_step library.segments request)

-- the same of a step of the request that is due, if one is
abbrev pub step_events : Option DeleteRow → Library → List Happened
step_events None library = []
step_events (Some request) library = request_step_events request library

-- What a change makes happen in a library, in order: to flows, to their segments and to sources. Of
-- objects, of requests that are made, of hooks and of deliveries no event tells.
abbrev pub happened_in : Change → Library → List Happened
happened_in (changes.PutFlow moment flow) library = put_events library.catalog flow
happened_in (changes.SetFlow moment flow part) library = set_events library.catalog flow
happened_in (changes.SetSource moment source part) library = source_event SourceUpdated source ∷ []
happened_in (changes.DropFlow moment flow) library =
    drop_events library.catalog flow (segments_of flow library.segments)
happened_in (changes.Allocate moment flow objects) library = []
happened_in (changes.Store moment object start size digest) library = []
happened_in (changes.AddSegments moment flow posts) library =
    added_events library.catalog flow (added_rows flow posts.segments library)
happened_in (changes.CutSegments moment flow range) library =
    removed_events library.catalog flow (covered library.segments flow range)
happened_in (changes.AskDelete moment flow range delete_flow) library = []
happened_in (changes.DeleteStep moment) library =
    step_events (first_unfinished library.requests) library
happened_in (changes.SweepStep moment) library = []
happened_in (changes.PutHook moment hook) library = []
happened_in (changes.DropHook moment url) library = []
happened_in (changes.Delivered moment event) library = []

-- ---- all together

-- a library once the rows of a change are there, and its events aren't yet
abbrev pub with_change : Change → Library → Library
with_change (changes.PutFlow moment flow) library = after_put_flow moment flow library
with_change (changes.SetFlow moment flow part) library = after_set_flow moment flow part library
with_change (changes.SetSource moment source part) library =
    after_set_source_part moment source part library
with_change (changes.DropFlow moment flow) library = after_drop_flow moment flow library
with_change (changes.Allocate moment flow objects) library = after_allocate moment objects library
with_change (changes.Store moment object start size digest) library =
    after_store moment object start size digest library
with_change (changes.AddSegments moment flow posts) library =
    after_add moment flow posts.segments library
with_change (changes.CutSegments moment flow range) library = after_cut moment flow range library
with_change (changes.AskDelete moment flow range delete_flow) library =
    after_ask moment (record { flow = flow; range = range; delete_flow = delete_flow }) library
with_change (changes.DeleteStep moment) library = after_delete_step moment library
with_change (changes.SweepStep moment) library = after_sweep moment library
with_change (changes.PutHook moment hook) library = after_hook hook library
with_change (changes.DropHook moment url) library = without_hook url library
with_change (changes.Delivered moment event) library = without_event event library

-- the moment of a change
abbrev pub moment_of : Change → ℕ
moment_of (changes.PutFlow moment flow) = moment
moment_of (changes.SetFlow moment flow part) = moment
moment_of (changes.SetSource moment source part) = moment
moment_of (changes.DropFlow moment flow) = moment
moment_of (changes.Allocate moment flow objects) = moment
moment_of (changes.Store moment object start size digest) = moment
moment_of (changes.AddSegments moment flow posts) = moment
moment_of (changes.CutSegments moment flow range) = moment
moment_of (changes.AskDelete moment flow range delete_flow) = moment
moment_of (changes.DeleteStep moment) = moment
moment_of (changes.SweepStep moment) = moment
moment_of (changes.PutHook moment hook) = moment
moment_of (changes.DropHook moment url) = moment
moment_of (changes.Delivered moment event) = moment

-- what a change makes of a library: its rows, and then its events with the serials behind theirs
abbrev pub after : Change → Library → Library
after change library =
    with_happened (happened_in change library) (moment_of change) (with_change change library)
