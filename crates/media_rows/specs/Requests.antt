-- Delete requests by rising serial, and the steps that work them off. Our own rules.
use Rattle.std.specs.Prelude.{ℕ, ◌==◌, nat_lt, nat_le, List, [], ◌∷◌, Bool, true, false, not, ◌&&◌, Option, if◌then◌else◌, filter, map, find, take, length}
use Rattle.std.specs.List.{list_any}
use Rattle.media_rows.specs.declared.request.DeleteRow.{DeleteRow}
use Rattle.media_rows.specs.declared.request.DeleteStatus.{DeleteStatus}
use Rattle.media_rows.specs.declared.request.DeleteStatus.TheVariants.{Created, Started, Done}
use Rattle.media_rows.specs.declared.request.Deletion.{Deletion}
use Rattle.media_rows.specs.declared.segment.SegmentRow.{SegmentRow}
use Rattle.media_rows.specs.Segments.{covered, without_segments}

-- the most segments that go at once, and in one step
abbrev pub step_size : ℕ
step_size = 32

-- the most done requests that are kept
abbrev pub done_kept : ℕ
done_kept = 64

-- a request in this state is worked off, or its flow is gone
abbrev pub is_done : DeleteStatus → Bool
is_done Created = false
is_done Started = false
is_done Done = true

-- a request was asked for, and steps have yet to work it off
abbrev pub is_unfinished : DeleteRow → Bool
is_unfinished row = not (is_done row.status)

-- the request of a serial, if it is kept, be it done or not
abbrev pub request_of : ℕ → List DeleteRow → Option DeleteRow
request_of serial requests = find (λ row. row.serial == serial) requests

-- the unfinished request of least serial, which is worked off next
abbrev pub first_unfinished : List DeleteRow → Option DeleteRow
first_unfinished requests = find is_unfinished requests

-- an unfinished request deletes the flow
abbrev pub is_deleting : List DeleteRow → ℕ → Bool
is_deleting requests flow =
    list_any (λ row. is_unfinished row && row.delete_flow && (row.flow == flow)) requests

-- the number of done requests
abbrev pub done_count : List DeleteRow → ℕ
done_count requests = length (filter (λ row. is_done row.status) requests)

-- the requests without the done ones of least serial, where there are too many
abbrev pub newest_done : List DeleteRow → List DeleteRow
newest_done [] = []
newest_done (row ∷ later) =
    if is_done row.status
    && nat_le done_kept (done_count later) then newest_done later else row ∷ newest_done later

-- a request that is asked for, of this serial and at this moment
abbrev pub asked_row : Deletion → ℕ → ℕ → DeleteRow
asked_row asked serial moment = record {
  serial = serial;
  flow = asked.flow;
  range = asked.range;
  delete_flow = asked.delete_flow;
  status = Created;
  created = moment;
  updated = moment;
}

-- ---- a step

-- the segments on which a request works: those of its flow that its range covers and that were
-- there before it, by rising first point
abbrev pub requested : List SegmentRow → DeleteRow → List SegmentRow
requested segments request =
    filter (λ row. nat_lt row.serial request.serial) (covered segments request.flow request.range)

-- those that its next step removes
abbrev pub removed_by_step : List SegmentRow → DeleteRow → List SegmentRow
removed_by_step segments request = take step_size (requested segments request)

-- those that its next step leaves
abbrev pub left_by_step : List SegmentRow → DeleteRow → List SegmentRow
left_by_step segments request =
    requested (without_segments (removed_by_step segments request) segments) request

-- nothing is left of what was asked for
abbrev pub is_finished_by_step : List SegmentRow → DeleteRow → Bool
is_finished_by_step segments request = length (left_by_step segments request) == 0

-- the request after the step
abbrev pub stepped_row : Bool → ℕ → DeleteRow → DeleteRow
stepped_row finished moment row =
    record row { status = if finished then Done else Started; updated = moment }

-- the requests after a step of the one of a serial; of more done ones than are kept, those of least
-- serial go
abbrev pub after_step : ℕ → Bool → ℕ → List DeleteRow → List DeleteRow
after_step serial finished moment requests =
    newest_done
    (map (λ row. if row.serial == serial then stepped_row finished moment row else row) requests)

-- the unfinished requests of a flow that goes become done
abbrev pub ended_row : ℕ → ℕ → DeleteRow → DeleteRow
ended_row flow moment row =
    if is_unfinished row
    && (row.flow == flow) then record row { status = Done; updated = moment } else row

-- the requests once a flow goes; of more done ones than are kept, those of least serial go
abbrev pub after_end : ℕ → ℕ → List DeleteRow → List DeleteRow
after_end flow moment requests = newest_done (map (ended_row flow moment) requests)
