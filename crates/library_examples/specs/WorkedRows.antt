-- The rows of a snapshot of the examples, and books that are made from rows.
use Rattle.std.specs.Prelude.{◌≡◌, ℕ, ◌+◌, [], ◌∷◌, true, false, Some, None, map, reverse}
use Rattle.media_rows.specs.declared.event.EventKind.TheVariants.{FlowUpdated, SegmentsAdded, SourceUpdated}
use Rattle.media_rows.specs.declared.request.DeleteRow.{DeleteRow}
use Rattle.media_rows.specs.declared.request.DeleteStatus.TheVariants as statuses
use Rattle.media_rows.specs.declared.request.Deletion.{Deletion}
use Rattle.media_rows.specs.Changes.{after}
use Rattle.media_rows.specs.Library.{Library}
use Rattle.media_rows.specs.Lists.{rises, numbers_below}
use Rattle.media_rows.specs.Ranges.{eternity}
use Rattle.media_rows.specs.Requests.{newest_done, asked_row}
use Rattle.media_rows.specs.Restoring.{catalog_of, can_restore_catalog, can_restore_requests}
use Rattle.media_rows.specs.Snapshot.{library_of, rows_of, row_before, kind_number}
use Rattle.library_examples.specs.Examples.{first_flow, one_source, empty_store, seconds, shared, listen}
use Rattle.library_examples.specs.Studio.{left_source, bare_source, main_flow, sound_flow, both_flow, object_a, object_b, object_c, later_piece, early_piece, third_piece, last_piece, open_request, done_request, one_hook, two_hook, event, studio}
use Rattle.media_rows.specs.declared.row.Row.TheVariants as rows

-- ---- done requests

-- the segments of the first flow go, and the flow stays
abbrev pub all_segments : Deletion
all_segments = record { flow = first_flow; range = eternity; delete_flow = false }

-- a done request of this serial for the whole of the first flow
abbrev pub done_one : ℕ → DeleteRow
done_one serial = record (asked_row all_segments serial 0) { status = statuses.Done }

-- a request of serial 0 for the whole of the first flow, before its first step
abbrev pub waiting_request : DeleteRow
waiting_request = asked_row all_segments 0 0

-- The 64 done requests of highest serials are kept, and each unfinished one.
pub record DoneOnesStay : Type 0 where
  pub sixty_four :
      map (λ row. row.serial)
      (newest_done (waiting_request ∷ map (λ i. done_one (i + 1)) (numbers_below 66)))
      ≡ 0 ∷ map (λ i. i + 3) (numbers_below 64)
  pub too_many : can_restore_requests (map done_one (numbers_below 65)) ≡ false
  pub enough : can_restore_requests (map done_one (numbers_below 64)) ≡ true

-- ---- snapshots

-- both flows and a hook
abbrev pub shared_and_heard : Library
shared_and_heard = after listen shared

-- A snapshot has its rows by kind, segments by flow and first point, and the next serial last.
pub record SnapshotsHaveAll : Type 0 where
  pub kinds : map kind_number (rows_of shared_and_heard) ≡ 1 ∷ 2 ∷ 2 ∷ 3 ∷ 4 ∷ 4 ∷ 6 ∷ 8 ∷ []
  pub rising : rises row_before (rows_of shared_and_heard) ≡ true
  pub whole : rows_of studio
      ≡ rows.Source left_source ∷ rows.Source bare_source
      ∷ rows.Flow main_flow ∷ rows.Flow sound_flow ∷ rows.Flow both_flow
      ∷ rows.Object object_a ∷ rows.Object object_b ∷ rows.Object object_c
      ∷ rows.Segment early_piece ∷ rows.Segment later_piece ∷ rows.Segment last_piece
      ∷ rows.Segment third_piece
      ∷ rows.Request open_request ∷ rows.Request done_request
      ∷ rows.Hook one_hook ∷ rows.Hook two_hook
      ∷ rows.Event (event 12 10 FlowUpdated first_flow None 141)
      ∷ rows.Event (event 13 11 SourceUpdated one_source None 142)
      ∷ rows.Event (event 14 10 SegmentsAdded first_flow (Some (seconds 10 20)) 143)
      ∷ rows.Numbers 15 ∷ []
  pub studio_rises : rises row_before (rows_of studio) ≡ true
  pub empty : rows_of empty_store ≡ rows.Numbers 1 ∷ []

-- Rows make the library that they are of, each row at its place alone.
pub record LibrariesAreMade : Type 0 where
  pub whole : library_of 1 46 (rows_of studio) ≡ studio
  pub none : library_of 1 46 [] ≡ empty_store
  pub hook : (library_of 1 46 (rows.Hook two_hook ∷ [])).outbox.hooks ≡ two_hook ∷ []
  pub event_row :
      (library_of 1 46 (rows.Event (event 12 10 FlowUpdated 241 None 141) ∷ [])).outbox.events
      ≡ event 12 10 FlowUpdated 241 None 141 ∷ []
  pub serial : (library_of 1 46 (rows.Numbers 15 ∷ [])).next_serial ≡ 15

-- ---- books

-- A book is the same from rows in another order, but refused where flows have no source.
pub record RowsAreKept : Type 0 where
  pub same_book : catalog_of shared.catalog.sources (reverse shared.catalog.flows) ≡ shared.catalog
  pub studio_book : catalog_of (reverse studio.catalog.sources) (reverse studio.catalog.flows)
      ≡ studio.catalog
  pub restored : can_restore_catalog shared.catalog.sources shared.catalog.flows ≡ true
  pub sourceless : can_restore_catalog [] shared.catalog.flows ≡ false
