-- What changes need of a library, each of which a good library meets, and the refusal of an
-- allocation. Our own rules.
use Rattle.std.specs.Prelude.{◌≡◌, ◌≤◌, ℕ, List, [], IsTrue, Option, None}
use Rattle.media_rows.specs.declared.object.Extent.{Extent}
use Rattle.media_rows.specs.declared.refusal.Refusal.{Refusal}
use Rattle.media_rows.specs.Answer.{change_refusal, first_taken, is_kept_object, keep_refusal, taken_refusal}
use Rattle.media_rows.specs.Catalog.{no_flow_refusal}
use Rattle.media_rows.specs.Good.{Good, are_sources_good}
use Rattle.media_rows.specs.Library.{Library, last_serial}
use Rattle.media_rows.specs.Lists.{or_else}
use Rattle.media_rows.specs.Objects.{object_of}
use Rattle.media_book.specs.Media.{are_objects_below, are_segments_below, can_take, media_of}
use Rattle.delete_work.specs.Work.{OfDue, are_requests_below}
use Rattle.webhook_outbox.specs.Delivered.{IsBehind, IsBehindHooks}

-- Serials haven't ended, and the next one is above those of all rows. Each flow has its source and
-- each source a flow, and the flow of the request that is due is kept.
pub record IsReady (library : Library) : Type 0 where
  pub within : library.next_serial ≤ last_serial
  pub segments : IsTrue (are_segments_below library.next_serial library.segments)
  pub objects : IsTrue (are_objects_below library.next_serial library.objects)
  pub requests : IsTrue (are_requests_below library.next_serial library.requests)
  pub hooks : IsBehindHooks library.next_serial library.outbox.hooks
  pub events : IsBehind library.next_serial library.outbox.events
  pub sources : IsTrue (are_sources_good library.catalog)
  pub due : OfDue library.requests (λ row. no_flow_refusal library.catalog row.flow ≡ None)

-- a good library is ready
abbrev pub GoodIsReady : Type 0
GoodIsReady = (library : Library) → Good library → IsReady library

-- an object that isn't refused its bytes has a free place for them, which is block 0 where there
-- are none
abbrev pub HasRoom : Library → List ℕ → Extent → Type 0
HasRoom library object extent =
    keep_refusal (object_of object library.objects) ≡ None
    → IsTrue (can_take (media_of library) extent)

-- the refusal of an allocation of these ids, be they the store's own or a client's: the flow isn't
-- to change, or an id is kept or repeated
abbrev pub allocate_refusal : Library → ℕ → List (List ℕ) → Option Refusal
allocate_refusal library flow ids =
    or_else (change_refusal library flow)
    (taken_refusal (first_taken (is_kept_object library) [] ids))
