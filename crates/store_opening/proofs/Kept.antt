-- What is kept of an image that was opened: the state for which it stands, and that the device agrees.
use Rattle.std.proofs.Common.{◌≡◌, ◌∙◌, ◌+◌, ◌*◌, ℕ, List, sym, ap}
use Rattle.disk_trait.specs.Device.{Device}
use Rattle.disk_trait.specs.Calls.{LeavesOnly}
use Rattle.store_states.specs.Kept.{AgreesWith, StoreView}
use Rattle.media_journal.proofs.ReadingLemmas.{gives_reads}
use Rattle.store_states.specs.States.{StandsBy, held_in, library_in, media_start}
use Rattle.store_states.proofs.Agreeing.{image_stands}
use Rattle.store_opening.specs.Laws.{KeptStands}
use Rattle.store_opening.specs.Opening.{IsKept, IsKeptBy, archive_read, bytes_in_image, contents_in, state_read}

-- the header's half is the journal's
bytes_are : (image : List ℕ) (kept : StoreView) (is : IsKept image kept)
    → held_in image (media_start is.header.half) kept.library.objects ≡ bytes_in_image image kept
bytes_are image kept is =
    ap (λ (half : ℕ). held_in image (media_start half) kept.library.objects) (sym is.gives.half.half_blocks)

-- the state of what is kept, by a half of whatever form
pub read_stands : (form : ℕ) (image : List ℕ) (kept : StoreView) → IsKeptBy form image kept → StandsBy form image (state_read form image kept)
read_stands form image kept is =
    let half = is.gives.half.half_blocks in
    record {
      header = is.header;
      gate = kept.journal.gate;
      text = is.text;
      records = is.records;
      reads = gives_reads image kept.journal (contents_in form is.header is.text is.records) is.gives;
      made = kept.library;
      makes = is.makes;
      library = ap (λ h. library_in form image (media_start h) kept.library) half;
      held = ap (λ h. held_in image (media_start h) (archive_read form image kept).library.objects) half;
      room = is.gives.half.room ∙ ap (λ start. start + 4096 * is.header.half) is.gives.active;
      half = ap (λ h. 4096 * h) half;
    }

pub kept_stands : KeptStands
kept_stands image kept is =
    image_stands kept (bytes_in_image image kept) is.header is.text is.records is.makes image is.gives (bytes_are image kept is)

-- where the image is the only one that a crash now may leave, what is kept of it agrees with the device
pub kept_agrees : (image : List ℕ) (d : Device) (kept : StoreView) → LeavesOnly image d → IsKept image kept
    → AgreesWith d kept (bytes_in_image image kept)
kept_agrees image d kept settled is = record {
  header = is.header;
  text = is.text;
  records = is.records;
  gives = record { gives = λ left could. rw (settled left could) is.gives };
  makes = is.makes;
  bytes = λ left could. rw (settled left could) (bytes_are image kept is);
}
