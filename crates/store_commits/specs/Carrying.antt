-- What one whole change of a store leaves of its archive: the library with the bytes of its
-- objects. A change may be a checkpoint and a record behind it. A crash between both leaves the
-- same archive with another room in the journal, so moments are said by archives and not by states.
-- Our own rules.
use Rattle.std.specs.Prelude.{◌≡◌, ◌+◌, ◌*◌, ◌⊎◌, ℕ, Bool, true, false, List, length, Option, Some, None, IfSome}
use Rattle.disk_trait.specs.Forms.{form_in_use}
use Rattle.media_rows.specs.Library.{Library}
use Rattle.media_rows.specs.Media.{Archive}
use Rattle.disk_trait.specs.Calls.{Elapses}
use Rattle.disk_trait.specs.Device.{Device, Left}
use Rattle.media_journal.specs.Checkpoint.{after_checkpoint, checkpoint_calls}
use Rattle.media_journal.specs.Journal.{Position, after_append}
use Rattle.store_states.specs.Kept.{AgreesWith, StoreView, kept_state}
use Rattle.store_states.specs.States.{IsTextOf, StandsFor}

-- ---- what an image has

-- the image stands for an archive, where a half has so many bytes, and some room is left in the
-- journal's half
pub record HasArchive (half : ℕ) (archive : Archive) (image : List ℕ) : Type 0 where
  pub room : ℕ
  pub stands : StandsFor image (record { archive = archive; room = room; half = half })

-- so far the image stands for the archive before a change or for the one after it, and nothing was
-- told
pub record Replaces (half : ℕ) (before after : Archive) (old new : Left) : Type 0 where
  pub told : new.told ≡ old.told
  pub image : HasArchive half before new.image ⊎ HasArchive half after new.image

-- it stands for the one after it
pub record Replaced (half : ℕ) (after : Archive) (old new : Left) : Type 0 where
  pub told : new.told ≡ old.told
  pub image : HasArchive half after new.image

-- how a change ends, by whether it has succeeded
abbrev pub ReplaceEnds : Bool → ℕ → Archive → Archive → Left → Left → Type 0
ReplaceEnds true half before after = Replaced half after
ReplaceEnds false half before after = Replaces half before after

-- The call carries a store from one archive to that of what is kept next, or fails: at each moment
-- of it a crash leaves one of both. Where it has succeeded, the next one alone is left, and what is
-- kept agrees with the device.
pub record Carries (ok : Bool) (before : Archive) (next : StoreView) (held : List (List ℕ))
    (old new : Device) : Type 0 where
  pub moments : Elapses
      (Replaces (kept_state next held).half before (kept_state next held).archive)
      (ReplaceEnds ok (kept_state next held).half before (kept_state next held).archive) old new
  pub agrees : ok ≡ true → AgreesWith new next held

-- ---- what is written

-- the rows of a checkpoint, if there are some, are those of the library
abbrev pub AreRowsOf : Option (List ℕ) → Library → Type 0
AreRowsOf rows library =
    IfSome rows (λ text. IsTextOf form_in_use library.id library.blocks text library)

-- where the journal stands once the rows of a checkpoint were written, if there are some
abbrev pub journal_for : Position → Option (List ℕ) → Position
journal_for p None = p
journal_for p (Some rows) = after_checkpoint p (length rows)

-- what is kept once a change was written, and this is the library then
abbrev pub kept_written : StoreView → Option (List ℕ) → Library → List ℕ → StoreView
kept_written kept rows next frame =
    record { library = next; journal = after_append (journal_for kept.journal rows) (length frame) }

-- the bytes that a checkpoint hands to the disk
abbrev pub rows_bytes : Option (List ℕ) → ℕ
rows_bytes None = 0
rows_bytes (Some rows) = length rows + 10

-- at most so many calls make it
abbrev pub rows_calls : Option (List ℕ) → ℕ
rows_calls None = 0
rows_calls (Some rows) = checkpoint_calls (length rows)

-- the bytes that a whole change hands to the disk
abbrev pub written_bytes : Option (List ℕ) → List ℕ → ℕ
written_bytes rows frame = rows_bytes rows + (length frame + 6)
