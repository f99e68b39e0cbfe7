-- What a store keeps in memory, when it agrees with a device, and what a crash at a moment of a
-- change may leave. Our own rules.
use Rattle.std.specs.Prelude.{◌≡◌, ◌*◌, ◌⊎◌, ℕ, Bool, true, false, List}
use Rattle.disk_trait.specs.Forms.{form_in_use}
use Rattle.media_rows.specs.declared.object.ObjectRow.{ObjectRow}
use Rattle.media_rows.specs.Library.{Library}
use Rattle.disk_trait.specs.Device.{Device, Left, may_leave}
use Rattle.media_journal.specs.declared.header.Header.{Header}
use Rattle.media_journal.specs.declared.record.Record.{Record}
use Rattle.media_journal.specs.Checkpoint.{after_checkpoint}
use Rattle.media_journal.specs.Journal.{Contents, Position, after_append}
use Rattle.media_journal.specs.JournalMoments.{EachGives}
use Rattle.store_states.specs.States.{Makes, StandsFor, StoreState, held_in, media_start}

-- a library, and where its journal stands
pub record StoreView : Type 0 where
  pub library : Library
  pub journal : Position

-- the state that is kept, where these are the bytes of the objects
abbrev pub kept_state : StoreView → List (List ℕ) → StoreState
kept_state kept held = record {
  archive = record { library = kept.library; held = held };
  room = kept.journal.room;
  half = 4096 * kept.journal.half;
}

-- what is kept once a record with a payload of n bytes was appended, and this is the library then
abbrev pub kept_after : StoreView → Library → ℕ → StoreView
kept_after kept next n = record { library = next; journal = after_append kept.journal n }

-- what is kept once a checkpoint with rows of n bytes was made
abbrev pub kept_checked : StoreView → ℕ → StoreView
kept_checked kept n = record kept { journal = after_checkpoint kept.journal n }

-- what a half of the form in use holds
abbrev pub half_of : Header → List ℕ → List Record → Contents
half_of header text records =
    record { header = header; form = form_in_use; rows = text; records = records }

-- each image that a crash now may leave has these bytes of these objects
abbrev pub HoldsEach : Device → ℕ → List ObjectRow → List (List ℕ) → Type 0
HoldsEach d area objects held =
    (left : Left) → may_leave d left → held_in left.image area objects ≡ held

-- What is kept agrees with a device: each image that a crash now may leave gives the journal rows
-- and records that make the library, and has these bytes of its objects. Free blocks may hold any
-- bytes.
pub record AgreesWith (d : Device) (kept : StoreView) (held : List (List ℕ)) : Type 0 where
  pub header : Header
  pub text : List ℕ
  pub records : List Record
  pub gives : EachGives d kept.journal (half_of header text records)
  pub makes : Makes form_in_use header text records kept.library
  pub bytes : HoldsEach d (media_start header.half) kept.library.objects held

-- so far the image stands for the state before a change or for the one after it, and nothing was
-- told
pub record Moves (before after : StoreState) (old new : Left) : Type 0 where
  pub told : new.told ≡ old.told
  pub image : StandsFor new.image before ⊎ StandsFor new.image after

-- it stands for the one after it
pub record Moved (after : StoreState) (old new : Left) : Type 0 where
  pub told : new.told ≡ old.told
  pub image : StandsFor new.image after

-- how a change ends, by whether it has succeeded
abbrev pub MoveEnds : Bool → StoreState → StoreState → Left → Left → Type 0
MoveEnds true before after = Moved after
MoveEnds false before after = Moves before after
