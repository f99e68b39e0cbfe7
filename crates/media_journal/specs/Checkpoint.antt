-- What a checkpoint writes and leaves: the other half with its rows, and the selector that names
-- it.
use Rattle.std.specs.Prelude.{◌≡◌, ◌+◌, ◌-◌, ◌*◌, ◌/◌, ◌⊎◌, ◌==◌, ℕ, Bool, true, false, List, [], ◌∷◌, length, if◌then◌else◌}
use Rattle.disk_trait.specs.Device.{Left}
use Rattle.disk_trait.specs.Calls.{Torn, overwritten}
use Rattle.disk_trait.specs.Forms.{form_in_use}
use Rattle.media_journal.specs.Formatting.{half_text}
use Rattle.media_journal.specs.Journal.{Contents, Gives, HasInHalf, Position}

-- at most so many writes put n bytes of rows into a half, in pieces
abbrev pub row_writes : ℕ → ℕ
row_writes n = 1 + n / 1048576

-- at most so many calls make a checkpoint with n bytes of rows: the writes of their length, of the
-- rows, and of the closed gate, and a sync; and a write and a sync of the selector
abbrev pub checkpoint_calls : ℕ → ℕ
checkpoint_calls n = 5 + row_writes n

-- where the other half begins, where one of so many blocks begins here
abbrev pub other_of : ℕ → ℕ → ℕ
other_of start half = if start == 8192 then 8192 + 4096 * half else 8192

-- where the half begins that isn't the journal's
abbrev pub other_start : Position → ℕ
other_start p = other_of p.start p.half

-- the selector's byte that names the half that begins here
abbrev pub selector_for : ℕ → ℕ
selector_for start = if start == 8192 then 0 else 1

-- the position in the other half, behind n bytes of rows
abbrev pub after_checkpoint : Position → ℕ → Position
after_checkpoint p n = record p {
  start = other_start p;
  gate = other_start p + (8 + n);
  room = 4096 * p.half - (8 + n);
}

-- The image with a checkpoint: the other half with its rows and a closed gate, and then the
-- selector, which is 0 for half A and 1 for half B.
abbrev pub with_checkpoint : Position → List ℕ → List ℕ → List ℕ
with_checkpoint p rows image =
    overwritten 4096 (selector_for (other_start p) ∷ [])
    (overwritten (other_start p) (half_text rows) image)

-- what a half holds after a checkpoint: these rows in the form in use, and no record
abbrev pub with_rows : List ℕ → Contents → Contents
with_rows rows held = record held { form = form_in_use; rows = rows; records = [] }

-- only the other half, up to the closed gate behind n bytes of rows, and the selector may differ
pub record WritesOther (p : Position) (n : ℕ) (old new : List ℕ) : Type 0 where
  pub between : List ℕ
  pub half : Torn (other_start p) (9 + n) old between
  pub selector : Torn 4096 1 between new

-- the journal's half holds what it held, and the other one these rows and no record
pub record HoldsBoth (image : List ℕ) (p : Position) (rows : List ℕ)
    (held : Contents) : Type 0 where
  pub old : HasInHalf image p held
  pub new : HasInHalf image (after_checkpoint p (length rows)) (with_rows rows held)

-- the image gives what the journal's half held, or these rows and no record
abbrev pub GivesEither : List ℕ → Position → List ℕ → Contents → Type 0
GivesEither image p rows held =
    Gives image p held ⊎ Gives image (after_checkpoint p (length rows)) (with_rows rows held)

-- Until the other half is whole the image gives what the journal's half holds. From then on both
-- halves read so, whatever the selector's byte holds.
abbrev pub HoldsInHalves : List ℕ → Position → List ℕ → Contents → Type 0
HoldsInHalves image p rows held = Gives image p held ⊎ HoldsBoth image p rows held

-- What a checkpoint may have done so far: nothing was told, only the other half and the selector
-- may differ, and by the half that it names the image gives what the journal's half held, or the
-- rows and no record.
pub record KeepsOrSwitches (p : Position) (rows : List ℕ) (held : Contents)
    (old new : Left) : Type 0 where
  pub told : new.told ≡ old.told
  pub elsewhere : WritesOther p (length rows) old.image new.image
  pub halves : HoldsInHalves new.image p rows held
  pub image : GivesEither new.image p rows held

-- what it has done once it has succeeded
pub record Switches (p : Position) (rows : List ℕ) (held : Contents)
    (old new : Left) : Type 0 where
  pub told : new.told ≡ old.told
  pub elsewhere : WritesOther p (length rows) old.image new.image
  pub halves : HoldsBoth new.image p rows held
  pub image : Gives new.image (after_checkpoint p (length rows)) (with_rows rows held)

-- what it has done at its end, by whether it has succeeded
abbrev pub CheckpointEnds : Bool → Position → List ℕ → Contents → Left → Left → Type 0
CheckpointEnds true = Switches
CheckpointEnds false = KeepsOrSwitches
