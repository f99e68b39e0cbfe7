-- What formatting a device answers and leaves.
use Rattle.std.specs.Prelude.{◌≡◌, ◌≤◌, ◌+◌, ◌*◌, ℕ, Bool, true, false, List, [], ◌∷◌, ◌++◌, length, Result, Ok, Err}
use Rattle.disk_trait.specs.Calls.{overwritten}
use Rattle.disk_trait.specs.Forms.{form_in_use}
use Rattle.media_journal.specs.declared.header.Header.{Header}
use Rattle.media_journal.specs.declared.format.Gate.{Gate}
use Rattle.media_journal.specs.declared.format.Gate.TheVariants as gates
use Rattle.media_journal.specs.declared.fault.FormatFault.{FormatFault}
use Rattle.media_journal.specs.declared.fault.FormatFault.TheVariants.{AlreadyStore, TooSmall, Disk, Memory}
use Rattle.media_journal.specs.File.{HasOpenHeader, AreSizes, IsClosedGate, IsOpenGate, Reads, rows_text}

-- the numbers fit the device, and the rows a half
pub record FitsStore (h : Header) (size : ℕ) (rows : List ℕ) : Type 0 where
  pub sizes : AreSizes h size
  pub room : length rows + 9 ≤ 4096 * h.half

-- what formatting answers over an image, and the image that it leaves at Ok: the header, half A
-- active in the form in use with the rows, and no record
abbrev pub FormatAnswer : List ℕ → List ℕ → Header → List ℕ → Result (Unit {0}) FormatFault → Type 0
FormatAnswer old new h rows (Ok _) =
    (¬ (HasOpenHeader old)) × FitsStore h (length old) rows
    × Reads new h (8192 + (8 + length rows)) form_in_use rows []
FormatAnswer old new h rows (Err AlreadyStore) = HasOpenHeader old
FormatAnswer old new h rows (Err TooSmall) =
    (¬ (HasOpenHeader old)) × (¬ (FitsStore h (length old) rows))
FormatAnswer old new h rows (Err Disk) = Unit {0}
FormatAnswer old new h rows (Err Memory) = Unit {0}

-- what holds where formatting is refused, or where there was no memory
abbrev pub OnRefusal : Result (Unit {0}) FormatFault → Type 0 → Type 0
OnRefusal (Ok _) T = Unit {0}
OnRefusal (Err AlreadyStore) T = T
OnRefusal (Err TooSmall) T = T
OnRefusal (Err Disk) T = Unit {0}
OnRefusal (Err Memory) T = T

-- no call of the device failed
abbrev pub format_ok : {T : Type 0} → Result T FormatFault → Bool
format_ok (Err Disk) = false
format_ok _ = true

-- the header's gate is open, and what stands before it is no header
pub record IsStray (image : List ℕ) : Type 0 where
  pub gate : IsOpenGate image 40
  pub bare : ¬ (HasOpenHeader image)

-- what stands at the gate of an image's header
abbrev pub GateIs : List ℕ → Gate → Type 0
GateIs image gates.Store = HasOpenHeader image
GateIs image gates.Stray = IsStray image
GateIs image gates.Closed = IsClosedGate image 40

-- the bytes of a half of the form in use without a record: its rows with its form and their length
-- before them, and a closed gate of 0
unfoldable pub half_text : List ℕ → List ℕ
half_text rows = rows_text form_in_use rows ++ 0 ∷ []

-- The image with a store: the header's text, a selector of 0, half A, and the header's gate, which
-- is opened last.
abbrev pub with_store : List ℕ → List ℕ → List ℕ → List ℕ
with_store header half image =
    overwritten 40 (1 ∷ [])
    (overwritten 8192 half (overwritten 4096 (0 ∷ []) (overwritten 0 header image)))

-- the new image is the old one with a store: that its gate may have been closed first leaves
-- nothing
abbrev pub IsFormatted : List ℕ → List ℕ → List ℕ → List ℕ → Type 0
IsFormatted header half old new = new ≡ with_store header half old
