-- Words that the calls within this crate cite, and no other crate.
use Rattle.std.specs.Prelude.{◌⊎◌, ℕ, List, Result, Ok, Err}
use Rattle.media_journal.specs.declared.fault.JournalFault.{JournalFault}
use Rattle.media_journal.specs.declared.fault.JournalFault.TheVariants as journal
use Rattle.store_opening.specs.declared.fault.OpenFault.{OpenFault}
use Rattle.store_opening.specs.declared.fault.OpenFault.TheVariants.{Damaged, Memory}
use Rattle.store_opening.specs.declared.opening.ReadStore.{ReadStore}
use Rattle.store_opening.specs.Opening.{HasDamagedRow, HasOtherRows, IsKeptBy, StoreDamagedAt, view_of_read}

-- what holds of the place that a fault of rows or records names
abbrev pub AtDamage : {X : Type 0} → Result X OpenFault → (ℕ → Type 0) → Type 0
AtDamage (Ok x) Holds = Unit {0}
AtDamage (Err (Damaged at)) Holds = Holds at
AtDamage (Err Memory) Holds = Unit {0}

-- the rows of an image make no library: one of them is damaged, or all are others
abbrev pub RowsMakeNoLibrary : List ℕ → ℕ → Type 0
RowsMakeNoLibrary image at = HasDamagedRow image at ⊎ HasOtherRows image at

-- the store of what was opened of an image, or where the image is damaged
abbrev pub PartAnswer : List ℕ → Result ReadStore OpenFault → Type 0
PartAnswer image (Ok store) = IsKeptBy store.form image (view_of_read store)
PartAnswer image (Err (Damaged at)) = StoreDamagedAt image at
PartAnswer image (Err Memory) = Unit {0}

-- such a fault as one of opening a journal
abbrev pub opening_fault : OpenFault → JournalFault
opening_fault (Damaged at) = journal.Damaged at
opening_fault Memory = journal.Memory
