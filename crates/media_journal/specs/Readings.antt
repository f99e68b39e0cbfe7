-- That an image reads in one way, and is answered in one way.
use Rattle.std.specs.Prelude.{◌≡◌, ℕ, List, Result, Err}
use Rattle.media_journal.specs.declared.header.Header.{Header}
use Rattle.media_journal.specs.declared.record.Record.{Record}
use Rattle.media_journal.specs.declared.open.Opened.{Opened}
use Rattle.media_journal.specs.declared.fault.JournalFault.{JournalFault}
use Rattle.media_journal.specs.declared.fault.JournalFault.TheVariants.{Disk, Memory}
use Rattle.media_journal.specs.File.{Reads, ReadsTorn, IsUnreadable}
use Rattle.media_journal.specs.Opening.{IsStore, DamagedAt, OpenAnswer}

-- two readings of an image are one: their headers, the places of their closed gates, their forms,
-- their rows and their records
abbrev pub HasOneReading : List ℕ → Type 0
HasOneReading image =
    (h j : Header) (gate at form again : ℕ) (rows other : List ℕ) (records found : List Record)
    → Reads image h gate form rows records → Reads image j at again other found
    → (j ≡ h) × (at ≡ gate) × (again ≡ form) × (other ≡ rows) × (found ≡ records)

-- the same of two that end at a torn record
abbrev pub HasOneTornReading : List ℕ → Type 0
HasOneTornReading image =
    (h j : Header) (torn at form again : ℕ) (rows other : List ℕ) (records found : List Record)
    → ReadsTorn image h torn form rows records → ReadsTorn image j at again other found
    → (j ≡ h) × (at ≡ torn) × (again ≡ form) × (other ≡ rows) × (found ≡ records)

-- an image that reads is that of a store
abbrev pub ReadsAsStore : List ℕ → Type 0
ReadsAsStore image =
    (h : Header) (gate form : ℕ) (rows : List ℕ) (records : List Record)
    → Reads image h gate form rows records → IsStore image

-- an image that reads up to a torn record doesn't read
abbrev pub TornIsUnreadable : List ℕ → Type 0
TornIsUnreadable image =
    (h : Header) (at form : ℕ) (rows : List ℕ) (records : List Record)
    → ReadsTorn image h at form rows records → IsUnreadable image

-- nor does one that is damaged
abbrev pub DamagedIsUnreadable : List ℕ → Type 0
DamagedIsUnreadable image = (at : ℕ) → DamagedAt image at → IsUnreadable image

-- the image decides the answer: no call of the device failed, and there was memory
abbrev pub IsDecided : Result Opened JournalFault → Type 0
IsDecided (Err Disk) = ⊥
IsDecided (Err Memory) = ⊥
IsDecided _ = Unit {0}

-- two answers that the image decides are one
abbrev pub HasOneAnswer : List ℕ → Type 0
HasOneAnswer image =
    (answer other : Result Opened JournalFault) → IsDecided answer → IsDecided other
    → OpenAnswer image answer → OpenAnswer image other → other ≡ answer
