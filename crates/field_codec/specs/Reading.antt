-- What a reader or a writer of one field answers, by the field's spelling.
use Rattle.std.specs.Prelude.{◌≡◌, ℕ, List, [], ◌∷◌, Option, Some, None, Result, Ok, Err}
use Rattle.field_codec.specs.Meaning.{Spells, WholeFault}
use Rattle.field_codec.specs.Spelling.{Spelling}
use Rattle.field_codec.specs.declared.fault.BadField.{BadField}
use Rattle.field_codec.specs.declared.fault.ReadFault.{ReadFault}
use Rattle.field_codec.specs.declared.fault.ReadFault.TheVariants as faults

-- a fault is the one that reading meets; want of memory is free
abbrev pub Fails : {Y : Type 0} → ReadFault → Result Y ℕ → Type 0
Fails faults.Memory read = Unit {0}
Fails (faults.Bad field) read = read ≡ Err field.left

-- What a reader answers: the value that reading gives, with the bytes that are left unread, or its
-- fault.
abbrev pub GivesField : {A : Type 0} → Spelling A → List ℕ → List ℕ → Result A ReadFault → Type 0
GivesField f old new (Ok x) = f.read old ≡ Ok (x, new)
GivesField f old new (Err e) = Fails e (f.read old)

-- The same of a reader that takes no memory.
abbrev pub Finds : {A : Type 0} → Spelling A → List ℕ → List ℕ → Result A BadField → Type 0
Finds f old new (Ok x) = f.read old ≡ Ok (x, new)
Finds f old new (Err field) = f.read old ≡ Err field.left

-- What a reader of the whole of some bytes answers: the value that they spell, or where they are
-- faulty.
abbrev pub ReadsWhole : {A : Type 0} → Spelling A → List ℕ → Result A ReadFault → Type 0
ReadsWhole f bytes (Ok x) = Spells f.meaning bytes x
ReadsWhole f bytes (Err faults.Memory) = Unit {0}
ReadsWhole f bytes (Err (faults.Bad field)) = WholeFault f.meaning bytes field.left

-- the value's spelling stands behind what was there, and the value has one
pub record WritesValue {A : Type 0} (f : Spelling A) (old : List ℕ) (value : A)
    (new : List ℕ) : Type 0 where
  pub written : new ≡ f.onto old value
  pub fits : f.meaning.fits value

-- the first byte is taken off, where there is one
abbrev pub TakesFirst : List ℕ → List ℕ → Option ℕ → Type 0
TakesFirst old new (Some b) = old ≡ b ∷ new
TakesFirst old new None = (old ≡ []) × (new ≡ [])
