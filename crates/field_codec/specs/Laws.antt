-- What is true of each spelling: reading and writing agree with its meaning.
use Rattle.std.specs.Prelude.{◌≡◌, ◌≤◌, ◌<◌, ℕ, List, ◌++◌, length, get_or, Ok, Err}
use Rattle.field_codec.specs.Meaning.{SpellsFirst}
use Rattle.field_codec.specs.Spelling.{Spelling}

-- each is a byte
abbrev pub IsBytes : List ℕ → Type 0
IsBytes bytes = (i : ℕ) → get_or bytes i 0 < 256

-- The members of a spelling agree: bytes are read exactly as they are spelled and exactly up to
-- their fault, and what is written is the spelling.
pub record Lawful {A : Type 0} (f : Spelling A) : Type 0 where
  -- what is read is spelled so
  pub takes : (bytes : List ℕ) (x : A) (rest : List ℕ) → IsBytes bytes
      → f.read bytes ≡ Ok (x, rest) → SpellsFirst f.meaning bytes x rest
  -- what is spelled so is read
  pub again : (x : A) (rest : List ℕ) → f.meaning.fits x
      → f.read (f.meaning.spell x ++ rest) ≡ Ok (x, rest)
  -- what is written stands behind what was there
  pub adds : (front : List ℕ) (x : A) → f.onto front x ≡ front ++ f.meaning.spell x
  -- reading ends exactly at the fault
  pub faults : (bytes : List ℕ) (left : ℕ) → IsBytes bytes → f.read bytes ≡ Err left
      → f.meaning.faulty bytes left
  pub ends : (bytes : List ℕ) (left : ℕ) → IsBytes bytes → f.meaning.faulty bytes left
      → f.read bytes ≡ Err left
  -- the place of a fault is in the bytes
  pub within : (bytes : List ℕ) (left : ℕ) → IsBytes bytes → f.meaning.faulty bytes left
      → left ≤ length bytes
  -- what has a spelling can be written
  pub writable : (x : A) → f.meaning.fits x → f.asks x
