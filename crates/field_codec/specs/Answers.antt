-- What a call for the next field answers.
use Rattle.std.specs.Prelude.{◌≡◌, ◌+◌, ℕ, List, length, Result, Ok, Err}
use Rattle.field_codec.specs.Meaning.{SpellsFirst}
use Rattle.field_codec.specs.Spelling.{Spelling}
use Rattle.field_codec.specs.declared.fault.CodecFault.{CodecFault}
use Rattle.field_codec.specs.declared.fault.CodecFault.TheVariants as faults

-- some bytes, and those of them that are not read yet
pub record Unread : Type 0 where
  pub bytes : List ℕ
  pub rest : List ℕ

-- the next field is the value's spelling, and the rest is what stands behind it
pub record Takes {A : Type 0} (f : Spelling A) (old : Unread) (value : A)
    (new : Unread) : Type 0 where
  pub field : SpellsFirst f.meaning old.rest value new.rest
  pub same_bytes : new.bytes ≡ old.bytes

-- the next field is faulty, and no value's spelling stands there; the fault's place in all the
-- bytes
pub record IsFaultAt {A : Type 0} (f : Spelling A) (old : Unread) (at : ℕ) : Type 0 where
  pub left : ℕ
  pub fault : f.meaning.faulty old.rest left
  pub place : at + left ≡ length old.bytes
  pub none : (value : A) (rest : List ℕ) → SpellsFirst f.meaning old.rest value rest → ⊥

-- what holds of a place that is answered
abbrev pub OnBad : {X : Type 0} → Result X CodecFault → (ℕ → Type 0) → Type 0
OnBad (Ok x) Holds = Unit {0}
OnBad (Err faults.Memory) Holds = Unit {0}
OnBad (Err (faults.Bad at)) Holds = Holds at
