-- What a call for the next field answers, from what reading gave.
use Rattle.std.proofs.Common.{◌≡◌, ◌≤◌, ◌-◌, ℕ, List, ◌++◌, length, Ok, Err, sym, ap, ◌∙◌, arith}
use Rattle.field_codec.specs.Spelling.{Spelling}
use Rattle.field_codec.specs.Laws.{IsBytes, Lawful}
use Rattle.field_codec.specs.Answers.{Unread, Takes, IsFaultAt}
use Rattle.field_codec.proofs.Wholes.{less_left, fault_within, fault_begins_none}

-- what is not read yet is no longer than all the bytes
abbrev pub IsShorter : Unread → Type 0
IsShorter u = length u.rest ≤ length u.bytes

-- the cursor began at the bytes that were not read yet
pub record StartsAt (old : Unread) (slice cursor : List ℕ) : Type 0 where
  pub bytes : IsBytes slice
  pub unread : slice ≡ old.rest
  pub cursor_is : cursor ≡ slice

pub shorter : {A : Type 0} (f : Spelling A) → Lawful f → (old : Unread) (slice cursor after rest : List ℕ) (x : A) → StartsAt old slice cursor
    → f.read cursor ≡ Ok (x, after) → rest ≡ after
    → IsShorter old → length rest ≤ length old.bytes
shorter f law old slice cursor after rest x s e is le =
    let less = less_left f law slice after x s.bytes (rw s.cursor_is at e) in
    omega (arith, less, ap length is, ap length s.unread)

pub field_taken : {A : Type 0} (f : Spelling A) → Lawful f → (old new : Unread) (slice cursor after : List ℕ) (x : A) → StartsAt old slice cursor
    → f.read cursor ≡ Ok (x, after) → new.rest ≡ after
    → new.bytes ≡ old.bytes → Takes f old x new
field_taken f law old new slice cursor after x s e is same =
    let at_slice : f.read slice ≡ Ok (x, after) = rw s.cursor_is at e in
    let b = law.takes slice x after s.bytes at_slice in
    record { field = record { fits = b.fits; parts = sym s.unread ∙ b.parts ∙ ap (λ (t : List ℕ). f.meaning.spell x ++ t) (sym is) }; same_bytes = same }

pub field_within : {A : Type 0} (f : Spelling A) → Lawful f → (old : Unread) (slice cursor : List ℕ) (left : ℕ) → StartsAt old slice cursor
    → f.read cursor ≡ Err left
    → IsShorter old → left ≤ length old.bytes
field_within f law old slice cursor left s e le =
    let within = fault_within f law slice left s.bytes (rw s.cursor_is at e) in
    omega (arith, within, ap length s.unread)

pub field_bad : {A : Type 0} (f : Spelling A) → Lawful f → (old : Unread) (slice cursor : List ℕ) (left : ℕ) → StartsAt old slice cursor
    → f.read cursor ≡ Err left
    → IsShorter old → IsFaultAt f old (length old.bytes - left)
field_bad f law old slice cursor left s e le =
    let at_slice : f.read slice ≡ Err left = rw s.cursor_is at e in
    let within = field_within f law old slice cursor left s e le in
    record {
      left = left;
      fault = rw (← s.unread) (law.faults slice left s.bytes at_slice);
      place = omega arith;
      none = λ x behind b. fault_begins_none f law slice behind left x at_slice (rw (← s.unread) at b);
    }
