-- What a write leaves of the bytes of objects.
use Rattle.std.proofs.Common.{◌≡◌, ◌≤◌, ◌+◌, ◌*◌, ◌/◌, ◌||◌, ℕ, Bool, true, false, List, [], ◌∷◌, map, Option, refl, sym, ap, ap₂, ◌∙◌, arith, nat_le, IsTrue}
use Rattle.std.specs.List.{list_all}
use Rattle.std.proofs.lemmas.Bool.{and_parts}
use Rattle.std.proofs.lemmas.Bool.Decides.{nat_tests}
use Rattle.disk_trait.specs.Calls.{Torn}
use Rattle.disk_trait.proofs.TornLemmas.{bytes_before, bytes_behind}
use Rattle.media_rows.specs.declared.object.Digest.{Digest}
use Rattle.media_rows.specs.declared.object.ObjectRow.{ObjectRow}
use Rattle.media_rows.specs.declared.object.ObjectState.{ObjectState}
use Rattle.media_rows.specs.declared.object.ObjectState.TheVariants.{Allocated, Stored}
use Rattle.media_rows.specs.Objects.{are_apart, blocks_of, is_clear_of}
use Rattle.store_states.specs.Laws.{AreInBlocks, ClearWritesLeaveBytes, EarlyWritesLeaveBytes, is_clear}
use Rattle.store_states.specs.States.{state_bytes, held_in}

module _ (image other : List ℕ) (area at n : ℕ) (torn : Torn at n image other) where
  early_state : (state : ObjectState) → at + n ≤ area → state_bytes other area state ≡ state_bytes image area state
  early_state Allocated early = refl
  early_state (Stored start size digest) early = bytes_behind at n image other torn (area + 4096 * start) size (omega (arith, early))

  early_objects : (objects : List ObjectRow) → at + n ≤ area → held_in other area objects ≡ held_in image area objects
  early_objects [] early = refl
  early_objects (row ∷ rows) early = ap₂ (λ bytes more. bytes ∷ more) (early_state row.state early) (early_objects rows early)

  apart_bytes : (start count begin size : ℕ) (digest : Option Digest) (before : Bool) → nat_le (start + count) begin ≡ before
      → (before || nat_le (begin + (size + 4095) / 4096) start) ≡ true → AreInBlocks area start count at n
      → state_bytes other area (Stored begin size digest) ≡ state_bytes image area (Stored begin size digest)
  apart_bytes start count begin size digest true is apart within =
      let behind : start + count ≤ begin = grind (arith, nat_tests) in
      bytes_behind at n image other torn (area + 4096 * begin) size (omega (arith, behind, within.to))
  apart_bytes start count begin size digest false is apart within =
      let before : begin + (size + 4095) / 4096 ≤ start = grind (arith, nat_tests) in
      bytes_before at n image other torn (area + 4096 * begin) size (omega (arith, before, within.from))

  clear_state : (state : ObjectState) (start count : ℕ) → is_clear_of start count state ≡ true → AreInBlocks area start count at n
      → state_bytes other area state ≡ state_bytes image area state
  clear_state Allocated start count clear within = refl
  clear_state (Stored begin size digest) start count clear within =
      apart_bytes start count begin size digest (nat_le (start + count) begin) refl clear within

  clear_objects : (objects : List ObjectRow) (start count : ℕ) → is_clear objects start count → AreInBlocks area start count at n
      → held_in other area objects ≡ held_in image area objects
  clear_objects [] start count clear within = refl
  clear_objects (row ∷ rows) start count clear within =
      let both = and_parts (is_clear_of start count row.state) (list_all (λ r. is_clear_of start count r.state) rows) clear in
      ap₂ (λ bytes more. bytes ∷ more) (clear_state row.state start count both.0 within) (clear_objects rows start count both.1 within)

pub clear_writes : ClearWritesLeaveBytes
clear_writes image other area start count at n objects torn clear within = clear_objects image other area at n torn objects start count clear within

pub early_writes : EarlyWritesLeaveBytes
early_writes image other area at n objects torn early = early_objects image other area at n torn objects early
