-- The writes of a store leave nothing of the byte that stood at its gate.
use Rattle.std.proofs.Common.{◌≡◌, ◌<◌, ◌≤◌, ◌+◌, ◌-◌, ℕ, List, [], ◌∷◌, length, get_or, inl, inr, sym, ap, ◌∙◌, arith}
use Rattle.std.proofs.lemmas.Bool.{cases_eq, cases_lt}
use Rattle.std.proofs.lemmas.List.{get_or-drop, get_or-take, same_lists}
use Rattle.disk_trait.specs.Calls.{Torn, overwritten}
use Rattle.disk_trait.proofs.OverwriteLemmas.{get_or-before, get_or-behind, get_or-written, length-overwritten}
use Rattle.media_journal.specs.Formatting.{with_store}

-- images that differ at the gate alone have the same byte at each other place
elsewhere : (image other : List ℕ) → Torn 40 1 image other → (i d : ℕ) → (i ≡ 40 → ⊥) → get_or other i d ≡ get_or image i d
elsewhere image other torn i d apart =
    elim (cases_lt i 40) [
      | inl before ↦ sym (get_or-take 40 other i d before) ∙ ap (λ text. get_or text i d) torn.before ∙ get_or-take 40 image i d before
      | inr behind ↦
          let place : 41 + (i - 41) ≡ i = omega arith in
          rw place at (sym (get_or-drop 41 other (i - 41) d) ∙ ap (λ text. get_or text (i - 41) d) torn.after ∙ get_or-drop 41 image (i - 41) d)
    ]

-- images of one length after the same write
module _ (at : ℕ) (bytes image other : List ℕ) (fits : at + length bytes ≤ length image) (same : length other ≡ length image) where
  fits_other : at + length bytes ≤ length other
  fits_other = omega arith

  long : length (overwritten at bytes other) ≡ length (overwritten at bytes image)
  long = length-overwritten at bytes other fits_other ∙ same ∙ sym (length-overwritten at bytes image fits)

  -- a byte that was written is
  written_byte : (i d : ℕ) → at ≤ i → i < at + length bytes → get_or (overwritten at bytes other) i d ≡ get_or (overwritten at bytes image) i d
  written_byte i d from within =
      let place : at + (i - at) ≡ i = omega arith in
      rw place at (get_or-written at bytes other fits_other (i - at) d (omega arith) ∙ sym (get_or-written at bytes image fits (i - at) d (omega arith)))

  -- a byte that was the same still is
  byte_over : (i d : ℕ) → get_or other i d ≡ get_or image i d → get_or (overwritten at bytes other) i d ≡ get_or (overwritten at bytes image) i d
  byte_over i d byte =
      elim (cases_lt i at) [
        | inl before ↦ get_or-before at bytes other fits_other i d before ∙ byte ∙ sym (get_or-before at bytes image fits i d before)
        | inr from ↦ elim (cases_lt i (at + length bytes)) [
          | inl within ↦ written_byte i d from within
          | inr behind ↦ get_or-behind at bytes other fits_other i d behind ∙ byte ∙ sym (get_or-behind at bytes image fits i d behind)
        ]
      ]

module _ (header half image other : List ℕ) (size : length header ≡ 40) (fits : 8192 + length half ≤ length image) (torn : Torn 40 1 image other) where
  abbrev headed : List ℕ → List ℕ
  headed start = overwritten 0 header start

  abbrev selected : List ℕ → List ℕ
  selected start = overwritten 4096 (0 ∷ []) (headed start)

  abbrev filled : List ℕ → List ℕ
  filled start = overwritten 8192 half (selected start)

  header_long : length (headed image) ≡ length image
  header_long = length-overwritten 0 header image (omega arith)

  selector_long : length (selected image) ≡ length (headed image)
  selector_long = length-overwritten 4096 (0 ∷ []) (headed image) (omega (arith, header_long))

  half_long : length (filled image) ≡ length (selected image)
  half_long = length-overwritten 8192 half (selected image) (omega (arith, header_long, selector_long))

  header_same : length (headed other) ≡ length (headed image)
  header_same = long 0 header image other (omega arith) torn.same_length

  selector_same : length (selected other) ≡ length (selected image)
  selector_same = long 4096 (0 ∷ []) (headed image) (headed other) (omega (arith, header_long)) header_same

  half_same : length (filled other) ≡ length (filled image)
  half_same = long 8192 half (selected image) (selected other) (omega (arith, header_long, selector_long)) selector_same

  gate_fits : 40 + length {A = ℕ} (1 ∷ []) ≤ length (filled image)
  gate_fits = omega (arith, header_long, selector_long, half_long)

  byte_same : (i d : ℕ) → get_or (with_store header half other) i d ≡ get_or (with_store header half image) i d
  byte_same i d =
      elim (cases_eq i 40) [
        | inl gate ↦ written_byte 40 (1 ∷ []) (filled image) (filled other) gate_fits half_same i d (omega arith) (omega arith)
        | inr apart ↦
            byte_over 40 (1 ∷ []) (filled image) (filled other) gate_fits half_same i d
            (byte_over 8192 half (selected image) (selected other) (omega (arith, header_long, selector_long)) selector_same i d
            (byte_over 4096 (0 ∷ []) (headed image) (headed other) (omega (arith, header_long)) header_same i d
            (byte_over 0 header image other (omega arith) torn.same_length i d (elsewhere image other torn i d apart))))
      ]

  pub gate_forgotten : with_store header half other ≡ with_store header half image
  gate_forgotten = same_lists _ _ (long 40 (1 ∷ []) (filled image) (filled other) gate_fits half_same) (λ i d h. byte_same i d)
