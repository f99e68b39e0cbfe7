-- A frame's bytes and its payload.
use Rattle.std.proofs.Common.{◌≡◌, ◌<◌, ◌≤◌, ◌+◌, ◌-◌, ◌^◌, ℕ, List, [], ◌∷◌, ◌++◌, length, take, drop, sym, ap, ap₂, ◌∙◌, arith, rules, length-append}
use Rattle.std.proofs.lemmas.List.{places, same_lists}
use Rattle.std.proofs.Math.Seq.{take-append_seam, drop-append_seam}
use Rattle.disk_trait.specs.Calls.{overwritten}
use Rattle.disk_trait.specs.Numbers.{u32_bytes}
use Rattle.disk_trait.proofs.OverwriteLemmas.{length-overwritten}
use Rattle.disk_trait.proofs.NumberLemmas.{length-u32_bytes}
use Rattle.media_journal.specs.Journal.{frame_text, framed, IsFrame}

pub length-frame_text : (payload : List ℕ) → length (frame_text payload) ≡ length payload + 5
unfolding frame_text
length-frame_text payload =
    omega (arith, length-append (u32_bytes (length payload)) (payload ++ 0 ∷ []), length-append payload (0 ∷ []), length-u32_bytes (length payload))

pub framed-frame_text : (payload : List ℕ) → framed (frame_text payload) ≡ payload
unfolding frame_text
framed-frame_text payload =
    let fits : length (frame_text payload) - 5 ≡ length payload = omega (arith, length-frame_text payload) in
    let behind : drop 4 (frame_text payload) ≡ payload ++ 0 ∷ [] =
    ap (λ n. drop n (frame_text payload)) (sym (length-u32_bytes (length payload))) ∙ drop-append_seam (u32_bytes (length payload)) _ in
    ap₂ take fits behind ∙ take-append_seam payload (0 ∷ [])

pub is_frame : (payload : List ℕ) → 0 < length payload → length payload < 2 ^ 32 → IsFrame (frame_text payload)
is_frame payload some short = record {
  text = sym (ap frame_text (framed-frame_text payload));
  some = omega (arith, length-frame_text payload);
  short = omega (arith, length-frame_text payload);
}

-- bytes that are put over in the second or in the first of two parts
overwritten-behind : (n at : ℕ) (bytes front rest : List ℕ) → length front ≡ n → at + length bytes ≤ length rest
    → overwritten (n + at) bytes (front ++ rest) ≡ front ++ overwritten at bytes rest
overwritten-behind n at bytes front rest size fits = same_lists _ _ (search (rules, places)) (λ k d h. grind (arith, places))

overwritten-before : (at : ℕ) (bytes front rest : List ℕ) → at + length bytes ≤ length front
    → overwritten at bytes (front ++ rest) ≡ overwritten at bytes front ++ rest
overwritten-before at bytes front rest fits = same_lists _ _ (search (rules, places)) (λ k d h. grind (arith, places))

-- bytes that are put over a payload in its frame
pub filled : (at : ℕ) (bytes payload : List ℕ) → at + length bytes ≤ length payload
    → overwritten (4 + at) bytes (frame_text payload) ≡ frame_text (overwritten at bytes payload)
unfolding frame_text
filled at bytes payload fits =
    let size = length-overwritten at bytes payload fits in
    overwritten-behind 4 at bytes (u32_bytes (length payload)) (payload ++ 0 ∷ []) (length-u32_bytes (length payload))
    (omega (arith, length-append payload (0 ∷ [])))
    ∙ ap₂ (λ (a b : List ℕ). a ++ b) (ap u32_bytes (sym size)) (overwritten-before at bytes payload (0 ∷ []) fits)
