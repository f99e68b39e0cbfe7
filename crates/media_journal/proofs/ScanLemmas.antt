-- A record that was read from an image, and what one would say that isn't there.
use Rattle.std.proofs.Common.{◌≡◌, ◌<◌, ◌+◌, ◌^◌, ℕ, List, [], ◌∷◌, ◌++◌, length, take, get_or, sym, ap, ap₂, ◌∙◌, arith, drop-cons}
use Rattle.std.proofs.Math.Seq.{take-append_seam}
use Rattle.disk_trait.specs.Calls.{bytes_at}
use Rattle.disk_trait.specs.Numbers.{u32_bytes}
use Rattle.disk_trait.proofs.NumberLemmas.{length-u32_bytes, same_u32}
use Rattle.disk_trait.proofs.OverwriteLemmas.{bytes_at-add, bytes_at-bytes_at}
use Rattle.media_journal.specs.File.{IsOpenGate, IsRecordAt, IsTornAt, record_text}

-- one byte
bytes_at-one : (image : List ℕ) (at : ℕ) → at < length image → bytes_at image at 1 ≡ get_or image at 0 ∷ []
bytes_at-one image at within = ap (take 1) (drop-cons image at 0 within)

-- the gate, the length and the payload make a record
pub is_record : (image : List ℕ) (at n : ℕ) (payload : List ℕ) → at < length image → n < 2 ^ 32 → length payload ≡ n → IsOpenGate image at
    → u32_bytes n ≡ bytes_at image (at + 1) 4 → payload ≡ bytes_at image (at + 5) n → IsRecordAt image at payload
unfolding record_text
is_record image at n payload within short size gate prefix rest =
    let five : 5 + length payload ≡ 1 + (4 + n) = omega arith in
    let place : at + 1 + 4 ≡ at + 5 = omega arith in
    let one : bytes_at image at 1 ≡ 1 ∷ [] = bytes_at-one image at within ∙ ap (λ x. x ∷ []) gate in
    let behind : bytes_at image (at + 1) (4 + n) ≡ u32_bytes (length payload) ++ payload =
    bytes_at-add image (at + 1) 4 n ∙ ap₂ ◌++◌ (sym prefix ∙ ap u32_bytes (sym size)) (rw place (sym rest)) in
    record {
      text = rw five (bytes_at-add image at 1 (4 + n) ∙ ap₂ ◌++◌ one behind);
      short = omega arith;
    }

-- a record has its length behind its gate
pub record_length : (image : List ℕ) (at : ℕ) (payload : List ℕ) → IsRecordAt image at payload → bytes_at image (at + 1) 4 ≡ u32_bytes (length payload)
unfolding record_text
record_length image at payload h =
    sym (bytes_at-bytes_at image at (5 + length payload) 1 4 (omega arith))
    ∙ ap (λ text. bytes_at text 1 4) h.text
    ∙ ap (λ n. take n (u32_bytes (length payload) ++ payload)) (sym (length-u32_bytes (length payload)))
    ∙ take-append_seam (u32_bytes (length payload)) payload

-- an open record whose length passes the half is torn
pub is_torn : (image : List ℕ) (at end n : ℕ) → n < 2 ^ 32 → IsOpenGate image at → u32_bytes n ≡ bytes_at image (at + 1) 4 → end < at + (6 + n)
    → IsTornAt image at end
is_torn image at end n short gate prefix passes = record {
  gate = gate;
  passes = λ m small text. let same : n ≡ m = same_u32 n m short small (prefix ∙ text) in omega arith;
}
