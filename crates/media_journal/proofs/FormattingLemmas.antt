-- What formatting leaves in an image.
use Rattle.std.proofs.Common.{◌≡◌, inr, ◌<◌, ◌≤◌, ◌+◌, ◌^◌, ℕ, List, [], ◌∷◌, ◌++◌, length, take, get_or, refl, sym, ap, ◌∙◌, arith, length-append}
use Rattle.std.proofs.lemmas.List.{places}
use Rattle.std.proofs.Math.Seq.{take-append_seam, take-length}
use Rattle.disk_trait.specs.Calls.{bytes_at, overwritten}
use Rattle.disk_trait.specs.Forms.{form_in_use}
use Rattle.disk_trait.specs.Numbers.{u64_bytes, u128_bytes}
use Rattle.disk_trait.proofs.NumberLemmas.{length-u64_bytes, length-u128_bytes}
use Rattle.disk_trait.proofs.OverwriteLemmas.{length-overwritten, get_or-before, get_or-behind, get_or-written, bytes_at-before, bytes_at-behind, bytes_at-written, get_or-bytes_at}
use Rattle.media_journal.specs.declared.header.Header.{Header}
use Rattle.media_journal.specs.declared.format.Gate.{Gate}
use Rattle.media_journal.specs.declared.format.Gate.TheVariants.{Store, Stray, Closed}
use Rattle.media_journal.specs.File.{magic, header_text, half_number, rows_text, active_start, Reads, HasOpenHeader}
use Rattle.media_journal.specs.Formatting.{FitsStore, GateIs, IsFormatted, half_text, with_store}
use Rattle.media_journal.specs.JournalMoments.{IsNewStore}
use Rattle.media_journal.proofs.HeaderLemmas.{length-magic, has_front, front_has}

-- what stands at the gate of the first 41 bytes, stands at the image's
pub GateIs-front : (image : List ℕ) (gate : Gate) → GateIs (bytes_at image 0 41) gate → GateIs image gate
GateIs-front image Store h = front_has image h
GateIs-front image Stray h = record {
  gate = sym (get_or-bytes_at image 0 41 40 0 (omega arith)) ∙ h.gate;
  bare = λ has. h.bare (has_front image has);
}
GateIs-front image Closed h = λ one. h (get_or-bytes_at image 0 41 40 0 (omega arith) ∙ one)

pub length-header_text : (h : Header) → length (header_text h) ≡ 40
unfolding header_text
length-header_text h =
    omega (
      arith,
      length-append magic (u64_bytes h.blocks ++ (u64_bytes h.half ++ u128_bytes h.id)),
      length-append (u64_bytes h.blocks) (u64_bytes h.half ++ u128_bytes h.id),
      length-append (u64_bytes h.half) (u128_bytes h.id),
      length-magic,
      length-u64_bytes h.blocks,
      length-u64_bytes h.half,
      length-u128_bytes h.id,
    )

length-rows_text : (form : ℕ) (rows : List ℕ) → length (rows_text form rows) ≡ 8 + length rows
unfolding rows_text
length-rows_text form rows =
    omega (arith, length-append (u64_bytes (half_number form (length rows))) rows, length-u64_bytes (half_number form (length rows)))

pub length-half_text : (rows : List ℕ) → length (half_text rows) ≡ 9 + length rows
unfolding half_text
length-half_text rows = omega (arith, length-append (rows_text form_in_use rows) (0 ∷ []), length-rows_text form_in_use rows)

pub front-half_text : (rows : List ℕ) → bytes_at (half_text rows) 0 (8 + length rows) ≡ rows_text form_in_use rows
unfolding half_text
front-half_text rows =
    ap (λ n. take n (rows_text form_in_use rows ++ 0 ∷ [])) (sym (length-rows_text form_in_use rows)) ∙ take-append_seam (rows_text form_in_use rows) (0 ∷ [])

pub gate-half_text : (rows : List ℕ) → get_or (half_text rows) (8 + length rows) 0 ≡ 0
unfolding half_text
gate-half_text rows = let size = length-rows_text form_in_use rows in grind (arith, places)

-- a byte of 0 is a closed gate
shut_gate : (n : ℕ) → n ≡ 0 → n ≡ 1 → ⊥
shut_gate n zero one = omega arith

module _ (image : List ℕ) (h : Header) (rows : List ℕ) (fits : FitsStore h (length image) rows) where
  abbrev with_header : List ℕ
  with_header = overwritten 0 (header_text h) image

  abbrev with_selector : List ℕ
  with_selector = overwritten 4096 (0 ∷ []) with_header

  abbrev with_half : List ℕ
  with_half = overwritten 8192 (half_text rows) with_selector

  abbrev formatted_image : List ℕ
  formatted_image = overwritten 40 (1 ∷ []) with_half

  large : 20480 ≤ length image
  large = omega (arith, fits.sizes.some_half, fits.sizes.fits, fits.sizes.within)

  room : 8192 + (9 + length rows) ≤ length image
  room = omega (arith, fits.room, fits.sizes.fits, fits.sizes.within)

  header_fits : 0 + length (header_text h) ≤ length image
  header_fits = omega (arith, length-header_text h, large)

  selector_fits : 4096 + length {A = ℕ} (0 ∷ []) ≤ length with_header
  selector_fits = omega (arith, length-overwritten 0 (header_text h) image header_fits, large)

  half_fits : 8192 + length (half_text rows) ≤ length with_selector
  half_fits =
      omega (
        arith,
        length-overwritten 0 (header_text h) image header_fits,
        length-overwritten 4096 (0 ∷ []) with_header selector_fits,
        length-half_text rows,
        room,
      )

  gate_fits : 40 + length {A = ℕ} (1 ∷ []) ≤ length with_half
  gate_fits =
      omega (
        arith,
        length-overwritten 0 (header_text h) image header_fits,
        length-overwritten 4096 (0 ∷ []) with_header selector_fits,
        length-overwritten 8192 (half_text rows) with_selector half_fits,
        large,
      )

  length-formatted : length formatted_image ≡ length image
  length-formatted =
      length-overwritten 40 (1 ∷ []) with_half gate_fits ∙ length-overwritten 8192 (half_text rows) with_selector half_fits ∙ length-overwritten 4096 (0 ∷ [])
      with_header selector_fits ∙ length-overwritten 0 (header_text h) image header_fits

  text_is : bytes_at formatted_image 0 40 ≡ header_text h
  text_is =
      bytes_at-before 40 (1 ∷ []) with_half gate_fits 0 40 (omega arith)
      ∙ bytes_at-before 8192 (half_text rows) with_selector half_fits 0 40 (omega arith)
      ∙ bytes_at-before 4096 (0 ∷ []) with_header selector_fits 0 40 (omega arith)
      ∙ bytes_at-written 0 (header_text h) image header_fits 0 40 (omega (arith, length-header_text h))
      ∙ ap (λ n. take n (header_text h)) (sym (length-header_text h))
      ∙ take-length (header_text h)

  selector_is : get_or formatted_image 4096 0 ≡ 0
  selector_is =
      get_or-behind 40 (1 ∷ []) with_half gate_fits 4096 0 (omega arith)
      ∙ get_or-before 8192 (half_text rows) with_selector half_fits 4096 0 (omega arith)
      ∙ get_or-written 4096 (0 ∷ []) with_header selector_fits 0 0 (omega arith)

  rows_are : bytes_at formatted_image 8192 (8 + length rows) ≡ rows_text form_in_use rows
  rows_are =
      bytes_at-behind 40 (1 ∷ []) with_half gate_fits 8192 (8 + length rows) (omega arith)
      (omega (arith, half_fits, length-half_text rows, length-overwritten 8192 (half_text rows) with_selector half_fits))
      ∙ bytes_at-written 8192 (half_text rows) with_selector half_fits 0 (8 + length rows) (omega (arith, length-half_text rows))
      ∙ front-half_text rows

  gate_is : get_or formatted_image (8192 + (8 + length rows)) 0 ≡ 0
  gate_is =
      get_or-behind 40 (1 ∷ []) with_half gate_fits (8192 + (8 + length rows)) 0 (omega arith)
      ∙ get_or-written 8192 (half_text rows) with_selector half_fits (8 + length rows) 0 (omega (arith, length-half_text rows))
      ∙ gate-half_text rows

  pub selector_formatted : get_or (with_store (header_text h) (half_text rows) image) 4096 0 ≡ 0
  selector_formatted = selector_is

  -- it reads as the store that was asked for
  pub formatted : h.id < 2 ^ 128 → Reads (with_store (header_text h) (half_text rows) image) h (8192 + (8 + length rows)) form_in_use rows []
  formatted id =
      let start : active_start formatted_image h.half ≡ 8192 = rw selector_is refl in
      record {
        header = record {
          gate = get_or-written 40 (1 ∷ []) with_half gate_fits 0 0 (omega arith);
          text = text_is;
          blocks = omega (arith, fits.sizes.blocks);
          half = omega (arith, fits.sizes.half);
          id = id;
        };
        sizes = rw length-formatted fits.sizes;
        half = rw start record {
          is = inr refl;
          text = rows_are;
          few = omega (arith, fits.room, fits.sizes.half);
          chain = refl;
          closed = shut_gate _ gate_is;
          within = omega (arith, fits.room);
        };
      }

-- what was written is a header's text and a half's
pub written_as : (header text half part seen now new : List ℕ) → header ≡ text → half ≡ part → now ≡ seen → IsFormatted header half now new
    → IsFormatted text part seen new
written_as header text half part seen now new header_is half_is same is =
    is ∙ ap (λ (t : List ℕ). with_store t half now) header_is ∙ ap (λ (t : List ℕ). with_store text t now) half_is ∙ ap (with_store text part) same

-- so does what formatting leaves of an image that had this length
pub reads_formatted : (old new : List ℕ) (h : Header) (rows : List ℕ) → FitsStore h (length old) rows → h.id < 2 ^ 128
    → IsFormatted (header_text h) (half_text rows) old new → Reads new h (8192 + (8 + length rows)) form_in_use rows []
reads_formatted old new h rows fits id is = rw is (formatted old h rows fits id)

pub is_new_store : (old new : List ℕ) (h : Header) (rows : List ℕ) → FitsStore h (length old) rows → h.id < 2 ^ 128
    → IsFormatted (header_text h) (half_text rows) old new → IsNewStore new h rows
is_new_store old new h rows fits id is = record {
  reads = reads_formatted old new h rows fits id is;
  selector = rw is (selector_formatted old h rows fits);
}

-- where the gate isn't that of a store, the header isn't an open one
pub not_store : (image : List ℕ) (gate : Gate) → (gate ≡ Store → ⊥) → GateIs image gate → ¬ (HasOpenHeader image)
not_store image Store other h = absurd (other refl)
not_store image Stray other h = h.bare
not_store image Closed other h = λ has. h has.gate
