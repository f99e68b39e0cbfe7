-- The file of a new store reads as one.
use Rattle.std.proofs.Common.{◌≡◌, ◌<◌, ◌≤◌, ◌+◌, ◌-◌, ◌*◌, ◌^◌, ℕ, zero, suc, List, [], ◌∷◌, ◌++◌, length, take, get_or, replicate, refl, sym, ap, ◌∙◌, inr, arith, length-append}
use Rattle.std.proofs.lemmas.List.{get_or-append_right, get_or-replicate, length-replicate}
use Rattle.std.proofs.Math.Seq.{take-append_seam}
use Rattle.disk_trait.specs.Calls.{bytes_at}
use Rattle.disk_trait.specs.Forms.{form_in_use}
use Rattle.disk_trait.specs.Numbers.{u64_bytes, u128_bytes}
use Rattle.disk_trait.proofs.NumberLemmas.{length-u64_bytes, length-u128_bytes}
use Rattle.disk_trait.proofs.OverwriteLemmas.{length-overwritten, get_or-before, get_or-written, bytes_at-before, bytes_at-written}
use Rattle.media_journal.specs.declared.header.Header.{Header}
use Rattle.media_journal.specs.declared.header.TheConstants.{BLOCK}
use Rattle.media_journal.specs.File.{magic, header_text, half_number, rows_text, active_start, Reads}
use Rattle.media_journal.specs.Formatting.{FitsStore}
use Rattle.store_commands.specs.Formatting.{empty_rows}
use Rattle.store_commands.specs.Fresh.{FreshFilesStand, fresh_file, fresh_front}
use Rattle.store_commands.proofs.FormattingLemmas.{new_stands}

length-magic : length magic ≡ 8
unfolding magic
length-magic = refl

length-header_text : (h : Header) → length (header_text h) ≡ 40
unfolding header_text
length-header_text h =
    omega (
      arith,
      length-append magic (u64_bytes h.blocks ++ (u64_bytes h.half ++ u128_bytes h.id)),
      length-append (u64_bytes h.blocks) (u64_bytes h.half ++ u128_bytes h.id),
      length-append (u64_bytes h.half) (u128_bytes h.id),
      length-magic,
      length-u64_bytes h.blocks,
      length-u64_bytes h.half,
      length-u128_bytes h.id,
    )

length-rows_text : (form : ℕ) (rows : List ℕ) → length (rows_text form rows) ≡ 8 + length rows
unfolding rows_text
length-rows_text form rows =
    let number = half_number form (length rows) in omega (arith, length-append (u64_bytes number) rows, length-u64_bytes number)

-- in a list of one 0 there is no other number
abbrev shut : List ℕ
shut = 0 ∷ []

zero_at : (i : ℕ) → get_or shut i 0 ≡ 0
zero_at zero = refl
zero_at (suc i) = refl

shut_gate : (n : ℕ) → n ≡ 0 → n ≡ 1 → ⊥
shut_gate n none one = omega arith

module _ (h : Header) (fits : FitsStore h (BLOCK * h.blocks) empty_rows) where
  abbrev rest : List ℕ
  rest = replicate (4096 * h.blocks - 41) 0

  abbrev half : List ℕ
  half = rows_text form_in_use empty_rows ++ 0 ∷ []

  large : 20480 ≤ 4096 * h.blocks
  large = omega (arith, fits.sizes.some_half, fits.sizes.fits)

  length-front : length (fresh_front h) ≡ 4096 * h.blocks
  length-front =
      omega (arith, length-append (header_text h) (1 ∷ rest), length-header_text h, length-replicate {A = ℕ} (4096 * h.blocks - 41) 0, large)

  length-half : length half ≡ 9 + length empty_rows
  length-half = omega (arith, length-append (rows_text form_in_use empty_rows) (0 ∷ []), length-rows_text form_in_use empty_rows)

  half_fits : 8192 + length half ≤ length (fresh_front h)
  half_fits = omega (arith, length-front, length-half, fits.room, fits.sizes.fits)

  length-file : length (fresh_file h) ≡ 4096 * h.blocks
  length-file = length-overwritten 8192 half (fresh_front h) half_fits ∙ length-front

  gate_is : get_or (fresh_file h) 40 0 ≡ 1
  gate_is =
      get_or-before 8192 half (fresh_front h) half_fits 40 0 (omega arith)
      ∙ get_or-append_right (header_text h) (1 ∷ rest) 40 40 0 (length-header_text h) (omega arith)

  text_is : bytes_at (fresh_file h) 0 40 ≡ header_text h
  text_is =
      bytes_at-before 8192 half (fresh_front h) half_fits 0 40 (omega arith)
      ∙ ap (λ n. take n (fresh_front h)) (sym (length-header_text h))
      ∙ take-append_seam (header_text h) (1 ∷ rest)

  selector_is : get_or (fresh_file h) 4096 0 ≡ 0
  selector_is =
      get_or-before 8192 half (fresh_front h) half_fits 4096 0 (omega arith)
      ∙ get_or-append_right (header_text h) (1 ∷ rest) 40 4096 0 (length-header_text h) (omega arith)
      ∙ get_or-replicate (4096 * h.blocks - 41) 4055 0 0 (omega (arith, large))

  rows_are : bytes_at (fresh_file h) 8192 (8 + length empty_rows) ≡ rows_text form_in_use empty_rows
  rows_are =
      bytes_at-written 8192 half (fresh_front h) half_fits 0 (8 + length empty_rows) (omega (arith, length-half))
      ∙ ap (λ n. take n half) (sym (length-rows_text form_in_use empty_rows))
      ∙ take-append_seam (rows_text form_in_use empty_rows) (0 ∷ [])

  closed_is : get_or (fresh_file h) (8192 + (8 + length empty_rows)) 0 ≡ 0
  closed_is =
      get_or-written 8192 half (fresh_front h) half_fits (8 + length empty_rows) 0 (omega (arith, length-half))
      ∙ get_or-append_right (rows_text form_in_use empty_rows) (0 ∷ []) (8 + length empty_rows) (8 + length empty_rows) 0
      (length-rows_text form_in_use empty_rows) (omega arith)
      ∙ zero_at _

  reads : h.id < 2 ^ 128 → Reads (fresh_file h) h (8192 + (8 + length empty_rows)) form_in_use empty_rows []
  reads id =
      let start : active_start (fresh_file h) h.half ≡ 8192 = rw selector_is refl in
      record {
        header = record {
          gate = gate_is;
          text = text_is;
          blocks = omega (arith, fits.sizes.blocks);
          half = omega (arith, fits.sizes.half);
          id = id;
        };
        sizes = rw length-file fits.sizes;
        half = rw start record {
          is = inr refl;
          text = rows_are;
          few = omega (arith, fits.room, fits.sizes.half);
          chain = refl;
          closed = shut_gate _ closed_is;
          within = omega (arith, fits.room);
        };
      }

pub fresh_files_stand : FreshFilesStand
fresh_files_stand h fits id = new_stands (fresh_file h) h (reads h fits id)
