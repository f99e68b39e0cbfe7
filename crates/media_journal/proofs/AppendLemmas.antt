-- What the two writes of a record leave in an image.
use Rattle.std.proofs.Common.{◌≡◌, ◌<◌, ◌≤◌, ◌+◌, ◌*◌, ◌%◌, ◌==◌, ◌^◌, ℕ, true, false, List, [], ◌∷◌, ◌++◌, length, take, get_or, slice_index, sym, ap, ap₂, ◌∙◌, arith, length-append, append_assoc}
use Rattle.std.proofs.lemmas.List.{places}
use Rattle.std.specs.Prelude.{if◌then◌else◌}
use Rattle.std.proofs.Math.Seq.{take-append_seam}
use Rattle.disk_trait.specs.Calls.{bytes_at, overwritten}
use Rattle.disk_trait.specs.Numbers.{u32_bytes}
use Rattle.disk_trait.proofs.NumberLemmas.{length-u32_bytes}
use Rattle.disk_trait.proofs.OverwriteLemmas.{length-overwritten, get_or-before, get_or-behind, get_or-written, bytes_at-add, bytes_at-before, bytes_at-behind, bytes_at-written}
use Rattle.media_journal.specs.declared.record.Record.{Record}
use Rattle.media_journal.specs.File.{HasHalf, IsRecordAt, active_start, record_text}
use Rattle.media_journal.specs.Journal.{Contents, Position, Gives, after_append, frame_text}
use Rattle.media_journal.specs.JournalMoments.{with_payload}
use Rattle.media_journal.proofs.FrameLemmas.{length-frame_text}
use Rattle.media_journal.proofs.ChainLemmas.{chain_bounds, chain_kept, chain_push}

-- a frame without its gate
front-frame_text : (payload : List ℕ) → bytes_at (frame_text payload) 0 (4 + length payload) ≡ u32_bytes (length payload) ++ payload
unfolding frame_text
front-frame_text payload =
    let size : 4 + length payload ≡ length (u32_bytes (length payload) ++ payload) =
    omega (arith, length-append (u32_bytes (length payload)) payload, length-u32_bytes (length payload)) in
    ap₂ take size (sym (append_assoc (u32_bytes (length payload)) payload (0 ∷ []))) ∙ take-append_seam (u32_bytes (length payload) ++ payload) (0 ∷ [])

-- the gate of a frame is closed
gate-frame_text : (payload : List ℕ) → get_or (frame_text payload) (4 + length payload) 0 ≡ 0
unfolding frame_text
gate-frame_text payload = let four = length-u32_bytes (length payload) in grind (arith, places)

-- each half begins behind the first two blocks
pub active_start-least : (image : List ℕ) (half : ℕ) → 8192 ≤ active_start image half
active_start-least image half =
    elim (slice_index image 4096 % 2 == 0) as (λ b. 8192 ≤ (if b then 8192 else 8192 + 4096 * half)) [ true ↦ omega arith | false ↦ omega arith ]

-- and none behind the first two blocks and a half
pub active_start-most : (image : List ℕ) (half : ℕ) → active_start image half ≤ 8192 + 4096 * half
active_start-most image half =
    elim (slice_index image 4096 % 2 == 0) as (λ b. (if b then 8192 else 8192 + 4096 * half) ≤ 8192 + 4096 * half) [ true ↦ omega arith | false ↦ omega arith ]

-- the image once the gate was opened behind the frame
abbrev pub recorded : List ℕ → ℕ → List ℕ → List ℕ
recorded image gate payload = overwritten gate (1 ∷ []) (overwritten (gate + 1) (frame_text payload) image)

module _ (image payload : List ℕ) (gate : ℕ) (fits : gate + (6 + length payload) ≤ length image) where
  framed_fits : gate + 1 + length (frame_text payload) ≤ length image
  framed_fits = omega (arith, length-frame_text payload)

  opened_fits : gate + length {A = ℕ} (1 ∷ []) ≤ length (overwritten (gate + 1) (frame_text payload) image)
  opened_fits = omega (arith, length-overwritten (gate + 1) (frame_text payload) image framed_fits)

  -- what lies before the gate stays
  pub recorded-before : (i n : ℕ) → i + n ≤ gate → bytes_at (recorded image gate payload) i n ≡ bytes_at image i n
  recorded-before i n h =
      bytes_at-before gate (1 ∷ []) _ opened_fits i n h ∙ bytes_at-before (gate + 1) (frame_text payload) image framed_fits i n (omega arith)

  recorded-byte : (i : ℕ) → i < gate → get_or (recorded image gate payload) i 0 ≡ get_or image i 0
  recorded-byte i h =
      get_or-before gate (1 ∷ []) _ opened_fits i 0 h ∙ get_or-before (gate + 1) (frame_text payload) image framed_fits i 0 (omega arith)

  length-recorded : length (recorded image gate payload) ≡ length image
  length-recorded = length-overwritten gate (1 ∷ []) _ opened_fits ∙ length-overwritten (gate + 1) (frame_text payload) image framed_fits

  pub recorded-record : length payload < 2 ^ 32 → IsRecordAt (recorded image gate payload) gate payload
  unfolding record_text
  recorded-record short =
      let one : gate + 0 ≡ gate = omega arith in
      let gate_is : bytes_at (recorded image gate payload) gate 1 ≡ 1 ∷ [] =
      rw one at (bytes_at-written gate (1 ∷ []) _ opened_fits 0 1 (omega arith)) in
      let none : gate + 1 + 0 ≡ gate + 1 = omega arith in
      let behind : bytes_at (recorded image gate payload) (gate + 1) (4 + length payload) ≡ u32_bytes (length payload) ++ payload =
      bytes_at-behind gate (1 ∷ []) _ opened_fits (gate + 1) (4 + length payload) (omega arith)
      (omega (arith, length-overwritten (gate + 1) (frame_text payload) image framed_fits))
      ∙ (rw none at (bytes_at-written (gate + 1) (frame_text payload) image framed_fits 0 (4 + length payload) (omega (arith, length-frame_text payload))))
      ∙ front-frame_text payload in
      let size : 5 + length payload ≡ 1 + (4 + length payload) = omega arith in
      record {
        text = rw size (bytes_at-add (recorded image gate payload) gate 1 (4 + length payload) ∙ ap₂ ◌++◌ gate_is behind);
        short = short;
      }

  pub recorded-gate : get_or (recorded image gate payload) (gate + (5 + length payload)) 0 ≡ 0
  recorded-gate =
      let place : gate + (5 + length payload) ≡ gate + 1 + (4 + length payload) = omega arith in
      get_or-behind gate (1 ∷ []) _ opened_fits (gate + (5 + length payload)) 0 (omega arith)
      ∙ rw place (get_or-written (gate + 1) (frame_text payload) image framed_fits (4 + length payload) 0 (omega (arith, length-frame_text payload)) ∙
      gate-frame_text payload)

-- the half has one record more
half_more : (image : List ℕ) (start end gate form : ℕ) (rows : List ℕ) (records : List Record) (payload : List ℕ) → end ≤ length image
    → gate + (6 + length payload) ≤ end → length payload < 2 ^ 32 → HasHalf image start end gate form rows records
    → HasHalf (recorded image gate payload) start end (gate + (length payload + 5)) form rows (records ++ record { offset = gate; payload = payload } ∷ [])
half_more image start end gate form rows records payload within room short h =
    let fits : gate + (6 + length payload) ≤ length image = omega arith in
    let bound : start + (8 + length rows) ≤ gate = chain_bounds image _ records gate h.chain in
    let place : length payload + 5 ≡ 5 + length payload = omega arith in
    record {
      is = h.is;
      text = recorded-before image payload gate fits start (8 + length rows) bound ∙ h.text;
      few = h.few;
      chain =
          rw place (chain_push _ _ records gate payload (chain_kept image _ _ records gate (recorded-before image payload gate fits) h.chain)
          (recorded-record image payload gate fits short));
      closed =
          λ one. let shut : get_or (recorded image gate payload) (gate + (length payload + 5)) 0 ≡ 0 = rw place (recorded-gate image payload gate fits) in cc;
      within = omega arith;
    }

-- the image gives the journal one record more
pub gives_more : (image : List ℕ) (p : Position) (held : Contents) (payload : List ℕ) → p.gate + p.room ≤ length image → length payload + 6 ≤ p.room
    → length payload < 2 ^ 32 → Gives image p held → Gives (recorded image p.gate payload) (after_append p (length payload)) (with_payload p payload held)
gives_more image p held payload within room short g =
    let fits : p.gate + (6 + length payload) ≤ length image = omega arith in
    let bound : p.start + (8 + length held.rows) ≤ p.gate = chain_bounds image _ held.records p.gate g.half.half.chain in
    let behind : 8192 ≤ p.start = omega (arith, g.active, active_start-least image held.header.half) in
    let start : active_start (recorded image p.gate payload) held.header.half ≡ active_start image held.header.half =
    ap (λ (byte : ℕ). if byte % 2 == 0 then 8192 else 8192 + 4096 * held.header.half) (recorded-byte image payload p.gate fits 4096 (omega arith)) in
    let size = length-recorded image payload p.gate fits in
    record {
      half = record {
        header = record {
          gate = recorded-byte image payload p.gate fits 40 (omega arith) ∙ g.half.header.gate;
          text = recorded-before image payload p.gate fits 0 40 (omega arith) ∙ g.half.header.text;
          blocks = g.half.header.blocks;
          half = g.half.header.half;
          id = g.half.header.id;
        };
        sizes = rw size g.half.sizes;
        half = half_more image _ _ p.gate held.form held.rows held.records payload (omega (arith, g.half.room)) (omega (arith, g.half.room)) short g.half.half;
        room = omega (arith, g.half.room);
        blocks = g.half.blocks;
        half_blocks = g.half.half_blocks;
      };
      active = g.active ∙ sym start;
    }
