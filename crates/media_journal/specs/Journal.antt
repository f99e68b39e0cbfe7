-- What a journal stands for: a place in its file, and what the file's image gives up to it.
use Rattle.std.specs.Prelude.{◌≡◌, ◌<◌, ◌≤◌, ◌+◌, ◌-◌, ◌*◌, ◌^◌, ℕ, List, [], ◌∷◌, ◌++◌, length, take, drop}
use Rattle.disk_trait.specs.Calls.{overwritten}
use Rattle.disk_trait.specs.Numbers.{u32_bytes}
use Rattle.media_journal.specs.declared.record.Record.{Record}
use Rattle.media_journal.specs.declared.header.Header.{Header}
use Rattle.media_journal.specs.File.{AreSizes, HasHalf, IsHeader, active_start}

-- The blocks of the file and of a half, where the journal's half begins, where its closed gate is,
-- and the bytes from there to the half's end. The room is 0 where an open record's end passes the
-- half.
pub record Position : Type 0 where
  pub blocks : ℕ
  pub half : ℕ
  pub start : ℕ
  pub gate : ℕ
  pub room : ℕ

-- A journal stays within its half, and both halves within the file. So its room is at most the
-- bytes of the longest half.
pub record IsPosition (p : Position) : Type 0 where
  pub blocks : p.blocks ≤ 1073741824
  pub half : p.half ≤ 65536
  pub sizes : 2 * p.half + 3 ≤ p.blocks
  pub behind : p.start ≤ p.gate
  pub room : p.gate + p.room ≤ p.start + 4096 * p.half
  pub within : p.gate + p.room ≤ 4096 * p.blocks

-- The room goes to the end of the half: no record in it was torn.
abbrev pub IsWhole : Position → Type 0
IsWhole p = p.gate + p.room ≡ p.start + 4096 * p.half

-- What a half of a store holds: the file's header, the half's form, its rows, and its records.
pub record Contents : Type 0 where
  pub header : Header
  pub form : ℕ
  pub rows : List ℕ
  pub records : List Record

-- The journal's half of the image holds this, whichever half the selector names: its records end at
-- the journal's gate, and the journal's numbers are those of the file.
pub record HasInHalf (image : List ℕ) (p : Position) (held : Contents) : Type 0 where
  pub header : IsHeader image held.header
  pub sizes : AreSizes held.header (length image)
  pub half : HasHalf image p.start (p.start + 4096 * held.header.half) p.gate held.form
      held.rows held.records
  pub room : p.gate + p.room ≡ p.start + 4096 * held.header.half
  pub blocks : p.blocks ≡ held.header.blocks
  pub half_blocks : p.half ≡ held.header.half

-- The image gives the journal this: its half holds it, and the selector names that half.
pub record Gives (image : List ℕ) (p : Position) (held : Contents) : Type 0 where
  pub half : HasInHalf image p held
  pub active : p.start ≡ active_start image held.header.half

-- the position after a payload of n bytes was appended
abbrev pub after_append : Position → ℕ → Position
after_append p n = record p { gate = p.gate + (n + 5); room = p.room - (n + 5) }

-- the bytes of a record's one write: the length of the payload, the payload and a closed gate
unfoldable pub frame_text : List ℕ → List ℕ
frame_text payload = u32_bytes (length payload) ++ (payload ++ 0 ∷ [])

-- The image with a record: behind its gate its length, its payload and a closed gate of 0, and then
-- the gate itself, which is opened by a 1.
abbrev pub with_record : ℕ → List ℕ → List ℕ → List ℕ
with_record gate payload image =
    overwritten gate (1 ∷ []) (overwritten (gate + 1) (frame_text payload) image)

-- the payload between the length and the gate
abbrev pub framed : List ℕ → List ℕ
framed bytes = take (length bytes - 5) (drop 4 bytes)

-- the bytes are those of a payload that isn't empty and whose length fits its field
pub record IsFrame (bytes : List ℕ) : Type 0 where
  pub text : bytes ≡ frame_text (framed bytes)
  pub some : 6 ≤ length bytes
  pub short : length bytes < 2 ^ 32 + 5
