-- The window through which a half is read.
use Rattle.std.specs.Prelude.{◌≡◌, ◌<◌, ◌≤◌, ◌+◌, ◌^◌, ℕ, List, length, true}
use Rattle.media_journal.specs.declared.window.TheConstants.{PIECE}
use Rattle.disk_trait.specs.Device.{Device}
use Rattle.disk_trait.specs.Calls.{bytes_at}

-- a piece of a half: the offset of its first byte, its bytes, and where the half ends
pub record HalfPiece : Type 0 where
  pub offset : ℕ
  pub bytes : List ℕ
  pub end : ℕ

-- The half is on this device, and its places fit 64 bits. The piece's bytes are those that the
-- device shows at its offset.
pub record IsPieceOn (d : Device) (p : HalfPiece) : Type 0 where
  pub within : p.end ≤ d.size
  pub fits : p.end < 2 ^ 64
  pub shown : d.shows ≡ true → p.bytes ≡ bytes_at d.seen p.offset (length p.bytes)

-- the piece has so many bytes from this place on
pub record HasBytes (p : HalfPiece) (at count : ℕ) : Type 0 where
  pub from : p.offset ≤ at
  pub to : at + count ≤ p.offset + length p.bytes

-- what a window keeps: the bytes of its buffer that were read lie in its half
pub record IsWindow (buffer : List ℕ) (offset filled end : ℕ) : Type 0 where
  pub size : length buffer ≡ PIECE
  pub fits : filled ≤ PIECE
  pub within : offset + filled ≤ end
