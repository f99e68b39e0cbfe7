-- A part of a piece is a part of the image.
use Rattle.std.proofs.Common.{◌≡◌, ◌≤◌, ◌+◌, ◌-◌, ℕ, List, length, ap, ◌∙◌, arith}
use Rattle.disk_trait.specs.Calls.{bytes_at}
use Rattle.disk_trait.proofs.OverwriteLemmas.{bytes_at-bytes_at}
use Rattle.media_journal.specs.Within.Window.{HalfPiece, HasBytes}

pub piece_part : (image : List ℕ) (p : HalfPiece) (at n : ℕ) → p.bytes ≡ bytes_at image p.offset (length p.bytes) → HasBytes p at n
    → bytes_at p.bytes (at - p.offset) n ≡ bytes_at image at n
piece_part image p at n shown covers =
    let within : at - p.offset + n ≤ length p.bytes = omega (arith, covers.from, covers.to) in
    let place : p.offset + (at - p.offset) ≡ at = omega (arith, covers.from) in
    ap (λ bytes. bytes_at bytes (at - p.offset) n) shown ∙ bytes_at-bytes_at image p.offset (length p.bytes) (at - p.offset) n within ∙ ap
    (λ x. bytes_at image x n) place
