use Rattle.std.proofs.Common.{◌≡◌, ◌<◌, ◌^◌, ℕ, List, take}
use Rattle.hls_manifest.specs.Playlists.{last_digits}
use Rattle.hls_manifest.proofs.line_reading.read_digits.Given as goal

-- the digits so far are those of the number
pub record IsReadSo (digits : List ℕ) (index number : ℕ) : Type 0 where
  pub same : take index digits ≡ last_digits index number
  pub fits : number < 10 ^ index

abbrev pub invariant-loop-digit : goal.invariant-loop-digit
invariant-loop-digit l = IsReadSo l.digits l.digit-index l.number
