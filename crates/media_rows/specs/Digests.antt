-- The digest of bytes, and digests as texts.
use Rattle.std.specs.Prelude.{ℕ, List, ◌++◌, take, drop}
use Rattle.std.specs.Int.{w128, from_be_bytes, to_be_bytes}
use Rattle.sha2.specs.Sha256.{sha256}
use Rattle.uuid.specs.Text.{lower, simple_text}
use Rattle.media_rows.specs.declared.object.Digest.{Digest}

-- the SHA-256 of bytes (FIPS 180-4): the first 16 of its 32 bytes as a number, and the last 16
unfoldable pub digest_of : List ℕ → Digest
digest_of bytes = record {
  high = from_be_bytes w128 (take 16 (sha256 bytes));
  low = from_be_bytes w128 (drop 16 (sha256 bytes));
}

-- the 32 hexadecimal digits of 16 bytes, in lower case
unfoldable pub half_digest_text : ℕ → List ℕ
half_digest_text half = simple_text lower (to_be_bytes w128 half)

-- the 64 hexadecimal digits of a digest, in lower case
abbrev pub digest_text : Digest → List ℕ
digest_text digest = half_digest_text digest.high ++ half_digest_text digest.low
