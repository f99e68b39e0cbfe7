-- The digest at the end of a change that stores an object: it can be put in behind the rest.
use Rattle.std.specs.Prelude.{◌≡◌, ◌<◌, ◌-◌, ◌^◌, ℕ, List, ◌++◌, Some, length, take}
use Rattle.media_rows.specs.declared.change.Change.TheVariants.{Store}
use Rattle.media_rows.specs.declared.object.Digest.{Digest}
use Rattle.media_rows.specs.Digests.{digest_of}
use Rattle.disk_trait.specs.Numbers.{u128_bytes}
use Rattle.change_codec.specs.Codec.{SpellsChange}
use Rattle.change_codec.specs.Fitting.{change_size}

-- the 32 bytes of a digest: those of its high half, then those of its low one
abbrev pub digest_bytes : Digest → List ℕ
digest_bytes digest = u128_bytes digest.high ++ u128_bytes digest.low

-- the halves of a digest are numbers of 128 bits
pub record HasHalves (digest : Digest) : Type 0 where
  pub high : digest.high < 2 ^ 128
  pub low : digest.low < 2 ^ 128

-- bytes with these in place of as many at their end
abbrev pub ending_in : List ℕ → List ℕ → List ℕ
ending_in tail bytes = take (length bytes - length tail) bytes ++ tail

-- the spelling of a stored object and that with another digest: the one has the other's bytes but
-- for the last 32, and as many
pub record IsDigestLast (form : ℕ) (bytes : List ℕ) (moment : ℕ) (object : List ℕ)
    (start size : ℕ) (digest : Digest) : Type 0 where
  pub spells : SpellsChange form (ending_in (digest_bytes digest) bytes)
      (Store moment object start size (Some digest))
  pub sized : length (ending_in (digest_bytes digest) bytes) ≡ length bytes

-- so it is of every change that stores an object, for every digest
abbrev pub DigestsAreLast : Type 0
DigestsAreLast =
    (form moment : ℕ) (object : List ℕ) (start size : ℕ) (kept digest : Digest) (bytes : List ℕ)
    → SpellsChange form bytes (Store moment object start size (Some kept)) → HasHalves digest
    → IsDigestLast form bytes moment object start size digest

-- and it takes as much with one digest as with another
abbrev pub DigestsTakeAlike : Type 0
DigestsTakeAlike =
    (moment : ℕ) (object : List ℕ) (start size : ℕ) (kept digest : Digest)
    → change_size (Store moment object start size (Some digest))
    ≡ change_size (Store moment object start size (Some kept))

-- the digest of any bytes has its halves
abbrev pub DigestsHaveHalves : Type 0
DigestsHaveHalves = (bytes : List ℕ) → HasHalves (digest_of bytes)
