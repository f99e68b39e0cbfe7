-- Where a text is no playlist.
use Rattle.std.specs.Prelude.{◌≡◌, ◌≤◌, ◌<◌, ◌+◌, ℕ, List, ◌++◌, All, length, take, Result, Ok, Err}
use Rattle.hls_manifest.specs.declared.fault.PlaylistFault.{PlaylistFault}
use Rattle.hls_manifest.specs.declared.fault.PlaylistFault.TheVariants.{Line, Memory}
use Rattle.hls_manifest.specs.declared.listing.Listing.{Listing}
use Rattle.hls_manifest.specs.Playlists.{IsLine, IsListing, Spells, playlist_lines, text_of_lines}

-- a text as the lines that a line feed ends, each without it, and what stands behind the last one
pub record IsCut (text : List ℕ) (lines : List (List ℕ)) (rest : List ℕ) : Type 0 where
  pub whole : text ≡ text_of_lines lines ++ rest
  pub each : All IsLine lines
  pub last : IsLine rest

-- some playlist begins with these lines
abbrev pub BeginsSome : List (List ℕ) → Type 0
BeginsSome front =
    (later : List (List ℕ)) × (listing : Listing) × IsListing listing
    × (playlist_lines listing ≡ front ++ later)

-- The text is no playlist, and the line of this number, counted from 1, is the first one with which
-- the lines so far begin none. Where each line leaves some playlist possible, it is the number
-- behind the last of them.
pub record FailsAtLine (text : List ℕ) (number : ℕ) : Type 0 where
  pub lines : List (List ℕ)
  pub rest : List ℕ
  pub before : ℕ
  pub cut : IsCut text lines rest
  pub no_playlist : (listing : Listing) → ¬ (Spells text listing)
  pub counted : number ≡ before + 1
  pub within : before ≤ length lines
  pub begins : BeginsSome (take before lines)
  pub fails : before < length lines → ¬ (BeginsSome (take number lines))

-- P of the line, where a text is no playlist
abbrev pub IfLine : {T : Type 0} → Result T PlaylistFault → (ℕ → Type 0) → Type 0
IfLine (Ok x) P = Unit {0}
IfLine (Err (Line number)) P = P number
IfLine (Err Memory) P = Unit {0}
