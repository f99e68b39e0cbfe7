-- HLS media playlists (RFC 8216, section 4) of version 3: a listing, and its one text. Which tags
-- stand there, and in which order, is our own choice.
use Rattle.std.specs.Prelude.{◌≡◌, ◌≤◌, ◌<◌, ℕ, zero, suc, ◌+◌, ◌*◌, ◌/◌, ◌%◌, ◌^◌, Bool, true, false, List, [], ◌∷◌, ◌++◌, All, Contains, IfSome, codes, length, nat_eq, slice_get}
use Rattle.std.specs.Fmt.{decimal}
use Rattle.std.specs.List.{flat_map, starts_with}
use Rattle.hls_manifest.specs.declared.listing.Entry.{Entry}
use Rattle.hls_manifest.specs.declared.listing.Listing.{Listing}

-- ---- numbers

-- so many decimal digits of a number, its last ones
abbrev pub last_digits : ℕ → ℕ → List ℕ
last_digits zero n = []
last_digits (suc count) n = last_digits count (n / 10) ++ (48 + n % 10) ∷ []

-- a duration in seconds: the whole ones, a point, and nine digits of nanoseconds
abbrev pub duration_text : ℕ → List ℕ
duration_text nanos = decimal (nanos / 10 ^ 9) ++ codes "." ++ last_digits 9 (nanos % 10 ^ 9)

-- a duration rounded to the nearest second, halves up
abbrev pub rounded : ℕ → ℕ
rounded nanos = (nanos + 500_000_000) / 10 ^ 9

-- ---- lines

-- what stands before an entry that doesn't go on where the last one ended
abbrev pub break_lines : Bool → List (List ℕ)
break_lines true = codes "#EXT-X-DISCONTINUITY" ∷ []
break_lines false = []

-- the lines of an entry
abbrev pub entry_lines : Entry → List (List ℕ)
entry_lines entry =
    break_lines entry.broken
    ++ (codes "#EXTINF:" ++ duration_text entry.nanos ++ codes ",") ∷ entry.address ∷ []

-- the lines before the first entry
abbrev pub head_lines : ℕ → List (List ℕ)
head_lines target =
    codes "#EXTM3U"
    ∷ codes "#EXT-X-VERSION:3"
    ∷ (codes "#EXT-X-TARGETDURATION:" ++ decimal target)
    ∷ codes "#EXT-X-MEDIA-SEQUENCE:0"
    ∷ []

-- the lines of a listing
abbrev pub playlist_lines : Listing → List (List ℕ)
playlist_lines listing =
    head_lines listing.target
    ++ flat_map entry_lines listing.entries
    ++ codes "#EXT-X-ENDLIST" ∷ []

-- a line with its line feed
abbrev pub ended : List ℕ → List ℕ
ended line = line ++ 10 ∷ []

-- lines one behind another
abbrev pub text_of_lines : List (List ℕ) → List ℕ
text_of_lines lines = flat_map ended lines

-- the text of a listing
abbrev pub playlist_text : Listing → List ℕ
playlist_text listing = text_of_lines (playlist_lines listing)

-- ---- listings

-- the longest duration, in nanoseconds: from the least timestamp to the greatest
abbrev pub longest : ℕ
longest = 2 * 281_474_976_710_656 * 10 ^ 9

-- a line has no line feed
abbrev pub IsLine : List ℕ → Type 0
IsLine line = ¬ (Contains line 10)

-- An address is a line that isn't empty and begins no tag or comment.
pub record IsAddress (address : List ℕ) : Type 0 where
  pub some : 0 < length address
  pub no_tag : starts_with nat_eq address (codes "#") ≡ false
  pub line : IsLine address

-- an entry of a playlist with this target duration
pub record IsEntry (target : ℕ) (entry : Entry) : Type 0 where
  pub duration : entry.nanos ≤ longest
  pub within : rounded entry.nanos ≤ target
  pub address : IsAddress entry.address

-- A listing has a target of 64 bits, which isn't 0 and which no rounded duration exceeds. Nothing
-- breaks off before its first entry.
pub record IsListing (listing : Listing) : Type 0 where
  pub least : 0 < listing.target
  pub most : listing.target < 2 ^ 64
  pub entries : All (IsEntry listing.target) listing.entries
  pub first : IfSome (slice_get listing.entries 0) (λ entry. entry.broken ≡ false)

-- the text spells the listing
abbrev pub Spells : List ℕ → Listing → Type 0
Spells text listing = IsListing listing × (text ≡ playlist_text listing)
