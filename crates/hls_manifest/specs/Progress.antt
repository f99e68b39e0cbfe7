-- How far lines go in a playlist: what they end with, and the entries that stand whole.
use Rattle.std.specs.Prelude.{◌≡◌, ◌≤◌, ◌<◌, ◌^◌, ℕ, Bool, true, false, List, [], ◌∷◌, ◌++◌, codes, length}
use Rattle.std.specs.Fmt.{decimal}
use Rattle.std.specs.List.{flat_map}
use Rattle.hls_manifest.specs.declared.listing.Entry.{Entry}
use Rattle.hls_manifest.specs.declared.listing.Listing.{Listing}
use Rattle.hls_manifest.specs.declared.progress.Progress.{Progress}
use Rattle.hls_manifest.specs.declared.progress.Progress.TheVariants.{Begun, Opened, Versioned, Targeted, Between, Broken, Timed, Ended}
use Rattle.hls_manifest.specs.Playlists.{IsAddress, IsLine, IsListing, break_lines, duration_text, entry_lines, head_lines, longest, rounded}

-- ---- single lines

-- a text is this line with its line feed, and what stands behind that
pub record IsFirstLine (text line behind : List ℕ) : Type 0 where
  pub whole : text ≡ line ++ 10 ∷ behind
  pub first : IsLine line

-- the word is a number of 64 bits, in decimal without leading zeros, and isn't 0
pub record IsNumber (word : List ℕ) (n : ℕ) : Type 0 where
  pub text : word ≡ decimal n
  pub least : 0 < n
  pub most : n < 2 ^ 64

-- the word is a number of 64 bits, in decimal without leading zeros
pub record IsNumberOrZero (word : List ℕ) (n : ℕ) : Type 0 where
  pub text : word ≡ decimal n
  pub most : n < 2 ^ 64

-- the line gives this target duration
pub record IsTargetLine (line : List ℕ) (target : ℕ) : Type 0 where
  pub text : line ≡ codes "#EXT-X-TARGETDURATION:" ++ decimal target
  pub least : 0 < target
  pub most : target < 2 ^ 64

-- the line of an entry's duration
unfoldable pub timing : ℕ → List ℕ
timing nanos = codes "#EXTINF:" ++ duration_text nanos ++ codes ","

-- ---- lines so far

-- the lines that lead there
abbrev pub lines_to : Progress → List Entry → List (List ℕ)
lines_to Begun entries = []
lines_to Opened entries = codes "#EXTM3U" ∷ []
lines_to Versioned entries = codes "#EXTM3U" ∷ codes "#EXT-X-VERSION:3" ∷ []
lines_to (Targeted target) entries =
    codes "#EXTM3U"
    ∷ codes "#EXT-X-VERSION:3"
    ∷ (codes "#EXT-X-TARGETDURATION:" ++ decimal target)
    ∷ []
lines_to (Between target) entries = head_lines target ++ flat_map entry_lines entries
lines_to (Broken target) entries =
    (head_lines target ++ flat_map entry_lines entries) ++ codes "#EXT-X-DISCONTINUITY" ∷ []
lines_to (Timed target broken nanos) entries =
    (head_lines target ++ flat_map entry_lines entries) ++ break_lines broken ++ timing nanos ∷ []
lines_to (Ended target) entries =
    (head_lines target ++ flat_map entry_lines entries) ++ codes "#EXT-X-ENDLIST" ∷ []

-- nothing stands whole before the first entry
pub record IsHead (entries : List Entry) : Type 0 where
  pub none : entries ≡ []

-- a target duration of 64 bits that isn't 0, before the first entry
pub record IsTargeted (target : ℕ) (entries : List Entry) : Type 0 where
  pub none : entries ≡ []
  pub least : 0 < target
  pub most : target < 2 ^ 64

-- whole entries, behind at least one of which media break off
pub record IsBroken (target : ℕ) (entries : List Entry) : Type 0 where
  pub listing : IsListing (record { target = target; entries = entries })
  pub some : 0 < length entries

-- whole entries, and the duration of a further one
pub record IsBegun (target : ℕ) (broken : Bool) (nanos : ℕ) (entries : List Entry) : Type 0 where
  pub listing : IsListing (record { target = target; entries = entries })
  pub some : broken ≡ true → 0 < length entries
  pub duration : nanos ≤ longest
  pub within : rounded nanos ≤ target

-- what may be reached
abbrev pub IsReached : Progress → List Entry → Type 0
IsReached Begun entries = IsHead entries
IsReached Opened entries = IsHead entries
IsReached Versioned entries = IsHead entries
IsReached (Targeted target) entries = IsTargeted target entries
IsReached (Between target) entries = IsListing (record { target = target; entries = entries })
IsReached (Broken target) entries = IsBroken target entries
IsReached (Timed target broken nanos) entries = IsBegun target broken nanos entries
IsReached (Ended target) entries = IsListing (record { target = target; entries = entries })

-- ---- one line more

-- the line, and what the lines then end with
pub record IsStep (wanted line : List ℕ) (after next : Progress) : Type 0 where
  pub text : line ≡ wanted
  pub leads : next ≡ after

-- the line gives a target duration
pub record IsTarget (line : List ℕ) (next : Progress) : Type 0 where
  pub target : ℕ
  pub text : IsTargetLine line target
  pub leads : next ≡ Targeted target

-- the line gives an entry's duration
pub record IsTimed (target : ℕ) (broken : Bool) (line : List ℕ) (next : Progress) : Type 0 where
  pub nanos : ℕ
  pub text : line ≡ timing nanos
  pub duration : nanos ≤ longest
  pub within : rounded nanos ≤ target
  pub leads : next ≡ Timed target broken nanos

-- the line ends the playlist, breaks off behind an entry, or gives an entry's duration
pub data BreaksOrGoesOn (target : ℕ) (entries : List Entry) (line : List ℕ) (next : Progress)
    : Type 0 where
  Ends : IsStep (codes "#EXT-X-ENDLIST") line (Ended target) next
      → BreaksOrGoesOn target entries line next
  Breaks : 0 < length entries → IsStep (codes "#EXT-X-DISCONTINUITY") line (Broken target) next
      → BreaksOrGoesOn target entries line next
  GoesOn : IsTimed target false line next → BreaksOrGoesOn target entries line next

-- the line is an address
pub record IsPlace (target : ℕ) (line : List ℕ) (next : Progress) : Type 0 where
  pub address : IsAddress line
  pub leads : next ≡ Between target

-- what lines end with once this line stands behind them
abbrev pub Follows : Progress → List Entry → List ℕ → Progress → Type 0
Follows Begun entries line next = IsStep (codes "#EXTM3U") line Opened next
Follows Opened entries line next = IsStep (codes "#EXT-X-VERSION:3") line Versioned next
Follows Versioned entries line next = IsTarget line next
Follows (Targeted target) entries line next =
    IsStep (codes "#EXT-X-MEDIA-SEQUENCE:0") line (Between target) next
Follows (Between target) entries line next = BreaksOrGoesOn target entries line next
Follows (Broken target) entries line next = IsTimed target true line next
Follows (Timed target broken nanos) entries line next = IsPlace target line next
Follows (Ended target) entries line next = ⊥

-- the entries that stand whole with this line
abbrev pub entries_after : Progress → List Entry → List ℕ → List Entry
entries_after (Timed target broken nanos) entries line =
    entries ++ record { nanos = nanos; broken = broken; address = line } ∷ []
entries_after progress entries line = entries

-- ---- the end

-- the listing that the lines end
abbrev pub IsEndOf : Progress → List Entry → Listing → Type 0
IsEndOf (Ended target) entries listing = listing ≡ record { target = target; entries = entries }
IsEndOf progress entries listing = ⊥

-- the lines end none
abbrev pub IsOpen : Progress → Type 0
IsOpen (Ended target) = ⊥
IsOpen progress = Unit {0}
