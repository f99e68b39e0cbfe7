-- Where a head ends, by its lines (RFC 9112, sections 2.1 and 2.2): empty lines may stand first,
-- then stand lines that aren't empty, and the first empty line behind them ends the head. A line
-- ends with LF, and is empty where nothing but a CR stands before it. A trailer (section 7.1.2) is
-- lines up to and with the first empty one. And what a chunk's line names (section 7.1).
use Rattle.std.specs.Prelude.{◌≡◌, ◌≤◌, ◌↔◌, ◌⊎◌, ℕ, List, [], ◌∷◌, ◌++◌, Some, length, take}
use Rattle.std.specs.List.{AllByRecursion, flat_map}
use Rattle.httparse.specs.Grammar.{ChunkLine, ReadsChunkLine, chunk_size}
use Rattle.http_wire.specs.Chunks.{line_size}
use Rattle.http_wire.specs.Lines.{carriage_return, line_end, line_feed, looked}
use Rattle.http_wire.specs.declared.lines.LinePlace.TheVariants.{After, Before}
use Rattle.http_wire.specs.declared.lines.Looked.TheVariants.{Ended}

-- a line, by what stands before its LF
abbrev pub line_text : List ℕ → List ℕ
line_text content = content ++ line_feed ∷ []

-- no LF is among these bytes
abbrev pub HasNoFeed : List ℕ → Type 0
HasNoFeed content = AllByRecursion (λ b. b ≡ line_feed → ⊥) content

-- a line is empty
abbrev pub IsEmptyLine : List ℕ → Type 0
IsEmptyLine content = (content ≡ []) ⊎ (content ≡ carriage_return ∷ [])

-- a line that isn't empty
abbrev pub IsFilledLine : List ℕ → Type 0
IsFilledLine content = HasNoFeed content × (IsEmptyLine content → ⊥)

-- lines of which the last one alone is empty
abbrev pub AreFilledLines : List (List ℕ) → Type 0
AreFilledLines [] = ⊥
AreFilledLines (content ∷ lines) =
    (IsEmptyLine content × (lines ≡ [])) ⊎ (IsFilledLine content × AreFilledLines lines)

-- the lines of a head: empty ones, and then one that isn't empty and what stands behind it
abbrev pub AreHeadLines : List (List ℕ) → Type 0
AreHeadLines [] = ⊥
AreHeadLines (content ∷ lines) =
    (IsEmptyLine content × AreHeadLines lines) ⊎ (IsFilledLine content × AreFilledLines lines)

-- the bytes of a head's lines
abbrev pub IsHeadText : List ℕ → Type 0
IsHeadText bytes =
    (lines : List (List ℕ)) × AreHeadLines lines × (bytes ≡ flat_map line_text lines)

-- a look at bytes finds the end of a head exactly behind the lines of one
abbrev pub HeadsEndAtEmptyLines : Type 0
HeadsEndAtEmptyLines =
    (bytes : List ℕ) (n : ℕ)
    → looked Before bytes ≡ Ended n ↔ (n ≤ length bytes) × IsHeadText (take n bytes)

-- the bytes of a trailer's lines
abbrev pub IsTrailerText : List ℕ → Type 0
IsTrailerText bytes =
    (lines : List (List ℕ)) × AreFilledLines lines × (bytes ≡ flat_map line_text lines)

-- it finds the end of a trailer exactly behind the lines of one
abbrev pub TrailersEndAtEmptyLines : Type 0
TrailersEndAtEmptyLines =
    (bytes : List ℕ) (n : ℕ)
    → looked After bytes ≡ Ended n ↔ (n ≤ length bytes) × IsTrailerText (take n bytes)

-- the bytes of one line
abbrev pub IsLineText : List ℕ → Type 0
IsLineText bytes = (content : List ℕ) × HasNoFeed content × (bytes ≡ line_text content)

-- a line ends exactly at its first LF
abbrev pub LinesEndAtFeeds : Type 0
LinesEndAtFeeds =
    (bytes : List ℕ) (n : ℕ)
    → line_end bytes ≡ Some n ↔ (n ≤ length bytes) × IsLineText (take n bytes)

-- A chunk's line names a size exactly where it is 1 to 16 hexadecimal digits, blanks, perhaps a
-- semicolon and an extension, and CR LF; and then the number of its digits.
abbrev pub ChunkLinesNameSizes : Type 0
ChunkLinesNameSizes =
    (line : List ℕ) (size : ℕ)
    → line_size line ≡ Some size
    ↔ (l : ChunkLine) × ReadsChunkLine line l [] × (size ≡ chunk_size l)
