-- A chunked body (RFC 9112, section 7.1). The limits of its data, of its coded bytes and of its
-- trailer are our own, and so is that a trailer's lines are ignored.
use Rattle.std.specs.Prelude.{ℕ, zero, suc, ◌+◌, ◌-◌, ◌==◌, nat_lt, nat_le, Bool, false, ◌&&◌, ◌||◌, List, [], ◌∷◌, ◌++◌, length, take, drop, Option, Some, None, if◌then◌else◌, bytes_eq}
use Rattle.std.specs.List.{count_by, prefix_len}
use Rattle.std.specs.Char.{is_ascii_hexdigit}
use Rattle.std.specs.Str.Parse.{digits_value}
use Rattle.httparse.specs.Ascii.{crlf_bytes, semicolon}
use Rattle.httparse.specs.Grammar.{is_extension_byte, is_ows}
use Rattle.http_wire.specs.Framing.{max_body}
use Rattle.http_wire.specs.Heads.{Front, more, refused, whole}
use Rattle.http_wire.specs.Lines.{carriage_return, line_end, line_feed, looked}
use Rattle.http_wire.specs.declared.framing.WireFault.TheVariants.{BadFraming, TooLarge}
use Rattle.http_wire.specs.declared.chunk_line.FrontEnd.{FrontEnd}
use Rattle.http_wire.specs.declared.chunk_line.FrontEnd.TheVariants.{Ended, Open, Wrong}
use Rattle.http_wire.specs.declared.lines.Looked.{Looked}
use Rattle.http_wire.specs.declared.lines.Looked.TheVariants as looks
use Rattle.http_wire.specs.declared.lines.LinePlace.TheVariants.{After}

-- ---- the line before a chunk

-- the longest front of bytes that pass a test
abbrev pub front_by : (ℕ → Bool) → List ℕ → List ℕ
front_by test bytes = take (prefix_len test bytes) bytes

-- and what stands behind it
abbrev pub behind : (ℕ → Bool) → List ℕ → List ℕ
behind test bytes = drop (prefix_len test bytes) bytes

-- the bytes are CR LF, or a semicolon, an extension and CR LF
abbrev pub is_line_tail : List ℕ → Bool
is_line_tail [] = false
is_line_tail (b ∷ bytes) =
    if b == semicolon then bytes_eq (behind is_extension_byte bytes) crlf_bytes
    else bytes_eq (b ∷ bytes) crlf_bytes

-- a size has at most so many hexadecimal digits
abbrev pub max_size_digits : ℕ
max_size_digits = 16

-- the size that digits write, where the rest of their line can be read
abbrev pub sized_line : List ℕ → Bool → Option ℕ
sized_line digits tail =
    if nat_lt 0 (length digits) && nat_le (length digits) max_size_digits && tail
    then Some (digits_value 16 digits) else None

-- the size in a chunk's line: digits, blanks, perhaps an extension, and CR LF
abbrev pub line_size : List ℕ → Option ℕ
line_size line =
    sized_line (front_by is_ascii_hexdigit line)
    (is_line_tail (behind is_ows (behind is_ascii_hexdigit line)))

-- ---- the trailer

-- a trailer has at most so many lines
abbrev pub max_trailer_lines : ℕ
max_trailer_lines = 65

-- and so many bytes
abbrev pub max_trailer : ℕ
max_trailer = 16384

-- the lines that end in bytes
abbrev pub count_lines : List ℕ → ℕ
count_lines bytes = count_by (λ b. b == line_feed) bytes

-- The trailer by where its empty line ends. It can't be read where its first 65 lines, or its first
-- 16,384 bytes, are there whole and hold no empty line.
abbrev pub trailer_by : Looked → List ℕ → FrontEnd
trailer_by (looks.Ended n) bytes =
    if nat_lt max_trailer_lines (count_lines (take n bytes)) then Wrong else Ended n
trailer_by (looks.Still place) bytes =
    if nat_le max_trailer (length bytes) || nat_le max_trailer_lines (count_lines bytes)
    then Wrong else Open

-- the trailer at the front of bytes: lines up to and with the first empty one
abbrev pub trailer : List ℕ → FrontEnd
trailer bytes = trailer_by (looked After (take max_trailer bytes)) (take max_trailer bytes)

-- ---- the chunks

-- data and so many bytes before what stands behind them
abbrev pub prefixed : List ℕ → ℕ → Front (List ℕ) → Front (List ℕ)
prefixed content n more = more
prefixed content n (refused fault) = refused fault
prefixed content n (whole body m) = whole (content ++ body) (n + m)

-- the end of a chunk's data: CR LF
abbrev pub data_ending : List ℕ → FrontEnd
data_ending [] = Open
data_ending (c ∷ []) = if c == carriage_return then Open else Wrong
data_ending (c ∷ l ∷ bytes) = if (c == carriage_return) && (l == line_feed) then Ended 2 else Wrong

-- the end of the body behind the last chunk
abbrev pub body_end : FrontEnd → Front (List ℕ)
body_end Open = more
body_end Wrong = refused BadFraming
body_end (Ended n) = whole [] n

-- what stands behind a chunk's data of so many bytes, by the end of the data
abbrev pub behind_data : (List ℕ → Front (List ℕ)) → ℕ → List ℕ → FrontEnd → Front (List ℕ)
behind_data next n bytes Open = more
behind_data next n bytes Wrong = refused BadFraming
behind_data next n bytes (Ended m) = prefixed (take n bytes) (n + m) (next (drop (n + m) bytes))

-- a chunk's data of so many bytes, and what stands behind the chunk
abbrev pub chunk_data : (List ℕ → Front (List ℕ)) → ℕ → List ℕ → Front (List ℕ)
chunk_data next n bytes =
    if nat_lt (length bytes) n then more else behind_data next n bytes (data_ending (drop n bytes))

-- a chunk by its size, whose line has so many bytes: the last one, or one with data, after which
-- the others have so much less room
abbrev pub sized_chunk
    : (ℕ → List ℕ → Front (List ℕ)) → ℕ → ℕ → List ℕ → Option ℕ → Front (List ℕ)
sized_chunk next room n bytes None = refused BadFraming
sized_chunk next room n bytes (Some size) =
    if size == 0 then prefixed [] n (body_end (trailer bytes))
    else if nat_lt room size then refused TooLarge
    else prefixed [] n (chunk_data (next (room - size)) size bytes)

-- a chunk by where its line ends
abbrev pub lined_chunk
    : (ℕ → List ℕ → Front (List ℕ)) → ℕ → List ℕ → Option ℕ → Front (List ℕ)
lined_chunk next room bytes None = more
lined_chunk next room bytes (Some n) =
    sized_chunk next room n (drop n bytes) (line_size (take n bytes))

-- a chunk, and what stands behind it
abbrev pub one_chunk : (ℕ → List ℕ → Front (List ℕ)) → ℕ → List ℕ → Front (List ℕ)
one_chunk next room bytes = lined_chunk next room bytes (line_end bytes)

-- At most so many chunks, with at most so many bytes of data in all, and the trailer. Each chunk
-- but the last has data, so that one chunk more than the bytes of data is enough.
unfoldable pub chunks : ℕ → ℕ → List ℕ → Front (List ℕ)
chunks zero room bytes = more
chunks (suc count) room bytes = one_chunk (chunks count) room bytes

-- as many chunks as fit the room
abbrev pub chunks_within : ℕ → List ℕ → Front (List ℕ)
chunks_within room bytes = chunks (suc room) room bytes

-- a chunked body has at most so many bytes with its chunks' lines and its trailer
abbrev pub max_coded : ℕ
max_coded = 8388608

-- The body, by what its first 8,388,609 bytes hold: it is refused where it ends behind more than
-- 8,388,608.
abbrev pub capped_data : ℕ → Front (List ℕ) → Front (List ℕ)
capped_data size more = if nat_lt max_coded size then refused TooLarge else more
capped_data size (refused fault) = refused fault
capped_data size (whole body n) = if nat_lt max_coded n then refused TooLarge else whole body n

-- the bytes of a chunked body that are looked at
abbrev pub coded_front : List ℕ → List ℕ
coded_front bytes = take 8388609 bytes

-- the chunked body at the front of bytes
abbrev pub chunked : List ℕ → Front (List ℕ)
chunked bytes =
    capped_data (length (coded_front bytes)) (chunks_within max_body (coded_front bytes))
