-- How far a chunked body was read.
use Rattle.std.specs.Prelude.{◌≡◌, ℕ, ◌+◌, ◌-◌, ◌<◌, ◌≤◌, List, [], ◌++◌, length, take, drop, Some, None}
use Rattle.http_wire.specs.Framing.{max_body}
use Rattle.http_wire.specs.Heads.{Front, more, refused, whole}
use Rattle.http_wire.specs.Lines.{line_end}
use Rattle.http_wire.specs.Chunks.{chunked, chunks_within, data_ending, coded_front, line_size, one_chunk, prefixed}
use Rattle.http_wire.specs.Within.Trailers.{IsTrailerSeen}
use Rattle.http_wire.specs.declared.chunk_line.FrontEnd.TheVariants.{Ended}
use Rattle.http_wire.specs.declared.chunk_line.LineSeen.{LineSeen}
use Rattle.http_wire.specs.declared.chunk_line.LineSeen.TheVariants.{Last, Open, Read}
use Rattle.http_wire.specs.declared.chunks.ChunkFound.{ChunkFound}
use Rattle.http_wire.specs.declared.chunks.ChunkFound.TheVariants as found
use Rattle.http_wire.specs.declared.chunks.Progress.{Progress}
use Rattle.http_wire.specs.declared.chunks.ChunksFound.{ChunksFound}
use Rattle.http_wire.specs.declared.chunks.ChunksFound.TheVariants as all_found

-- the line at the front ends behind so many bytes, and names so many bytes of data, which have room
pub record IsLine (bytes : List ℕ) (room n size : ℕ) : Type 0 where
  pub ends : line_end bytes ≡ Some n
  pub inside : n ≤ length bytes
  pub sized : line_size (take n bytes) ≡ Some size
  pub some : 0 < size
  pub fits : size ≤ room

-- the line at the front ends behind so many bytes, and is the last chunk's
pub record IsLastLine (bytes : List ℕ) (n : ℕ) : Type 0 where
  pub ends : line_end bytes ≡ Some n
  pub inside : n ≤ length bytes
  pub sized : line_size (take n bytes) ≡ Some 0

-- what is known of the line at the front
abbrev pub IsLineSeen : List ℕ → ℕ → LineSeen → Type 0
IsLineSeen bytes room (Open n) = (n ≤ length bytes) × (line_end (take n bytes) ≡ None)
IsLineSeen bytes room (Read n size) = IsLine bytes room n size
IsLineSeen bytes room (Last n seen) = IsLastLine bytes n × IsTrailerSeen (drop n bytes) seen

-- a whole chunk with data stands at the front
pub record IsChunk (bytes : List ℕ) (room n size : ℕ) : Type 0 where
  pub line : IsLine bytes room n size
  pub inside : n + size + 2 ≤ length bytes
  pub ends : data_ending (drop (n + size) bytes) ≡ Ended 2

-- what is found of the chunk at the front
abbrev pub FindsChunk : List ℕ → ℕ → ChunkFound → Type 0
FindsChunk bytes room (found.More line) =
    ((next : ℕ → List ℕ → Front (List ℕ)) → one_chunk next room bytes ≡ more)
    × IsLineSeen bytes room line
FindsChunk bytes room (found.Refused fault) =
    (next : ℕ → List ℕ → Front (List ℕ)) → one_chunk next room bytes ≡ refused fault
FindsChunk bytes room (found.Last n) =
    ((next : ℕ → List ℕ → Front (List ℕ)) → one_chunk next room bytes ≡ whole [] n)
    × (n ≤ length bytes)
FindsChunk bytes room (found.Chunk n size) = IsChunk bytes room n size

-- Whole chunks were read up to a place: whatever follows, the body is their content and what stands
-- from there on, for which there is so much less room.
pub record IsReached (bytes content : List ℕ) (progress : Progress) : Type 0 where
  pub inside : progress.at ≤ length bytes
  pub room : length content ≤ max_body
  pub rest : (later : List ℕ) → chunks_within max_body (bytes ++ later)
      ≡ prefixed content progress.at
      (chunks_within (max_body - length content) (drop progress.at (bytes ++ later)))
  pub line : IsLineSeen (drop progress.at bytes) (max_body - length content) progress.line

-- what is found of a chunked body
abbrev pub FindsChunks : List ℕ → ChunksFound → List ℕ → Type 0
FindsChunks bytes (all_found.More progress) content =
    (chunks_within max_body bytes ≡ more) × IsReached bytes content progress
FindsChunks bytes (all_found.Refused fault) content = chunks_within max_body bytes ≡ refused fault
FindsChunks bytes (all_found.Whole n) content =
    (chunks_within max_body bytes ≡ whole content n) × (n ≤ length bytes)

-- what is found of a chunked body with the limit of its coded bytes
abbrev pub FindsChunked : List ℕ → ChunksFound → List ℕ → Type 0
FindsChunked bytes (all_found.More progress) content =
    (chunked bytes ≡ more) × IsReached (coded_front bytes) content progress
FindsChunked bytes (all_found.Refused fault) content = chunked bytes ≡ refused fault
FindsChunked bytes (all_found.Whole n) content =
    (chunked bytes ≡ whole content n) × (n ≤ length bytes)
