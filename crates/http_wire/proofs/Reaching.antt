-- How far a chunked body was read: from the start, one chunk on, and under more bytes.
use Rattle.std.proofs.Common.{◌≡◌, ℕ, ◌+◌, ◌-◌, ◌<◌, ◌≤◌, nat_eq, nat_lt, true, false, rules, List, [], ◌++◌, length, take, drop, refl, sym, ap, ◌∙◌, arith, append-nil, append_assoc, length-append, length-drop, length-take, drop-drop}
use Rattle.std.proofs.lemmas.Bool.Decides.{nat_tests}
use Rattle.std.proofs.lemmas.List.{take_all, drop-append-le, take-append-le, length-take-le}
use Rattle.http_wire.specs.Chunks.{chunked, chunks, chunks_within, coded_front, max_coded, one_chunk, prefixed}
use Rattle.http_wire.specs.Framing.{max_body}
use Rattle.http_wire.specs.Heads.{Front, more, refused, whole}
use Rattle.http_wire.specs.Within.Reading.{IsChunk, IsLine, IsLineSeen, IsReached, FindsChunk}
use Rattle.http_wire.specs.declared.chunk_line.LineSeen.{LineSeen}
use Rattle.http_wire.specs.declared.chunk_line.LineSeen.TheVariants as lines
use Rattle.http_wire.specs.declared.chunks.ChunkFound.TheVariants as found
use Rattle.http_wire.specs.declared.chunks.Progress.{Progress}
use Rattle.http_wire.specs.declared.framing.WireFault.{WireFault}
use Rattle.http_wire.proofs.Ends.{line_end-append_some}
use Rattle.http_wire.proofs.Trailers.{TrailerSeen_later}
use Rattle.http_wire.proofs.ChunkSteps.{chunk_steps, chunks_behind, chunks_within-one, prefixed-nothing, prefixed-prefixed}

-- nothing is known of a line
abbrev pub fresh : ℕ → Progress
fresh at = record { at = at; line = lines.Open 0 }

-- at the start
pub Reached_start : (bytes : List ℕ) → IsReached bytes [] (fresh 0)
Reached_start bytes = record {
  inside = omega arith;
  room = omega arith;
  rest = λ later. sym (prefixed-nothing (chunks_within max_body (bytes ++ later)));
  line = (omega arith, refl);
}

-- what is known of a line stays under more bytes
seen_later : (bytes later : List ℕ) (room : ℕ) (line : LineSeen) → IsLineSeen bytes room line → IsLineSeen (bytes ++ later) room line
seen_later bytes later room (lines.Open n) (inside, none) =
    (omega (arith, length-append bytes later), rw (take-append-le n bytes later inside) none)
seen_later bytes later room (lines.Read n size) seen = record {
  ends = line_end-append_some bytes later n seen.ends;
  inside = omega (arith, seen.inside, length-append bytes later);
  sized = rw (take-append-le n bytes later seen.inside) seen.sized;
  some = seen.some;
  fits = seen.fits;
}
seen_later bytes later room (lines.Last n trail) (seen, looked) = (
  record {
    ends = line_end-append_some bytes later n seen.ends;
    inside = omega (arith, seen.inside, length-append bytes later);
    sized = rw (take-append-le n bytes later seen.inside) seen.sized;
  },
  rw (drop-append-le n bytes later seen.inside) (TrailerSeen_later (drop n bytes) later trail looked),
)

-- and so does how far a body was read
pub Reached_later : (bytes later content : List ℕ) (progress : Progress) → IsReached bytes content progress → IsReached (bytes ++ later) content progress
Reached_later bytes later content progress reached = record {
  inside = omega (arith, reached.inside, length-append bytes later);
  room = reached.room;
  rest = λ last. rw append_assoc (reached.rest (later ++ last));
  line = rw (drop-append-le progress.at bytes later reached.inside) (seen_later (drop progress.at bytes) later _ progress.line reached.line);
}

-- what stands at the place is what is left of the body
pub reached_front : (bytes content : List ℕ) (progress : Progress) → IsReached bytes content progress
    → chunks_within max_body bytes
    ≡ prefixed content progress.at (one_chunk (chunks (max_body - length content)) (max_body - length content) (drop progress.at bytes))
reached_front bytes content progress reached =
    rw append-nil at (reached.rest [])
    ∙ ap (prefixed content progress.at) (chunks_within-one (max_body - length content) (drop progress.at bytes))

-- the sums of a further chunk
on_at : (at n s : ℕ) → at + (n + s + 2) ≡ at + n + s + 2
on_at at n s = omega arith

-- one chunk on
pub Reached_more : (bytes content : List ℕ) (progress : Progress) (n s : ℕ) → IsReached bytes content progress
    → IsChunk (drop progress.at bytes) (max_body - length content) n s
    → IsReached bytes (content ++ take s (drop n (drop progress.at bytes))) (fresh (progress.at + n + s + 2))
Reached_more bytes content progress n s reached chunk =
    let line = chunk.line in
    let long : s ≤ length (drop n (drop progress.at bytes)) = omega (arith, length-drop n (drop progress.at bytes), chunk.inside) in
    let size = length-take-le s (drop n (drop progress.at bytes)) long in
    let all = length-append content (take s (drop n (drop progress.at bytes))) in
    let left : max_body - length (content ++ take s (drop n (drop progress.at bytes))) ≡ max_body - length content - s = omega (arith, all, size) in
    record {
      inside = omega (arith, reached.inside, chunk.inside, length-drop progress.at bytes);
      room = omega (arith, all, size, reached.room, line.fits);
      rest = λ later.
          let behind = drop-append-le progress.at bytes later reached.inside in
          let step = chunk_steps (drop progress.at bytes) (max_body - length content) n s chunk (chunks (max_body - length content)) later in
          let fewer = chunks_behind (max_body - length content) s (drop (n + s + 2) (drop progress.at bytes ++ later)) line.some line.fits in
          let on : drop (n + s + 2) (drop progress.at bytes ++ later) ≡ drop (progress.at + n + s + 2) (bytes ++ later) =
          ap (drop (n + s + 2)) (sym behind) ∙ drop-drop (n + s + 2) progress.at (bytes ++ later)
          ∙ ap (λ k. drop k (bytes ++ later)) (on_at progress.at n s) in
          rw left (reached.rest later ∙ rw (behind, chunks_within-one, step, fewer, prefixed-prefixed, on, on_at) refl);
      line = (omega arith, refl);
    }

-- ---- what is found of the chunk at the place says what is found of the body

pub chunks_more : (bytes content rest : List ℕ) (room : ℕ) (progress : Progress) (line : LineSeen) → IsReached bytes content progress
    → rest ≡ drop progress.at bytes → room ≡ max_body - length content → FindsChunk rest room (found.More line)
    → (chunks_within max_body bytes ≡ more) × IsReached bytes content (record { at = progress.at; line = line })
chunks_more bytes content rest room progress line reached there left (none, seen) = (
  reached_front bytes content progress reached ∙ rw (← there, ← left, none (chunks room)) refl,
  record {
    inside = reached.inside;
    room = reached.room;
    rest = reached.rest;
    line = rw (← there, ← left) seen;
  },
)

pub chunks_refused : (bytes content rest : List ℕ) (room : ℕ) (progress : Progress) (fault : WireFault) → IsReached bytes content progress
    → rest ≡ drop progress.at bytes → room ≡ max_body - length content → FindsChunk rest room (found.Refused fault)
    → chunks_within max_body bytes ≡ refused fault
chunks_refused bytes content rest room progress fault reached there left is =
    reached_front bytes content progress reached ∙ rw (← there, ← left, is (chunks room)) refl

pub chunks_last : (bytes content rest : List ℕ) (room : ℕ) (progress : Progress) (n : ℕ) → IsReached bytes content progress
    → rest ≡ drop progress.at bytes → room ≡ max_body - length content → FindsChunk rest room (found.Last n)
    → (chunks_within max_body bytes ≡ whole content (progress.at + n)) × (progress.at + n ≤ length bytes)
chunks_last bytes content rest room progress n reached there left (is, inside) = (
  reached_front bytes content progress reached ∙ rw (← there, ← left, is (chunks room), append-nil) refl,
  omega (arith, inside, ap length there, length-drop progress.at bytes, reached.inside),
)

pub chunks_on : (bytes content rest : List ℕ) (room : ℕ) (progress : Progress) (n s : ℕ) → IsReached bytes content progress
    → rest ≡ drop progress.at bytes → room ≡ max_body - length content → IsChunk rest room n s
    → IsReached bytes (content ++ take s (drop n rest)) (fresh (progress.at + n + s + 2))
chunks_on bytes content rest room progress n s reached there left chunk =
    rw there (Reached_more bytes content progress n s reached (rw (← there, ← left) chunk))

-- ---- a chunk that lacks data

-- a line that was read, and too few bytes behind it
short_chunk : (next : ℕ → List ℕ → Front (List ℕ)) (rest : List ℕ) (room n size : ℕ) → IsLine rest room n size → length rest - n < size
    → one_chunk next room rest ≡ more
short_chunk next rest room n size line few =
    let some : nat_eq size 0 ≡ false = (let above = line.some in search (arith, rules, nat_tests)) in
    let fits : nat_lt room size ≡ false = (let within = line.fits in search (arith, rules, nat_tests)) in
    let short : length (drop n rest) < size = omega (arith, length-drop n rest) in
    let lacks : nat_lt (length (drop n rest)) size ≡ true = search (arith, rules, nat_tests) in
    rw (line.ends, line.sized, some, fits, lacks) refl

chunks_short_by : (bytes content : List ℕ) (progress : Progress) (n size : ℕ) → IsReached bytes content progress → progress.line ≡ lines.Read n size
    → length bytes - progress.at - n < size → chunks_within max_body bytes ≡ more
chunks_short_by bytes content progress n size reached is few =
    let line : IsLine (drop progress.at bytes) (max_body - length content) n size = rw is at reached.line in
    let short : length (drop progress.at bytes) - n < size = omega (arith, length-drop progress.at bytes) in
    reached_front bytes content progress reached
    ∙ ap (prefixed content progress.at)
    (short_chunk (chunks (max_body - length content)) (drop progress.at bytes) (max_body - length content) n size line short)

-- the line lies within the bytes
pub line_within : (bytes content : List ℕ) (progress : Progress) (n size : ℕ) → IsReached (coded_front bytes) content progress
    → progress.line ≡ lines.Read n size → progress.at + n ≤ length bytes
line_within bytes content progress n size reached is =
    let line : IsLine (drop progress.at (coded_front bytes)) (max_body - length content) n size = rw is at reached.line in
    omega (arith, line.inside, reached.inside, length-drop progress.at (coded_front bytes), length-take 8388609 bytes)

-- so the body isn't whole
pub chunked_short : (bytes content : List ℕ) (progress : Progress) (n size : ℕ) → IsReached (coded_front bytes) content progress
    → progress.line ≡ lines.Read n size → length bytes ≤ max_coded → length bytes - progress.at - n < size → chunked bytes ≡ more
chunked_short bytes content progress n size reached is few short =
    let all : coded_front bytes ≡ bytes = take_all 8388609 bytes (omega arith) in
    let within : nat_lt max_coded (length bytes) ≡ false = search (arith, rules, nat_tests) in
    rw (all, chunks_short_by bytes content progress n size (rw all at reached) is short, within) refl
