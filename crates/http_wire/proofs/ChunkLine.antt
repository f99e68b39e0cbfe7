-- What a chunk's line names is what `httparse` reads of it.
use Rattle.std.proofs.Common.{◌≡◌, ◌≢◌, ℕ, ◌<◌, ◌≤◌, Bool, true, false, cond, ◌&&◌, List, [], ◌∷◌, ◌++◌, length, get_or, drop, refl, sym, ap, ◌∙◌, arith, Option, Some, None, append-nil, inl, inr, nat_eq, nat_lt, nat_le, bytes_eq, rules, length-append, length-drop}
use Rattle.std.specs.List.{prefix_len}
use Rattle.std.specs.Char.{is_ascii_hexdigit}
use Rattle.std.specs.Cmp.Lexicographic.{same_text}
use Rattle.std.specs.Str.Parse.{digits_value}
use Rattle.std.proofs.lemmas.Bool.{cases_lt, false≢true}
use Rattle.std.proofs.lemmas.Bool.Decides.{nat_tests}
use Rattle.std.proofs.lemmas.List.{get_or_append_left, take-append-drop, take_at, drop_at, drop_all, drop_more, get_or-take, length-take-le}
use Rattle.std.proofs.lemmas.Option.{cond_some}
use Rattle.std.proofs.lemmas.List.Sums.{prefix_len_is, prefix_len_passes, prefix_len_stops, prefix_len-le-length}
use Rattle.httparse.specs.Ascii.{crlf_bytes}
use Rattle.httparse.specs.Grammar.{AllPass, ChunkLine, NeverHasChunkLine, ReadsChunkLine, chunk_size, print_chunk_line, is_extension_byte, is_ows}
use Rattle.httparse.specs.Pieces.{Extension, Run, Stops}
use Rattle.httparse.specs.Spans.{IsChunkLineAt}
use Rattle.httparse.proofs.ChunkLemmas.{chunk_line_unique, chunk_pieces, chunk_from_pieces}
use Rattle.http_wire.specs.Chunks.{front_by, behind, is_line_tail, sized_line, line_size}

stop_at : (test : ℕ → Bool) (run rest : List ℕ) (d : ℕ) → Stops test rest → test (get_or (run ++ rest) (length run) d) ≡ false
stop_at test [] [] d stops = absurd stops
stop_at test [] (b ∷ rest) d stops = stops
stop_at test (y ∷ run) rest d stops = stop_at test run rest d stops

-- the length of a run is that of the longest front that passes
run_length : (test : ℕ → Bool) (run rest : List ℕ) → AllPass test run → Stops test rest
    → prefix_len test (run ++ rest) ≡ length run
run_length test run rest passes stops =
    prefix_len_is test (run ++ rest) (length run) 0 (omega (arith, length-append run rest))
    (λ k below. rw (get_or_append_left run rest 0 k below) (passes k 0 below)) (λ below. stop_at test run rest 0 stops)

-- so a run is that front
front_is : (test : ℕ → Bool) (run text rest : List ℕ) → Run test run text rest → front_by test text ≡ run
front_is test run text rest (passes, is, stops) =
    rw (is, run_length test run rest passes stops) (take_at run rest (length run) refl)

behind_is : (test : ℕ → Bool) (run text rest : List ℕ) → Run test run text rest → behind test text ≡ rest
behind_is test run text rest (passes, is, stops) =
    rw (is, run_length test run rest passes stops) (drop_at run rest (length run) refl)

-- and the other way
front_passes : (test : ℕ → Bool) (text : List ℕ) → AllPass test (front_by test text)
front_passes test text = λ k d below.
    let len = length-take-le (prefix_len test text) text (prefix_len-le-length test text) in
    let in_front : k < prefix_len test text = omega (arith, len) in
    rw (get_or-take (prefix_len test text) text k d in_front) (prefix_len_passes test text k d in_front)

behind_stops : (test : ℕ → Bool) (text : List ℕ) → behind test text ≢ [] → Stops test (behind test text)
behind_stops test text some =
    elim (cases_lt (prefix_len test text) (length text)) [
      | inl below ↦ rw (drop_more text (prefix_len test text) 0 below) (prefix_len_stops test text 0 below)
      | inr past ↦ absurd (some (drop_all (prefix_len test text) text past))
    ]

front_run : (test : ℕ → Bool) (text : List ℕ) → behind test text ≢ [] → Run test (front_by test text) text (behind test text)
front_run test text some = (front_passes test text, sym (take-append-drop (prefix_len test text) text), behind_stops test text some)

-- ---- the rest of the line

tail_some : (text : List ℕ) → is_line_tail text ≡ true → text ≢ []
tail_some text tail empty = false≢true (ap is_line_tail (sym empty) ∙ tail)

tail_read : (text : List ℕ) (e : Option (List ℕ)) → Extension e text [] → is_line_tail text ≡ true
tail_read text None (valid, is) = rw is refl
tail_read text (Some x) (valid, is) =
    rw (is, behind_is is_extension_byte x (x ++ (13 ∷ 10 ∷ [])) (13 ∷ 10 ∷ []) (valid, refl, refl)) refl

tail_reads_by : (b : ℕ) (text : List ℕ) (semi : Bool) → nat_eq b 59 ≡ semi
    → cond semi (bytes_eq (behind is_extension_byte text) crlf_bytes) (bytes_eq (b ∷ text) crlf_bytes) ≡ true
    → (e : Option (List ℕ)) × Extension e (b ∷ text) []
tail_reads_by b text true is tail =
    let first : b ≡ 59 = grind (arith, nat_tests) in
    let last = same_text (behind is_extension_byte text) crlf_bytes (sym tail) in
    let all = take-append-drop (prefix_len is_extension_byte text) text in
    (Some (front_by is_extension_byte text), (front_passes is_extension_byte text, cc))
tail_reads_by b text false is tail = (None, (tt, same_text (b ∷ text) crlf_bytes (sym tail)))

tail_reads : (text : List ℕ) → is_line_tail text ≡ true → (e : Option (List ℕ)) × Extension e text []
tail_reads [] tail = absurd (false≢true tail)
tail_reads (b ∷ text) tail = tail_reads_by b text (nat_eq b 59) refl tail

-- ---- the whole line

both : (a b : Bool) → (a && b) ≡ true → (a ≡ true) × (b ≡ true)
both true b e = (refl, e)
both false b e = absurd (false≢true e)

sized_some : (digits : List ℕ) → 0 < length digits → length digits ≤ 16
    → sized_line digits true ≡ Some (digits_value 16 digits)
sized_some digits some few =
    let low : nat_lt 0 (length digits) ≡ true = search (arith, rules, nat_tests) in
    let high : nat_le (length digits) 16 ≡ true = search (arith, rules, nat_tests) in
    rw (low, high) refl

sized_from : (digits : List ℕ) (tail : Bool) (size : ℕ) → sized_line digits tail ≡ Some size
    → (tail ≡ true) × (0 < length digits) × (length digits ≤ 16) × (digits_value 16 digits ≡ size)
sized_from digits tail size e =
    let parts = cond_some _ (digits_value 16 digits) size e in
    let tests = both _ tail parts.0 in
    let lengths = both (nat_lt 0 (length digits)) (nat_le (length digits) 16) tests.0 in
    let low = lengths.0 in
    let high = lengths.1 in
    (tests.1, grind (arith, nat_tests), grind (arith, nat_tests), parts.1)

-- a line that is read names its size
pub line_size_read : (line : List ℕ) (l : ChunkLine) → ReadsChunkLine line l [] → line_size line ≡ Some (chunk_size l)
line_size_read line l reads =
    let x = chunk_pieces line l [] reads in
    let digits = front_is is_ascii_hexdigit l.digits line x.0 x.1.0 in
    let rest = behind_is is_ascii_hexdigit l.digits line x.0 x.1.0 in
    let tail = behind_is is_ows l.pad x.0 x.2.0 x.2.1 in
    let last = tail_read x.2.0 l.extension x.2.2 in
    rw (digits, rest, tail, last) (sized_some l.digits x.1.1 x.1.2)

-- and a line that names a size is read
pub line_size_reads : (line : List ℕ) (size : ℕ) → line_size line ≡ Some size
    → (l : ChunkLine) × ReadsChunkLine line l [] × (size ≡ chunk_size l)
line_size_reads line size e =
    let found = sized_from (front_by is_ascii_hexdigit line) _ size e in
    let some_tail = tail_some (behind is_ows (behind is_ascii_hexdigit line)) found.0 in
    let last = tail_reads (behind is_ows (behind is_ascii_hexdigit line)) found.0 in
    let pad = front_run is_ows (behind is_ascii_hexdigit line) some_tail in
    let some_rest : behind is_ascii_hexdigit line ≢ [] = λ empty. some_tail (ap (behind is_ows) empty) in
    let digits = front_run is_ascii_hexdigit line some_rest in (
      _,
      chunk_from_pieces line (front_by is_ascii_hexdigit line, (front_by is_ows (behind is_ascii_hexdigit line), last.0)) []
          (_, (digits, found.1, found.2), (_, pad, last.1)),
      sym found.3,
    )

size_none : (line : List ℕ) (found : Option ℕ) → line_size line ≡ found
    → ((l : ChunkLine) → ReadsChunkLine line l [] → ⊥) → line_size line ≡ None
size_none line None is none = is
size_none line (Some size) is none = let read = line_size_reads line size is in absurd (none read.0 read.1)

-- a line that isn't read names none
pub line_size_none : (line : List ℕ) → ((l : ChunkLine) → ReadsChunkLine line l [] → ⊥) → line_size line ≡ None
line_size_none line none = size_none line (line_size line) refl none

-- a shorter line at the front is not the whole line
pub line_size_longer : (line : List ℕ) (n size : ℕ) (l : ChunkLine) → IsChunkLineAt line n size l → n ≢ length line
    → line_size line ≡ None
line_size_longer line n size l at other = line_size_none line (λ k reads.
    let same = (chunk_line_unique line l k (drop n line) [] at.reads reads).1 in
    other (omega (
      arith,
      ap length same,
      length-drop n line,
      ap length at.reads.1,
      at.len_is,
      length-append (print_chunk_line l) (drop n line),
    )))

-- and the whole line names its size
pub line_size_whole : (line : List ℕ) (n size : ℕ) (l : ChunkLine) → IsChunkLineAt line n size l → n ≡ length line
    → line_size line ≡ Some size
line_size_whole line n size l at all =
    let rest : drop n line ≡ [] = drop_all n line (omega arith) in
    line_size_read line l (rw rest at at.reads) ∙ ap (λ s. Some s) (sym at.size_is)

-- bytes that no chunk line begins
pub line_size_never : (line : List ℕ) → NeverHasChunkLine line → line_size line ≡ None
line_size_never line never = line_size_none line (λ l reads. never [] l [] (rw append-nil reads))
