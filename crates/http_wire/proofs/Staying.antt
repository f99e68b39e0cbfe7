-- What stands at the front of bytes stays, whatever follows, once it is decided.
use Rattle.std.proofs.Common.{◌≡◌, ℕ, zero, suc, ◌+◌, ◌-◌, ◌<◌, ◌≤◌, ◌==◌, ◌&&◌, ◌||◌, Bool, true, false, cond, List, [], ◌∷◌, ◌++◌, length, take, drop, refl, sym, ap, ◌∙◌, arith, rules, Option, Some, None, Result, Ok, Err, append-nil, nat_eq, nat_lt, nat_le, length-append, length-take, length-drop}
use Rattle.std.proofs.Math.Seq.{take-append-add}
use Rattle.std.proofs.lemmas.Bool.Decides.{nat_tests}
use Rattle.std.proofs.lemmas.List.{drop-append-le, take-append-le}
use Rattle.std.proofs.lemmas.List.Sums.{sum_by-append}
use Rattle.httparse.specs.Grammar.{RequestHead}
use Rattle.http_wire.specs.Chunks.{behind_data, body_end, capped_data, chunk_data, chunked, chunks, chunks_within, data_ending, count_lines, line_size, lined_chunk, one_chunk, prefixed, sized_chunk, trailer, trailer_by}
use Rattle.http_wire.specs.Framing.{is_media, judge, max_body}
use Rattle.http_wire.specs.Heads.{Front, IsHead, IsHeadBy, more, refused, whole}
use Rattle.http_wire.specs.Lines.{behind_byte, further, head_end, line_end, looked, next_place, one_on}
use Rattle.http_wire.specs.Requests.{Got, IsNext, after_head, after_read, body_at, framed_body, media_head, with_content}
use Rattle.http_wire.specs.declared.chunk_line.FrontEnd.{FrontEnd}
use Rattle.http_wire.specs.declared.chunk_line.FrontEnd.TheVariants.{Ended, Open, Wrong}
use Rattle.http_wire.specs.declared.framing.Framing.{Framing}
use Rattle.http_wire.specs.declared.framing.Framing.TheVariants.{Chunked, Length}
use Rattle.http_wire.specs.declared.framing.WireFault.{WireFault}
use Rattle.http_wire.specs.declared.framing.WireFault.TheVariants.{TooLarge}
use Rattle.http_wire.specs.declared.lines.Looked.{Looked}
use Rattle.http_wire.specs.declared.lines.Looked.TheVariants as looks
use Rattle.http_wire.specs.declared.lines.LinePlace.{LinePlace}
use Rattle.http_wire.specs.declared.lines.LinePlace.TheVariants.{After, AfterReturn, Before, BeforeReturn, Within}
use Rattle.http_wire.proofs.Ends.{line_end-append_some, looked-append_ended, looked-append_still, looked_inside, on_by}
use Rattle.http_wire.proofs.Seeking.{IsHead_later, head_end_later, take-append}

-- what is decided stays
abbrev pub Keeps : {A : Type 0} → Front A → Front A → Type 0
Keeps more after = Unit {0}
Keeps (refused fault) after = after ≡ refused fault
Keeps (whole a n) after = after ≡ whole a n

-- something is decided
abbrev pub IsDecided : {A : Type 0} → Front A → Type 0
IsDecided more = ⊥
IsDecided (refused fault) = Unit {0}
IsDecided (whole a n) = Unit {0}

keeps_same : {A : Type 0} → (front : Front A) → Keeps front front
keeps_same more = tt
keeps_same (refused fault) = refl
keeps_same (whole a n) = refl

kept_is : {A : Type 0} → (front after : Front A) → Keeps front after → IsDecided front → after ≡ front
kept_is more after keeps decided = absurd decided
kept_is (refused fault) after keeps decided = keeps
kept_is (whole a n) after keeps decided = keeps

keeps_prefixed : (content : List ℕ) (n : ℕ) (front after : Front (List ℕ)) → Keeps front after
    → Keeps (prefixed content n front) (prefixed content n after)
keeps_prefixed content n more after keeps = tt
keeps_prefixed content n (refused fault) after keeps = rw keeps refl
keeps_prefixed content n (whole body m) after keeps = rw keeps refl

-- ---- ends

abbrev KeepsEnd : FrontEnd → FrontEnd → Type 0
KeepsEnd Open after = Unit {0}
KeepsEnd Wrong after = after ≡ Wrong
KeepsEnd (Ended n) after = after ≡ Ended n

same_end : (end : FrontEnd) → KeepsEnd end end
same_end Open = tt
same_end Wrong = refl
same_end (Ended n) = refl

one_return : (first second : Bool) → KeepsEnd (cond first Open Wrong) (cond (first && second) (Ended 2) Wrong)
one_return true second = tt
one_return false second = refl

closed_keeps : (bytes later : List ℕ) → KeepsEnd (data_ending bytes) (data_ending (bytes ++ later))
closed_keeps [] later = tt
closed_keeps (c ∷ []) [] = same_end (data_ending (c ∷ []))
closed_keeps (c ∷ []) (l ∷ later) = one_return (nat_eq c 13) (nat_eq l 10)
closed_keeps (c ∷ l ∷ bytes) later = same_end (data_ending (c ∷ l ∷ bytes))

two_inside : (both : Bool) (n k : ℕ) → cond both (Ended 2) Wrong ≡ Ended n → n ≤ suc (suc k)
two_inside true n k e = let same : 2 ≡ n = cc in omega arith
two_inside false n k e = cc

no_end : (first : Bool) (n : ℕ) → cond first Open Wrong ≡ Ended n → n ≤ 1
no_end true n e = cc
no_end false n e = cc

closed_inside : (bytes : List ℕ) (n : ℕ) → data_ending bytes ≡ Ended n → n ≤ length bytes
closed_inside [] n e = cc
closed_inside (c ∷ []) n e = no_end (nat_eq c 13) n e
closed_inside (c ∷ l ∷ bytes) n e = two_inside (nat_eq c 13 && nat_eq l 10) n (length bytes) e

-- ---- trailers

feed_or : (feed other : Bool) (a b : LinePlace) → cond feed None (cond other (Some a) (Some b)) ≡ None → feed ≡ true
feed_or true other a b e = refl
feed_or false true a b e = cc
feed_or false false a b e = cc

feed_only : (feed : Bool) (a : LinePlace) → cond feed None (Some a) ≡ None → feed ≡ true
feed_only true a e = refl
feed_only false a e = cc

no_none : (first second : Bool) (a b c : LinePlace) → cond first (Some a) (cond second (Some b) (Some c)) ≡ None → ⊥
no_none true second a b c e = cc
no_none false true a b c e = cc
no_none false false a b c e = cc

some_none : (first : Bool) (a b : LinePlace) → cond first (Some a) (Some b) ≡ None → ⊥
some_none true a b e = cc
some_none false a b e = cc

-- a head and a trailer end with LF
ends_at_feed : (place : LinePlace) (b : ℕ) → next_place place b ≡ None → nat_eq b 10 ≡ true
ends_at_feed Before b e = absurd (no_none (nat_eq b 10) (nat_eq b 13) Before BeforeReturn Within e)
ends_at_feed BeforeReturn b e = absurd (some_none (nat_eq b 10) Before Within e)
ends_at_feed Within b e = absurd (some_none (nat_eq b 10) After Within e)
ends_at_feed After b e = feed_or (nat_eq b 10) (nat_eq b 13) AfterReturn Within e
ends_at_feed AfterReturn b e = feed_only (nat_eq b 10) Within e

module _ (b : ℕ) (bytes : List ℕ) where
  one_line : (found : Looked) (n : ℕ) → ((m : ℕ) → found ≡ looks.Ended m → 1 ≤ count_lines (take m bytes)) → one_on found ≡ looks.Ended n
      → 1 ≤ count_lines (take n (b ∷ bytes))
  one_line (looks.Still place) n lines e = cc
  one_line (looks.Ended m) n lines e =
      let same : m + 1 ≡ n = cc in
      let next : m + 1 ≡ suc m = omega arith in
      rw (← same, next) (omega (arith, lines m refl, sum_by-append (λ c. cond (c == 10) 1 0) (b ∷ []) (take m bytes)))

  last_line : (place : Option LinePlace) (later : LinePlace → Looked) (n : ℕ) → (place ≡ None → nat_eq b 10 ≡ true)
      → ((q : LinePlace) (m : ℕ) → later q ≡ looks.Ended m → 1 ≤ count_lines (take m bytes)) → behind_byte place later ≡ looks.Ended n
      → 1 ≤ count_lines (take n (b ∷ bytes))
  last_line None later n feed lines e =
      let same : 1 ≡ n = cc in rw (← same, feed refl) (omega arith)
  last_line (Some q) later n feed lines e = one_line (later q) n (lines q) e

ends_a_line : (place : LinePlace) (bytes : List ℕ) (n : ℕ) → looked place bytes ≡ looks.Ended n → 1 ≤ count_lines (take n bytes)
ends_a_line place [] n e = cc
ends_a_line place (b ∷ bytes) n e =
    last_line b bytes (next_place place b) (λ q. looked q bytes) n (ends_at_feed place b) (λ q. ends_a_line q bytes) e

or_true : (b : Bool) → (b || true) ≡ true
or_true true = refl
or_true false = refl

module _ (front further : List ℕ) where
  count_more : count_lines (front ++ further) ≡ count_lines front + count_lines further
  count_more = sum_by-append (λ b. cond (b == 10) 1 0) front further

  -- too many lines stay too many
  too_many : (place : LinePlace) (found : Looked) → looked place further ≡ found → 65 ≤ count_lines front
      → trailer_by (on_by (length front) found) (front ++ further) ≡ Wrong
  too_many place (looks.Still q) is many =
      let test : nat_le 65 (count_lines (front ++ further)) ≡ true =
      (let sum : 65 ≤ count_lines (front ++ further) = omega (arith, count_more) in search (arith, rules, nat_tests)) in
      rw (test, or_true (nat_le 16384 (length (front ++ further)))) refl
  too_many place (looks.Ended m) is many =
      let test : nat_lt 65 (count_lines (front ++ take m further)) ≡ true =
      (let sum : 65 < count_lines (front ++ take m further) =
      omega (arith, sum_by-append (λ b. cond (b == 10) 1 0) front (take m further), ends_a_line place further m is) in search (
        arith,
        rules,
        nat_tests,
      )) in
      rw (take-append-add front further m, test) refl

  trailer_still : (place : LinePlace) (long many : Bool) → looked After front ≡ looks.Still place → nat_le 16384 (length front) ≡ long
      → nat_le 65 (count_lines front) ≡ many → (16384 ≤ length front → further ≡ [])
      → KeepsEnd (cond (long || many) Wrong Open) (trailer_by (looked After (front ++ further)) (front ++ further))
  trailer_still place true many still is_long is_many none =
      let long : 16384 ≤ length front = grind (arith, nat_tests) in
      rw (none long, append-nil, still, is_long) refl
  trailer_still place false true still is_long is_many none =
      let lines : 65 ≤ count_lines front = grind (arith, nat_tests) in
      rw (looked-append_still After front further place still) (too_many place (looked place further) refl lines)
  trailer_still place false false still is_long is_many none = tt

  trailer_front : (found : Looked) → looked After front ≡ found → (16384 ≤ length front → further ≡ [])
      → KeepsEnd (trailer_by found front) (trailer_by (looked After (front ++ further)) (front ++ further))
  trailer_front (looks.Still place) still none =
      trailer_still place (nat_le 16384 (length front)) (nat_le 65 (count_lines front)) still refl refl none
  trailer_front (looks.Ended n) ends none =
      let inside = looked_inside After front n ends in
      rw (looked-append_ended After front further n ends, take-append-le n front further inside)
      (same_end (trailer_by (looks.Ended n) front))

-- a front of full length takes no more
nothing_more : (bytes later : List ℕ) (n : ℕ) → n ≤ length (take n bytes) → take (n - length bytes) later ≡ []
nothing_more bytes later n long =
    let none : n - length bytes ≡ 0 = omega (arith, length-take n bytes) in
    rw none refl

trailer_keeps : (bytes later : List ℕ) → KeepsEnd (trailer bytes) (trailer (bytes ++ later))
trailer_keeps bytes later =
    rw (take-append 16384 bytes later)
    (trailer_front (take 16384 bytes) (take (16384 - length bytes) later) (looked After (take 16384 bytes)) refl
    (λ long. nothing_more bytes later 16384 long))

end_keeps : (end after : FrontEnd) → KeepsEnd end after → Keeps (body_end end) (body_end after)
end_keeps Open after keeps = tt
end_keeps Wrong after keeps = rw keeps refl
end_keeps (Ended n) after keeps = rw keeps refl

-- ---- chunks

module _ (next : List ℕ → Front (List ℕ)) (size : ℕ) (rest later : List ℕ) (stays : (r : List ℕ) → Keeps (next r) (next (r ++ later))) where
  data_keeps : (end : FrontEnd) → size ≤ length rest → data_ending (drop size rest) ≡ end
      → Keeps (behind_data next size rest end) (behind_data next size (rest ++ later) (data_ending (drop size rest ++ later)))
  data_keeps Open inside is = tt
  data_keeps Wrong inside is =
      let keeps : KeepsEnd Wrong (data_ending (drop size rest ++ later)) = rw is at (closed_keeps (drop size rest) later) in
      rw keeps refl
  data_keeps (Ended m) inside is =
      let keeps : KeepsEnd (Ended m) (data_ending (drop size rest ++ later)) = rw is at (closed_keeps (drop size rest) later) in
      let there : size + m ≤ length rest = omega (arith, closed_inside (drop size rest) m is, length-drop size rest) in
      rw (keeps, take-append-le size rest later inside, drop-append-le (size + m) rest later there)
      (keeps_prefixed (take size rest) (size + m) _ _ (stays (drop (size + m) rest)))

  chunk_data_by : (short : Bool) → nat_lt (length rest) size ≡ short
      → Keeps (cond short more (behind_data next size rest (data_ending (drop size rest)))) (chunk_data next size (rest ++ later))
  chunk_data_by true is = tt
  chunk_data_by false is =
      let inside : size ≤ length rest = grind (arith, nat_tests) in
      let long : nat_lt (length (rest ++ later)) size ≡ false =
      (let sum : size ≤ length (rest ++ later) = omega (arith, length-append rest later) in search (arith, rules, nat_tests)) in
      rw (long, drop-append-le size rest later inside) (data_keeps (data_ending (drop size rest)) inside refl)

-- ways to go on, each of which keeps what is decided
abbrev KeepOn : (ℕ → List ℕ → Front (List ℕ)) → List ℕ → Type 0
KeepOn next later = (room : ℕ) (r : List ℕ) → Keeps (next room r) (next room (r ++ later))

module _ (next : ℕ → List ℕ → Front (List ℕ)) (later : List ℕ) (stays : KeepOn next later) (room n : ℕ) where
  sized_by : (rest : List ℕ) (size : ℕ) (last over : Bool)
      → Keeps (cond last (prefixed [] n (body_end (trailer rest))) (cond over (refused TooLarge) (prefixed [] n (chunk_data (next (room - size))
      size rest))))
      (cond last (prefixed [] n (body_end (trailer (rest ++ later)))) (cond over (refused TooLarge) (prefixed [] n (chunk_data (next (room - size))
      size (rest ++ later)))))
  sized_by rest size true over = keeps_prefixed [] n _ _ (end_keeps _ _ (trailer_keeps rest later))
  sized_by rest size false true = refl
  sized_by rest size false false =
      keeps_prefixed [] n _ _ (chunk_data_by (next (room - size)) size rest later (stays (room - size)) (nat_lt (length rest) size) refl)

  sized_keeps : (rest : List ℕ) (size : Option ℕ) → Keeps (sized_chunk next room n rest size) (sized_chunk next room n (rest ++ later) size)
  sized_keeps rest None = refl
  sized_keeps rest (Some size) = sized_by rest size (nat_eq size 0) (nat_lt room size)

-- a line ends within the bytes
line_step : (first : Bool) (found : Option ℕ) (n k : ℕ) → ((m : ℕ) → found ≡ Some m → m ≤ k) → cond first (Some 1) (further found) ≡ Some n
    → n ≤ suc k
line_step true found n k inside e = let same : 1 ≡ n = cc in omega arith
line_step false None n k inside e = cc
line_step false (Some m) n k inside e = let same : m + 1 ≡ n = cc in omega (arith, inside m refl)

line_inside : (bytes : List ℕ) (n : ℕ) → line_end bytes ≡ Some n → n ≤ length bytes
line_inside [] n ends = cc
line_inside (b ∷ bytes) n ends = line_step (nat_eq b 10) (line_end bytes) n (length bytes) (line_inside bytes) ends

lined_keeps : (next : ℕ → List ℕ → Front (List ℕ)) (later : List ℕ) → KeepOn next later → (room : ℕ) (bytes : List ℕ) (end : Option ℕ)
    → line_end bytes ≡ end
    → Keeps (lined_chunk next room bytes end) (one_chunk next room (bytes ++ later))
lined_keeps next later stays room bytes None is = tt
lined_keeps next later stays room bytes (Some n) is =
    let inside = line_inside bytes n is in
    rw (line_end-append_some bytes later n is, take-append-le n bytes later inside, drop-append-le n bytes later inside)
    (sized_keeps next later stays room n (drop n bytes) (line_size (take n bytes)))

chunks_keep : (count : ℕ) (later : List ℕ) → KeepOn (chunks count) later
unfolding chunks
chunks_keep zero later room bytes = tt
chunks_keep (suc count) later room bytes =
    lined_keeps (chunks count) later (chunks_keep count later) room bytes (line_end bytes) refl

-- ---- the body

capped_over : (front further : List ℕ) (over : Bool) → nat_lt 8388608 (length front) ≡ over → (8388609 ≤ length front → further ≡ [])
    → chunks_within max_body front ≡ more
    → Keeps (cond over (refused TooLarge) more) (capped_data (length (front ++ further)) (chunks_within max_body (front ++ further)))
capped_over front further true is none waits =
    let long : 8388609 ≤ length front = grind (arith, nat_tests) in
    rw (none long, append-nil, waits, is) refl
capped_over front further false is none waits = tt

capped_keeps : (front further : List ℕ) (found : Front (List ℕ)) → (8388609 ≤ length front → further ≡ []) → chunks_within max_body front ≡ found
    → Keeps found (chunks_within max_body (front ++ further))
    → Keeps (capped_data (length front) found) (capped_data (length (front ++ further)) (chunks_within max_body (front ++ further)))
capped_keeps front further more none is keeps = capped_over front further (nat_lt 8388608 (length front)) refl none is
capped_keeps front further (refused fault) none is keeps = rw keeps refl
capped_keeps front further (whole body n) none is keeps = rw keeps (keeps_same (capped_data (length front) (whole body n)))

chunked_keeps : (bytes later : List ℕ) → Keeps (chunked bytes) (chunked (bytes ++ later))
chunked_keeps bytes later =
    rw (take-append 8388609 bytes later)
    (capped_keeps (take 8388609 bytes) (take (8388609 - length bytes) later) (chunks_within max_body (take 8388609 bytes))
    (λ long. nothing_more bytes later 8388609 long) refl
    (chunks_keep (suc max_body) (take (8388609 - length bytes) later) max_body (take 8388609 bytes)))

length_by : (bytes later : List ℕ) (n : ℕ) (short : Bool) → nat_lt (length bytes) n ≡ short
    → Keeps (cond short more (whole (take n bytes) n)) (body_at (Length n) (bytes ++ later))
length_by bytes later n true is = tt
length_by bytes later n false is =
    let inside : n ≤ length bytes = grind (arith, nat_tests) in
    let long : nat_lt (length (bytes ++ later)) n ≡ false =
    (let sum : n ≤ length (bytes ++ later) = omega (arith, length-append bytes later) in search (arith, rules, nat_tests)) in
    rw (long, take-append-le n bytes later inside) refl

body_keeps : (framing : Framing) (bytes later : List ℕ) → Keeps (body_at framing bytes) (body_at framing (bytes ++ later))
body_keeps (Length n) bytes later = length_by bytes later n (nat_lt (length bytes) n) refl
body_keeps Chunked bytes later = chunked_keeps bytes later

with_body_keeps : (head : RequestHead) (n : ℕ) (body after : Front (List ℕ)) → Keeps body after
    → Keeps (with_content head n body) (with_content head n after)
with_body_keeps head n more after keeps = tt
with_body_keeps head n (refused fault) after keeps = rw keeps refl
with_body_keeps head n (whole body m) after keeps = rw keeps refl

-- ---- the request

framed_keeps : (media : Bool) (head : RequestHead) (n : ℕ) (bytes later : List ℕ) (framing : Framing)
    → Keeps (framed_body media head n bytes framing) (framed_body media head n (bytes ++ later) framing)
framed_keeps true head n bytes later framing = keeps_same (media_head head n framing)
framed_keeps false head n bytes later framing = with_body_keeps head n _ _ (body_keeps framing bytes later)

after_head_keeps : (head : RequestHead) (n : ℕ) (bytes later : List ℕ) (judged : Result Framing WireFault)
    → Keeps (after_head head n bytes judged) (after_head head n (bytes ++ later) judged)
after_head_keeps head n bytes later (Err fault) = refl
after_head_keeps head n bytes later (Ok framing) = framed_keeps (is_media head.method head.target) head n bytes later framing

-- a whole head lies within the bytes
head_inside_by : (end : Looked) (bytes : List ℕ) (head : RequestHead) (n : ℕ) → head_end bytes ≡ end → IsHeadBy end bytes (whole head n)
    → n ≤ length bytes
head_inside_by (looks.Still place) bytes head n is stands = absurd stands
head_inside_by (looks.Ended end) bytes head n is (same, one) =
    omega (arith, looked_inside Before (take 16384 bytes) end is, length-take 16384 bytes)

pub head_inside : (bytes : List ℕ) (head : RequestHead) (n : ℕ) → IsHead bytes (whole head n) → n ≤ length bytes
head_inside bytes head n stands = head_inside_by (head_end bytes) bytes head n refl stands

refused_by : (end : Looked) (bytes later : List ℕ) (fault : WireFault) → head_end bytes ≡ end → IsHeadBy end bytes (refused fault)
    → IsHead (bytes ++ later) (refused fault)
refused_by (looks.Still place) bytes later fault is (name, long) =
    let full : take 16384 (bytes ++ later) ≡ take 16384 bytes = take-append-le 16384 bytes later long in
    let still : head_end (bytes ++ later) ≡ looks.Still place = ap (looked Before) full ∙ is in
    rw still (name, omega (arith, long, length-append bytes later))
refused_by (looks.Ended end) bytes later fault is (name, none) =
    let inside : end ≤ length bytes = omega (arith, looked_inside Before (take 16384 bytes) end is, length-take 16384 bytes) in
    rw (head_end_later bytes later end is, take-append-le end bytes later inside) (name, none)

next_later : (bytes later : List ℕ) (read : Front RequestHead) (next : Front Got) → IsHead bytes read → next ≡ after_read bytes read → IsDecided next
    → IsNext (bytes ++ later) next
next_later bytes later more next head is decided = absurd (rw is at decided)
next_later bytes later (refused fault) next head is decided = record {
  read = refused fault;
  head = refused_by (head_end bytes) bytes later fault refl head;
  is = is;
}
next_later bytes later (whole head n) next stands is decided =
    let inside = head_inside bytes head n stands in
    let keeps = after_head_keeps head n (drop n bytes) later (judge head) in
    record {
      read = whole head n;
      head = IsHead_later bytes later head n inside stands;
      is = rw (drop-append-le n bytes later inside) (is ∙ sym (kept_is _ _ keeps (rw is at decided)));
    }

-- what stands at the front stays, once it is decided
pub next_stays : (bytes later : List ℕ) (next : Front Got) → IsNext bytes next → IsDecided next → IsNext (bytes ++ later) next
next_stays bytes later next found decided = next_later bytes later found.read next found.head found.is decided
