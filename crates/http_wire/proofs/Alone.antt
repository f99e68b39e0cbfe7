-- What stands whole at the front of bytes stands there of its own bytes too.
use Rattle.std.proofs.Common.{◌≡◌, ℕ, zero, suc, ◌+◌, ◌-◌, ◌<◌, ◌≤◌, ◌&&◌, ◌||◌, Bool, true, false, cond, not, List, [], ◌∷◌, ◌++◌, length, take, drop, refl, sym, ap, ◌∙◌, arith, rules, Option, Some, None, Result, Ok, Err, nat_eq, nat_lt, nat_le, length-take}
use Rattle.std.proofs.lemmas.Bool.{false≢true}
use Rattle.std.proofs.lemmas.Bool.Decides.{nat_tests}
use Rattle.std.proofs.lemmas.List.{drop-take, drop_all, take-take, length-take-le}
use Rattle.httparse.specs.Grammar.{RequestHead}
use Rattle.http_wire.specs.Chunks.{behind_data, body_end, capped_data, chunk_data, chunked, chunks, chunks_within, data_ending, count_lines, line_size, lined_chunk, one_chunk, prefixed, sized_chunk, trailer, trailer_by}
use Rattle.http_wire.specs.Framing.{has_body, is_coded, fields_of, declared, is_media, judge, judged_framing, max_body, wants_interim}
use Rattle.http_wire.specs.Heads.{Front, IsHead, IsHeadBy, more, refused, whole}
use Rattle.http_wire.specs.Lines.{behind_byte, further, head_end, line_end, looked, next_place, one_on}
use Rattle.http_wire.specs.Feeds.{IsInterimDue}
use Rattle.http_wire.specs.Hearing.{StandsAlone}
use Rattle.http_wire.specs.Requests.{Got, IsNext, after_head, after_read, body_at, framed_body, given, opened, with_content}
use Rattle.http_wire.specs.declared.chunk_line.FrontEnd.{FrontEnd}
use Rattle.http_wire.specs.declared.chunk_line.FrontEnd.TheVariants.{Ended, Open, Wrong}
use Rattle.http_wire.specs.declared.framing.Framing.{Framing}
use Rattle.http_wire.specs.declared.framing.Framing.TheVariants.{Chunked, Length}
use Rattle.http_wire.specs.declared.framing.WireFault.{WireFault}
use Rattle.http_wire.specs.declared.framing.WireFault.TheVariants.{Coding, TooLarge}
use Rattle.http_wire.specs.declared.lines.Looked.{Looked}
use Rattle.http_wire.specs.declared.lines.Looked.TheVariants as looks
use Rattle.http_wire.specs.declared.lines.LinePlace.{LinePlace}
use Rattle.http_wire.specs.declared.lines.LinePlace.TheVariants.{After, Before}
use Rattle.http_wire.proofs.Hearings.{next_unique}
use Rattle.http_wire.proofs.Interims.{same_head}
use Rattle.http_wire.proofs.Seeking.{IsHead_later}
use Rattle.http_wire.proofs.Staying.{head_inside}

-- ---- fronts of lists

take-swap : (a b : ℕ) (xs : List ℕ) → take a (take b xs) ≡ take b (take a xs)
take-swap zero zero xs = refl
take-swap zero (suc b) xs = refl
take-swap (suc a) zero xs = refl
take-swap (suc a) (suc b) [] = refl
take-swap (suc a) (suc b) (x ∷ xs) = ap (λ l. x ∷ l) (take-swap a b xs)

pub drop-front : (n k : ℕ) (xs : List ℕ) → n ≤ k → drop n (take k xs) ≡ take (k - n) (drop n xs)
drop-front n k xs le =
    let sum : k ≡ n + (k - n) = omega (arith, le) in
    ap (λ j. drop n (take j xs)) sum ∙ drop-take n (k - n) xs

-- ---- heads

front_on : (front all : Looked) (n : ℕ) → ((m : ℕ) → all ≡ looks.Ended m → m + 1 ≡ n → front ≡ looks.Ended m) → one_on all ≡ looks.Ended n
    → one_on front ≡ looks.Ended n
front_on front (looks.Ended m) n same e = let sum : m + 1 ≡ n = cc in rw (same m refl sum) e
front_on front (looks.Still q) n same e = cc

front_step : (o : Option LinePlace) (front all : LinePlace → Looked) (n : ℕ)
    → ((q : LinePlace) (m : ℕ) → all q ≡ looks.Ended m → m + 1 ≡ n → front q ≡ looks.Ended m) → behind_byte o all ≡ looks.Ended n
    → behind_byte o front ≡ looks.Ended n
front_step None front all n same e = e
front_step (Some q) front all n same e = front_on (front q) (all q) n (same q) e

one_on-some : (all : Looked) (n : ℕ) → one_on all ≡ looks.Ended n → 1 ≤ n
one_on-some (looks.Ended m) n e = let sum : m + 1 ≡ n = cc in omega (arith, sum)
one_on-some (looks.Still q) n e = cc

some_byte : (o : Option LinePlace) (all : LinePlace → Looked) (n : ℕ) → behind_byte o all ≡ looks.Ended n → 1 ≤ n
some_byte None all n e = let same : 1 ≡ n = cc in omega (arith, same)
some_byte (Some q) all n e = one_on-some (all q) n e

looked-take : (p : LinePlace) (xs : List ℕ) (n k : ℕ) → looked p xs ≡ looks.Ended n → n ≤ k → looked p (take k xs) ≡ looks.Ended n
looked-take p [] n k e le = cc
looked-take p (x ∷ xs) n zero e le = absurd (omega (arith, le, some_byte (next_place p x) (λ q. looked q xs) n e))
looked-take p (x ∷ xs) n (suc k) e le =
    front_step (next_place p x) (λ q. looked q (take k xs)) (λ q. looked q xs) n (λ q m e sum. looked-take q xs m k e (omega (arith, sum, le))) e

head_front_by : (end : Looked) (bytes : List ℕ) (head : RequestHead) (n k : ℕ) → head_end bytes ≡ end → IsHeadBy end bytes (whole head n) → n ≤ k
    → IsHead (take k bytes) (whole head n)
head_front_by (looks.Still place) bytes head n k is stands le = absurd stands
head_front_by (looks.Ended end) bytes head n k is (same, one) le =
    let inside : end ≤ k = omega (arith, same, le) in
    let ends : head_end (take k bytes) ≡ looks.Ended end =
    ap (looked Before) (take-swap 16384 k bytes) ∙ looked-take Before (take 16384 bytes) end k is inside in
    rw (ends, take-take end k bytes inside) (same, one)

pub head_front : (bytes : List ℕ) (head : RequestHead) (n k : ℕ) → IsHead bytes (whole head n) → n ≤ k → IsHead (take k bytes) (whole head n)
head_front bytes head n k stands le = head_front_by (head_end bytes) bytes head n k refl stands le

-- ---- lines and ends

line_step : (first : Bool) (front all : Option ℕ) (n : ℕ) → ((m : ℕ) → all ≡ Some m → m + 1 ≡ n → front ≡ Some m)
    → cond first (Some 1) (further all) ≡ Some n → cond first (Some 1) (further front) ≡ Some n
line_step true front all n same e = e
line_step false front None n same e = cc
line_step false front (Some m) n same e = let sum : m + 1 ≡ n = cc in rw (same m refl sum) e

line_some : (first : Bool) (all : Option ℕ) (n : ℕ) → cond first (Some 1) (further all) ≡ Some n → 1 ≤ n
line_some true all n e = let same : 1 ≡ n = cc in omega (arith, same)
line_some false None n e = cc
line_some false (Some m) n e = let sum : m + 1 ≡ n = cc in omega (arith, sum)

line_end-take : (bytes : List ℕ) (n k : ℕ) → line_end bytes ≡ Some n → n ≤ k → line_end (take k bytes) ≡ Some n
line_end-take [] n k e le = cc
line_end-take (b ∷ bytes) n zero e le = absurd (omega (arith, le, line_some (nat_eq b 10) (line_end bytes) n e))
line_end-take (b ∷ bytes) n (suc k) e le =
    line_step (nat_eq b 10) (line_end (take k bytes)) (line_end bytes) n (λ m e sum. line_end-take bytes m k e (omega (arith, sum, le))) e

no_end : (first : Bool) (n : ℕ) → cond first Open Wrong ≡ Ended n → ⊥
no_end true n e = cc
no_end false n e = cc

two_bytes : (both : Bool) (n : ℕ) → cond both (Ended 2) Wrong ≡ Ended n → 2 ≡ n
two_bytes true n e = cc
two_bytes false n e = cc

ending-take : (bytes : List ℕ) (n k : ℕ) → data_ending bytes ≡ Ended n → n ≤ k → data_ending (take k bytes) ≡ Ended n
ending-take [] n k e le = cc
ending-take (c ∷ []) n k e le = absurd (no_end (nat_eq c 13) n e)
ending-take (c ∷ l ∷ bytes) n zero e le = absurd (omega (arith, le, two_bytes (nat_eq c 13 && nat_eq l 10) n e))
ending-take (c ∷ l ∷ bytes) n (suc zero) e le = absurd (omega (arith, le, two_bytes (nat_eq c 13 && nat_eq l 10) n e))
ending-take (c ∷ l ∷ bytes) n (suc (suc k)) e le = e

-- ---- trailers

trailer_end : (over : Bool) (t n : ℕ) → cond over Wrong (Ended t) ≡ Ended n → (over ≡ false) × (t ≡ n)
trailer_end true t n e = cc
trailer_end false t n e = (refl, cc)

trailer_none : (long : Bool) (n : ℕ) → cond long Wrong Open ≡ Ended n → ⊥
trailer_none true n e = cc
trailer_none false n e = cc

trailer-take_by : (found : Looked) (front : List ℕ) (n k : ℕ) → looked After front ≡ found → trailer_by found front ≡ Ended n → n ≤ k
    → trailer_by (looked After (take k front)) (take k front) ≡ Ended n
trailer-take_by (looks.Still place) front n k is e le =
    absurd (trailer_none (nat_le 16384 (length front) || nat_le 65 (count_lines front)) n e)
trailer-take_by (looks.Ended t) front n k is e le =
    let ends = trailer_end (nat_lt 65 (count_lines (take t front))) t n e in
    let inside : t ≤ k = omega (arith, ends.1, le) in
    rw (looked-take After front t k is inside, take-take t k front inside) e

trailer-take : (bytes : List ℕ) (n k : ℕ) → trailer bytes ≡ Ended n → n ≤ k → trailer (take k bytes) ≡ Ended n
trailer-take bytes n k e le =
    rw (take-swap 16384 k bytes) (trailer-take_by (looked After (take 16384 bytes)) (take 16384 bytes) n k refl e le)

-- ---- chunks

-- what is whole behind some bytes, and what it gives with them
record Behind (content : List ℕ) (n : ℕ) (front : Front (List ℕ)) (body : List ℕ) (size : ℕ) : Type 0 where
  rest : List ℕ
  behind : ℕ
  front_is : front ≡ whole rest behind
  sum : n + behind ≡ size
  again : (other : Front (List ℕ)) → other ≡ whole rest behind → prefixed content n other ≡ whole body size

behind_of : (content : List ℕ) (n : ℕ) (front : Front (List ℕ)) (body : List ℕ) (size : ℕ) → prefixed content n front ≡ whole body size
    → Behind content n front body size
behind_of content n more body size e = cc
behind_of content n (refused fault) body size e = cc
behind_of content n (whole rest m) body size e =
    record { rest = rest; behind = m; front_is = refl; sum = cc; again = λ other is. rw is e }

-- ways to go on, each of which finds what is whole in its own bytes
abbrev Alone : (List ℕ → Front (List ℕ)) → Type 0
Alone next = (bytes body : List ℕ) (n k : ℕ) → next bytes ≡ whole body n → n ≤ k → next (take k bytes) ≡ whole body n

body_end-is : (end : FrontEnd) (body : List ℕ) (n : ℕ) → body_end end ≡ whole body n → end ≡ Ended n
body_end-is Open body n e = cc
body_end-is Wrong body n e = cc
body_end-is (Ended m) body n e = let same : m ≡ n = cc in ap (λ k. Ended k) same

module _ (next : List ℕ → Front (List ℕ)) (alone : Alone next) (size : ℕ) where
  data_alone : (end : FrontEnd) (bytes body : List ℕ) (n k : ℕ) → size ≤ length bytes → data_ending (drop size bytes) ≡ end
      → behind_data next size bytes end ≡ whole body n → n ≤ k → chunk_data next size (take k bytes) ≡ whole body n
  data_alone Open bytes body n k inside is e le = cc
  data_alone Wrong bytes body n k inside is e le = cc
  data_alone (Ended m) bytes body n k inside is e le =
      let there = behind_of (take size bytes) (size + m) (next (drop (size + m) bytes)) body n e in
      let far : size + m ≤ k = omega (arith, there.sum, le) in
      let long : nat_lt (length (take k bytes)) size ≡ false =
      (let enough : size ≤ length (take k bytes) = omega (arith, length-take k bytes, inside, far) in search (arith, rules, nat_tests)) in
      let ends : data_ending (drop size (take k bytes)) ≡ Ended m =
      ap data_ending (drop-front size k bytes (omega (arith, far))) ∙ ending-take (drop size bytes) m (k - size) is (omega (arith, far)) in
      rw (long, ends, take-take size k bytes (omega (arith, far)))
      (there.again (next (drop (size + m) (take k bytes)))
      (ap next (drop-front (size + m) k bytes far) ∙ alone (drop (size + m) bytes) there.rest there.behind (k - (size + m)) there.front_is omega (
        arith,
        there.sum,
        le,
      )))

  chunk_alone_by : (short : Bool) (bytes body : List ℕ) (n k : ℕ) → nat_lt (length bytes) size ≡ short
      → cond short more (behind_data next size bytes (data_ending (drop size bytes))) ≡ whole body n → n ≤ k
      → chunk_data next size (take k bytes) ≡ whole body n
  chunk_alone_by true bytes body n k is e le = cc
  chunk_alone_by false bytes body n k is e le =
      let inside : size ≤ length bytes = grind (arith, nat_tests) in
      data_alone (data_ending (drop size bytes)) bytes body n k inside refl e le

  chunk_alone : Alone (chunk_data next size)
  chunk_alone bytes body n k e le = chunk_alone_by (nat_lt (length bytes) size) bytes body n k refl e le

module _ (next : ℕ → List ℕ → Front (List ℕ)) (alone : (room : ℕ) → Alone (next room)) (room : ℕ) where
  sized_by : (rest : List ℕ) (at size : ℕ) (last over : Bool) (body : List ℕ) (n k : ℕ) → nat_eq size 0 ≡ last → nat_lt room size ≡ over
      → cond last (prefixed [] at (body_end (trailer rest))) (cond over (refused TooLarge) (prefixed [] at (chunk_data (next (room - size)) size rest)))
      ≡ whole body n → n ≤ k
      → sized_chunk next room at (take (k - at) rest) (Some size) ≡ whole body n
  sized_by rest at size true over body n k is_last is_over e le =
      let there = behind_of [] at (body_end (trailer rest)) body n e in
      let ends = body_end-is (trailer rest) there.rest there.behind there.front_is in
      let inside : there.behind ≤ k - at = omega (arith, there.sum, le) in
      rw is_last (there.again (body_end (trailer (take (k - at) rest)))
      (ap body_end (trailer-take rest there.behind (k - at) ends inside ∙ sym ends) ∙ there.front_is))
  sized_by rest at size false true body n k is_last is_over e le = cc
  sized_by rest at size false false body n k is_last is_over e le =
      let there = behind_of [] at (chunk_data (next (room - size)) size rest) body n e in
      let inside : there.behind ≤ k - at = omega (arith, there.sum, le) in
      rw (is_last, is_over) (there.again (chunk_data (next (room - size)) size (take (k - at) rest))
      (chunk_alone (next (room - size)) (alone (room - size)) size rest there.rest there.behind (k - at) there.front_is inside))

  sized_alone : (rest : List ℕ) (at : ℕ) (size : Option ℕ) (body : List ℕ) (n k : ℕ) → sized_chunk next room at rest size ≡ whole body n → n ≤ k
      → (at ≤ n) × (sized_chunk next room at (take (k - at) rest) size ≡ whole body n)
  sized_alone rest at None body n k e le = cc
  sized_alone rest at (Some size) body n k e le =
      (at_most rest at size (nat_eq size 0) (nat_lt room size) body n e, sized_by rest at size (nat_eq size 0) (nat_lt room size) body n k refl refl e le)
    where
      at_most : (rest : List ℕ) (at size : ℕ) (last over : Bool) (body : List ℕ) (n : ℕ)
          → cond last (prefixed [] at (body_end (trailer rest))) (cond over (refused TooLarge) (prefixed [] at (chunk_data (next (room - size)) size rest)))
          ≡ whole body n → at ≤ n
      at_most rest at size true over body n e = omega (arith, (behind_of [] at (body_end (trailer rest)) body n e).sum)
      at_most rest at size false true body n e = cc
      at_most rest at size false false body n e = omega (arith, (behind_of [] at (chunk_data (next (room - size)) size rest) body n e).sum)

  lined_alone : (end : Option ℕ) (bytes body : List ℕ) (n k : ℕ) → line_end bytes ≡ end → lined_chunk next room bytes end ≡ whole body n → n ≤ k
      → one_chunk next room (take k bytes) ≡ whole body n
  lined_alone None bytes body n k is e le = cc
  lined_alone (Some at) bytes body n k is e le =
      let (before, sized) = sized_alone (drop at bytes) at (line_size (take at bytes)) body n k e le in
      let inside : at ≤ k = omega (arith, before, le) in
      rw (line_end-take bytes at k is inside, take-take at k bytes inside, drop-front at k bytes inside) sized

chunks_alone : (count room : ℕ) → Alone (chunks count room)
unfolding chunks
chunks_alone zero room bytes body n k e le = cc
chunks_alone (suc count) room bytes body n k e le =
    lined_alone (chunks count) (chunks_alone count) room (line_end bytes) bytes body n k refl e le

-- ---- bodies

capped_is : (found : Front (List ℕ)) (size : ℕ) (body : List ℕ) (n : ℕ) → capped_data size found ≡ whole body n → found ≡ whole body n
capped_is more size body n e = absurd (no_more (nat_lt 8388608 size) e)
  where
    no_more : (over : Bool) → cond over (refused TooLarge) more ≡ whole body n → ⊥
    no_more true e = cc
    no_more false e = cc
capped_is (refused fault) size body n e = cc
capped_is (whole data_is m) size body n e = by_size (nat_lt 8388608 m) e
  where
    by_size : (over : Bool) → cond over (refused TooLarge) (whole data_is m) ≡ whole body n → whole data_is m ≡ whole body n
    by_size true e = cc
    by_size false e = e

capped_same : (size other : ℕ) (body : List ℕ) (n : ℕ) → capped_data size (whole body n) ≡ capped_data other (whole body n)
capped_same size other body n = refl

chunked_alone : Alone chunked
chunked_alone bytes body n k e le =
    let front = take 8388609 bytes in
    let found = capped_is (chunks_within max_body front) (length front) body n e in
    rw (take-swap 8388609 k bytes, chunks_alone (suc max_body) max_body front body n k found le)
    (ap (capped_data (length front)) (sym found) ∙ e)

length_by : (short : Bool) (bytes body : List ℕ) (n size k : ℕ) → nat_lt (length bytes) size ≡ short
    → cond short more (whole (take size bytes) size) ≡ whole body n → n ≤ k → body_at (Length size) (take k bytes) ≡ whole body n
length_by true bytes body n size k is e le = cc
length_by false bytes body n size k is e le =
    let inside : size ≤ length bytes = grind (arith, nat_tests) in
    let same : size ≡ n = cc in
    let far : size ≤ k = omega (arith, same, le) in
    let long : nat_lt (length (take k bytes)) size ≡ false =
    (let enough : size ≤ length (take k bytes) = omega (arith, length-take k bytes, inside, far) in search (arith, rules, nat_tests)) in
    rw (long, take-take size k bytes far) e

-- a whole body stands alone
pub body_alone : (framing : Framing) → Alone (body_at framing)
body_alone (Length size) bytes body n k e le = length_by (nat_lt (length bytes) size) bytes body n size k refl e le
body_alone Chunked bytes body n k e le = chunked_alone bytes body n k e le

-- ---- requests

content_alone : (head : RequestHead) (at : ℕ) (framing : Framing) (found : Front (List ℕ)) (rest : List ℕ) (got : Got) (n : ℕ)
    → body_at framing rest ≡ found → with_content head at found ≡ whole got n
    → (at ≤ n) × (with_content head at (body_at framing (take (n - at) rest)) ≡ whole got n)
content_alone head at framing more rest got n is e = cc
content_alone head at framing (refused fault) rest got n is e = cc
content_alone head at framing (whole body size) rest got n is e =
    let sum : at + size ≡ n = cc in
    let inside : size ≤ n - at = omega (arith, sum) in
    (omega (arith, sum), rw (body_alone framing rest body size (n - at) is inside) e)

framed_alone : (media : Bool) (head : RequestHead) (at : ℕ) (rest : List ℕ) (framing : Framing) (got : Got) (n : ℕ)
    → framed_body media head at rest framing ≡ whole got n
    → (at ≤ n) × (framed_body media head at (take (n - at) rest) framing ≡ whole got n)
framed_alone true head at rest Chunked got n e = cc
framed_alone true head at rest (Length size) got n e = let same : at ≡ n = cc in (omega (arith, same), e)
framed_alone false head at rest framing got n e = content_alone head at framing (body_at framing rest) rest got n refl e

judged_alone : (head : RequestHead) (at : ℕ) (rest : List ℕ) (judged : Result Framing WireFault) (got : Got) (n : ℕ)
    → after_head head at rest judged ≡ whole got n
    → (at ≤ n) × (after_head head at (take (n - at) rest) judged ≡ whole got n)
judged_alone head at rest (Err fault) got n e = cc
judged_alone head at rest (Ok framing) got n e = framed_alone (is_media head.method head.target) head at rest framing got n e

alone_by : (read : Front RequestHead) (bytes : List ℕ) (got : Got) (n : ℕ) → IsHead bytes read → after_read bytes read ≡ whole got n
    → IsNext (take n bytes) (whole got n)
alone_by more bytes got n stands e = cc
alone_by (refused fault) bytes got n stands e = cc
alone_by (whole head at) bytes got n stands e =
    let (inside, same) = judged_alone head at (drop at bytes) (judge head) got n e in
    record {
      read = whole head at;
      head = head_front bytes head at n stands inside;
      is = rw (drop-front at n bytes inside) (sym same);
    }

-- what stands at the front stands there of its own bytes
pub stands_alone : StandsAlone
stands_alone bytes got n next = alone_by next.read bytes got n next.head (sym next.is)

-- ---- heads to which an interim response is due

-- a head is told by what stands at the front
pub record HasHead (bytes : List ℕ) (head : RequestHead) (media : Bool) : Type 0 where
  pub at : ℕ
  pub stands : IsHead bytes (whole head at)
  pub media_is : is_media head.method head.target ≡ media

given_by : (media : Bool) (other : RequestHead) (at : ℕ) (rest : List ℕ) (framing : Framing) (head : RequestHead) (body : List ℕ) (n : ℕ)
    → framed_body media other at rest framing ≡ whole (given head body) n → (media ≡ false) × (other ≡ head)
given_by true other at rest Chunked head body n e = cc
given_by true other at rest (Length size) head body n e = cc
given_by false other at rest framing head body n e = (refl, content_is (body_at framing rest) e)
  where
    content_is : (found : Front (List ℕ)) → with_content other at found ≡ whole (given head body) n → other ≡ head
    content_is more e = cc
    content_is (refused fault) e = cc
    content_is (whole data_is m) e = cc

given_judged : (other : RequestHead) (at : ℕ) (rest : List ℕ) (judged : Result Framing WireFault) (head : RequestHead) (body : List ℕ) (n : ℕ)
    → after_head other at rest judged ≡ whole (given head body) n → (is_media other.method other.target ≡ false) × (other ≡ head)
given_judged other at rest (Err fault) head body n e = cc
given_judged other at rest (Ok framing) head body n e = given_by (is_media other.method other.target) other at rest framing head body n e

given_head_by : (read : Front RequestHead) (bytes : List ℕ) (head : RequestHead) (body : List ℕ) (n : ℕ) → IsHead bytes read
    → after_read bytes read ≡ whole (given head body) n → HasHead bytes head false
given_head_by more bytes head body n stands e = cc
given_head_by (refused fault) bytes head body n stands e = cc
given_head_by (whole other at) bytes head body n stands e =
    let (media, same) = given_judged other at (drop at bytes) (judge other) head body n e in
    record { at = at; stands = rw (sym same) stands; media_is = ap (λ (h : RequestHead). is_media h.method h.target) (sym same) ∙ media }

pub given_head : (bytes : List ℕ) (head : RequestHead) (body : List ℕ) (n : ℕ) → IsNext bytes (whole (given head body) n) → HasHead bytes head false
given_head bytes head body n next = given_head_by next.read bytes head body n next.head (sym next.is)

opened_by : (media : Bool) (other : RequestHead) (at : ℕ) (rest : List ℕ) (framing : Framing) (head : RequestHead) (size n : ℕ)
    → framed_body media other at rest framing ≡ whole (opened head size) n → (media ≡ true) × (other ≡ head)
opened_by true other at rest Chunked head size n e = cc
opened_by true other at rest (Length m) head size n e = (refl, cc)
opened_by false other at rest framing head size n e = absurd (content_is (body_at framing rest) e)
  where
    content_is : (found : Front (List ℕ)) → with_content other at found ≡ whole (opened head size) n → ⊥
    content_is more e = cc
    content_is (refused fault) e = cc
    content_is (whole data_is m) e = cc

opened_judged : (other : RequestHead) (at : ℕ) (rest : List ℕ) (judged : Result Framing WireFault) (head : RequestHead) (size n : ℕ)
    → after_head other at rest judged ≡ whole (opened head size) n → (is_media other.method other.target ≡ true) × (other ≡ head)
opened_judged other at rest (Err fault) head size n e = cc
opened_judged other at rest (Ok framing) head size n e = opened_by (is_media other.method other.target) other at rest framing head size n e

opened_head_by : (read : Front RequestHead) (bytes : List ℕ) (head : RequestHead) (size n : ℕ) → IsHead bytes read
    → after_read bytes read ≡ whole (opened head size) n → HasHead bytes head true
opened_head_by more bytes head size n stands e = cc
opened_head_by (refused fault) bytes head size n stands e = cc
opened_head_by (whole other at) bytes head size n stands e =
    let (media, same) = opened_judged other at (drop at bytes) (judge other) head size n e in
    record { at = at; stands = rw (sym same) stands; media_is = ap (λ (h : RequestHead). is_media h.method h.target) (sym same) ∙ media }

pub opened_head : (bytes : List ℕ) (head : RequestHead) (size n : ℕ) → IsNext bytes (whole (opened head size) n) → HasHead bytes head true
opened_head bytes head size n next = opened_head_by next.read bytes head size n next.head (sym next.is)

-- The bytes of a head alone, to which an interim response is due: its body is to come.
pub record HeadWaits (text : List ℕ) (head : RequestHead) : Type 0 where
  pub due : IsInterimDue text
  pub some : 0 < length text
  pub other : is_media head.method head.target ≡ false → IsNext text more
  pub media : is_media head.method head.target ≡ true
      → (size : ℕ) × (0 < size) × IsNext text (whole (opened head size) (length text))

looked_some : (p : LinePlace) (xs : List ℕ) (n : ℕ) → looked p xs ≡ looks.Ended n → 1 ≤ n
looked_some p [] n e = cc
looked_some p (x ∷ xs) n e = some_byte (next_place p x) (λ q. looked q xs) n e

head_some_by : (end : Looked) (bytes : List ℕ) (head : RequestHead) (n : ℕ) → head_end bytes ≡ end → IsHeadBy end bytes (whole head n) → 1 ≤ n
head_some_by (looks.Still place) bytes head n is stands = absurd stands
head_some_by (looks.Ended end) bytes head n is (same, one) = omega (arith, same, looked_some Before (take 16384 bytes) end is)

and_last : (a b : Bool) → a && b ≡ true → b ≡ true
and_last true b e = e
and_last false b e = absurd (false≢true e)

-- a body is to come
body_to_come : (head : RequestHead) → wants_interim head ≡ true → has_body (judge head) ≡ true
body_to_come head wants = and_last _ (has_body (judge head)) wants

not_zero : (zero_is : Bool) (size : ℕ) → nat_eq size 0 ≡ zero_is → not zero_is ≡ true → 0 < size
not_zero true size is e = absurd (false≢true e)
not_zero false size is e = grind (arith, nat_tests)

waits_judged : (judged : Result Framing WireFault) (head : RequestHead) (n : ℕ) → has_body judged ≡ true → is_media head.method head.target ≡ false
    → after_head head n [] judged ≡ more
unfolding chunks
waits_judged (Err fault) head n body media = absurd (false≢true body)
waits_judged (Ok Chunked) head n body media = rw media refl
waits_judged (Ok (Length size)) head n body media =
    let some : 0 < size = not_zero (nat_eq size 0) size refl body in
    let short : nat_lt 0 size ≡ true = search (arith, rules, nat_tests) in
    rw (media, short) refl

too_large : (over coded : Bool) (size : ℕ) → cond over (Err TooLarge) (cond coded (Err Coding) (Ok (Length size))) ≡ Ok Chunked → ⊥
too_large true coded size e = cc
too_large false true size e = cc
too_large false false size e = cc

never_chunked : (coded : Bool) (framing : Option Framing) → judged_framing true coded framing ≡ Ok Chunked → ⊥
never_chunked coded None e = cc
never_chunked coded (Some Chunked) e = cc
never_chunked coded (Some (Length size)) e = too_large (nat_lt 1073741824 size) coded size e

media_judged : (judged : Result Framing WireFault) (head : RequestHead) (n : ℕ) (rest : List ℕ) → judge head ≡ judged → has_body judged ≡ true
    → is_media head.method head.target ≡ true
    → (size : ℕ) × (0 < size) × (after_head head n rest judged ≡ whole (opened head size) n)
media_judged (Err fault) head n rest is body media = absurd (false≢true body)
media_judged (Ok Chunked) head n rest is body media =
    absurd (never_chunked (is_coded (fields_of head)) (declared head.minor (fields_of head))
    (ap (λ m. judged_framing m (is_coded (fields_of head)) (declared head.minor (fields_of head))) (sym media) ∙ is))
media_judged (Ok (Length size)) head n rest is body media =
    (size, not_zero (nat_eq size 0) size refl body, rw media refl)

pub heads_wait : (bytes : List ℕ) (head : RequestHead) (n : ℕ) → IsHead bytes (whole head n) → wants_interim head ≡ true → HeadWaits (take n bytes) head
heads_wait bytes head n stands wants =
    let inside = head_inside bytes head n stands in
    let size : length (take n bytes) ≡ n = length-take-le n bytes inside in
    let front = head_front bytes head n n stands (omega arith) in
    let none : drop n (take n bytes) ≡ [] = drop_all n (take n bytes) (omega (arith, size)) in
    let body = body_to_come head wants in
    record {
      due = (head, n, front, wants);
      some = omega (arith, size, head_some_by (head_end bytes) bytes head n refl stands);
      other = λ media. record { read = whole head n; head = front; is = rw none (sym (waits_judged (judge head) head n body media)) };
      media = λ media.
          let (m, some, is) = media_judged (judge head) head n (drop n (take n bytes)) refl body media in
          (m, some, rw size (record { read = whole head n; head = front; is = sym is }));
    }

-- the head of a media PUT to which an interim response is due is given
pub media_opens : (bytes : List ℕ) (next : Front Got) (head : RequestHead) (n : ℕ) → IsNext bytes next → IsHead bytes (whole head n)
    → wants_interim head ≡ true → is_media head.method head.target ≡ true → (size : ℕ) × (next ≡ whole (opened head size) n)
media_opens bytes next head n found stands wants media =
    let (size, some, is) = media_judged (judge head) head n (drop n bytes) refl (body_to_come head wants) media in
    (size, next_unique bytes next (whole (opened head size) n) found (record { read = whole head n; head = stands; is = sym is }))

-- an interim response stays due under more bytes
pub due_later : (bytes later : List ℕ) → IsInterimDue bytes → IsInterimDue (bytes ++ later)
due_later bytes later (head, n, stands, wants) = (head, n, IsHead_later bytes later head n (head_inside bytes head n stands) stands, wants)

-- it is due where the one head that stands there wants it
pub due_head : (bytes : List ℕ) (head : RequestHead) (media : Bool) → HasHead bytes head media → IsInterimDue bytes → wants_interim head ≡ true
due_head bytes head media has (other, n, stands, wants) =
    ap wants_interim (same_head bytes head other has.at n has.stands stands).0 ∙ wants
