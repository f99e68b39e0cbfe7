-- Where nothing whole stands in bytes, there is room for one byte more.
use Rattle.std.proofs.Common.{◌≡◌, ℕ, ◌<◌, ◌≤◌, Bool, true, false, cond, List, length, take, drop, refl, sym, ap, ◌∙◌, arith, Option, Some, None, Result, Ok, Err, nat_lt, length-take, length-drop}
use Rattle.std.proofs.lemmas.Bool.Decides.{nat_tests}
use Rattle.std.proofs.lemmas.List.{length-take-le}
use Rattle.httparse.specs.Grammar.{RequestHead}
use Rattle.http_wire.specs.Chunks.{capped_data, chunks_within}
use Rattle.http_wire.specs.Feeds.{HeadHasRoom, WaitsWithRoom, feed_room}
use Rattle.http_wire.specs.Framing.{declared, fields_of, is_coded, is_media, judge, judged_framing, max_body}
use Rattle.http_wire.specs.Heads.{Front, IsHead, IsHeadBy, more, refused, whole}
use Rattle.http_wire.specs.Lines.{head_end, max_head}
use Rattle.http_wire.specs.Requests.{after_head, after_read, body_at, framed_body, media_head, opened, with_content}
use Rattle.http_wire.specs.declared.framing.Framing.{Framing}
use Rattle.http_wire.specs.declared.framing.Framing.TheVariants.{Chunked, Length}
use Rattle.http_wire.specs.declared.framing.WireFault.{WireFault}
use Rattle.http_wire.specs.declared.framing.WireFault.TheVariants.{Coding, TooLarge}
use Rattle.http_wire.specs.declared.lines.Looked.{Looked}
use Rattle.http_wire.specs.declared.lines.Looked.TheVariants.{Ended, Still}
use Rattle.http_wire.specs.declared.lines.LinePlace.TheVariants.{Before}
use Rattle.http_wire.proofs.Ends.{looked_inside}
use Rattle.http_wire.proofs.Staying.{head_inside}

-- ---- heads

head_small_by : (end : Looked) (bytes : List ℕ) (head : RequestHead) (n : ℕ) → head_end bytes ≡ end → IsHeadBy end bytes (whole head n)
    → n ≤ max_head
head_small_by (Still place) bytes head n is stands = absurd stands
head_small_by (Ended end) bytes head n is (same, one) =
    omega (arith, looked_inside Before (take 16384 bytes) end is, length-take 16384 bytes)

-- a whole head has at most 16,384 bytes
head_small : (bytes : List ℕ) (head : RequestHead) (n : ℕ) → IsHead bytes (whole head n) → n ≤ max_head
head_small bytes head n stands = head_small_by (head_end bytes) bytes head n refl stands

unended_small : (end : Looked) (bytes : List ℕ) → IsHeadBy end bytes more → length bytes < max_head
unended_small (Still place) bytes few = few
unended_small (Ended end) bytes none = absurd none

-- ---- bodies

short_by : (n : ℕ) (bytes : List ℕ) (short : Bool) → nat_lt (length bytes) n ≡ short → cond short more (whole (take n bytes) n) ≡ more
    → length bytes < n
short_by n bytes true is waits = grind (arith, nat_tests)
short_by n bytes false is waits = cc

over_by : (size : ℕ) (found : Front (List ℕ)) (over : Bool) (fault : WireFault) → nat_lt 8388608 size ≡ over
    → cond over (refused fault) found ≡ more → size ≤ 8388608
over_by size found true fault is waits = cc
over_by size found false fault is waits = grind (arith, nat_tests)

whole_by : (n : ℕ) (body : List ℕ) (over : Bool) (fault : WireFault) → cond over (refused fault) (whole body n) ≡ more → ⊥
whole_by n body true fault waits = cc
whole_by n body false fault waits = cc

capped_by : (size : ℕ) (found : Front (List ℕ)) → capped_data size found ≡ more → size ≤ 8388608
capped_by size more waits = over_by size more (nat_lt 8388608 size) TooLarge refl waits
capped_by size (refused fault) waits = cc
capped_by size (whole body n) waits = absurd (whole_by n body (nat_lt 8388608 n) TooLarge waits)

-- a length that isn't a media object's is at most 1,048,576
abbrev IsSmall : Framing → Type 0
IsSmall (Length n) = n ≤ max_body
IsSmall Chunked = Unit {0}

same_small : (judged : Result Framing WireFault) (a b : Framing) → IsSmall a → judged ≡ Ok a → judged ≡ Ok b → IsSmall b
same_small judged a b small one other = let is : a ≡ b = cc in rw (← is) small

coded_small : (coded : Bool) (judged : Result Framing WireFault) (a b : Framing) → IsSmall a → judged ≡ Ok a
    → cond coded (Err Coding) judged ≡ Ok b → IsSmall b
coded_small true judged a b small one is = cc
coded_small false judged a b small one is = same_small judged a b small one is

long_small : (n : ℕ) (long coded : Bool) (judged : Result Framing WireFault) (b : Framing) → nat_lt 1048576 n ≡ long → judged ≡ Ok (Length n)
    → cond long (Err TooLarge) (cond coded (Err Coding) judged) ≡ Ok b → IsSmall b
long_small n true coded judged b is one told = cc
long_small n false coded judged b is one told =
    let few : n ≤ 1048576 = grind (arith, nat_tests) in coded_small coded judged (Length n) b few one told

judged_small : (coded : Bool) (declared : Option Framing) (b : Framing) → judged_framing false coded declared ≡ Ok b → IsSmall b
judged_small coded None b is = cc
judged_small coded (Some Chunked) b is = coded_small coded (Ok Chunked) Chunked b tt refl is
judged_small coded (Some (Length n)) b is = long_small n (nat_lt 1048576 n) coded (Ok (Length n)) b refl refl is

body_short : (framing : Framing) (bytes : List ℕ) → IsSmall framing → body_at framing bytes ≡ more → length bytes ≤ 8388608
body_short (Length n) bytes small waits =
    omega (arith, small, short_by n bytes (nat_lt (length bytes) n) refl waits)
body_short Chunked bytes small waits =
    omega (
      arith,
      length-take 8388609 bytes,
      capped_by (length (take 8388609 bytes)) (chunks_within max_body (take 8388609 bytes)) waits,
    )

-- ---- requests

content_waits : (head : RequestHead) (n : ℕ) (body : Front (List ℕ)) → with_content head n body ≡ more → body ≡ more
content_waits head n more waits = refl
content_waits head n (refused fault) waits = cc
content_waits head n (whole body m) waits = cc

media_decided : (head : RequestHead) (n : ℕ) (framing : Framing) → media_head head n framing ≡ more → ⊥
media_decided head n (Length size) waits = cc
media_decided head n Chunked waits = cc

framed_short : (media : Bool) (head : RequestHead) (n : ℕ) (bytes : List ℕ) (framing : Framing) → (media ≡ false → IsSmall framing)
    → framed_body media head n bytes framing ≡ more → length bytes ≤ 8388608
framed_short true head n bytes framing small waits = absurd (media_decided head n framing waits)
framed_short false head n bytes framing small waits =
    body_short framing bytes (small refl) (content_waits head n (body_at framing bytes) waits)

small_head : (media : Bool) (head : RequestHead) (framing : Framing)
    → judged_framing media (is_coded (fields_of head)) (declared head.minor (fields_of head)) ≡ Ok framing → media ≡ false → IsSmall framing
small_head true head framing is other = cc
small_head false head framing is other = judged_small (is_coded (fields_of head)) (declared head.minor (fields_of head)) framing is

after_short : (head : RequestHead) (n : ℕ) (bytes : List ℕ) (judged : Result Framing WireFault) → judge head ≡ judged
    → after_head head n bytes judged ≡ more → length bytes ≤ 8388608
after_short head n bytes (Err fault) is waits = cc
after_short head n bytes (Ok framing) is waits =
    framed_short (is_media head.method head.target) head n bytes framing (small_head (is_media head.method head.target) head framing is) waits

read_short : (bytes : List ℕ) (read : Front RequestHead) → IsHead bytes read → more ≡ after_read bytes read → length bytes < feed_room
read_short bytes more stands is = omega (arith, unended_small (head_end bytes) bytes stands)
read_short bytes (refused fault) stands is = cc
read_short bytes (whole head n) stands is =
    omega (
      arith,
      head_small bytes head n stands,
      head_inside bytes head n stands,
      length-drop n bytes,
      after_short head n (drop n bytes) (judge head) refl (sym is),
    )

pub waits_with_room : WaitsWithRoom
waits_with_room old new waits =
    let few : length old.unread < feed_room = read_short old.unread waits.next.read waits.next.head waits.next.is in
    let last : length new.last ≡ 0 = ap length waits.leaves.last in
    let rest : length new.unread ≡ length old.unread = ap length waits.leaves.unread in
    omega (arith, few, last, rest)

-- ---- heads of media PUTs

content_given : (head other : RequestHead) (n m size : ℕ) (body : Front (List ℕ)) → whole (opened head size) n ≡ with_content other m body → ⊥
content_given head other n m size more is = cc
content_given head other n m size (refused fault) is = cc
content_given head other n m size (whole body k) is = cc

media_size : (head other : RequestHead) (n m size : ℕ) (framing : Framing) → whole (opened head size) n ≡ media_head other m framing → n ≡ m
media_size head other n m size (Length k) is = cc
media_size head other n m size Chunked is = cc

framed_size : (media : Bool) (head other : RequestHead) (n m size : ℕ) (bytes : List ℕ) (framing : Framing)
    → whole (opened head size) n ≡ framed_body media other m bytes framing → n ≡ m
framed_size true head other n m size bytes framing is = media_size head other n m size framing is
framed_size false head other n m size bytes framing is = absurd (content_given head other n m size (body_at framing bytes) is)

judged_size : (head other : RequestHead) (n m size : ℕ) (bytes : List ℕ) (judged : Result Framing WireFault)
    → whole (opened head size) n ≡ after_head other m bytes judged → n ≡ m
judged_size head other n m size bytes (Err fault) is = cc
judged_size head other n m size bytes (Ok framing) is =
    framed_size (is_media other.method other.target) head other n m size bytes framing is

opened_small : (bytes : List ℕ) (read : Front RequestHead) (head : RequestHead) (n size : ℕ) → IsHead bytes read
    → whole (opened head size) n ≡ after_read bytes read → n ≤ max_head
opened_small bytes more head n size stands is = cc
opened_small bytes (refused fault) head n size stands is = cc
opened_small bytes (whole other m) head n size stands is =
    let same : n ≡ m = judged_size head other n m size (drop m bytes) (judge other) is in
    rw same (head_small bytes other m stands)

pub head_has_room : HeadHasRoom
head_has_room old new shown gives =
    let small : gives.n ≤ max_head =
    opened_small old.unread gives.next.read gives.head gives.n shown.length gives.next.head gives.next.is in
    let last : length new.last ≡ gives.n = ap length gives.leaves.last ∙ length-take-le gives.n old.unread gives.inside in
    omega (arith, small, last, length-drop (length new.unread) new.unread)
