-- The request that stands at the front of bytes (RFC 9112, sections 2, 6 and 7). A media PUT is
-- given at its head, and its body is handed on apart; that is our own.
use Rattle.std.specs.Prelude.{◌≡◌, ℕ, ◌+◌, Bool, nat_lt, List, length, take, drop, Result, Ok, Err, if◌then◌else◌}
use Rattle.httparse.specs.Grammar.{RequestHead}
use Rattle.http_wire.specs.Chunks.{chunked}
use Rattle.http_wire.specs.Framing.{is_media, judge}
use Rattle.http_wire.specs.Heads.{Front, IsHead, more, refused, whole}
use Rattle.http_wire.specs.declared.framing.Framing.{Framing}
use Rattle.http_wire.specs.declared.framing.Framing.TheVariants.{Chunked, Length}
use Rattle.http_wire.specs.declared.framing.WireFault.{WireFault}
use Rattle.http_wire.specs.declared.framing.WireFault.TheVariants.{LengthRequired}

-- What is given of a request: the head of a media PUT and the length of its body, or the head and
-- the body of any other.
pub data Got : Type 0 where
  opened : RequestHead → ℕ → Got
  given : RequestHead → List ℕ → Got

-- the body at the front of bytes
abbrev pub body_at : Framing → List ℕ → Front (List ℕ)
body_at (Length n) bytes = if nat_lt (length bytes) n then more else whole (take n bytes) n
body_at Chunked bytes = chunked bytes

-- a head of so many bytes, and the body behind it
abbrev pub with_content : RequestHead → ℕ → Front (List ℕ) → Front Got
with_content head n more = more
with_content head n (refused fault) = refused fault
with_content head n (whole body m) = whole (given head body) (n + m)

-- a media PUT, whose head has so many bytes
abbrev pub media_head : RequestHead → ℕ → Framing → Front Got
media_head head n (Length size) = whole (opened head size) n
media_head head n Chunked = refused LengthRequired

-- what stands at the front, by a head of so many bytes that isn't refused
abbrev pub framed_body : Bool → RequestHead → ℕ → List ℕ → Framing → Front Got
framed_body media head n bytes framing =
    if media then media_head head n framing else with_content head n (body_at framing bytes)

-- the same, by a head's framing or refusal, and the bytes behind the head
abbrev pub after_head : RequestHead → ℕ → List ℕ → Result Framing WireFault → Front Got
after_head head n bytes (Err fault) = refused fault
after_head head n bytes (Ok framing) =
    framed_body (is_media head.method head.target) head n bytes framing

-- the same, by what stands at the front as a head
abbrev pub after_read : List ℕ → Front RequestHead → Front Got
after_read bytes more = more
after_read bytes (refused fault) = refused fault
after_read bytes (whole head n) = after_head head n (drop n bytes) (judge head)

-- what stands at the front of bytes, as a request
pub record IsNext (bytes : List ℕ) (next : Front Got) : Type 0 where
  pub read : Front RequestHead
  pub head : IsHead bytes read
  pub is : next ≡ after_read bytes read
