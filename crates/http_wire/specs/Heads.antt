-- The head that stands at the front of bytes (RFC 9112, section 2.2). The number of its bytes and
-- of its fields is limited by our own rule.
use Rattle.std.specs.Prelude.{◌≡◌, ℕ, ◌+◌, ◌<◌, ◌≤◌, List, [], length, take, drop}
use Rattle.httparse.specs.Grammar.{ReadsRequest, RequestHead}
use Rattle.http_wire.specs.Framing.{ends_connection, is_media, judge, method_kind, wants_interim}
use Rattle.http_wire.specs.Lines.{head_end, max_head}
use Rattle.http_wire.specs.declared.framing.WireFault.{WireFault}
use Rattle.http_wire.specs.declared.framing.WireFault.TheVariants.{BadHead}
use Rattle.http_wire.specs.declared.lines.Looked.{Looked}
use Rattle.http_wire.specs.declared.lines.Looked.TheVariants.{Ended, Still}
use Rattle.http_wire.specs.declared.head.FeedSpan.{FeedSpan}
use Rattle.http_wire.specs.declared.head.FoundHead.{FoundHead}

-- What stands at the front of bytes: nothing whole as yet, a refusal, or a thing and the number of
-- its bytes.
pub data Front (A : Type 0) : Type 0 where
  more : Front A
  refused : WireFault → Front A
  whole : A → ℕ → Front A

-- a head has at most so many fields
abbrev pub max_fields : ℕ
max_fields = 64

-- these bytes are one head, as `httparse` reads it, with at most 64 fields
pub record IsOneHead (bytes : List ℕ) (head : RequestHead) : Type 0 where
  pub reads : ReadsRequest bytes head []
  pub few : length head.fields ≤ max_fields

-- What stands at the front, by where a head ends there. A head that ends nowhere in 16,384 bytes is
-- refused, and so is one whose bytes aren't one head.
abbrev pub IsHeadBy : Looked → List ℕ → Front RequestHead → Type 0
IsHeadBy (Still place) bytes more = length bytes < max_head
IsHeadBy (Still place) bytes (refused fault) = (fault ≡ BadHead) × (max_head ≤ length bytes)
IsHeadBy (Still place) bytes (whole head n) = ⊥
IsHeadBy (Ended end) bytes more = ⊥
IsHeadBy (Ended end) bytes (refused fault) =
    (fault ≡ BadHead) × ((head : RequestHead) → ¬ (IsOneHead (take end bytes) head))
IsHeadBy (Ended end) bytes (whole head n) = (n ≡ end) × IsOneHead (take end bytes) head

-- what stands at the front of bytes, as a head
abbrev pub IsHead : List ℕ → Front RequestHead → Type 0
IsHead bytes front = IsHeadBy (head_end bytes) bytes front

-- the bytes at a place
abbrev pub span_text : List ℕ → FeedSpan → List ℕ
span_text bytes span = take span.length (drop span.start bytes)

-- what is told of a head that stands in bytes
pub record Describes (bytes : List ℕ) (head : RequestHead) (found : FoundHead) : Type 0 where
  pub method : found.method ≡ method_kind head.method
  pub target : span_text bytes found.target ≡ head.target
  pub inside : found.target.start + found.target.length ≤ found.length
  pub media : found.is_media ≡ is_media head.method head.target
  pub framing : found.framing ≡ judge head
  pub interim : found.wants_interim ≡ wants_interim head
  pub closes : found.closes ≡ ends_connection head
