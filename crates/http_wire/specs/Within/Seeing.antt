-- What is known of the unread bytes of a feed.
use Rattle.std.specs.Prelude.{◌≡◌, ℕ, ◌+◌, ◌≤◌, List, length, take, drop}
use Rattle.httparse.specs.Grammar.{RequestHead}
use Rattle.http_wire.specs.Chunks.{coded_front}
use Rattle.http_wire.specs.Feeds.{is_last_request}
use Rattle.http_wire.specs.Heads.{Describes, IsHead, more, refused, whole}
use Rattle.http_wire.specs.Lines.{looked, max_head}
use Rattle.http_wire.specs.Requests.{IsNext, given, opened}
use Rattle.http_wire.specs.Within.Reading.{IsReached}
use Rattle.http_wire.specs.declared.chunks.Progress.{Progress}
use Rattle.http_wire.specs.declared.front.NextFound.{NextFound}
use Rattle.http_wire.specs.declared.front.NextFound.TheVariants as nexts
use Rattle.http_wire.specs.declared.framing.WireFault.TheVariants.{BadHead}
use Rattle.http_wire.specs.declared.head.FoundHead.{FoundHead}
use Rattle.http_wire.specs.declared.head.FeedSpan.{FeedSpan}
use Rattle.http_wire.specs.declared.stage.Head.{Head}
use Rattle.http_wire.specs.declared.lines.Looked.TheVariants.{Still}
use Rattle.http_wire.specs.declared.lines.LinePlace.{LinePlace}
use Rattle.http_wire.specs.declared.lines.LinePlace.TheVariants.{Before}
use Rattle.http_wire.specs.declared.seek.Seen.{Seen}
use Rattle.http_wire.specs.declared.seek.Seen.TheVariants as seen
use Rattle.http_wire.specs.declared.seek.HeadFound.{HeadFound}
use Rattle.http_wire.specs.declared.seek.HeadFound.TheVariants as heads

-- so many bytes hold no whole head, and lead to a place
pub record IsSeeking (unread : List ℕ) (place : LinePlace) (at : ℕ) : Type 0 where
  pub leads : looked Before (take at unread) ≡ Still place
  pub inside : at ≤ length unread
  pub few : at ≤ max_head

-- a head stands at the front, and this is told of it
pub record IsFound (unread : List ℕ) (found : FoundHead) : Type 0 where
  pub head : RequestHead
  pub stands : IsHead unread (whole head found.length)
  pub tells : Describes unread head found
  pub inside : found.length ≤ length unread
  pub small : found.length ≤ max_head

-- a head stands at the front, and a chunked body behind it was read so far
pub record IsRead (unread body : List ℕ) (found : FoundHead) (progress : Progress) : Type 0 where
  pub known : IsFound unread found
  pub reached : IsReached (coded_front (drop found.length unread)) body progress

-- what is known of the unread bytes, where these are the data of chunks that were read
abbrev pub IsSeen : List ℕ → List ℕ → Seen → Type 0
IsSeen unread body (seen.Seeking place at) = IsSeeking unread place at
IsSeen unread body (seen.Found found progress) = IsRead unread body found progress

-- what is found of the head at the front
abbrev pub FindsHead : List ℕ → HeadFound → Type 0
FindsHead unread (heads.More place at) = IsHead unread more × IsSeeking unread place at
FindsHead unread heads.Refused = IsHead unread (refused BadHead)
FindsHead unread (heads.Whole found) = IsFound unread found

-- a request stands at the front: its head, and a body of so many bytes behind it that gives this
-- content
pub record IsContentGiven (unread content : List ℕ) (found : FoundHead) (size : ℕ) : Type 0 where
  pub known : IsFound unread found
  pub next : IsNext unread (whole (given known.head content) (found.length + size))
  pub inside : found.length + size ≤ length unread

-- a media PUT stands at the front, with so long a body
pub record IsMediaOpened (unread : List ℕ) (found : FoundHead) (size : ℕ) : Type 0 where
  pub known : IsFound unread found
  pub next : IsNext unread (whole (opened known.head size) found.length)

-- what is found of the request at the front, where this is the data of its chunks
abbrev pub FindsNext : List ℕ → NextFound → List ℕ → Type 0
FindsNext unread (nexts.More known) content = IsNext unread more × IsSeen unread content known
FindsNext unread (nexts.Refused fault) content = IsNext unread (refused fault)
FindsNext unread (nexts.Opened found size) content = IsMediaOpened unread found size
FindsNext unread (nexts.Plain found size) content =
    IsContentGiven unread (take size (drop found.length unread)) found size
FindsNext unread (nexts.Decoded found size) content = IsContentGiven unread content found size

-- what is known of the head of the unread bytes
abbrev pub KnowsHead : List ℕ → Seen → Type 0
KnowsHead unread (seen.Seeking place at) = IsSeeking unread place at
KnowsHead unread (seen.Found found progress) = IsFound unread found

-- a head is shown as it was found, with a body at a place, as the so many-th
pub record ShowsHead
    (found : FoundHead) (body : FeedSpan) (size number : ℕ) (shown : Head) : Type 0 where
  pub method : shown.method ≡ found.method
  pub target : shown.target ≡ found.target
  pub body_is : shown.body ≡ body
  pub size_is : shown.length ≡ size
  pub interim : shown.wants_interim ≡ found.wants_interim
  pub ends : shown.ends ≡ is_last_request found.closes number
