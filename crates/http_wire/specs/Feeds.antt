-- A feed: how the bytes of a connection are cut into requests, call by call.
use Rattle.std.specs.Prelude.{◌≡◌, ℕ, ◌+◌, ◌-◌, ◌<◌, ◌≤◌, ◌==◌, nat_lt, Bool, true, false, ◌||◌, List, [], ◌++◌, length, take, drop, if◌then◌else◌}
use Rattle.httparse.specs.Grammar.{RequestHead}
use Rattle.http_wire.specs.Framing.{ends_connection, method_kind, wants_interim}
use Rattle.http_wire.specs.Heads.{IsHead, more, refused, span_text, whole}
use Rattle.http_wire.specs.Requests.{IsNext, given, opened}
use Rattle.http_wire.specs.declared.framing.WireFault.{WireFault}
use Rattle.http_wire.specs.declared.head.FeedSpan.{FeedSpan}
use Rattle.http_wire.specs.declared.stage.Head.{Head}
use Rattle.http_wire.specs.declared.stage.FeedStage.{FeedStage}
use Rattle.http_wire.specs.declared.stage.FeedStage.TheVariants.{Failed, Media, Open}
use Rattle.http_wire.specs.declared.stage.FeedStep.{FeedStep}
use Rattle.http_wire.specs.declared.stage.FeedStep.TheVariants as steps

-- What a feed is seen as: the bytes of the request that was given last, or of the head of a media
-- PUT; the bytes behind them, which weren't given yet; the data of a chunked body; the stage; the
-- number of requests so far; and whether the last one ends the connection.
pub record Fed : Type 0 where
  pub last : List ℕ
  pub unread : List ℕ
  pub body : List ℕ
  pub stage : FeedStage
  pub requests : ℕ
  pub ended : Bool

-- a feed of a connection of which nothing was heard
abbrev pub new_feed : Fed
new_feed = record {
  last = [];
  unread = [];
  body = [];
  stage = Open;
  requests = 0;
  ended = false;
}

-- a connection ends behind so many requests
abbrev pub max_requests : ℕ
max_requests = 1000000

-- the most bytes that a feed keeps: those of a head, of a chunked body and one more
abbrev pub feed_room : ℕ
feed_room = 8404993

-- how many bytes it keeps
abbrev pub kept_count : Fed → ℕ
kept_count fed = length fed.last + length fed.unread

-- how many bytes of a media body weren't handed on yet
abbrev pub left_of : FeedStage → ℕ
left_of Open = 0
left_of (Media left) = left
left_of (Failed fault) = 0

-- the stage when so many more were
abbrev pub less_by : ℕ → FeedStage → FeedStage
less_by n Open = Open
less_by n (Media left) = Media (left - n)
less_by n (Failed fault) = Failed fault

-- more bytes are heard
abbrev pub heard : Fed → List ℕ → Fed
heard fed bytes = record fed { unread = fed.unread ++ bytes }

-- so many bytes of a media body are handed on
abbrev pub handed_on : Fed → ℕ → Fed
handed_on fed n = record fed { unread = drop n fed.unread; stage = less_by n fed.stage }

-- So many bytes of a media body went past the feed, which kept none of them.
abbrev pub passed_by : Fed → ℕ → Fed
passed_by fed n = record fed { stage = less_by n fed.stage }

-- ---- places

-- Whether a place is in the bytes of the last request. Otherwise it is in the data of its chunked
-- body, which is counted from the most bytes that a feed keeps.
abbrev pub is_kept_place : FeedSpan → Bool
is_kept_place span = nat_lt span.start feed_room

-- the same place, counted from the front of the data
abbrev pub body_place : FeedSpan → FeedSpan
body_place span = record { start = span.start - feed_room; length = span.length }

-- a place lies in bytes
abbrev pub IsInside : FeedSpan → List ℕ → Type 0
IsInside span bytes = span.start + span.length ≤ length bytes

-- a place is one of the feed's, by where it is
abbrev pub IsPlaceBy : Bool → Fed → FeedSpan → Type 0
IsPlaceBy true fed span = IsInside span fed.last
IsPlaceBy false fed span = IsInside (body_place span) fed.body

-- a place is one of the feed's
abbrev pub IsPlace : Fed → FeedSpan → Type 0
IsPlace fed span = IsPlaceBy (is_kept_place span) fed span

-- the bytes at a place
abbrev pub span_bytes : Fed → FeedSpan → List ℕ
span_bytes fed span =
    if is_kept_place span then span_text fed.last span else span_text fed.body (body_place span)

-- ---- answers

-- The state behind an answer: the first unread bytes, so many, are what is given.
pub record Leaves
    (old new : Fed) (n : ℕ) (stage : FeedStage) (requests : ℕ) (ended : Bool) : Type 0 where
  pub last : new.last ≡ take n old.unread
  pub unread : new.unread ≡ drop n old.unread
  pub stage_is : new.stage ≡ stage
  pub requests_are : new.requests ≡ requests
  pub ended_is : new.ended ≡ ended

-- the connection ends behind the so many-th request
abbrev pub is_last_request : Bool → ℕ → Bool
is_last_request closed number = closed || number == max_requests

-- what a head of a request, which is the so many-th, tells of it
pub record TellsHead (fed : Fed) (head : RequestHead) (number : ℕ) (shown : Head) : Type 0 where
  pub method : shown.method ≡ method_kind head.method
  pub target_place : IsPlace fed shown.target
  pub target : span_bytes fed shown.target ≡ head.target
  pub interim : shown.wants_interim ≡ wants_interim head
  pub ends : shown.ends ≡ is_last_request (ends_connection head) number

-- the body that is told of a request
pub record TellsBody (fed : Fed) (body : List ℕ) (shown : Head) : Type 0 where
  pub size : shown.length ≡ length body
  pub place : IsPlace fed shown.body
  pub content : span_bytes fed shown.body ≡ body

-- the place of no bytes
abbrev pub no_place : FeedSpan
no_place = record { start = 0; length = 0 }

-- a media PUT is given at its head, and its body is handed on apart
pub record GivesHead (old new : Fed) (shown : Head) : Type 0 where
  pub head : RequestHead
  pub n : ℕ
  pub next : IsNext old.unread (whole (opened head shown.length) n)
  pub inside : n ≤ length old.unread
  pub leaves : Leaves old new n (Media shown.length) (old.requests + 1) shown.ends
  pub tells : TellsHead new head (old.requests + 1) shown
  pub apart : shown.body ≡ no_place

-- another request is given whole
pub record GivesWhole (old new : Fed) (shown : Head) : Type 0 where
  pub head : RequestHead
  pub body : List ℕ
  pub n : ℕ
  pub next : IsNext old.unread (whole (given head body) n)
  pub inside : n ≤ length old.unread
  pub leaves : Leaves old new n Open (old.requests + 1) shown.ends
  pub tells : TellsHead new head (old.requests + 1) shown
  pub tells_body : TellsBody new body shown

-- the wire is refused
pub record Refuses (old new : Fed) (fault : WireFault) : Type 0 where
  pub next : IsNext old.unread (refused fault)
  pub leaves : Leaves old new 0 (Failed fault) old.requests old.ended

-- nothing is given as yet
pub record Waits (old new : Fed) : Type 0 where
  pub next : IsNext old.unread more
  pub leaves : Leaves old new 0 Open old.requests old.ended

-- an answer to the question for the next request, where nothing was refused
abbrev pub Turns : Fed → FeedStep → Fed → Type 0
Turns old steps.More new = Waits old new
Turns old (steps.Head shown) new = GivesHead old new shown
Turns old (steps.Whole shown) new = GivesWhole old new shown
Turns old (steps.Refused fault) new = Refuses old new fault

-- what was refused stays so, and nothing changes
abbrev pub Stays : Fed → WireFault → FeedStep → Fed → Type 0
Stays old fault step new = (step ≡ steps.Refused fault) × (new ≡ old)

-- the answer by the stage
abbrev pub AnswersBy : FeedStage → Fed → FeedStep → Fed → Type 0
AnswersBy Open old step new = Turns old step new
AnswersBy (Media left) old step new = Turns old step new
AnswersBy (Failed fault) old step new = Stays old fault step new

-- what a feed answers to the question for the next request
abbrev pub StepsTo : Fed → FeedStep → Fed → Type 0
StepsTo old step new = AnswersBy old.stage old step new

-- The head at the front of the unread bytes is whole, none of the five refusals stands in it, and
-- an interim response is due to it.
abbrev pub IsInterimDue : List ℕ → Type 0
IsInterimDue bytes =
    (head : RequestHead) × (n : ℕ) × IsHead bytes (whole head n) × (wants_interim head ≡ true)

-- After `More` a byte of a piece that isn't empty is taken.
abbrev pub WaitsWithRoom : Type 0
WaitsWithRoom = (old new : Fed) → Waits old new → kept_count new < feed_room

-- After a head one is taken too, once the unread bytes were handed on.
abbrev pub HeadHasRoom : Type 0
HeadHasRoom =
    (old new : Fed) (shown : Head) → GivesHead old new shown
    → kept_count (handed_on new (length new.unread)) < feed_room
