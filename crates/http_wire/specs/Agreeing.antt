-- What a feed gave and keeps, call by call, agrees with what all bytes that it took spell.
use Rattle.std.specs.Prelude.{◌≡◌, ◌≢◌, ℕ, ◌-◌, ◌<◌, ◌≤◌, Bool, true, false, List, [], ◌∷◌, ◌++◌, length, take, drop, Option, Some, None}
use Rattle.http_wire.specs.Feeds.{Fed, GivesHead, GivesWhole, Refuses, Waits, handed_on, heard, left_of, max_requests, new_feed}
use Rattle.http_wire.specs.Hearing.{Asked, HeardRequests, IsHeard, IsHeardOf, and_then, nothing_heard, stopped_by}
use Rattle.http_wire.specs.declared.framing.WireFault.{WireFault}
use Rattle.http_wire.specs.declared.stage.Head.{Head}
use Rattle.http_wire.specs.declared.stage.FeedStage.{FeedStage}
use Rattle.http_wire.specs.declared.stage.FeedStage.TheVariants.{Failed, Media, Open}

-- What a feed gave so far: the requests that are whole, and the last media PUT with the bytes of
-- its body that were handed on.
pub record Given : Type 0 where
  pub done : List Asked
  pub media : Option Asked

-- nothing
abbrev pub nothing_given : Given
nothing_given = record { done = []; media = None }

-- requests before what else is heard
abbrev pub before : List Asked → HeardRequests → HeardRequests
before [] tail = tail
before (asked ∷ later) tail = and_then asked.head asked.body (before later tail)

-- requests, and a media PUT behind them where there is one
abbrev pub settled_by : List Asked → Option Asked → List Asked
settled_by done None = done
settled_by done (Some last) = done ++ last ∷ []

-- all requests, where the body of the media PUT was handed on whole
abbrev pub settled : Given → List Asked
settled given = settled_by given.done given.media

-- what may be heard of the bytes behind so many requests, unless the last one ended the connection
abbrev pub HearsBehind : Bool → ℕ → List ℕ → HeardRequests → Type 0
HearsBehind true requests bytes tail = tail ≡ nothing_heard bytes
HearsBehind false requests bytes tail = IsHeard (max_requests - requests) bytes tail

-- Whatever follows the bytes so far: the requests, and then what the unread bytes and those that
-- follow spell, are what all of them spell.
abbrev pub OpenAgrees : List ℕ → List Asked → Bool → ℕ → List ℕ → Type 0
OpenAgrees all done ended requests unread =
    (later : List ℕ) (tail : HeardRequests) → HearsBehind ended requests (unread ++ later) tail
    → IsHeardOf (all ++ later) (before done tail)

-- the same behind a media PUT, of whose body so many bytes are still to be handed on
abbrev pub MediaAgrees : ℕ → List ℕ → List Asked → Option Asked → Bool → ℕ → List ℕ → Type 0
MediaAgrees left all done None ended requests unread = ⊥
MediaAgrees left all done (Some last) ended requests unread =
    (later : List ℕ) (tail : HeardRequests) → left ≤ length (unread ++ later)
    → HearsBehind ended requests (drop left (unread ++ later)) tail
    → IsHeardOf (all ++ later)
    (before done (and_then last.head (last.body ++ take left (unread ++ later)) tail))

-- the same by the stage
abbrev pub AgreesBy : FeedStage → List ℕ → Given → Bool → ℕ → List ℕ → Type 0
AgreesBy Open all given ended requests unread =
    OpenAgrees all (settled given) ended requests unread
AgreesBy (Media left) all given ended requests unread =
    MediaAgrees left all given.done given.media ended requests unread
AgreesBy (Failed fault) all given ended requests unread =
    (later : List ℕ)
    → IsHeardOf (all ++ later) (before (settled given) (stopped_by fault (unread ++ later)))

-- what was given, and what a feed keeps, agree with all bytes
pub record Agrees (all : List ℕ) (given : Given) (fed : Fed) : Type 0 where
  pub count : fed.ended ≡ false → fed.requests < max_requests
  pub spells : AgreesBy fed.stage all given fed.ended fed.requests fed.unread

-- the next request may be asked for, and nothing was refused
pub record MayTurn (fed : Fed) : Type 0 where
  pub handed_on : left_of fed.stage ≡ 0
  pub unrefused : (fault : WireFault) → fed.stage ≢ Failed fault
  pub goes_on : fed.ended ≡ false

-- a request more
abbrev pub with_whole : Given → Asked → Given
with_whole given asked = record { done = settled given ++ asked ∷ []; media = None }

-- a media PUT more
abbrev pub with_media : Given → Asked → Given
with_media given asked = record { done = settled given; media = Some asked }

-- more bytes of its body
abbrev pub with_bytes : List ℕ → Option Asked → Option Asked
with_bytes bytes None = None
with_bytes bytes (Some last) = Some (record last { body = last.body ++ bytes })

-- ---- laws: each call keeps the agreement

-- a new feed
abbrev pub AgreesAtStart : Type 0
AgreesAtStart = Agrees [] nothing_given new_feed

-- bytes are taken
abbrev pub AgreesOnPush : Type 0
AgreesOnPush =
    (all : List ℕ) (given : Given) (fed : Fed) (bytes : List ℕ) → Agrees all given fed
    → Agrees (all ++ bytes) given (heard fed bytes)

-- nothing whole stands there
abbrev pub AgreesOnWait : Type 0
AgreesOnWait =
    (all : List ℕ) (given : Given) (old new : Fed) → Agrees all given old → MayTurn old
    → Waits old new → Agrees all given new

-- the wire is refused
abbrev pub AgreesOnRefusal : Type 0
AgreesOnRefusal =
    (all : List ℕ) (given : Given) (old new : Fed) (fault : WireFault) → Agrees all given old
    → MayTurn old → Refuses old new fault → Agrees all given new

-- a request is given
abbrev pub AgreesOnWhole : Type 0
AgreesOnWhole =
    (all : List ℕ) (given : Given) (old new : Fed) (shown : Head) → Agrees all given old
    → MayTurn old → (gives : GivesWhole old new shown)
    → Agrees all (with_whole given (record { head = gives.head; body = gives.body })) new

-- a media PUT is given at its head
abbrev pub AgreesOnHead : Type 0
AgreesOnHead =
    (all : List ℕ) (given : Given) (old new : Fed) (shown : Head) → Agrees all given old
    → MayTurn old → (gives : GivesHead old new shown)
    → Agrees all (with_media given (record { head = gives.head; body = [] })) new

-- bytes of its body are handed on
abbrev pub AgreesOnBody : Type 0
AgreesOnBody =
    (all : List ℕ) (given : Given) (fed : Fed) (left n : ℕ) → Agrees all given fed
    → fed.stage ≡ Media left → n ≤ left → n ≤ length fed.unread
    → Agrees all (record given { media = with_bytes (take n fed.unread) given.media })
    (handed_on fed n)
