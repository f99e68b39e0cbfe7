-- What the whole list of a connection's bytes spells (RFC 9112, sections 2 and 9). It never speaks
-- of the pieces in which they come.
use Rattle.std.specs.Prelude.{◌≡◌, ℕ, zero, suc, ◌≤◌, ◌==◌, nat_lt, Bool, true, false, ◌||◌, List, [], ◌∷◌, ◌++◌, length, take, drop, Option, Some, None}
use Rattle.httparse.specs.Grammar.{RequestHead}
use Rattle.http_wire.specs.Feeds.{max_requests}
use Rattle.http_wire.specs.Framing.{ends_connection}
use Rattle.http_wire.specs.Heads.{Front, more, refused, whole}
use Rattle.http_wire.specs.Requests.{Got, IsNext, given, opened}
use Rattle.http_wire.specs.declared.framing.WireFault.{WireFault}

-- a request that was heard whole
pub record Asked : Type 0 where
  pub head : RequestHead
  pub body : List ℕ

-- The requests up to the first that ends the connection or is refused, the refusal where one
-- stands, and the bytes behind the last request.
pub record HeardRequests : Type 0 where
  pub requests : List Asked
  pub fault : Option WireFault
  pub rest : List ℕ

-- no request, and bytes that hold none as yet
abbrev pub nothing_heard : List ℕ → HeardRequests
nothing_heard bytes = record { requests = []; fault = None; rest = bytes }

-- no request, and a refusal
abbrev pub stopped_by : WireFault → List ℕ → HeardRequests
stopped_by fault bytes = record { requests = []; fault = Some fault; rest = bytes }

-- a request, and what is heard behind it
abbrev pub and_then : RequestHead → List ℕ → HeardRequests → HeardRequests
and_then head body heard = record {
  requests = record { head = head; body = body } ∷ heard.requests;
  fault = heard.fault;
  rest = heard.rest;
}

-- the request ends the connection, where so many more could come behind it
abbrev pub ends_with : ℕ → RequestHead → Bool
ends_with left head = ends_connection head || left == 0

-- a request, and what is heard of the bytes behind it unless it ends the connection
abbrev pub RequestAndRest
    : Bool → (List ℕ → HeardRequests → Type 0) → RequestHead → List ℕ → List ℕ
    → HeardRequests → Type 0
RequestAndRest true later head body bytes heard = heard ≡ and_then head body (nothing_heard bytes)
RequestAndRest false later head body bytes heard =
    (tail : HeardRequests) × later bytes tail × (heard ≡ and_then head body tail)

-- the same of a media PUT, whose body may not be whole
abbrev pub MediaGoesOn
    : Bool → Bool → (List ℕ → HeardRequests → Type 0) → RequestHead → ℕ → List ℕ → List ℕ
    → HeardRequests → Type 0
MediaGoesOn true ends later head size all bytes heard = heard ≡ nothing_heard all
MediaGoesOn false ends later head size all bytes heard =
    RequestAndRest ends later head (take size bytes) (drop size bytes) heard

-- what is heard, by what stands at the front
abbrev pub HeardFrom
    : ℕ → (List ℕ → HeardRequests → Type 0) → List ℕ → Front Got → HeardRequests → Type 0
HeardFrom left later bytes more heard = heard ≡ nothing_heard bytes
HeardFrom left later bytes (refused fault) heard = heard ≡ stopped_by fault bytes
HeardFrom left later bytes (whole (given head body) n) heard =
    RequestAndRest (ends_with left head) later head body (drop n bytes) heard
HeardFrom left later bytes (whole (opened head size) n) heard =
    MediaGoesOn (nat_lt (length (drop n bytes)) size) (ends_with left head) later head size bytes
    (drop n bytes) heard

-- what is heard of bytes, where so many requests may come
unfoldable pub IsHeard : ℕ → List ℕ → HeardRequests → Type 0
IsHeard zero bytes heard = heard ≡ nothing_heard bytes
IsHeard (suc left) bytes heard =
    (next : Front Got) × IsNext bytes next × HeardFrom left (IsHeard left) bytes next heard

-- what a connection's bytes spell
abbrev pub IsHeardOf : List ℕ → HeardRequests → Type 0
IsHeardOf bytes heard = IsHeard max_requests bytes heard

-- ---- laws

-- a list of bytes spells one thing
abbrev pub IsOneHearing : Type 0
IsOneHearing =
    (left : ℕ) (bytes : List ℕ) (heard other : HeardRequests) → IsHeard left bytes heard
    → IsHeard left bytes other → heard ≡ other

-- what stands at the front stays, whatever bytes follow
abbrev pub StaysDecided : Type 0
StaysDecided =
    (bytes later : List ℕ) (got : Got) (n : ℕ) → IsNext bytes (whole got n) → n ≤ length bytes
    → IsNext (bytes ++ later) (whole got n)

-- and it stands there of its own bytes
abbrev pub StandsAlone : Type 0
StandsAlone =
    (bytes : List ℕ) (got : Got) (n : ℕ) → IsNext bytes (whole got n)
    → IsNext (take n bytes) (whole got n)

-- a refusal stays too
abbrev pub StaysRefused : Type 0
StaysRefused =
    (left : ℕ) (bytes later : List ℕ) (fault : WireFault) → IsNext bytes (refused fault)
    → IsHeard (suc left) (bytes ++ later) (stopped_by fault (bytes ++ later))

-- behind a request that was given, the rest is heard as a list of its own
abbrev pub HearsOn : Type 0
HearsOn =
    (left : ℕ) (bytes later : List ℕ) (head : RequestHead) (body : List ℕ) (n : ℕ)
    (tail : HeardRequests)
    → IsNext bytes (whole (given head body) n) → n ≤ length bytes → ends_with left head ≡ false
    → IsHeard left (drop n bytes ++ later) tail
    → IsHeard (suc left) (bytes ++ later) (and_then head body tail)

-- and so behind the body of a media PUT, which may come later
abbrev pub HearsOnMedia : Type 0
HearsOnMedia =
    (left : ℕ) (bytes later : List ℕ) (head : RequestHead) (size n : ℕ) (tail : HeardRequests)
    → IsNext bytes (whole (opened head size) n) → n ≤ length bytes → ends_with left head ≡ false
    → size ≤ length (drop n bytes ++ later) → IsHeard left (drop size (drop n bytes ++ later)) tail
    → IsHeard (suc left) (bytes ++ later) (and_then head (take size (drop n bytes ++ later)) tail)

-- the last request ends the connection, and what follows is unread
abbrev pub EndsLast : Type 0
EndsLast =
    (left : ℕ) (bytes later : List ℕ) (head : RequestHead) (body : List ℕ) (n : ℕ)
    → IsNext bytes (whole (given head body) n) → n ≤ length bytes → ends_with left head ≡ true
    → IsHeard (suc left) (bytes ++ later)
    (and_then head body (nothing_heard (drop n bytes ++ later)))

-- and so where it is a media PUT, once its body is whole
abbrev pub EndsLastMedia : Type 0
EndsLastMedia =
    (left : ℕ) (bytes later : List ℕ) (head : RequestHead) (size n : ℕ)
    → IsNext bytes (whole (opened head size) n) → n ≤ length bytes → ends_with left head ≡ true
    → size ≤ length (drop n bytes ++ later)
    → IsHeard (suc left) (bytes ++ later)
    (and_then head (take size (drop n bytes ++ later))
    (nothing_heard (drop size (drop n bytes ++ later))))
