-- The requests of a connection as a run takes them: whole, cut, or refused by the wire (RFC 9112,
-- sections 2, 6 and 9; RFC 9110, section 10.1.1).
use Rattle.std.specs.Prelude.{◌≡◌, ◌<◌, ◌+◌, ◌==◌, ◌||◌, ℕ, suc, Bool, true, false, List, [], length, drop, Option, Some, None, if◌then◌else◌}
use Rattle.httparse.specs.Grammar.{RequestHead}
use Rattle.http_wire.specs.Feeds.{IsInterimDue, max_requests}
use Rattle.http_wire.specs.Framing.{ends_connection, method_kind, wants_interim}
use Rattle.http_wire.specs.Heads.{more, refused, whole}
use Rattle.http_wire.specs.Requests.{IsNext, given, opened}
use Rattle.http_wire.specs.Response.{response_head}
use Rattle.http_wire.specs.Steps.{wire_refusal}
use Rattle.http_wire.specs.declared.framing.WireFault.{WireFault}
use Rattle.http_wire.specs.declared.head.MethodKind.{MethodKind}
use Rattle.http_wire.specs.declared.head.MethodKind.TheVariants as kinds
use Rattle.media_rows.specs.declared.reply.Reply.TheVariants as replies
use Rattle.run_history.specs.Machine.{Cutting, WireRefusal}
use Rattle.tams_http.specs.Answered.{Context, response_to}

-- A request: its head and its body, and whether the connection ends behind its answer. Of a media
-- PUT that isn't whole yet, the body is what was heard of it.
pub record TamsRequest : Type 0 where
  pub head : RequestHead
  pub body : List ℕ
  pub ends : Bool

-- ---- whole requests

-- These bytes are a whole request: a media PUT, whose body stands behind its head, or another one.
pub data IsWholeRequest (text : List ℕ) (head : RequestHead) (body : List ℕ) : Type 0 where
  media : (n : ℕ) → IsNext text (whole (opened head (length body)) n)
      → length text ≡ n + length body → body ≡ drop n text → IsWholeRequest text head body
  other : IsNext text (whole (given head body) (length text)) → IsWholeRequest text head body

-- a connection ends behind a request that ends it, and behind the last that it may have
abbrev pub ends_behind : ℕ → RequestHead → Bool
ends_behind n head = ends_connection head || (suc n == max_requests)

-- Behind n requests of a connection these bytes are this request's, whole.
pub record SpellsRequest (n : ℕ) (text : List ℕ) (r : TamsRequest) : Type 0 where
  pub is_whole : IsWholeRequest text r.head r.body
  pub ends_is : r.ends ≡ ends_behind n r.head

-- Behind n requests these are the head of a media PUT and a part of its body.
pub record Heads (n : ℕ) (text : List ℕ) (r : TamsRequest) : Type 0 where
  pub size : ℕ
  pub at : ℕ
  pub next : IsNext text (whole (opened r.head size) at)
  pub body_is : r.body ≡ drop at text
  pub part : length r.body < size
  pub ends_is : r.ends ≡ ends_behind n r.head

-- ---- interims

-- the interim response
abbrev pub interim_text : List ℕ
interim_text = response_head 100 []

-- what a request has before its answer
abbrev pub interim_of : RequestHead → Option (List ℕ)
interim_of head = if wants_interim head then Some interim_text else None

-- What was said before the answer to bytes whose head may be whole: the interim response exactly
-- where one is due.
abbrev pub HadInterim : List ℕ → Option (List ℕ) → Type 0
HadInterim text None = ¬ (IsInterimDue text)
HadInterim text (Some bytes) = IsInterimDue text × (bytes ≡ interim_text)

-- ---- requests that are cut

-- A request is cut that isn't whole: it had its interim, and took its moment where it is a media
-- PUT whose head is whole.
pub data IsCut (text : List ℕ) : Cutting → Type 0 where
  waiting : (interim : Option (List ℕ)) → IsNext text more → HadInterim text interim
      → IsCut text (record { interim = interim; takes_moment = false })
  within : (head : RequestHead) (size n : ℕ) → IsNext text (whole (opened head size) n)
      → length text < n + size
      → IsCut text (record { interim = interim_of head; takes_moment = true })

-- ---- requests that the wire refuses

-- the answer to a fault of the wire, with its body whatever the method is; it ends the connection
abbrev pub wire_response : List ℕ → WireFault → List ℕ
wire_response base fault = response_to
    (record { store = 0; base = base; target = []; ends = true; head_only = false })
    (replies.Refused (wire_refusal fault))

-- The wire refuses what stands in front of these bytes.
pub record IsRefused (base text : List ℕ) (refusal : WireRefusal) : Type 0 where
  pub fault : WireFault
  pub next : IsNext text (refused fault)
  pub interim : HadInterim text refusal.interim
  pub response_is : refusal.response ≡ wire_response base fault

-- whether the answer stands without its body
abbrev pub is_head_only : MethodKind → Bool
is_head_only kinds.Get = false
is_head_only kinds.Head = true
is_head_only kinds.Post = false
is_head_only kinds.Put = false
is_head_only kinds.Delete = false
is_head_only kinds.Other = false

-- a request as it is answered
abbrev pub context_of : ℕ → List ℕ → TamsRequest → Context
context_of store base r = record {
  store = store;
  base = base;
  target = r.head.target;
  ends = r.ends;
  head_only = is_head_only (method_kind r.head.method);
}
