-- What is planned of a request over a store: its change with the record, the bytes of its response,
-- and where those of an object lie that follow it. It is the machine's answer.
use Rattle.std.specs.Prelude.{◌≡◌, ℕ, Bool, List, [], Option, Some, None, Result, Ok, IsFalse, unwrap_or, if◌then◌else◌}
use Rattle.http_wire.specs.Framing.{method_kind}
use Rattle.http_wire.specs.Response.{body_unless}
use Rattle.http_wire.specs.declared.head.MethodKind.{MethodKind}
use Rattle.media_rows.specs.declared.object.Extent.{Extent}
use Rattle.media_rows.specs.declared.object.ObjectRow.{ObjectRow}
use Rattle.media_rows.specs.declared.object.ObjectState.{ObjectState}
use Rattle.media_rows.specs.declared.object.ObjectState.TheVariants.{Allocated, Stored}
use Rattle.media_rows.specs.declared.refusal.Refusal.{Refusal}
use Rattle.media_rows.specs.declared.reply.Reply.{Reply}
use Rattle.media_rows.specs.declared.reply.Reply.TheVariants.{Media}
use Rattle.media_rows.specs.Digests.{digest_of}
use Rattle.media_rows.specs.Library.{Library}
use Rattle.media_rows.specs.Media.{Archive}
use Rattle.media_rows.specs.Objects.{bytes_of, object_of}
use Rattle.object_blobs.specs.Extents.{extent_bytes}
use Rattle.store_states.specs.States.{StoreState, held_in}
use Rattle.store_plans.specs.Plans.{IsPlanned}
use Rattle.media_store.specs.Changes.{stores}
use Rattle.media_store.specs.declared.probes.Probe.{Probe}
use Rattle.media_store.specs.Stores.{extent_of}
use Rattle.tams_http.specs.Answered.{response_to}
use Rattle.tams_http.specs.declared.ask.Ask.{Ask}
use Rattle.tams_http.specs.declared.ask.Ask.TheVariants.{GetMedia}
use Rattle.tams_machine.specs.Requests.{TamsRequest, context_of, is_head_only}
use Rattle.tams_machine.specs.Answers.{asked_in, journal_of_state, object_bytes, outcome_of}
use Rattle.tams_answers.specs.declared.answers.Answer.{Answer}
use Rattle.tams_answers.specs.declared.answers.Request.{Request}

-- the parts of a request by which it is answered
pub record SentRequest : Type 0 where
  pub method : MethodKind
  pub target : List ℕ
  pub body : List ℕ
  pub ends : Bool

-- the parts of a request that came whole
abbrev pub parts_of : Request → SentRequest
parts_of request = record {
  method = request.method;
  target = request.target.now;
  body = request.body.now;
  ends = request.ends;
}

-- the machine's request has these parts
pub record IsSent (sent : SentRequest) (r : TamsRequest) : Type 0 where
  pub method : method_kind r.head.method ≡ sent.method
  pub target : r.head.target ≡ sent.target
  pub body : r.body ≡ sent.body
  pub ends : r.ends ≡ sent.ends

-- where the bytes of an object lie that follow the response with this reply: those of a GET of a
-- stored object that is whole, and of no other request
abbrev pub media_by : Library → Bool → Result Ask Refusal → Reply → Option Extent
media_by library head_only (Ok (GetMedia object)) (Media size) =
    if head_only then None else extent_of (object_of object library.objects)
media_by library head_only asked reply = None

-- ---- probes

-- a probe tells what these bytes of an object in this state are, where it is stored
abbrev pub TellsBytes : List ℕ → ObjectState → Option Probe → Type 0
TellsBytes bytes Allocated probe = Unit {0}
TellsBytes bytes (Stored start size digest) probe =
    probe
    ≡ Some (record { kept = unwrap_or digest (digest_of bytes); found = digest_of bytes })

-- the same of an object that may be missing
abbrev pub TellsObject : List ℕ → Option ObjectRow → Option Probe → Type 0
TellsObject bytes None probe = Unit {0}
TellsObject bytes (Some row) probe = TellsBytes bytes row.state probe

-- where the bytes of a stored object are asked for, a probe tells what they are in an archive
abbrev pub ProbeTells : Archive → Result Ask Refusal → Option Probe → Type 0
ProbeTells archive (Ok (GetMedia object)) probe =
    TellsObject (bytes_of object archive.library.objects archive.held)
    (object_of object archive.library.objects) probe
ProbeTells archive asked probe = Unit {0}

-- the object whose bytes are asked for
abbrev pub media_asked : Result Ask Refusal → Option (List ℕ)
media_asked (Ok (GetMedia object)) = Some object
media_asked asked = None

-- ---- answers

-- The plan of a request's answer in a state, at a moment: the machine's outcome, which brings no
-- bytes of an object, with its response.
pub record AnswersRequest (base : List ℕ) (s : StoreState) (r : TamsRequest) (moment : ℕ)
    (answer : Answer) : Type 0 where
  pub planned : IsPlanned (journal_of_state s) (outcome_of s r moment) answer.planned
  pub bare : IsFalse (stores (outcome_of s r moment).change)
  pub response : answer.response
      ≡ response_to (context_of s.archive.library.id base r) answer.planned.reply
  pub media : answer.media
      ≡ media_by s.archive.library (is_head_only (method_kind r.head.method)) (asked_in s r)
      answer.planned.reply

-- the bytes in an image that follow a response, where the media blocks begin here
abbrev pub following_bytes : ℕ → Option Extent → List ℕ → List ℕ
following_bytes area None image = []
following_bytes area (Some extent) image = extent_bytes area extent image

-- Those of an image with the bytes of the state's objects are what the machine's answer has behind
-- its response.
abbrev pub MediaFollows : Type 0
MediaFollows = (base : List ℕ) (s : StoreState) (r : TamsRequest) (moment : ℕ) (answer : Answer)
    (area : ℕ) (image : List ℕ) → AnswersRequest base s r moment answer
    → held_in image area s.archive.library.objects ≡ s.archive.held
    → body_unless (is_head_only (method_kind r.head.method))
    (object_bytes s.archive (asked_in s r) answer.planned.reply)
    ≡ following_bytes area answer.media image
