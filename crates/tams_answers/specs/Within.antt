-- Words that the calls within this crate cite, and no other crate.
use Rattle.std.specs.Prelude.{◌≡◌, ℕ, Bool, true, false, List, [], Option, Some, None, Result, Ok, Err, IfSome, IsFalse, IsTrue, if◌then◌else◌}
use Rattle.json_bodies.specs.declared.fault.BodyFault.{BodyFault}
use Rattle.json_bodies.specs.declared.fault.BodyFault.TheVariants as bodies
use Rattle.json_replies.specs.Texts.{has_reply_texts}
use Rattle.media_rows.specs.declared.object.Extent.{Extent}
use Rattle.media_rows.specs.declared.refusal.Refusal.{Refusal}
use Rattle.media_rows.specs.declared.refusal.Refusal.TheVariants.{NoMethod, ObjectDamaged, UnknownObject}
use Rattle.media_rows.specs.declared.reply.Reply.{Reply}
use Rattle.media_rows.specs.declared.reply.Reply.TheVariants as replies
use Rattle.media_rows.specs.Answer.{digest_eq}
use Rattle.store_states.specs.Kept.{StoreView, kept_state}
use Rattle.store_plans.specs.declared.outcome.Planned.{Planned}
use Rattle.store_plans.specs.Plans.{MakesStep}
use Rattle.media_store.specs.Changes.{CanCommit, stores}
use Rattle.media_store.specs.Pieces.{IsExtent}
use Rattle.media_store.specs.Puts.{IsFreshPut, put_reply}
use Rattle.media_store.specs.declared.probes.Probe.{Probe}
use Rattle.media_store.specs.Stores.{PutSeen, archive_of, journal_of}
use Rattle.tams_http.specs.Answered.{Context, response_to}
use Rattle.tams_http.specs.declared.ask.Ask.{Ask}
use Rattle.tams_http.specs.declared.ask.Ask.TheVariants.{GetMedia, PutMedia, Run}
use Rattle.tams_machine.specs.Answers.{outcome_by}
use Rattle.tams_answers.specs.Answers.{ProbeTells, media_by}
use Rattle.tams_answers.specs.Media.{response_by}
use Rattle.tams_answers.specs.declared.media.Responses.{Responses}

-- ---- requests that came whole

-- The plan of what is asked for, or of its refusal, without a response. Where the bytes of an
-- object are asked for, the reply is the machine's by what a probe told of them, and whatever it
-- told nothing is written.
pub record PlansAsked (kept : StoreView) (moment : ℕ) (head_only : Bool)
    (asked : Result Ask Refusal) (probe : Option Probe) (planned : Planned)
    (media : Option Extent) : Type 0 where
  pub step : (held : List (List ℕ)) (body : List ℕ)
      → MakesStep (journal_of kept) (outcome_by (kept_state kept held) body moment asked).change
      planned
  pub reply : (held : List (List ℕ)) (body : List ℕ)
      → ProbeTells (archive_of kept held) asked probe
      → planned.reply ≡ (outcome_by (kept_state kept held) body moment asked).reply
  pub bare : (held : List (List ℕ)) (body : List ℕ)
      → IsFalse (stores (outcome_by (kept_state kept held) body moment asked).change)
  pub texts : IsTrue (has_reply_texts planned.reply)
  pub ready : CanCommit kept planned
  pub media_is : media ≡ media_by kept.library head_only asked planned.reply
  pub still : IfSome media (λ extent. IsExtent kept.library extent × (planned.frame ≡ None))

-- the reply where bytes of an object lie at this extent, if they lie somewhere, and a probe told
-- this of them
abbrev pub reply_at : Option Extent → Option Probe → Reply
reply_at None probe = replies.Refused UnknownObject
reply_at (Some extent) None = replies.Media extent.length
reply_at (Some extent) (Some probe) =
    if digest_eq probe.kept probe.found
    then replies.Media extent.length
    else replies.Refused (ObjectDamaged probe.kept probe.found)

-- where the bytes lie that follow a response with this reply
abbrev pub following_at : Bool → Reply → Option Extent → Option Extent
following_at head_only (replies.Media size) extent = if head_only then None else extent
following_at head_only reply extent = None

-- ---- media PUTs

-- the object that a put of its bytes is asked for; another method, where something else is
abbrev pub object_asked : Result Ask BodyFault → Result (List ℕ) BodyFault
object_asked (Ok (Run command)) = Err (bodies.Refused NoMethod)
object_asked (Ok (PutMedia object)) = Ok object
object_asked (Ok (GetMedia object)) = Err (bodies.Refused NoMethod)
object_asked (Err fault) = Err fault

-- the response to a PUT with this target, over a store whose addresses begin with this base
abbrev pub put_context : ℕ → List ℕ → List ℕ → Bool → Context
put_context store base target ends = record {
  store = store;
  base = base;
  target = target;
  ends = ends;
  head_only = false;
}

-- there is no put, and the response is that to a refusal
pub record IsRefusedPlan (context : Context) (why : Refusal) (put : Option PutSeen)
    (responses : Responses) : Type 0 where
  pub none : put ≡ None
  pub response_is : responses.reply ≡ response_to context (replies.Refused why)

-- the responses are those to what a put may be answered
abbrev pub HasResponses : Context → PutSeen → Responses → Type 0
HasResponses context put responses =
    (same : Bool)
    → response_by responses (put_reply (record put { same = same }) put.plan)
    ≡ response_to context (put_reply (record put { same = same }) put.plan)

-- a put of so many bytes as those of an object was planned, with its responses
pub record IsPlannedWith (context : Context) (kept : StoreView) (object : List ℕ) (size moment : ℕ)
    (put : Option PutSeen) (responses : Responses) : Type 0 where
  pub seen : PutSeen
  pub some : put ≡ Some seen
  pub fresh : IsFreshPut kept object size moment seen
  pub has : HasResponses context seen responses

-- ---- refusals of the wire

-- an answer that ends the connection, to a request of which nothing is known
abbrev pub ending_context : ℕ → List ℕ → Context
ending_context store base = record {
  store = store;
  base = base;
  target = [];
  ends = true;
  head_only = false;
}
