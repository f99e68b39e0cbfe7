-- What is planned of a media PUT whose head came, before its first piece: the put, and the response
-- to each reply that it may have. It is the machine's answer, whatever the bytes will be.
use Rattle.std.specs.Prelude.{◌≡◌, ℕ, Bool, List, length, Option, Some, None, Ok, Err, IsTrue}
use Rattle.http_wire.specs.Framing.{is_media}
use Rattle.media_rows.specs.declared.refusal.Refusal.{Refusal}
use Rattle.media_rows.specs.declared.refusal.Refusal.TheVariants.{OtherBytes}
use Rattle.media_rows.specs.declared.reply.Reply.{Reply}
use Rattle.media_rows.specs.declared.reply.Reply.TheVariants.{Refused}
use Rattle.media_store.specs.Puts.{IsFreshPut, put_reply}
use Rattle.media_store.specs.Stores.{PutSeen}
use Rattle.store_states.specs.Kept.{StoreView, kept_state}
use Rattle.tams_http.specs.Answered.{response_to}
use Rattle.tams_http.specs.declared.ask.Ask.TheVariants.{PutMedia}
use Rattle.tams_machine.specs.Requests.{TamsRequest, context_of}
use Rattle.tams_machine.specs.Answers.{asked_in}
use Rattle.tams_answers.specs.declared.media.Responses.{Responses}

-- the head of a media PUT, by what it is answered
pub record MediaSent : Type 0 where
  pub target : List ℕ
  pub size : ℕ
  pub ends : Bool

-- the machine's request is a whole media PUT with this head
pub record IsMediaSent (sent : MediaSent) (r : TamsRequest) : Type 0 where
  pub media : IsTrue (is_media r.head.method r.head.target)
  pub target : r.head.target ≡ sent.target
  pub size : length r.body ≡ sent.size
  pub ends : r.ends ≡ sent.ends

-- the response to a reply, of those that were made: one for other bytes than those that are kept,
-- and one for what else a put may be answered
abbrev pub response_by : Responses → Reply → List ℕ
response_by responses (Refused OtherBytes) = responses.other
response_by responses reply = responses.reply

-- The request asks for nothing, and the response is that to its refusal.
pub record IsMediaRefused (base : List ℕ) (store : ℕ) (r : TamsRequest) (kept : StoreView)
    (response : List ℕ) : Type 0 where
  pub why : Refusal
  pub asked : (held : List (List ℕ)) → asked_in (kept_state kept held) r ≡ Err why
  pub response_is : response ≡ response_to (context_of store base r) (Refused why)

-- It asks for a put of an object's bytes, which was planned, and there is the response to each
-- reply that it may have, be the bytes the same as those that are kept or not.
pub record IsMediaPlanned (base : List ℕ) (store : ℕ) (r : TamsRequest) (moment : ℕ)
    (kept : StoreView) (put : PutSeen) (responses : Responses) : Type 0 where
  pub object : List ℕ
  pub asked : (held : List (List ℕ)) → asked_in (kept_state kept held) r ≡ Ok (PutMedia object)
  pub fresh : IsFreshPut kept object (length r.body) moment put
  pub response_is : (same : Bool)
      → response_by responses (put_reply (record put { same = same }) put.plan)
      ≡ response_to (context_of store base r) (put_reply (record put { same = same }) put.plan)

-- the plan of a media PUT, by its put where there is one
abbrev pub MediaAnswers : List ℕ → TamsRequest → ℕ → StoreView → Option PutSeen → Responses
    → Type 0
MediaAnswers base r moment kept None responses =
    IsMediaRefused base kept.library.id r kept responses.reply
MediaAnswers base r moment kept (Some put) responses =
    IsMediaPlanned base kept.library.id r moment kept put responses
