-- What the calls lead to by which a request is answered by the machine of the media store, from a
-- connection on which it has begun.
use Rattle.std.specs.Prelude.{◌≡◌, ◌⊎◌, ◌<◌, ◌+◌, ℕ, Bool, true, false, List, [], ◌∷◌, ◌++◌, length, Option, Some, None, IfSome, option_to_list, if◌then◌else◌}
use Rattle.std.specs.Prelude as list
use Rattle.disk_trait.specs.Device.{Device}
use Rattle.httparse.specs.Grammar.{RequestHead}
use Rattle.http_wire.specs.Feeds.{Fed}
use Rattle.http_wire.specs.Framing.{wants_interim}
use Rattle.http_wire.specs.declared.framing.WireFault.{WireFault}
use Rattle.library_laws.specs.MediaLaws.{IsGoodArchive}
use Rattle.media_rows.specs.declared.object.Digest.{Digest}
use Rattle.media_rows.specs.declared.reply.Reply.{Reply}
use Rattle.media_rows.specs.Digests.{digest_of}
use Rattle.media_store.specs.Stores.{PutSeen, StoreSeen}
use Rattle.media_store.specs.declared.turns.TurnMade.{TurnMade}
use Rattle.media_store.specs.declared.turns.TurnMade.TheVariants.{Deleted, NoRoom, Nothing, Swept}
use Rattle.store_states.specs.States.{StoreState}
use Rattle.run_history.specs.Runs.{Beginning, HasHanded}
use Rattle.run_history.specs.Serving.{RunCounts}
use Rattle.run_history.specs.Laws.{under_way}
use Rattle.run_history.specs.Sessions.{Session, Whole, most_answers}
use Rattle.run_history.specs.Steps.{Step, last_or}
use Rattle.run_history.specs.Reaching.{Reached}
use Rattle.connection_loop.specs.declared.ending.ConnectionEnd.{ConnectionEnd}
use Rattle.connection_loop.specs.declared.ending.ConnectionEnd.TheVariants.{Complete, Starved, Stopped, Unlinked}
use Rattle.connection_loop.specs.Turns.{EndsAs, TurnLeads, held_with}
use Rattle.tams_machine.specs.Answers.{answer_handed, answer_in}
use Rattle.tams_machine.specs.Machine.{tams_machine}
use Rattle.tams_machine.specs.Requests.{Heads, SpellsRequest, TamsRequest}
use Rattle.request_hearing.specs.Asking.{Asking, Open, asked_trace, with_states}
use Rattle.request_hearing.specs.Hearing.{GivesRequest, OpensMedia, IsRefusedByWire}
use Rattle.request_hearing.specs.Laws.{media_request}
use Rattle.http_wire.specs.declared.stage.Head.{Head}
use Rattle.media_store.specs.Changes.{kept_by}
use Rattle.media_store.specs.Puts.{EndsPut, IsPutOf, body_handed, kept_after_put, plan_of, writes_by}
use Rattle.store_plans.specs.declared.puts.PutPlan.{PutPlan}
use Rattle.store_plans.specs.declared.outcome.Planned.{Planned}
use Rattle.store_states.specs.Kept.{StoreView}
use Rattle.tams_answers.specs.Answers.{AnswersRequest}
use Rattle.tams_answers.specs.Media.{MediaAnswers, response_by}
use Rattle.tams_answers.specs.declared.media.Responses.{Responses}
use Rattle.tams_service.specs.Taking.{HashedIf, HoldsIf}
use Rattle.tams_answers.specs.declared.answers.Answer.{Answer}
use Rattle.tams_service.specs.Serving.{ServiceSeen}
use Rattle.tams_service.specs.declared.saying.AnswerTold.{AnswerTold}
use Rattle.tams_service.specs.declared.saying.AnswerTold.TheVariants.{All, Failed}
use Rattle.tams_service.specs.declared.saying.AnswerTold.TheVariants as told
use Rattle.tams_service.specs.Keeping.{KeepsState}

-- the disk is honest, and the site shows its bytes and tells its links
pub record TellsAllOf (d : Device) : Type 0 where
  pub honest : d.honest ≡ true
  pub shows : d.shows ≡ true
  pub tells : d.tells ≡ true

-- Where a run stands within a connection: where it began, the moments that were given, the
-- connections before this one, its steps and the number of its requests, the state behind them, and
-- whether the request that has begun had its interim response.
pub record RunPlace : Type 0 where
  pub base : List ℕ
  pub beginning : Beginning StoreState
  pub given : List ℕ
  pub finished : List (Session TamsRequest)
  pub steps : List (Step TamsRequest)
  pub taken : ℕ
  pub state : StoreState
  pub said : Bool

-- By now the device was handed what the steps so far come to, and so many bytes for the request
-- that has begun.
pub record HandedAt (p : RunPlace) (d : Device) (more : ℕ) : Type 0 where
  pub before : ℕ
  pub so_far : HasHanded (tams_machine p.base) p.beginning
      (p.finished ++ under_way p.steps Whole ∷ []) before
  pub now : d.handed ≡ before + more

-- A request has begun there, these bytes are unread, and the run counts so much. So many bytes were
-- handed to the device for it.
pub record AsksWith (p : RunPlace) (d : Device) (unread : List ℕ) (n : RunCounts)
    (more : ℕ) : Type 0
  where
    pub asking : Asking (tams_machine p.base) p.beginning d p.given
        (held_with p.state unread p.taken) p.said p.finished p.steps n
    pub handed : HandedAt p d more

-- the same, and none was
abbrev pub AsksAt : RunPlace → Device → List ℕ → RunCounts → Type 0
AsksAt p d unread n = AsksWith p d unread n 0

-- The same, and these changes of the request were made before its reply. The record of the last one
-- may have been being written when the disk failed, where `writing` is true.
pub record ChangedAt (p : RunPlace) (d : Device) (unread : List ℕ) (n : RunCounts)
    (states : List StoreState) (writing : Bool) : Type 0 where
  pub begun : Open (tams_machine p.base) p.beginning d p.given
      (held_with p.state unread p.taken) p.said p.finished p.steps n
  pub reached : Reached (tams_machine p.base) p.beginning
      (with_states states (asked_trace (tams_machine p.base) p.beginning p.said p.finished p.steps))
      true writing d
  pub good : list.All (λ s. IsGoodArchive s.archive) states

-- ---- requests and replies

-- the request came whole with this text: whether it had its interim response, and whether its
-- connection ends behind it
pub record IsRequest (p : RunPlace) (text : List ℕ) (ends : Bool) (r : TamsRequest) : Type 0 where
  pub spells : SpellsRequest p.taken text r
  pub interim : p.said ≡ wants_interim r.head
  pub ends_is : r.ends ≡ ends

-- a request came, or the head of a media PUT with a part of its body
pub record RequestCame (p : RunPlace) (text : List ℕ) (r : TamsRequest) : Type 0 where
  pub taken : SpellsRequest p.taken text r ⊎ Heads p.taken text r
  pub interim : p.said ≡ wants_interim r.head

-- the machine's answer to a request at a moment: its bytes, and the state after its change, if it
-- has one
pub record IsMachineReply (p : RunPlace) (r : TamsRequest) (moment : ℕ) (bytes : List ℕ)
    (states : List StoreState) : Type 0 where
  pub bytes_are : (answer_in p.base r moment p.state).bytes ≡ bytes
  pub states_are : option_to_list (answer_in p.base r moment p.state).change ≡ states

-- ---- what calls lead to

-- The connection goes on behind a request at a moment, or has ended, and what the store keeps then
-- is the state to which it led.
abbrev pub LeadsTo : RunPlace → Device → StoreSeen → ℕ → List ℕ → RunCounts
    → Option ConnectionEnd → Type 0
LeadsTo p d store moment rest n result =
    TurnLeads (tams_machine p.base) p.beginning d (p.given ++ moment ∷ []) rest (p.taken + 1)
    (KeepsState store d) p.finished n result

-- the connection has ended, behind these moments
abbrev pub EndsThere : RunPlace → Device → StoreSeen → List ℕ → RunCounts → ConnectionEnd → Type 0
EndsThere p d store moments n ending =
    EndsAs (tams_machine p.base) p.beginning d (p.given ++ moments) (KeepsState store d) p.finished
    n ending

-- how a reply that was said, or failed to be said, ends its connection, if it does
abbrev pub ending_behind : AnswerTold → Bool → Option ConnectionEnd
ending_behind All ends = if ends then Some Complete else None
ending_behind told.Unlinked ends = Some Unlinked
ending_behind Failed ends = Some Unlinked

-- how many changes a turn made
abbrev pub changes_by : TurnMade → ℕ
changes_by Deleted = 1
changes_by Swept = 1
changes_by Nothing = 0
changes_by NoRoom = 0

-- how many a plan writes
abbrev pub changes_in : Option (List ℕ) → ℕ
changes_in None = 0
changes_in (Some payload) = 1

-- From a request whose changes were made and handed on, and whose reply has these bytes.
abbrev pub FinishLeads : Device → Device → StoreSeen → StoreSeen → RunCounts → RunCounts → List ℕ
    → ℕ
    → ℕ → Bool → Option ConnectionEnd → Type 0
FinishLeads old new store next n now bytes changes moment ends result =
    (p : RunPlace) (text rest : List ℕ) (r : TamsRequest) (states : List StoreState)
    → ChangedAt p old (text ++ rest) n states false
    → KeepsState store old (last_or p.state states)
    → IsRequest p text ends r → IsMachineReply p r moment bytes states
    → HandedAt p old (answer_handed r moment p.state) → length states ≡ changes
    → p.taken < most_answers → LeadsTo p new next moment rest now result

-- what a plan makes of a store has the id of the store
abbrev pub PlanKeepsId : StoreView → Planned → Type 0
PlanKeepsId kept planned = (kept_by kept planned).library.id ≡ kept.library.id

-- From a request of which the answer was planned.
abbrev pub GiveLeads : Device → Device → StoreSeen → StoreSeen → RunCounts → RunCounts → Answer → ℕ
    → Bool
    → Option ConnectionEnd → Type 0
GiveLeads old new store next n now answer moment ends result =
    (p : RunPlace) (text rest : List ℕ) (r : TamsRequest) → AsksAt p old (text ++ rest) n
    → KeepsState store old p.state → IsRequest p text ends r
    → AnswersRequest p.base p.state r moment answer → p.taken < most_answers
    → LeadsTo p new next moment rest now result

-- all of a put's bytes were handed to it
pub record IsWholePut (kept : StoreView) (put : PutSeen) : Type 0 where
  pub of_store : IsPutOf kept put
  pub filled : put.handed ≡ put.size

-- how many changes the end of a put writes
abbrev pub written_by : PutPlan → ℕ
written_by plan = if writes_by plan then 1 else 0

-- the same, where there is a put
abbrev pub written_if : Option PutSeen → ℕ
written_if None = 0
written_if (Some put) = written_by put.plan

-- the response to a put, by its reply; where there was no put, that to its refusal
abbrev pub response_if : Responses → Option Reply → List ℕ
response_if responses None = responses.reply
response_if responses (Some reply) = response_by responses reply

-- what the end of a put makes of a store, where there is a put, with this digest of its bytes
abbrev pub EndsPutIf : Bool → Option PutSeen → Digest → StoreView → List (List ℕ) → Device → Device
    → Type 0
EndsPutIf ok None digest kept held old new = Unit {0}
EndsPutIf ok (Some put) digest kept held old new =
    EndsPut ok put put.plan digest kept held old new

-- what is kept behind a put has the store's id, whatever bytes came
abbrev pub EndKeepsId : StoreView → PutSeen → Type 0
EndKeepsId kept put =
    (came : List ℕ)
    → (kept_after_put kept put.plan (digest_of came)).library.id ≡ kept.library.id

-- What is known of a put whose bytes were all handed to it: it was planned of the store with the
-- responses to what it may reply, and has the bytes of the request and their digest.
pub record IsPutting (p : RunPlace) (r : TamsRequest) (moment : ℕ) (kept : StoreView)
    (put : Option PutSeen) (responses : Responses) (seen : List ℕ) : Type 0 where
  pub begun : Option PutSeen
  pub answers : MediaAnswers p.base r moment kept begun responses
  pub plan : plan_of put ≡ plan_of begun
  pub size : IfSome put (λ q. q.size ≡ length r.body)
  pub holds : HoldsIf kept put r.body seen
  pub hashed : HashedIf put r.body

-- From a media PUT whose bytes are all there, and were handed on.
abbrev pub PutLeads : Device → Device → StoreSeen → StoreSeen → RunCounts → RunCounts
    → Option PutSeen
    → Responses → ℕ → Bool → Option ConnectionEnd → Type 0
PutLeads old new store next n now put responses moment ends result =
    (p : RunPlace) (text rest : List ℕ) (r : TamsRequest)
    → AsksWith p old (text ++ rest) n (body_handed (plan_of put) r.body)
    → KeepsState store old p.state → IsRequest p text ends r
    → IsPutting p r moment store.kept put responses old.seen → p.taken < most_answers
    → LeadsTo p new next moment rest now result

-- From a request that came whole.
abbrev pub WholeLeads : ServiceSeen → ServiceSeen → Head → Device → Device → List ℕ → List ℕ
    → RunCounts → RunCounts → Option ConnectionEnd → Type 0
WholeLeads s next head old new begun given n now result =
    (p : RunPlace) (all : List ℕ) → p.base ≡ s.base → p.given ≡ begun → AsksAt p old all n
    → KeepsState s.store old p.state → GivesRequest p.taken all p.said s.fed head
    → p.taken < most_answers
    → TurnLeads (tams_machine p.base) p.beginning new given next.fed.unread (p.taken + 1)
    (KeepsState next.store new) p.finished now result

-- From a media PUT whose head came.
abbrev pub MediaLeads : ServiceSeen → ServiceSeen → Head → Device → Device → List ℕ → List ℕ
    → RunCounts → RunCounts → Option ConnectionEnd → Type 0
MediaLeads s next head old new begun given n now result =
    (p : RunPlace) (all : List ℕ) → p.base ≡ s.base → p.given ≡ begun → AsksAt p old all n
    → KeepsState s.store old p.state → OpensMedia p.taken all p.said s.fed head
    → p.taken < most_answers
    → TurnLeads (tams_machine p.base) p.beginning new given next.fed.unread (p.taken + 1)
    (KeepsState next.store new) p.finished now result

-- A put and its responses are what the machine answers to a media PUT with this head, whatever the
-- bytes will be.
abbrev pub AnswersEach : RunPlace → RequestHead → Head → ℕ → StoreView → Option PutSeen → Responses
    → Type 0
AnswersEach p head shown moment kept put responses =
    (body : List ℕ) → length body ≡ shown.length
    → MediaAnswers p.base (media_request head shown.ends body) moment kept put responses

-- From a media PUT that was planned by its head.
abbrev pub TakeLeads : StoreSeen → StoreSeen → Fed → Fed → Head → Option PutSeen → Responses
    → Device → Device → ℕ → RunCounts → RunCounts → Option ConnectionEnd → Type 0
TakeLeads store next fed later shown put responses old new moment n now result =
    (p : RunPlace) (all : List ℕ) → AsksAt p old all n → KeepsState store old p.state
    → (o : OpensMedia p.taken all p.said fed shown)
    → AnswersEach p o.head shown moment store.kept put responses → p.taken < most_answers
    → LeadsTo p new next moment later.unread now result

-- From a request for which there was no memory.
abbrev pub StarveLeads : Device → Device → RunCounts → RunCounts → Type 0
StarveLeads old new n now =
    (p : RunPlace) (text rest : List ℕ) (r : TamsRequest) (moment : ℕ) (store : StoreSeen)
    → AsksAt p old (text ++ rest) n → KeepsState store old p.state → RequestCame p text r
    → EndsThere p new store (moment ∷ []) now Starved

-- where the disk failed in a request, by the change whose record was being written, if there is one
abbrev pub FailedIn : RunPlace → List ℕ → TamsRequest → ℕ → List StoreState → Type 0
FailedIn p text r moment [] = SpellsRequest p.taken text r ⊎ Heads p.taken text r
FailedIn p text r moment (next ∷ states) =
    SpellsRequest p.taken text r × (states ≡ []) × ((answer_in p.base r moment p.state).change
    ≡ Some next)

-- whether there is one
abbrev pub is_writing : List StoreState → Bool
is_writing [] = false
is_writing (next ∷ states) = true

-- From a request in which the disk failed before its answer.
abbrev pub StopLeads : Device → Device → RunCounts → RunCounts → ℕ → Type 0
StopLeads old new n now changes =
    (p : RunPlace) (text rest : List ℕ) (r : TamsRequest) (moment : ℕ) (store : StoreSeen)
    (states : List StoreState) → ChangedAt p old (text ++ rest) n states (is_writing states)
    → FailedIn p text r moment states → p.said ≡ wants_interim r.head → length states ≡ changes
    → EndsThere p new store (moment ∷ []) now Stopped

-- From bytes that the wire refuses.
abbrev pub RefuseLeads : List ℕ → Device → Device → StoreSeen → RunCounts → RunCounts
    → WireFault → ConnectionEnd → Type 0
RefuseLeads base old new store n now fault ending =
    (p : RunPlace) (fed : Fed) (all : List ℕ) → p.base ≡ base → AsksAt p old all n
    → KeepsState store old p.state → IsRefusedByWire all p.said fed fault
    → EndsThere p new store [] now ending
