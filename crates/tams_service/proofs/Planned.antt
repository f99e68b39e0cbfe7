-- A media PUT that was planned by its head: its put before any byte, and behind all of them.
use Rattle.std.proofs.Common.{◌≡◌, ◌-◌, ℕ, Bool, true, false, List, length, replicate, Option, None, Some, refl, sym, ap, ◌∙◌, subst, arith}
use Rattle.std.specs.Prelude.{IfSome, IsNone, IsSome}
use Rattle.std.proofs.lemmas.Bool.{false≢true}
use Rattle.std.proofs.lemmas.List.{length-replicate}
use Rattle.disk_trait.specs.Device.{Device}
use Rattle.http_wire.specs.Agreeing.{MayTurn}
use Rattle.http_wire.specs.Feeds.{Fed, less_by}
use Rattle.http_wire.specs.declared.stage.Head.{Head}
use Rattle.http_wire.specs.declared.stage.FeedStage.TheVariants as stages
use Rattle.media_store.specs.Puts.{may_be_same}
use Rattle.media_store.specs.Stores.{PutSeen}
use Rattle.media_store.proofs.PutFacts.{fresh_extent}
use Rattle.store_states.specs.Kept.{StoreView}
use Rattle.connection_loop.specs.declared.ending.ConnectionEnd.{ConnectionEnd}
use Rattle.tams_machine.specs.Requests.{TamsRequest}
use Rattle.request_hearing.specs.Hearing.{OpensMedia}
use Rattle.request_hearing.specs.Laws.{media_request}
use Rattle.request_hearing.proofs.Theorems.{may_media}
use Rattle.tams_answers.specs.Media.{IsMediaSent, MediaAnswers}
use Rattle.tams_answers.specs.declared.media.Responses.{Responses}
use Rattle.tams_service.specs.Answering.{EndKeepsId, IsWholePut}
use Rattle.tams_service.specs.Taking.{IsFilled, IsPutBegun, TakesBody}
use Rattle.tams_service.specs.declared.body.BodyTaken.TheVariants as taken
use Rattle.tams_service.proofs.Bodies.{media_sent}
use Rattle.tams_service.proofs.Ids.{keeps_id}

-- ---- a put that has begun

module _ {so_far : ℕ} {all : List ℕ} {said : Bool} {fed : Fed} {shown : Head} (o : OpensMedia so_far all said fed shown) (base target : List ℕ) (moment : ℕ)
    (kept : StoreView) (responses : Responses) (target_is : target ≡ o.head.target) where
  -- some bytes of its length
  abbrev blank : List ℕ
  blank = replicate shown.length 0

  blank_long : length blank ≡ shown.length
  blank_long = length-replicate shown.length 0

  -- the answers to all requests of the head
  abbrev pub AnswersAll : Option PutSeen → Type 0
  AnswersAll put =
      (r : TamsRequest) → IsMediaSent (record { target = target; size = shown.length; ends = shown.ends }) r
      → MediaAnswers base r moment kept put responses

  answers_blank : (put : Option PutSeen) → AnswersAll put → MediaAnswers base (media_request o.head shown.ends blank) moment kept put responses
  answers_blank put answers = answers (media_request o.head shown.ends blank) (media_sent o target blank target_is blank_long)

  -- none of its bytes was handed to it
  pub put_begun : (put : Option PutSeen) → AnswersAll put → IfSome put (IsPutBegun kept shown.length)
  put_begun None answers = tt
  put_begun (Some put) answers =
      let fresh = (answers_blank (Some put) answers).fresh in
      record {
        of_store = fresh.of_store;
        sized = fresh.sized ∙ blank_long;
        none = fresh.none;
        unhashed = fresh.unhashed;
        same = fresh.same ∙ ap (λ n. may_be_same n put.plan) blank_long;
      }

  -- its end keeps the id of the store
  pub begun_id : (put : Option PutSeen) → AnswersAll put → IfSome put (EndKeepsId kept)
  begun_id None answers = tt
  begun_id (Some put) answers =
      let is = answers_blank (Some put) answers in
      keeps_id kept is.object (length blank) moment put.plan (fresh_extent kept is.object (length blank) moment put is.fresh)

-- ---- behind all bytes

-- all were handed to it
pub put_whole : (kept now : StoreView) (size : ℕ) (put : Option PutSeen) → IfSome put (IsFilled kept size) → now ≡ kept → IfSome put (IsWholePut now)
put_whole kept now size None filled same = tt
put_whole kept now size (Some put) filled same = subst (λ k. IsWholePut k put) (sym same) (record { of_store = filled.of_store; filled = filled.filled })

-- The next request may be heard behind a put that doesn't end its connection.
pub may_go_on : (old new : Fed) (size : ℕ) (ends : Bool) (put : Option PutSeen) (before now : Device) (kept : StoreView) (result : Option ConnectionEnd)
    → old.stage ≡ stages.Media size → old.ended ≡ ends → TakesBody kept size old new put before now taken.Whole → (ends ≡ true → IsSome result)
    → IsNone result → MayTurn new
may_go_on old new size ends put before now kept None stage ended body closes none =
    let feed = body.takes.feed in
    may_media new
    (ap (λ (f : Fed). f.stage) feed ∙ ap (less_by (length body.part)) stage ∙ ap (λ n. stages.Media (size - n)) body.comes ∙ ap stages.Media (omega arith))
    (ap (λ (f : Fed). f.ended) feed ∙ ended ∙ not_ended ends closes)
  where
    not_ended : (b : Bool) → (b ≡ true → false ≡ true) → b ≡ false
    not_ended true last = absurd (false≢true (last refl))
    not_ended false last = refl
may_go_on old new size ends put before now kept (Some ending) stage ended body closes none = absurd (false≢true (sym none))
