-- A media PUT whose head came: what hearing its body leads to.
use Rattle.std.proofs.Common.{◌≡◌, ◌≢◌, ◌<◌, ◌≤◌, ◌+◌, ◌⊎◌, ◌++◌, ℕ, Bool, true, false, List, [], ◌∷◌, length, Option, None, Some, inl, inr, refl, sym, ap, ◌∙◌, subst, append-nil, arith}
use Rattle.std.specs.Prelude.{IfSome}
use Rattle.std.proofs.lemmas.Bool.{cases_lt}
use Rattle.disk_trait.specs.Device.{Device}
use Rattle.http_wire.specs.Feeds.{Fed, left_of, span_bytes}
use Rattle.http_wire.specs.Heads.{whole}
use Rattle.http_wire.specs.Requests.{IsNext, opened}
use Rattle.http_wire.specs.declared.stage.Head.{Head}
use Rattle.http_wire.proofs.Alone.{opened_head}
use Rattle.httparse.specs.Grammar.{RequestHead}
use Rattle.media_store.specs.Stores.{PutSeen, StoreSeen}
use Rattle.store_states.specs.Kept.{AgreesWith, StoreView, kept_state}
use Rattle.store_writes.specs.Writes.{Keeps}
use Rattle.run_history.specs.Runs.{HasHanded}
use Rattle.run_history.specs.Serving.{RunCounts}
use Rattle.run_history.specs.Laws.{under_way}
use Rattle.run_history.specs.Sessions.{Hearing, IsUnfinished, Whole}
use Rattle.run_history.specs.Steps.{Cut}
use Rattle.run_history.specs.Reaching.{Reached}
use Rattle.connection_loop.specs.declared.ending.ConnectionEnd.{ConnectionEnd}
use Rattle.connection_loop.specs.declared.ending.ConnectionEnd.TheVariants as endings
use Rattle.connection_loop.specs.Turns.{SiteCalls, TurnLeads, held_with}
use Rattle.tams_machine.specs.Answers.{heard_body}
use Rattle.tams_machine.specs.Machine.{tams_machine}
use Rattle.tams_machine.specs.Requests.{Heads, SpellsRequest, TamsRequest}
use Rattle.request_hearing.specs.Asking.{Asking, WaitsFor, asked_trace}
use Rattle.std.specs.List.{AllByRecursion}
use Rattle.std.proofs.lemmas.List.{append_assoc}
use Rattle.run_history.proofs.Hearings.{each-weaker}
use Rattle.request_hearing.specs.Hearing.{HearPart, OpensMedia, interim_bytes, interim_where}
use Rattle.request_hearing.specs.Laws.{OpenedAs, media_request}
use Rattle.request_hearing.proofs.Asking.{asking_taken, reached_kept}
use Rattle.request_hearing.proofs.Theorems.{media_opened, text_on}
use Rattle.tams_answers.specs.Media.{IsMediaSent, MediaAnswers}
use Rattle.tams_answers.specs.declared.media.Responses.{Responses}
use Rattle.tams_service.specs.Answering.{AnswersEach, AsksAt, EndsThere, IsPutting, LeadsTo, MediaLeads, RunPlace, PutLeads, StarveLeads, StopLeads, TakeLeads, TellsAllOf}
use Rattle.tams_service.specs.Keeping.{KeepsState}
use Rattle.tams_service.specs.Serving.{ServiceSeen}
use Rattle.tams_service.specs.Sites.{SiteCounts}
use Rattle.tams_service.specs.Taking.{HandedMost, HearsWithin, HoldsIf, IsFilled, TakesBody, TakesOfBody}
use Rattle.media_store.specs.Puts.{body_handed, plan_of}
use Rattle.tams_service.specs.declared.body.BodyTaken.TheVariants as taken
use Rattle.tams_service.proofs.Giving.{nothing_changed}
use Rattle.tams_service.proofs.Handed.{handed_step, handed_then}
use Rattle.tams_service.proofs.Keeping.{keeps_so}
use Rattle.tams_service.proofs.Moments.{over_keeps}
use Rattle.tams_service.proofs.Stepping.{taken_ends}

-- ---- the calls that take it

-- no call failed
pub cut_calls : (old new : Device) → SiteCounts true true old new → SiteCalls (Some endings.Cut) old new
cut_calls old new calls = record {
  same = calls.same;
  faults = calls.faults;
  link_faults = calls.link_faults.stays refl;
  peer_faults = calls.peers.peer_faults;
  closed = calls.peers.closed;
  dials = calls.peers.dials;
  under_way = calls.under_way;
}

-- a call of the disk failed
pub stopped_calls : (old new : Device) → SiteCounts true false old new → SiteCalls (Some endings.Stopped) old new
stopped_calls old new calls = record {
  same = calls.same;
  faults = calls.faults;
  link_faults = calls.link_faults.never_falls;
  peer_faults = calls.peers.peer_faults;
  closed = calls.peers.closed;
  dials = calls.peers.dials;
  under_way = calls.under_way;
}

-- ---- a part of a body

module _ (p : RunPlace) (old mid : Device) (n : RunCounts) (all text part : List ℕ) (from to : Fed) (kept : StoreView) (tells : old.tells ≡ true)
    (asks : AsksAt p old all n) (text_is : all ≡ text ++ from.unread) (state : p.state ≡ kept_state kept p.state.archive.held)
    (keeps : Keeps kept p.state.archive.held old mid) where
  -- the run has come as far
  reached_there : Reached (tams_machine p.base) p.beginning (asked_trace (tams_machine p.base) p.beginning p.said p.finished p.steps) true false mid
  reached_there = reached_kept asks.asking (over_keeps p.base state keeps)

  -- what each hearing of it waited for
  abbrev pub WaitingIn : List HearPart → Type 0
  WaitingIn = AllByRecursion (λ q. WaitsFor (tams_machine p.base) p.taken (all ++ q.heard) (interim_bytes p.said ++ q.told))

  -- It was heard, and no call of the link failed.
  pub part_asks : (takes : TakesOfBody part false false from to old mid) → WaitingIn takes.parts
      → Asking (tams_machine p.base) p.beginning mid p.given (held_with p.state ((text ++ part) ++ to.unread) p.taken) p.said p.finished p.steps n
  part_asks takes waits =
      subst (λ unread. Asking (tams_machine p.base) p.beginning mid p.given (held_with p.state unread p.taken) p.said p.finished p.steps n)
      (text_on all text from.unread takes.bytes part to.unread text_is takes.text_is)
      (asking_taken asks.asking takes.parts takes.bytes (takes.connections tells) takes.parts_are waits reached_there)

  -- No more was handed on of it than was heard.
  cut_handed : (moment : ℕ) → heard_body (text ++ part) ≡ length part → HandedMost (length part) old mid
      → HasHanded (tams_machine p.base) p.beginning
      (p.finished ++ under_way (p.steps ++ Cut (text ++ part) (interim_where p.said) (Some moment) ∷ []) Whole ∷ []) mid.handed
  cut_handed moment heard most =
      handed_step p (Cut (text ++ part) (interim_where p.said) (Some moment)) old 0 mid.handed asks.handed asks.asking.begun.so_far.state_is
      (omega (arith, most.never_falls)) (omega (arith, most.few, heard))

  module _ (none : to.unread ≡ []) (some : text ++ part ≢ []) (moment : ℕ)
      (cuts : (tams_machine p.base).cuts (text ++ part) (record { interim = interim_where p.said; takes_moment = true }))
      (unfinished : IsUnfinished (tams_machine p.base) p.taken (text ++ part)) (last : StoreSeen) (kept_so : KeepsState last mid p.state)
      (heard : heard_body (text ++ part) ≡ length part) (most : HandedMost (length part) old mid) where
    all_heard : (bytes : List ℕ) → from.unread ++ bytes ≡ part ++ to.unread → all ++ bytes ≡ text ++ part
    all_heard bytes is =
        text_on all text from.unread bytes part to.unread text_is is ∙ ap (λ l. (text ++ part) ++ l) none ∙ append-nil (text ++ part)

    -- The peer's bytes ended behind it.
    pub ended_cut : (takes : TakesOfBody part true false from to old mid) → WaitingIn takes.parts → EndsThere p mid last (moment ∷ []) n endings.Cut
    ended_cut takes waits =
        taken_ends (KeepsState last mid) kept_so takes.parts takes.bytes p.said true Whole (text ++ part) (Some moment) asks.asking (takes.connections tells)
        takes.parts_are waits reached_there
        (λ same. cc) (λ _. refl) (all_heard takes.bytes takes.text_is) some cuts unfinished (cut_handed moment heard most)

    -- A hearing failed behind it.
    pub unheard_cut : (takes : TakesOfBody part false true from to old mid) → WaitingIn takes.parts → EndsThere p mid last (moment ∷ []) n endings.Unlinked
    unheard_cut takes waits =
        taken_ends (KeepsState last mid) kept_so takes.parts takes.bytes p.said false Hearing (text ++ part) (Some moment) asks.asking
        (takes.connections tells) takes.parts_are waits reached_there
        (λ same. cc) (λ same. absurd cc) (all_heard takes.bytes takes.text_is) some cuts unfinished (cut_handed moment heard most)

-- ---- the request

some_text : (text part : List ℕ) (head : RequestHead) (size n : ℕ) → IsNext text (whole (opened head size) n) → text ++ part ≢ []
some_text [] part head size n next = absurd ((opened_head [] head size n next).stands)
some_text (x ∷ text) part head size n next = λ none. cc

-- a media PUT by its head and all of its body
pub media_sent : {so_far : ℕ} {all : List ℕ} {said : Bool} {fed : Fed} {shown : Head} (o : OpensMedia so_far all said fed shown) (target part : List ℕ)
    → target ≡ o.head.target → length part ≡ shown.length
    → IsMediaSent (record { target = target; size = shown.length; ends = shown.ends }) (media_request o.head shown.ends part)
media_sent {so_far} {all} {said} {fed} {shown} o target part target_is size = record {
  media = (opened_head o.text o.head shown.length (length o.text) o.next).media_is;
  target = sym target_is;
  size = size;
  ends = refl;
}

-- ---- what it leads to

module _ (s : StoreSeen) (from : Fed) (shown : Head) (old : Device) (moment : ℕ) (n : RunCounts) (p : RunPlace) (all : List ℕ)
    (asks : AsksAt p old all n) (keeps : KeepsState s old p.state) (o : OpensMedia p.taken all p.said from shown) where
  abbrev request_with : List ℕ → TamsRequest
  request_with part = media_request o.head shown.ends part

  opened_with : (part : List ℕ) → OpenedAs p.taken p.said o.text o.head shown part
  opened_with part = media_opened p.taken all p.said from shown o part

  -- each hearing of it began before it was whole
  within_waits : (parts : List HearPart) → AllByRecursion (HearsWithin from) parts
      → AllByRecursion (λ q. WaitsFor (tams_machine p.base) p.taken (all ++ q.heard) (interim_bytes p.said ++ q.told)) parts
  within_waits parts within =
      let left : left_of from.stage ≡ shown.length = ap left_of o.behind.stage_is in
      each-weaker _ _ (λ q w.
      let there : all ++ q.heard ≡ o.text ++ (from.unread ++ q.heard) =
      ap (λ l. l ++ q.heard) o.text_is ∙ append_assoc o.text from.unread q.heard in
      let told : interim_bytes p.said ++ q.told ≡ interim_bytes p.said =
      ap (λ l. interim_bytes p.said ++ l) w.told ∙ append-nil (interim_bytes p.said) in
      rw (there, told) ((opened_with (from.unread ++ q.heard)).waits p.base (omega (arith, w.short, left)))) parts within

  -- It has come whole, or a part of it.
  is_begun : (part : List ℕ) → length part ≤ shown.length → SpellsRequest p.taken (o.text ++ part) (request_with part) ⊎ Heads p.taken (o.text ++ part)
      (request_with part)
  is_begun part few = elim (cases_lt (length part) shown.length) [
    | inl less ↦ inr ((opened_with part).begun less)
    | inr full ↦ inl ((opened_with part).whole (omega (arith, few, full)))
  ]

  -- There was no memory for it.
  starved_so : (new : Device) (now : RunCounts) → StarveLeads old new n now → EndsThere p new s (moment ∷ []) now endings.Starved
  starved_so new now starves =
      starves p (o.text ++ []) from.unread (request_with []) moment s
      (subst (λ unread. AsksAt p old unread n) (o.text_is ∙ ap (λ text. text ++ from.unread) (sym (append-nil o.text))) asks) keeps
      (record { taken = is_begun [] (omega arith); interim = o.interim })

  module _ (tells : TellsAllOf old) (mid : Device) (store : StoreSeen) (fed : Fed) (put : Option PutSeen) (kept_is : store.kept ≡ s.kept)
      (stays : (held : List (List ℕ)) → AgreesWith old s.kept held → Keeps s.kept held old mid) where
    kept_there : Keeps s.kept p.state.archive.held old mid
    kept_there = stays p.state.archive.held keeps.agrees

    keeps_there : store.spent ≡ false → KeepsState store mid p.state
    keeps_there unspent = keeps_so s store old mid p.state keeps kept_is unspent kept_there.agrees

    asks_there : (part : List ℕ) → TakesOfBody part false false from fed old mid
        → Asking (tams_machine p.base) p.beginning mid p.given (held_with p.state ((o.text ++ part) ++ fed.unread) p.taken) p.said p.finished p.steps n
    asks_there part takes = part_asks p old mid n all o.text part from fed s.kept tells.tells asks o.text_is keeps.state kept_there takes
        (within_waits takes.parts takes.waits)

    -- Its peer's bytes ended within it.
    ended_so : TakesBody s.kept shown.length from fed put old mid taken.Ended → store.spent ≡ false
        → EndsThere p mid store (moment ∷ []) n endings.Cut
    ended_so body unspent =
        let w = opened_with body.part in
        ended_cut p old mid n all o.text body.part from fed s.kept tells.tells asks o.text_is keeps.state kept_there body.comes.1
        (some_text o.text body.part o.head shown.length (length o.text) o.next) moment (w.cut body.comes.0) (w.unfinished p.base body.comes.0) store
        (keeps_there unspent) w.heard (body.handed refl tells.tells) body.takes (within_waits body.takes.parts body.takes.waits)

    -- A hearing failed within it.
    unheard_so : TakesBody s.kept shown.length from fed put old mid taken.Unheard → store.spent ≡ false
        → EndsThere p mid store (moment ∷ []) n endings.Unlinked
    unheard_so body unspent =
        let w = opened_with body.part in
        unheard_cut p old mid n all o.text body.part from fed s.kept tells.tells asks o.text_is keeps.state kept_there body.comes.1
        (some_text o.text body.part o.head shown.length (length o.text) o.next) moment (w.cut body.comes.0) (w.unfinished p.base body.comes.0) store
        (keeps_there unspent) w.heard (body.handed refl tells.tells) body.takes (within_waits body.takes.parts body.takes.waits)

    -- The disk failed within it.
    failed_so : (new : Device) (now : RunCounts) → TakesBody s.kept shown.length from fed put old mid taken.Failed → StopLeads mid new n now 0
        → EndsThere p new store (moment ∷ []) now endings.Stopped
    failed_so new now body stops =
        let left : left_of from.stage ≡ shown.length = ap left_of o.behind.stage_is in
        stops p (o.text ++ body.part) fed.unread (request_with body.part) moment store []
        (nothing_changed p mid ((o.text ++ body.part) ++ fed.unread) n (asks_there body.part body.takes))
        (is_begun body.part (omega (arith, body.takes.few, left))) o.interim refl

    -- All of it came.
    module _ (body : TakesBody s.kept shown.length from fed put old mid taken.Whole) (unspent : store.spent ≡ false) (begun : Option PutSeen)
        (responses : Responses) (answers : AnswersEach p o.head shown moment s.kept begun responses)
        (plan : plan_of put ≡ plan_of begun) (filled : IfSome put (IsFilled s.kept shown.length)) where
      putting : IsPutting p (request_with body.part) moment store.kept put responses mid.seen
      putting = record {
        begun = begun;
        answers =
            subst (λ k. MediaAnswers p.base (request_with body.part) moment k begun responses) (sym kept_is) (answers body.part body.comes);
        plan = plan;
        size = sized put filled;
        holds =
            subst (λ k. HoldsIf k put body.part mid.seen) (sym kept_is)
            (body.holds refl tells.shows p.state.archive.held keeps.agrees);
        hashed = body.hashed refl;
      }
        where
          sized : (q : Option PutSeen) → IfSome q (IsFilled s.kept shown.length) → IfSome q (λ x. x.size ≡ length body.part)
          sized None is = tt
          sized (Some x) is = is.sized ∙ sym body.comes

      whole_so : (new : Device) (now : RunCounts) (next : StoreSeen) (result : Option ConnectionEnd)
          → PutLeads mid new store next n now put responses moment shown.ends result
          → p.taken < 1000000 → LeadsTo p new next moment fed.unread now result
      whole_so new now next result leads few =
          leads p (o.text ++ body.part) fed.unread (request_with body.part)
          (record {
            asking = asks_there body.part body.takes;
            handed = handed_then p old mid (body_handed (plan_of put) body.part) asks.handed (body.handed_whole refl tells.tells);
          })
          (keeps_there unspent)
          (record { spells = (opened_with body.part).whole body.comes; interim = o.interim; ends_is = refl }) putting few

-- ---- by what came of taking its body

module _ (old mid : Device) (s store : StoreSeen) (from fed : Fed) (shown : Head) (put begun : Option PutSeen) (responses : Responses) (moment : ℕ)
    (n : RunCounts)
    (tells : TellsAllOf old) (kept_is : store.kept ≡ s.kept)
    (stays : (held : List (List ℕ)) → AgreesWith old s.kept held → Keeps s.kept held old mid) where
  pub take_ended : TakesBody s.kept shown.length from fed put old mid taken.Ended → store.spent ≡ false
      → TakeLeads s store from fed shown begun responses old mid moment n n (Some endings.Cut)
  take_ended body unspent p all asks keeps o answers few =
      ended_so s from shown old moment n p all asks keeps o tells mid store fed put kept_is stays body unspent

  pub take_unheard : TakesBody s.kept shown.length from fed put old mid taken.Unheard → store.spent ≡ false
      → TakeLeads s store from fed shown begun responses old mid moment n n (Some endings.Unlinked)
  take_unheard body unspent p all asks keeps o answers few =
      unheard_so s from shown old moment n p all asks keeps o tells mid store fed put kept_is stays body unspent

  pub take_failed : (new : Device) (now : RunCounts) → TakesBody s.kept shown.length from fed put old mid taken.Failed → StopLeads mid new n now 0
      → TakeLeads s store from fed shown begun responses old new moment n now (Some endings.Stopped)
  take_failed new now body stops p all asks keeps o answers few =
      failed_so s from shown old moment n p all asks keeps o tells mid store fed put kept_is stays new now body stops

  pub take_whole : (new : Device) (now : RunCounts) (next : StoreSeen) (result : Option ConnectionEnd)
      → TakesBody s.kept shown.length from fed put old mid taken.Whole
      → store.spent ≡ false → plan_of put ≡ plan_of begun → IfSome put (IsFilled s.kept shown.length)
      → PutLeads mid new store next n now put responses moment shown.ends result
      → TakeLeads s next from fed shown begun responses old new moment n now result
  take_whole new now next result body unspent plan filled leads p all asks keeps o answers few =
      whole_so s from shown old moment n p all asks keeps o tells mid store fed put kept_is stays body unspent begun responses answers plan filled new now
      next result leads few

-- ---- by the plan of its head

-- a request takes one moment
module _ (s next : ServiceSeen) (shown : Head) (old new : Device) (begun given : List ℕ) (moment : ℕ) (n now : RunCounts)
    (given_is : given ≡ begun ++ moment ∷ [])
  where
    media_leads : (result : Option ConnectionEnd)
        → ((p : RunPlace) (all : List ℕ) → p.base ≡ s.base → AsksAt p old all n → KeepsState s.store old p.state → OpensMedia p.taken all p.said s.fed shown
        → p.taken < 1000000 → LeadsTo p new next.store moment next.fed.unread now result)
        → MediaLeads s next shown old new begun given n now result
    media_leads result leads p all base same asks keeps o few =
        subst
        (λ g. TurnLeads (tams_machine p.base) p.beginning new g next.fed.unread (p.taken + 1) (KeepsState next.store new) p.finished now result)
        (ap (λ g. g ++ moment ∷ []) same ∙ sym given_is) (leads p all base asks keeps o few)

    -- It was planned.
    pub media_planned : (result : Option ConnectionEnd) (put : Option PutSeen) (responses : Responses) (target : List ℕ)
        → target ≡ span_bytes s.fed shown.target → ((r : TamsRequest) → IsMediaSent (record { target = target; size = shown.length; ends = shown.ends }) r
        → MediaAnswers s.base r moment s.store.kept put responses)
        → TakeLeads s.store next.store s.fed next.fed shown put responses old new moment n now result
        → MediaLeads s next shown old new begun given n now result
    media_planned result put responses target target_is answers takes =
        media_leads result (λ p all base asks keeps o few.
        takes p all asks keeps o (λ body long.
        subst (λ b. MediaAnswers b (media_request o.head shown.ends body) moment s.store.kept put responses) (sym base)
        (answers (media_request o.head shown.ends body) (media_sent o target body (target_is ∙ o.tells.target) long))) few)

-- There was no memory for it.
pub media_starved : (s : ServiceSeen) (shown : Head) (old new : Device) (begun given : List ℕ) (moment : ℕ) (n now : RunCounts) → given ≡ begun ++ moment ∷ []
    → StarveLeads old new n now → MediaLeads s s shown old new begun given n now (Some endings.Starved)
media_starved s shown old new begun given moment n now given_is starves =
    media_leads s s shown old new begun given moment n now given_is (Some endings.Starved)
    (λ p all base asks keeps o few. starved_so s.store s.fed shown old moment n p all asks keeps o new now starves)
