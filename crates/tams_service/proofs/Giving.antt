-- An answer that was planned, and whose change was written, or may have been when the disk failed.
use Rattle.std.proofs.Common.{◌≡◌, ◌≢◌, ◌<◌, ◌+◌, ◌⊎◌, inl, inr, ◌++◌, ℕ, Bool, true, false, List, [], ◌∷◌, length, Option, None, Some, refl, sym, ap, ◌∙◌, subst, arith, length-append}
use Rattle.std.specs.List.{flat_map}
use Rattle.std.specs.Prelude.{IfSome, codes, decimal, option_map, option_to_list, unwrap_or}
use Rattle.std.proofs.lemmas.List.Elements.{All-cons, All-nil}
use Rattle.disk_trait.specs.Device.{Device}
use Rattle.http_wire.specs.Framing.{method_kind}
use Rattle.http.specs.StatusCode.{reason_phrase}
use Rattle.http_wire.specs.Response.{body_unless, crlf, field_line, response_head, status_line}
use Rattle.json_replies.specs.Replies.{reply_text}
use Rattle.media_rows.specs.declared.change.Change.{Change}
use Rattle.media_rows.specs.declared.object.Extent.{Extent}
use Rattle.media_rows.specs.declared.reply.Reply.{Reply}
use Rattle.media_rows.specs.Apply.{applied}
use Rattle.media_store.specs.Changes.{IsAfterChange, ChangesStore, MakesIf, bytes_by, bytes_if, kept_by, kept_with, stores}
use Rattle.media_store.specs.Stores.{StoreSeen}
use Rattle.media_store.specs.Stores as media
use Rattle.media_store.proofs.Commands.{none_came}
use Rattle.media_store.proofs.Planning.{planned_next}
use Rattle.store_plans.specs.declared.outcome.Planned.{Planned}
use Rattle.store_plans.specs.Plans.{MakesChange, MakesStep}
use Rattle.store_states.specs.Kept.{AgreesWith, StoreView}
use Rattle.store_states.specs.States.{StoreState, held_in, media_start}
use Rattle.run_history.specs.Serving.{RunCounts}
use Rattle.connection_loop.specs.declared.ending.ConnectionEnd.{ConnectionEnd}
use Rattle.connection_loop.specs.declared.ending.ConnectionEnd.TheVariants as endings
use Rattle.connection_loop.specs.Turns.{held_with}
use Rattle.tams_answers.specs.Answers.{AnswersRequest, MediaFollows, following_bytes}
use Rattle.tams_answers.specs.declared.answers.Answer.{Answer}
use Rattle.tams_http.specs.Answered.{Context, reply_status, response_fields, response_to}
use Rattle.tams_machine.specs.Answers.{answer_handed, answer_in, asked_in, journal_of_state, object_bytes, outcome_of, state_with_change}
use Rattle.tams_machine.specs.Machine.{tams_machine}
use Rattle.tams_machine.specs.Requests.{TamsRequest, context_of, is_head_only}
use Rattle.request_hearing.specs.Asking.{Asking, asked_trace}
use Rattle.request_hearing.proofs.Asking.{begun_at, state_now-open}
use Rattle.request_hearing.proofs.AskingReached.{changed_none, changed_one, changed_torn}
use Rattle.tams_service.specs.Answering.{AsksAt, AsksWith, ChangedAt, EndsThere, FinishLeads, HandedAt, IsRequest, LeadsTo, RunPlace, StopLeads, changes_in}
use Rattle.tams_service.specs.Keeping.{KeepsState}
use Rattle.tams_service.proofs.Good.{good_now, is_good, made_good}
use Rattle.tams_service.proofs.Handed.{handed_bare, planned_handed}
use Rattle.tams_service.proofs.Keeping.{keeps_so}
use Rattle.tams_service.proofs.Moments.{over_change, over_torn}
use Rattle.tams_service.proofs.States.{bare_archive, keeps_next}

-- ---- the change of an answer

-- the journal of a state that is kept is the store's
pub journal_is : (store : StoreSeen) (d : Device) (s : StoreState) → KeepsState store d s → journal_of_state s ≡ media.journal_of store.kept
journal_is store d s keeps = ap journal_of_state keeps.state

-- the state after a change that brings no bytes
bare_state : (s : StoreState) (change : Change) (came : List ℕ) → stores (Some change) ≡ false → state_with_change s change came ≡ state_with_change s change []
bare_state s change came bare =
    ap (λ archive. record { archive = archive; room = (state_with_change s change []).room; half = s.half }) (bare_archive change came s.archive bare)

-- a planned change applies to the state's library
pub applied_here : (store : StoreSeen) (d : Device) (s : StoreState) → KeepsState store d s → (change : Change) (planned : Planned)
    → MakesChange (media.journal_of store.kept) change planned → applied change s.archive.library ≡ Some planned.next.library
applied_here store d s keeps change planned makes = ap (λ (t : StoreState). applied change t.archive.library) keeps.state ∙ makes.made

-- Nothing was changed for a request before its reply.
pub nothing_changed : (p : RunPlace) (d : Device) (unread : List ℕ) (n : RunCounts)
    → Asking (tams_machine p.base) p.beginning d p.given (held_with p.state unread p.taken) p.said p.finished p.steps n → ChangedAt p d unread n [] false
nothing_changed p d unread n asking = record { begun = asking.begun; reached = changed_none asking.reached; good = All-nil is_good }

pub unchanged_at : (p : RunPlace) (d : Device) (unread : List ℕ) (n : RunCounts) {more : ℕ} → AsksWith p d unread n more → ChangedAt p d unread n [] false
unchanged_at p d unread n asks = nothing_changed p d unread n asks.asking

module _ (p : RunPlace) (old new : Device) (n : RunCounts) (unread : List ℕ) (store : StoreSeen) (change : Change) (came : List ℕ) (kept : StoreView)
    {more : ℕ} (asks : AsksWith p old unread n more) (keeps : KeepsState store old p.state) (link : new.link ≡ old.link)
    (good : is_good (state_with_change p.state change came)) where
  -- its change is durable
  pub changed_at : ChangesStore true change came store.kept kept p.state.archive.held old new
      → ChangedAt p new unread n (state_with_change p.state change came ∷ []) false
  changed_at makes = record {
    begun = begun_at asks.asking.begun link;
    reached = changed_one asks.asking.reached
        (over_change p.base (asked_trace (tams_machine p.base) p.beginning p.said p.finished p.steps) (state_now-open asks.asking.begun) keeps.state makes);
    good = All-cons is_good (state_with_change p.state change came) [] good (All-nil is_good);
  }

  -- it may stand or not
  pub torn_at : ChangesStore false change came store.kept kept p.state.archive.held old new
      → ChangedAt p new unread n (state_with_change p.state change came ∷ []) true
  torn_at makes = record {
    begun = begun_at asks.asking.begun link;
    reached = changed_torn asks.asking.reached
        (over_torn p.base (asked_trace (tams_machine p.base) p.beginning p.said p.finished p.steps) (state_now-open asks.asking.begun) keeps.state makes);
    good = All-cons is_good (state_with_change p.state change came) [] good (All-nil is_good);
  }

-- ---- a plan that was written

-- the bytes of a planned answer are those of the machine
pub answer_bytes_are : MediaFollows → (p : RunPlace) (r : TamsRequest) (moment : ℕ) (answer : Answer) (store : StoreSeen) (d : Device) (area : ℕ)
    (image : List ℕ)
    → AnswersRequest p.base p.state r moment answer → held_in image area p.state.archive.library.objects ≡ p.state.archive.held
    → (answer_in p.base r moment p.state).bytes ≡ answer.response ++ following_bytes area answer.media image
answer_bytes_are follows p r moment answer store d area image answers held =
    ap (λ reply. response_to (context_of p.state.archive.library.id p.base r) reply
    ++ body_unless (is_head_only (method_kind r.head.method)) (object_bytes p.state.archive (asked_in p.state r) reply))
    (sym answers.planned.reply)
    ∙ ap (λ text. text ++ body_unless (is_head_only (method_kind r.head.method))
    (object_bytes p.state.archive (asked_in p.state r) answer.planned.reply)) (sym answers.response)
    ∙ ap (λ bytes. answer.response ++ bytes) (follows p.base p.state r moment answer area image answers held)

module _ (p : RunPlace) (old mid new : Device) (n now : RunCounts) (text rest : List ℕ) (store : StoreSeen) (r : TamsRequest) (moment : ℕ) (answer : Answer)
    (asks : AsksAt p old (text ++ rest) n) (keeps : KeepsState store old p.state) (answers : AnswersRequest p.base p.state r moment answer)
    (link : mid.link ≡ old.link) where
  abbrev change : Option Change
  change = (outcome_of p.state r moment).change

  makes_step : MakesStep (media.journal_of store.kept) change answer.planned
  makes_step = subst (λ j. MakesStep j change answer.planned) (journal_is store old p.state keeps) answers.planned.step

  -- ---- the disk failed

  module _ (next : StoreView) (makes : (c : Option Change) → MakesStep (media.journal_of store.kept) c answer.planned
      → MakesIf false c store.kept next p.state.archive.held old mid) (some : answer.planned.frame ≢ None) (stops : StopLeads mid new n now (changes_in answer.planned.frame)) (last : StoreSeen)
      (ends : Bool) (request : IsRequest p text ends r) where
    failed_with : (c : Option Change) → change ≡ c → stores c ≡ false → MakesStep (media.journal_of store.kept) c answer.planned
        → EndsThere p new last (moment ∷ []) now endings.Stopped
    failed_with None is bare step = absurd (some step.frame)
    failed_with (Some c) is bare step =
        let fits = none_came c bare in
        let torn = makes (Some c) step in
        let same = bare_state p.state c r.body bare in
        let good = made_good p.state.archive c [] answer.planned.next.library (good_now asks.asking.begun)
        (applied_here store old p.state keeps c answer.planned step) fits in
        let changed = torn_at p old mid n (text ++ rest) store c [] next asks keeps link good torn in
        stops p text rest r moment last (state_with_change p.state c [] ∷ []) changed
        (request.spells, refl, ap (option_map (λ x. state_with_change p.state x r.body)) is ∙ ap Some same) request.interim
        (sym (ap changes_in step.frame))

    pub give_failed : EndsThere p new last (moment ∷ []) now endings.Stopped
    give_failed = failed_with change refl answers.bare makes_step

  -- ---- it was written

  module _ (follows : MediaFollows) (next : StoreSeen) (makes : (c : Option Change) → MakesStep (media.journal_of store.kept) c answer.planned
      → MakesIf true c store.kept next.kept p.state.archive.held old mid)
      (none : answer.planned.frame ≡ None → mid ≡ old) (handed_on : mid.handed ≡ old.handed + bytes_by answer.planned)
      (kept : next.kept ≡ kept_by store.kept answer.planned)
      (unspent : next.spent ≡ false)
      (seen_old : held_in old.seen (media_start store.kept.journal.half) p.state.archive.library.objects ≡ p.state.archive.held)
      (media_is : answer.media ≡ None ⊎ (answer.planned.frame ≡ None))
      (last : StoreSeen) (ends : Bool) (request : IsRequest p text ends r) (few : p.taken < 1000000) (result : Option ConnectionEnd)
      (finishes : FinishLeads mid new next last n now
      (answer.response ++ following_bytes (media_start next.kept.journal.half) answer.media mid.seen)
      (changes_in answer.planned.frame) moment ends result) where
    -- the bytes are those that the machine answers
    bytes_are : (answer_in p.base r moment p.state).bytes
        ≡ answer.response ++ following_bytes (media_start next.kept.journal.half) answer.media mid.seen
    bytes_are =
        answer_bytes_are follows p r moment answer store old (media_start store.kept.journal.half) old.seen answers seen_old
        ∙ ap (λ b. answer.response ++ b) (elim media_is [ inl bare ↦ no_media bare | inr still ↦ same_place still ])
      where
        no_media : answer.media ≡ None → following_bytes (media_start store.kept.journal.half) answer.media old.seen
            ≡ following_bytes (media_start next.kept.journal.half) answer.media mid.seen
        no_media bare = rw bare refl

        same_place : answer.planned.frame ≡ None → following_bytes (media_start store.kept.journal.half) answer.media old.seen
            ≡ following_bytes (media_start next.kept.journal.half) answer.media mid.seen
        same_place still =
            ap (λ (k : StoreView). following_bytes (media_start k.journal.half) answer.media old.seen)
            (sym (kept ∙ ap (kept_with store.kept answer.planned) still))
            ∙ ap (λ (d : Device). following_bytes (media_start next.kept.journal.half) answer.media d.seen) (sym (none still))

    -- what was handed on is what the machine's change comes to
    handed_here : HandedAt p mid (answer_handed r moment p.state)
    handed_here =
        let same : answer_handed r moment p.state ≡ bytes_by answer.planned =
        handed_bare p.state change answers.bare ∙ ap (λ j. bytes_if j change) (journal_is store old p.state keeps)
        ∙ sym (planned_handed store.kept change answer.planned makes_step) in
        record { before = asks.handed.before; so_far = asks.handed.so_far; now = omega (arith, handed_on, asks.handed.now, same) }

    made_with : (c : Option Change) → change ≡ c → stores c ≡ false → MakesStep (media.journal_of store.kept) c answer.planned
        → LeadsTo p new last moment rest now result
    made_with None is bare step =
        finishes p text rest r [] (subst (λ d. ChangedAt p d (text ++ rest) n [] false) (sym (none step.frame)) (unchanged_at p old (text ++ rest) n asks))
        (keeps_so store next old mid p.state keeps (kept ∙ ap (kept_with store.kept answer.planned) step.frame) unspent
        (subst (λ d. AgreesWith d store.kept p.state.archive.held) (sym (none step.frame)) keeps.agrees))
        request
        (record { bytes_are = bytes_are; states_are = ap (λ o. option_to_list (option_map (λ x. state_with_change p.state x r.body) o)) is }) handed_here
        (sym (ap changes_in step.frame)) few
    made_with (Some c) is bare step =
        let fits = none_came c bare in
        let made = makes (Some c) step in
        let same = bare_state p.state c r.body bare in
        let good = made_good p.state.archive c [] answer.planned.next.library (good_now asks.asking.begun)
        (applied_here store old p.state keeps c answer.planned step) fits in
        finishes p text rest r (state_with_change p.state c [] ∷ [])
        (changed_at p old mid n (text ++ rest) store c [] next.kept asks keeps link good made)
        (keeps_next store next old mid p.state c [] keeps unspent
        (subst (IsAfterChange store.kept c) (sym kept) (planned_next store.kept c answer.planned step))
        (made.agrees refl))
        request
        (record {
          bytes_are = bytes_are;
          states_are = ap (λ o. option_to_list (option_map (λ x. state_with_change p.state x r.body) o)) is ∙ ap (λ x. x ∷ []) same;
        })
        handed_here
        (sym (ap changes_in step.frame)) few

    pub give_made : LeadsTo p new last moment rest now result
    give_made = made_with change refl answers.bare makes_step

-- where bytes of an object follow nothing is written
pub media_or_none : (A : Extent → Type 0) (B : Type 0) (media : Option Extent) → IfSome media (λ extent. A extent × B) → (media ≡ None) ⊎ B
media_or_none A B None h = inl refl
media_or_none A B (Some extent) h = inr h.1

-- ---- a response has a byte

longer : (xs ys : List ℕ) → 0 < length xs → 0 < length (xs ++ ys)
longer xs ys some = omega (arith, some, length-append xs ys)

line_some : (status : ℕ) → 0 < length (status_line status)
line_some status =
    let word : length (codes "HTTP/1.1 ") ≡ 9 = refl in
    let phrase = unwrap_or (reason_phrase status) [] in
    longer (codes "HTTP/1.1 " ++ decimal status ++ codes " " ++ phrase) crlf
    (longer (codes "HTTP/1.1 " ++ decimal status ++ codes " ") phrase
    (longer (codes "HTTP/1.1 " ++ decimal status) (codes " ") (longer (codes "HTTP/1.1 ") (decimal status) (omega (arith, word)))))

response_some : (context : Context) (reply : Reply) → 0 < length (response_to context reply)
unfolding response_to
response_some context reply =
    let status = reply_status reply in
    let body = reply_text context.store context.base reply in
    let fields = response_fields context reply body in
    longer (response_head status fields) (body_unless context.head_only body)
    (longer (status_line status ++ flat_map field_line fields) crlf (longer (status_line status) (flat_map field_line fields) (line_some status)))

-- so has that of an answer, also where bytes of an object follow it
pub response_there : (p : RunPlace) (r : TamsRequest) (moment : ℕ) (answer : Answer) → AnswersRequest p.base p.state r moment answer → {A : Type 0}
    (media : Option A) → IfSome media (λ extent. 0 < length answer.response)
response_there p r moment answer answers None = tt
response_there p r moment answer answers (Some extent) =
    let some = response_some (context_of p.state.archive.library.id p.base r) answer.planned.reply in
    omega (arith, some, ap length answers.response)

-- no bytes follow
pub none_follows : {A : Type 0} (media : Option A) (n : ℕ) → media ≡ None → IfSome media (λ extent. 0 < n)
none_follows None n is = tt
none_follows (Some extent) n is = absurd cc
