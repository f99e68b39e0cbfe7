-- A put whose bytes all came is ended, and answered: what that leads to.
use Rattle.std.proofs.Common.{◌≡◌, ◌<◌, ◌≤◌, ◌+◌, ◌++◌, ℕ, Bool, true, false, if◌then◌else◌, List, [], ◌∷◌, Option, None, Some, inl, refl, sym, ap, ◌∙◌, subst, arith}
use Rattle.std.specs.Prelude.{IfSome, is_some}
use Rattle.disk_trait.specs.Calls.{SameDevice}
use Rattle.disk_trait.specs.Device.{Device, IsDevice}
use Rattle.std.proofs.lemmas.Bool.{false≢true}
use Rattle.media_rows.specs.declared.object.Digest.{Digest}
use Rattle.media_rows.specs.declared.object.Extent.{Extent}
use Rattle.media_rows.specs.Digests.{digest_of}
use Rattle.change_codec.proofs.DigestLemmas.{digests_have_halves}
use Rattle.media_store.specs.Changes.{IsAfterChange, ChangesStore, archive_next, kept_by}
use Rattle.media_store.specs.Puts.{EndsIf, EndsPut, HasCome, HasHashed, IsPutOf, bytes_at_extent, end_handed, handed_at_end, handed_of_piece, kept_after_put, kept_behind, plan_of, put_change, put_reply, reply_if, writes_by}
use Rattle.media_store.specs.Stores.{PutSeen, StoreSeen, journal_of, size_of}
use Rattle.media_store.proofs.Outcomes.{one_made}
use Rattle.media_store.proofs.Planning.{planned_next}
use Rattle.media_store.proofs.PutFacts.{takes_extent}
use Rattle.store_plans.specs.declared.puts.StorePlan.{StorePlan}
use Rattle.store_plans.specs.Plans.{planned_with}
use Rattle.store_plans.specs.declared.puts.PutPlan.{PutPlan}
use Rattle.store_plans.specs.declared.puts.PutPlan.TheVariants.{Refused, Kept, Write}
use Rattle.store_states.specs.Kept.{AgreesWith, StoreView}
use Rattle.store_states.specs.States.{held_in, media_start}
use Rattle.store_writes.specs.Writes.{Keeps}
use Rattle.run_history.specs.Serving.{RunCounts}
use Rattle.connection_loop.specs.declared.ending.ConnectionEnd.{ConnectionEnd}
use Rattle.connection_loop.specs.declared.ending.ConnectionEnd.TheVariants as endings
use Rattle.media_rows.specs.declared.reply.Reply.{Reply}
use Rattle.tams_machine.specs.Answers.{answer_handed, state_with_change}
use Rattle.tams_machine.specs.Requests.{TamsRequest}
use Rattle.request_hearing.proofs.Asking.{asking_kept}
use Rattle.tams_answers.specs.Answers.{following_bytes}
use Rattle.tams_answers.specs.Media.{MediaAnswers, response_by}
use Rattle.tams_answers.specs.declared.media.Responses.{Responses}
use Rattle.tams_service.specs.Answering.{AsksWith, ChangedAt, EndKeepsId, EndsThere, FinishLeads, HandedAt, IsMachineReply, IsRequest, LeadsTo, RunPlace, EndsPutIf, IsWholePut, PutLeads, StopLeads, TellsAllOf, response_if, written_by, written_if}
use Rattle.tams_service.specs.declared.answering.DueReply.{DueReply}
use Rattle.tams_service.specs.Keeping.{KeepsState}
use Rattle.tams_service.specs.Taking.{HashedIf}
use Rattle.tams_service.specs.Serving.{needs_by, needs_in}
use Rattle.tams_service.proofs.Giving.{changed_at, nothing_changed, torn_at, unchanged_at}
use Rattle.tams_service.proofs.Good.{good_now, is_good}
use Rattle.tams_service.proofs.Ids.{id_with}
use Rattle.tams_service.proofs.Keeping.{bytes_seen, keeps_so}
use Rattle.tams_service.proofs.Moments.{over_keeps}
use Rattle.tams_service.proofs.PutReplies.{IsFull, came_is, change, changes_so, full_put, kept_handed, kept_reply, no_put_handed, no_put_reply, refused_handed, refused_reply, write_good, write_handed, write_makes, write_reply}
use Rattle.tams_service.proofs.States.{keeps_next}

-- There is no put.
pub none_leads : (old new : Device) (n now : RunCounts) (store still next : StoreSeen) (responses : Responses) (moment : ℕ) (ends : Bool)
    (result : Option ConnectionEnd) → still.kept ≡ store.kept → still.spent ≡ false
    → FinishLeads old new still next n now (responses.reply ++ []) 0 moment ends result
    → PutLeads old new store next n now None responses moment ends result
none_leads old new n now store still next responses moment ends result same unspent finishes p text rest r asks keeps request is few =
    by_begun is.begun is.answers is.plan
  where
    by_begun : (begun : Option PutSeen) → MediaAnswers p.base r moment store.kept begun responses
        → plan_of None ≡ plan_of begun → LeadsTo p new next moment rest now result
    by_begun None refused none =
        finishes p text rest r [] (unchanged_at p old (text ++ rest) n asks)
        (keeps_so store still old old p.state keeps same unspent keeps.agrees) request (no_put_reply p r moment store old keeps responses.reply refused)
        (subst (HandedAt p old) (sym (no_put_handed p r moment store old keeps responses.reply refused)) asks.handed) refl few
    by_begun (Some begun) answers some = let no : None ≡ Some begun.plan = some in absurd cc

module _ (p : RunPlace) (old mid : Device) (n : RunCounts) (text rest : List ℕ) (store : StoreSeen) (r : TamsRequest) (moment : ℕ) (put : PutSeen)
    (responses : Responses) (is_put : IsPutOf store.kept put) (sound : IsDevice old) (all : TellsAllOf old) {more : ℕ} (asks : AsksWith p old (text ++ rest) n more)
    (keeps : KeepsState store old p.state)
    (full : IsFull p r moment store.kept put responses old.seen) (link : mid.link ≡ old.link) where
  -- the digest of the bytes that came
  abbrev digest : Digest
  digest = digest_of r.body

  has : held_in old.seen (media_start store.kept.journal.half) p.state.archive.library.objects ≡ p.state.archive.held
  has = bytes_seen store old p.state sound all.shows keeps

  good : is_good p.state
  good = good_now asks.asking.begun

  -- calls that keep what is kept change nothing
  unchanged_over : Keeps store.kept p.state.archive.held old mid → ChangedAt p mid (text ++ rest) n [] false
  unchanged_over kept = nothing_changed p mid (text ++ rest) n (asking_kept asks.asking (over_keeps p.base keeps.state kept) link)

  -- the change that is made, with the bytes of the request
  makes_so : (ok : Bool) (extent : Extent) (plan : StorePlan) (is : put.plan ≡ Write extent plan)
      → EndsPut ok put put.plan digest store.kept p.state.archive.held old mid
      → ChangesStore ok (change p r moment store old keeps put responses full extent plan is) r.body store.kept (kept_by store.kept (planned_with digest plan))
      p.state.archive.held old mid
  makes_so ok extent plan is makes =
      let c = change p r moment store old keeps put responses full extent plan is in
      let next = kept_by store.kept (planned_with digest plan) in
      let same : put_change put extent digest ≡ c =
      one_made (journal_of store.kept) (put_change put extent digest) c (planned_with digest plan)
      ((takes_extent store.kept put extent plan is_put is).makes digest (digests_have_halves r.body))
      (write_makes p r moment store old keeps put responses full extent plan is) in
      subst (λ came. ChangesStore ok c came store.kept next p.state.archive.held old mid)
      (came_is p r moment store old keeps put responses full extent plan is)
      (subst (λ x. ChangesStore ok x (bytes_at_extent store.kept extent old.seen) store.kept next p.state.archive.held old mid) same
      (subst (λ plan. EndsPut ok put plan digest store.kept p.state.archive.held old mid) is makes))

  -- ---- the disk failed

  module _ (makes : EndsPut false put put.plan (digest_of r.body) store.kept p.state.archive.held old mid) (new : Device) (now : RunCounts) (last : StoreSeen) (ends : Bool) (request : IsRequest p text ends r) (count : ℕ) (stops : StopLeads mid new n now count)
      (count_is : count ≡ written_by put.plan) where
    stopped_quiet : Keeps store.kept p.state.archive.held old mid → count ≡ 0 → EndsThere p new last (moment ∷ []) now endings.Stopped
    stopped_quiet kept none = stops p text rest r moment last [] (unchanged_over kept) (inl request.spells) request.interim (sym none)

    stopped_by : (plan : PutPlan) → put.plan ≡ plan → EndsThere p new last (moment ∷ []) now endings.Stopped
    stopped_by (Refused why) is =
        stopped_quiet
        (subst (λ plan. EndsPut false put plan digest store.kept p.state.archive.held old mid) is makes)
        (count_is ∙ ap written_by is)
    stopped_by (Kept extent) is =
        stopped_quiet
        (subst (λ plan. EndsPut false put plan digest store.kept p.state.archive.held old mid) is makes)
        (count_is ∙ ap written_by is)
    stopped_by (Write extent plan) is =
        let c = change p r moment store old keeps put responses full extent plan is in
        stops p text rest r moment last (state_with_change p.state c r.body ∷ [])
        (torn_at p old mid n (text ++ rest) store c r.body (kept_by store.kept (planned_with digest plan)) asks keeps link
        (write_good p r moment store old keeps put responses full extent plan is good) (makes_so false extent plan is makes))
        (request.spells, refl, changes_so p r moment store old keeps put responses full extent plan is) request.interim
        (sym (count_is ∙ ap written_by is))

  -- ---- it was ended

  module _ (makes : EndsPut true put put.plan (digest_of r.body) store.kept p.state.archive.held old mid) (new : Device) (now : RunCounts) (next last : StoreSeen) (kept_is : next.kept ≡ kept_after_put store.kept put.plan (digest_of r.body)) (unspent : next.spent ≡ false) (ends : Bool)
      (request : IsRequest p text ends r) (count : ℕ) (count_is : count ≡ written_by put.plan) (few : p.taken < 1000000) (result : Option ConnectionEnd)
      (finishes : FinishLeads mid new next last n now (response_by responses (put_reply put put.plan) ++ []) count moment ends result)
      (before : more ≡ handed_of_piece put.plan r.body) (handed_on : mid.handed ≡ old.handed + handed_at_end put.plan) where
    -- what was handed on is what the machine's change comes to
    handed_here : (plan : PutPlan) → put.plan ≡ plan → answer_handed r moment p.state ≡ handed_of_piece plan r.body + handed_at_end plan
        → HandedAt p mid (answer_handed r moment p.state)
    handed_here plan is same =
        let pieces = ap (λ q. handed_of_piece q r.body) is in
        let rest = ap handed_at_end is in
        record {
          before = asks.handed.before;
          so_far = asks.handed.so_far;
          now = omega (arith, asks.handed.now, before, handed_on, same, pieces, rest);
        }

    ended_quiet : Keeps store.kept p.state.archive.held old mid → next.kept ≡ store.kept
        → IsMachineReply p r moment (response_by responses (put_reply put put.plan) ++ []) [] → HandedAt p mid (answer_handed r moment p.state) → count ≡ 0
        → LeadsTo p new last moment rest now result
    ended_quiet kept same reply handed none =
        finishes p text rest r [] (unchanged_over kept) (keeps_so store next old mid p.state keeps same unspent kept.agrees) request reply handed (sym none)
        few

    ended_by : (plan : PutPlan) → put.plan ≡ plan → LeadsTo p new last moment rest now result
    ended_by (Refused why) is =
        ended_quiet
        (subst (λ plan. EndsPut true put plan digest store.kept p.state.archive.held old mid) is makes)
        (kept_is ∙ ap (λ plan. kept_after_put store.kept plan digest) is) (refused_reply p r moment store old keeps put responses full why is)
        (handed_here (Refused why) is (refused_handed p r moment store old keeps put responses full why is)) (count_is ∙ ap written_by is)
    ended_by (Kept extent) is =
        ended_quiet
        (subst (λ plan. EndsPut true put plan digest store.kept p.state.archive.held old mid) is makes)
        (kept_is ∙ ap (λ plan. kept_after_put store.kept plan digest) is) (kept_reply p r moment store old keeps put responses full extent is has good)
        (handed_here (Kept extent) is (kept_handed p r moment store old keeps put responses full extent is has good))
        (count_is ∙ ap written_by is)
    ended_by (Write extent plan) is =
        let c = change p r moment store old keeps put responses full extent plan is in
        let planned = planned_with digest plan in
        let made = makes_so true extent plan is makes in
        let kept = kept_is ∙ ap (λ plan. kept_after_put store.kept plan digest) is in
        finishes p text rest r (state_with_change p.state c r.body ∷ [])
        (changed_at p old mid n (text ++ rest) store c r.body (kept_by store.kept planned) asks keeps link
        (write_good p r moment store old keeps put responses full extent plan is good) made)
        (keeps_next store next old mid p.state c r.body keeps unspent
        (subst (IsAfterChange store.kept c) (sym kept)
        (planned_next store.kept c planned (write_makes p r moment store old keeps put responses full extent plan is)))
        (subst (λ k. AgreesWith mid k (archive_next store.kept p.state.archive.held c r.body).held) (sym kept) (made.agrees refl)))
        request (write_reply p r moment store old keeps put responses full extent plan is)
        (handed_here (Write extent plan) is (write_handed p r moment store old keeps put responses full extent plan is))
        (sym (count_is ∙ ap written_by is)) few

-- ---- what the end of a put leads to

module _ (old mid new : Device) (n now : RunCounts) (store last : StoreSeen) (put : PutSeen) (responses : Responses) (moment : ℕ) (ends ok : Bool)
    (is_put : IsPutOf store.kept put) (sound : IsDevice old) (all : TellsAllOf old) (link : mid.link ≡ old.link) (count : ℕ)
    (count_is : count ≡ written_by put.plan)
    (makes : (held : List (List ℕ)) (came : List ℕ) → AgreesWith old store.kept held → HasHashed put.plan put.hasher came
    → EndsPut ok put put.plan (digest_of came) store.kept held old mid) where
  -- The disk failed in it.
  pub failed_leads : ok ≡ false → StopLeads mid new n now count
      → PutLeads old new store last n now (Some put) responses moment ends (Some endings.Stopped)
  failed_leads failed stops p text rest r asks keeps request is few =
      let held = p.state.archive.held in
      let full = full_put p r moment store.kept put responses old.seen is in
      stopped_by p old mid n text rest store r moment put responses is_put sound all asks keeps full link
      (subst (λ b. EndsPut b put put.plan (digest_of r.body) store.kept held old mid) failed (makes held r.body keeps.agrees full.hashed)) new now last ends request count
      stops count_is put.plan refl

  -- It was ended, and the reply was said.
  pub made_leads : ok ≡ true → (next : StoreSeen)
      → ((came : List ℕ) → HasHashed put.plan put.hasher came → next.kept ≡ kept_after_put store.kept put.plan (digest_of came)) → next.spent ≡ false
      → mid.handed ≡ old.handed + handed_at_end put.plan → (result : Option ConnectionEnd)
      → FinishLeads mid new next last n now (response_by responses (put_reply put put.plan) ++ []) count moment ends result
      → PutLeads old new store last n now (Some put) responses moment ends result
  made_leads made next kept_is unspent handed result finishes p text rest r asks keeps request is few =
      let held = p.state.archive.held in
      let full = full_put p r moment store.kept put responses old.seen is in
      ended_by p old mid n text rest store r moment put responses is_put sound all asks keeps full link
      (subst (λ b. EndsPut b put put.plan (digest_of r.body) store.kept held old mid) made (makes held r.body keeps.agrees full.hashed)) new now next last (kept_is r.body full.hashed) unspent
      ends request count count_is few result finishes refl handed put.plan refl

-- ---- the same, where there is a put

-- and is one at most
pub written_few : (count : ℕ) (put : Option PutSeen) → count ≡ written_if put → count ≤ 1
written_few count put is = omega (arith, is, few put)
  where
    few : (p : Option PutSeen) → written_if p ≤ 1
    few None = omega arith
    few (Some p) = by_writes (writes_by p.plan)
      where
        by_writes : (b : Bool) → (if b then 1 else 0) ≤ 1
        by_writes true = omega arith
        by_writes false = omega arith

pub ends_if : (ok : Bool) (put : Option PutSeen) (digest : Digest) (kept : StoreView) (held : List (List ℕ)) (old new : Device)
    → EndsIf ok put digest kept held old new → EndsPutIf ok put digest kept held old new
ends_if ok None d kept held old new ends = tt
ends_if ok (Some put) d kept held old new ends = ends

-- where a put is under way, its hasher has taken what came
pub come_if : (put : Option PutSeen) (came : List ℕ) → is_some put ≡ true → HashedIf put came → HasCome put came
come_if None came some hashed = absurd (false≢true some)
come_if (Some put) came some hashed = hashed

-- how many changes its end writes hangs on its plan
pub written_same : (put begun : Option PutSeen) → plan_of put ≡ plan_of begun → written_if put ≡ written_if begun
written_same None None same = refl
written_same None (Some begun) same = let no : None ≡ Some begun.plan = same in absurd cc
written_same (Some put) None same = let no : Some put.plan ≡ None = same in absurd cc
written_same (Some put) (Some begun) same =
    let plans : Some put.plan ≡ Some begun.plan = same in
    let plan : put.plan ≡ begun.plan = cc in
    ap written_by plan

module _ (old mid new : Device) (n now : RunCounts) (store next last : StoreSeen) (responses : Responses) (moment : ℕ) (ends : Bool)
    (sound : IsDevice old) (all : TellsAllOf old) (link : mid.link ≡ old.link) (count : ℕ) where
  -- The disk failed in it, so there is one.
  pub end_failed : (put : Option PutSeen) → IfSome put (IsWholePut store.kept) → count ≡ written_if put → (put ≡ None → ⊥)
      → ((held : List (List ℕ)) (came : List ℕ) → AgreesWith old store.kept held → HashedIf put came
      → EndsPutIf false put (digest_of came) store.kept held old mid) → StopLeads mid new n now count
      → PutLeads old new store last n now put responses moment ends (Some endings.Stopped)
  end_failed None is count_is some makes stops = absurd (some refl)
  end_failed (Some put) is count_is some makes stops =
      failed_leads old mid new n now store last put responses moment ends false is.of_store sound all link count count_is makes refl stops

  -- It was ended, and the reply was said.
  pub end_made : (put : Option PutSeen) (reply : Option Reply) (result : Option ConnectionEnd) → IfSome put (IsWholePut store.kept)
      → count ≡ written_if put → (put ≡ None → mid ≡ old)
      → ((held : List (List ℕ)) (came : List ℕ) → AgreesWith old store.kept held → HashedIf put came
      → EndsPutIf true put (digest_of came) store.kept held old mid)
      → ((came : List ℕ) → HashedIf put came → next.kept ≡ kept_behind store.kept put (digest_of came)) → next.spent ≡ false → mid.handed ≡ old.handed + end_handed put → reply ≡ reply_if put
      → FinishLeads mid new next last n now (response_if responses reply ++ []) count moment ends result
      → PutLeads old new store last n now put responses moment ends result
  end_made None reply result is count_is none makes kept unspent handed replied finishes =
      none_leads old new n now store next last responses moment ends result (kept old.seen tt) unspent
      (subst (λ d. FinishLeads d new next last n now (responses.reply ++ []) 0 moment ends result) (none refl)
      (subst (λ k. FinishLeads mid new next last n now (responses.reply ++ []) k moment ends result) count_is
      (subst (λ x. FinishLeads mid new next last n now (response_if responses x ++ []) count moment ends result) replied finishes)))
  end_made (Some put) reply result is count_is none makes kept unspent handed replied finishes =
      made_leads old mid new n now store last put responses moment ends true is.of_store sound all link count count_is makes refl next kept unspent
      handed result (subst (λ x. FinishLeads mid new next last n now (response_if responses x ++ []) count moment ends result) replied finishes)

-- ---- by the calls

-- what is told stays so
pub tells_on : (old new : Device) → SameDevice old new → TellsAllOf old → TellsAllOf new
tells_on old new same all = record { honest = same.honest ∙ all.honest; shows = same.shows ∙ all.shows; tells = same.tells ∙ all.tells }

-- a reply with a response alone
pub finishes_with : (old new : Device) (store next : StoreSeen) (n now : RunCounts) (moment : ℕ) (result : Option ConnectionEnd) (reply : DueReply)
    (response : List ℕ) (area count : ℕ) (ends : Bool)
    → FinishLeads old new store next n now (reply.response.now ++ following_bytes area reply.media old.seen) reply.changes reply.moment reply.ends result
    → reply.response.now ≡ response
    → (reply.media ≡ None) × (reply.changes ≡ count) × (reply.moment ≡ moment) × (reply.ends ≡ ends)
    → FinishLeads old new store next n now (response ++ []) count moment ends result
finishes_with old new store next n now moment result reply response area count ends leads same rest =
    subst (λ e. FinishLeads old new store next n now (response ++ []) count moment e result) rest.3
    (subst (λ t. FinishLeads old new store next n now (response ++ []) count t reply.ends result) rest.2
    (subst (λ k. FinishLeads old new store next n now (response ++ []) k reply.moment reply.ends result) rest.1
    (subst (λ m. FinishLeads old new store next n now (response ++ following_bytes area m old.seen) reply.changes reply.moment reply.ends result) rest.0
    (subst (λ b. FinishLeads old new store next n now (b ++ following_bytes area reply.media old.seen) reply.changes reply.moment reply.ends result)
    same leads))))

-- what a put leaves of the file
size_behind : (kept : StoreView) (plan : PutPlan) (digest : Digest) → size_of (kept_after_put kept plan digest) ≡ size_of kept
size_behind kept (Refused why) d = refl
size_behind kept (Kept extent) d = refl
size_behind kept (Write extent plan) d = by_rows plan.rows
  where
    by_rows : (rows : Option (List ℕ)) → size_of (kept_by kept (planned_with d (record plan { rows = rows }))) ≡ size_of kept
    by_rows None = refl
    by_rows (Some text) = refl

size_if : (kept : StoreView) (put : Option PutSeen) (digest : Digest) → size_of (kept_behind kept put digest) ≡ size_of kept
size_if kept None d = refl
size_if kept (Some put) d = size_behind kept put.plan d

-- the hasher of a put has taken some bytes
some_came : (kept : StoreView) (put : Option PutSeen) → IfSome put (IsWholePut kept) → (came : List ℕ) × HashedIf put came
some_came kept None is = ([], tt)
some_came kept (Some put) is = (is.of_store.came, is.of_store.hashed)

-- a store needs as much behind it
pub needs_behind : (store next : StoreSeen) (put : Option PutSeen) → IfSome put (IsWholePut store.kept) → store.spent ≡ false → next.spent ≡ false
    → ((came : List ℕ) → HashedIf put came → next.kept ≡ kept_behind store.kept put (digest_of came)) → needs_in next ≡ needs_in store
needs_behind store next put whole before behind kept =
    let came = some_came store.kept put whole in
    ap (λ b. needs_by b (size_of next.kept)) behind ∙ ap size_of (kept came.0 came.1) ∙ size_if store.kept put (digest_of came.0)
    ∙ ap (λ b. needs_by b (size_of store.kept)) (sym before)

-- and it keeps its id
id_if : (kept : StoreView) (put : Option PutSeen) → IfSome put (EndKeepsId kept) → (came : List ℕ)
    → (kept_behind kept put (digest_of came)).library.id ≡ kept.library.id
id_if kept None is came = refl
id_if kept (Some put) is came = is came

pub id_behind : (kept next : StoreView) (put begun : Option PutSeen) → IfSome put (IsWholePut kept) → plan_of put ≡ plan_of begun
    → IfSome begun (EndKeepsId kept) → ((came : List ℕ) → HashedIf put came → next ≡ kept_behind kept put (digest_of came))
    → next.library.id ≡ kept.library.id
id_behind kept next put begun whole same keeps is =
    let came = some_came kept put whole in
    ap (λ (k : StoreView). k.library.id) (is came.0 came.1) ∙ id_if kept put (id_with kept put begun same keeps) came.0
