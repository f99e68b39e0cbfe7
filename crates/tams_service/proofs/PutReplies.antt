-- The machine's reply to a media PUT of which all bytes came, by what is known of it.
use Rattle.std.proofs.Common.{◌≡◌, ◌≢◌, ◌++◌, ◌==◌, ◌&&◌, ◌+◌, ℕ, Bool, true, false, List, [], ◌∷◌, length, take, drop, Option, Some, None, Result, Ok, Err, refl, sym, ap, ◌∙◌, subst, arith}
use Rattle.std.specs.Prelude.{bytes_eq, option_map, option_to_list}
use Rattle.std.proofs.lemmas.Bool.{eq-eqb}
use Rattle.std.proofs.lemmas.List.{take_all}
use Rattle.disk_trait.specs.Device.{Device}
use Rattle.library_laws.specs.MediaLaws as laws
use Rattle.library_laws.proofs.ListLemmas.{length-take_most}
use Rattle.media_rows.specs.declared.change.Change.{Change}
use Rattle.media_rows.specs.declared.change.Change.TheVariants as changes
use Rattle.media_rows.specs.declared.object.Digest.{Digest}
use Rattle.media_rows.specs.declared.object.Extent.{Extent}
use Rattle.media_rows.specs.declared.refusal.Refusal.{Refusal}
use Rattle.media_rows.specs.declared.reply.Reply.{Reply}
use Rattle.media_rows.specs.declared.reply.Reply.TheVariants as replies
use Rattle.media_rows.specs.Answer.{Outcome, placed_put, put_answer_by, stored_put, unchanged}
use Rattle.media_rows.specs.Library.{Library}
use Rattle.media_rows.specs.Media.{answer_to, fits_bytes, puts}
use Rattle.media_rows.specs.Objects.{blocks_of, free_place, object_of}
use Rattle.media_rows.specs.Digests.{digest_of}
use Rattle.change_codec.specs.Fitting.{State}
use Rattle.change_codec.proofs.DigestLemmas.{digests_have_halves}
use Rattle.media_store.specs.Changes.{bytes_of_change}
use Rattle.media_store.specs.Puts.{HasHashed, bytes_at_extent, plan_of, put_reply}
use Rattle.media_store.specs.Stores.{PutSeen, StoreSeen}
use Rattle.media_store.specs.Stores as media
use Rattle.media_store.proofs.Planning.{planned_bytes}
use Rattle.media_store.proofs.PutFacts.{fresh_extent, fresh_plan, takes_handed}
use Rattle.object_blobs.specs.Extents.{extent_start}
use Rattle.store_plans.specs.declared.outcome.Planned.{Planned}
use Rattle.store_plans.specs.declared.puts.PutPlan.{PutPlan}
use Rattle.store_plans.specs.declared.puts.PutPlan.TheVariants.{Refused, Kept, Write}
use Rattle.store_commits.specs.Carrying.{written_bytes}
use Rattle.store_plans.specs.declared.puts.StorePlan.{StorePlan}
use Rattle.store_plans.specs.Plans.{HasExtent, IsPlanOf, IsPutPlan, IsStoredAt, MakesChange, PlansPut, TakesExtent, planned_with}
use Rattle.store_states.specs.Fitting.{fitted}
use Rattle.store_states.specs.Kept.{StoreView, kept_state}
use Rattle.store_states.specs.States.{StoreState, held_in, media_start}
use Rattle.tams_http.specs.Answered.{response_to}
use Rattle.tams_http.specs.declared.ask.Ask.{Ask}
use Rattle.tams_http.specs.declared.ask.Ask.TheVariants.{PutMedia}
use Rattle.tams_machine.specs.Answers.{answer_handed, answer_in, asked_in, change_handed, handed_if, object_bytes, outcome_by, outcome_of, state_with_change}
use Rattle.tams_machine.specs.Requests.{TamsRequest, context_of}
use Rattle.tams_answers.specs.Media.{IsMediaPlanned, IsMediaRefused, MediaAnswers, response_by}
use Rattle.tams_answers.specs.declared.media.Responses.{Responses}
use Rattle.tams_service.specs.Answering.{IsPutting, IsMachineReply, RunPlace}
use Rattle.tams_service.specs.Keeping.{KeepsState}
use Rattle.tams_service.specs.Taking.{HoldsPart}
use Rattle.tams_service.proofs.Giving.{applied_here, journal_is}
use Rattle.tams_service.proofs.Good.{is_good, made_good}
use Rattle.tams_service.proofs.PutOutcomes.{compared, put_change, reply_is, step_there, stored_bytes, stored_length}

-- ---- what is known of a put whose bytes all came

-- A put of an object's bytes was planned of a store as the request's, with the response to what it replies, and has all
-- bytes of the request and their digest.
pub record IsFull (p : RunPlace) (r : TamsRequest) (moment : ℕ) (kept : StoreView) (put : PutSeen) (responses : Responses) (seen : List ℕ) : Type 0 where
  pub object : List ℕ
  pub asked : (held : List (List ℕ)) → asked_in (kept_state kept held) r ≡ Ok (PutMedia object)
  pub plan : IsPutPlan (media.journal_of kept) object (length r.body) moment put.plan
  pub extent : HasExtent (media.journal_of kept) object (length r.body) moment put.plan
  pub response : response_by responses (put_reply put put.plan) ≡ response_to (context_of kept.library.id p.base r) (put_reply put put.plan)
  pub size : put.size ≡ length r.body
  pub holds : HoldsPart kept put put.plan r.body seen
  pub hashed : HasHashed put.plan put.hasher r.body

-- the reply hangs on the plan, and on whether the bytes are the same
same_reply : (put begun : PutSeen) (plan : PutPlan) → put.same ≡ begun.same → put_reply put plan ≡ put_reply begun plan
same_reply put begun (Refused why) same = refl
same_reply put begun (Kept extent) same = ap (λ b. (stored_put b).reply) same
same_reply put begun (Write extent plan) same = refl

module _ (p : RunPlace) (r : TamsRequest) (moment : ℕ) (kept : StoreView) (put : PutSeen) (responses : Responses) (seen : List ℕ)
    (size : put.size ≡ length r.body) (holds : HoldsPart kept put put.plan r.body seen) (hashed : HasHashed put.plan put.hasher r.body) where
  full_of : (begun : PutSeen) → IsMediaPlanned p.base kept.library.id r moment kept begun responses → put.plan ≡ begun.plan
      → IsFull p r moment kept put responses seen
  full_of begun is same =
      let with_same : PutSeen = record begun { same = put.same } in
      let reply : put_reply put put.plan ≡ put_reply with_same begun.plan = ap (put_reply put) same ∙ same_reply put with_same begun.plan refl in
      record {
        object = is.object;
        asked = is.asked;
        plan = subst (IsPutPlan (media.journal_of kept) is.object (length r.body) moment) (sym same) (fresh_plan kept is.object (length r.body) moment begun is.fresh);
        extent = subst (HasExtent (media.journal_of kept) is.object (length r.body) moment) (sym same) (fresh_extent kept is.object (length r.body) moment begun is.fresh);
        response =
            subst (λ (x : Reply). response_by responses x ≡ response_to (context_of kept.library.id p.base r) x) (sym reply) (is.response_is put.same);
        size = size;
        holds = holds;
        hashed = hashed;
      }

  full_by : (begun : Option PutSeen) → MediaAnswers p.base r moment kept begun responses → plan_of (Some put) ≡ plan_of begun
      → IsFull p r moment kept put responses seen
  full_by None answers same = let no : Some put.plan ≡ None = same in absurd cc
  full_by (Some begun) answers same = full_of begun answers (let both : Some put.plan ≡ Some begun.plan = same in cc)

pub full_put : (p : RunPlace) (r : TamsRequest) (moment : ℕ) (kept : StoreView) (put : PutSeen) (responses : Responses) (seen : List ℕ)
    → IsPutting p r moment kept (Some put) responses seen → IsFull p r moment kept put responses seen
full_put p r moment kept put responses seen is = full_by p r moment kept put responses seen is.size is.holds is.hashed is.begun is.answers is.plan

-- ---- the machine's reply

module _ (p : RunPlace) (r : TamsRequest) (moment : ℕ) (store : StoreSeen) (d : Device) (keeps : KeepsState store d p.state) where
  library_is : p.state.archive.library ≡ store.kept.library
  library_is = ap (λ (s : StoreState). s.archive.library) keeps.state

  -- what is asked of the state that is kept
  asked_here : (answer : Result Ask Refusal) → ((held : List (List ℕ)) → asked_in (kept_state store.kept held) r ≡ answer) → asked_in p.state r ≡ answer
  asked_here answer asked = ap (λ (s : StoreState). asked_in s r) keeps.state ∙ asked p.state.archive.held

  -- a response over the store is the machine's
  response_here : (response : List ℕ) (reply : Reply) → response ≡ response_to (context_of store.kept.library.id p.base r) reply
      → response ≡ response_to (context_of p.state.archive.library.id p.base r) reply
  response_here response reply is = is ∙ ap (λ (l : Library). response_to (context_of l.id p.base r) reply) (sym library_is)

  -- It asks for nothing.
  pub no_put_reply : (response : List ℕ) → IsMediaRefused p.base store.kept.library.id r store.kept response → IsMachineReply p r moment (response ++ []) []
  no_put_reply response refused =
      let asked = asked_here (Err refused.why) refused.asked in
      let reply = replies.Refused refused.why in
      reply_is p r moment (unchanged reply) response (ap (outcome_by p.state r.body moment) asked) (response_here response reply refused.response_is)
      (λ any. ap (λ a. object_bytes p.state.archive a any) asked)

  -- and nothing is handed on.
  pub no_put_handed : (response : List ℕ) → IsMediaRefused p.base store.kept.library.id r store.kept response → answer_handed r moment p.state ≡ 0
  no_put_handed response refused =
      ap (λ asked. handed_if p.state (outcome_by p.state r.body moment asked).change) (asked_here (Err refused.why) refused.asked)

  module _ (put : PutSeen) (responses : Responses) (full : IsFull p r moment store.kept put responses d.seen) where
    abbrev journal : State
    journal = media.journal_of store.kept

    -- what the bytes make of the library, apart from the room of the journal
    abbrev answered : Outcome
    answered = answer_to p.state.archive (puts full.object r.body) moment

    abbrev response : List ℕ
    response = response_by responses (put_reply put put.plan)

    asks_put : asked_in p.state r ≡ Ok (PutMedia full.object)
    asks_put = asked_here (Ok (PutMedia full.object)) full.asked

    outcome_is : outcome_of p.state r moment ≡ fitted journal answered
    outcome_is = ap (outcome_by p.state r.body moment) asks_put ∙ ap (λ j. fitted j answered) (journal_is store d p.state keeps)

    plans : PlansPut journal p.state.archive full.object r.body moment put.plan
    plans = full.plan p.state.archive r.body library_is refl

    put_reply_is : (o : Outcome) → outcome_of p.state r moment ≡ o → put_reply put put.plan ≡ o.reply
        → IsMachineReply p r moment (response ++ []) (option_to_list (option_map (λ c. state_with_change p.state c r.body) o.change))
    put_reply_is o is same =
        reply_is p r moment o response is
        (response_here response o.reply (full.response ∙ ap (response_to (context_of store.kept.library.id p.base r)) same))
        (λ any. ap (λ a. object_bytes p.state.archive a any) asks_put)

    -- They are refused.
    refused_is : (why : Refusal) → put.plan ≡ Refused why → outcome_of p.state r moment ≡ unchanged (replies.Refused why)
    refused_is why is = outcome_is ∙ subst (PlansPut journal p.state.archive full.object r.body moment) is plans

    pub refused_reply : (why : Refusal) → put.plan ≡ Refused why → IsMachineReply p r moment (response ++ []) []
    refused_reply why is = put_reply_is (unchanged (replies.Refused why)) (refused_is why is) (ap (put_reply put) is)

    pub refused_handed : (why : Refusal) → put.plan ≡ Refused why → answer_handed r moment p.state ≡ 0
    refused_handed why is = ap (λ (o : Outcome). handed_if p.state o.change) (refused_is why is)

    -- The object has bytes, with which they were compared.
    module _ (extent : Extent) (is : put.plan ≡ Kept extent)
        (has : held_in d.seen (media_start store.kept.journal.half) p.state.archive.library.objects ≡ p.state.archive.held)
        (good : is_good p.state) where
      abbrev bytes : List ℕ
      bytes = laws.bytes_in p.state.archive full.object

      at : IsStoredAt p.state.archive.library.objects full.object extent
      at = subst (λ (l : Library). IsStoredAt l.objects full.object extent) (sym library_is)
          (subst (HasExtent journal full.object (length r.body) moment) is full.extent)

      bytes_are : bytes ≡ bytes_at_extent store.kept extent d.seen
      bytes_are = stored_bytes d.seen (media_start store.kept.journal.half) p.state.archive.library.objects p.state.archive.held full.object extent has at

      same_is : put.same ≡ bytes_eq bytes r.body
      same_is =
          subst (λ plan. HoldsPart store.kept put plan r.body d.seen) is full.holds
          ∙ ap (λ n. (n == put.size) && bytes_eq (take (length r.body) (bytes_at_extent store.kept extent d.seen)) r.body)
          (sym (stored_length p.state.archive full.object extent good at))
          ∙ ap (λ b. (length bytes == put.size) && bytes_eq (take (length r.body) b) r.body) (sym bytes_are) ∙ compared put.size bytes r.body full.size

      kept_is : outcome_of p.state r moment ≡ stored_put put.same
      kept_is =
          outcome_is
          ∙ ap (fitted journal) (subst (PlansPut journal p.state.archive full.object r.body moment) is plans ∙ ap stored_put (sym same_is))

      pub kept_reply : IsMachineReply p r moment (response ++ []) []
      kept_reply = put_reply_is (stored_put put.same) kept_is (ap (put_reply put) is)

      pub kept_handed : answer_handed r moment p.state ≡ 0
      kept_handed = ap (λ (o : Outcome). handed_if p.state o.change) kept_is ∙ no_change put.same
        where
          no_change : (same : Bool) → handed_if p.state (stored_put same).change ≡ 0
          no_change true = refl
          no_change false = refl

    -- They were written.
    module _ (extent : Extent) (plan : StorePlan) (is : put.plan ≡ Write extent plan) where
      -- the digest of the bytes that came
      abbrev digest : Digest
      digest = digest_of r.body

      abbrev pub change : Change
      change = changes.Store moment full.object extent.start extent.length (Some digest)

      abbrev planned : Planned
      planned = planned_with digest plan

      pub takes : TakesExtent journal full.object (length r.body) moment extent plan
      takes = subst (HasExtent journal full.object (length r.body) moment) is full.extent

      pub write_makes : MakesChange journal change planned
      write_makes = takes.makes digest (digests_have_halves r.body)

      plan_is : IsPlanOf journal answered planned
      plan_is = subst (PlansPut journal p.state.archive full.object r.body moment) is plans

      -- the answer where the least free place is the extent's
      abbrev answered_at : Option ℕ → Outcome
      answered_at start =
          put_answer_by (object_of full.object p.state.archive.library.objects) (placed_put start full.object r.body moment)
          (stored_put (bytes_eq (laws.bytes_in p.state.archive full.object) r.body))

      answered_is : answered ≡ answered_at (Some extent.start)
      answered_is = ap answered_at (ap (λ (l : Library). free_place l.objects l.blocks (blocks_of (length r.body))) library_is ∙ takes.least)

      there : (fitted journal answered).change ≢ None
      there =
          step_there journal (fitted journal answered).change planned plan_is.step
          (λ none. let no : Some write_makes.payload ≡ None = sym write_makes.frame ∙ none in absurd cc)

      change_is : (fitted journal answered).change ≡ Some change
      change_is =
          ap (λ (o : Outcome). (fitted journal o).change) answered_is
          ∙ put_change journal (object_of full.object p.state.archive.library.objects) (bytes_eq (laws.bytes_in p.state.archive full.object) r.body)
          full.object r.body moment extent.start (subst (λ (o : Outcome). (fitted journal o).change ≢ None) answered_is there)
          ∙ ap (λ n. Some (changes.Store moment full.object extent.start n (Some digest))) (sym takes.sized)

      -- the machine's change
      pub changes_so : (answer_in p.base r moment p.state).change ≡ Some (state_with_change p.state change r.body)
      changes_so =
          ap (λ (o : Outcome). option_map (λ c. state_with_change p.state c r.body) o.change) outcome_is
          ∙ ap (option_map (λ c. state_with_change p.state c r.body)) change_is

      pub write_reply : IsMachineReply p r moment (response ++ []) (state_with_change p.state change r.body ∷ [])
      write_reply =
          subst (λ c. IsMachineReply p r moment (response ++ []) (option_to_list (option_map (λ x. state_with_change p.state x r.body) c))) change_is
          (put_reply_is (fitted journal answered) outcome_is (ap (put_reply put) is ∙ plan_is.reply))

      -- its bytes are those of the request, and those of its plan
      pub write_handed : answer_handed r moment p.state ≡ length r.body + written_bytes plan.rows plan.frame
      write_handed =
          let made : answer_handed r moment p.state ≡ change_handed p.state change =
          ap (λ (o : Outcome). handed_if p.state o.change) outcome_is ∙ ap (handed_if p.state) change_is in
          let bytes = planned_bytes store.kept change planned write_makes in
          let sized = takes_handed plan digest takes.takes in
          let same = ap (λ j. bytes_of_change j change) (journal_is store d p.state keeps) in
          omega (arith, made, bytes, sized, same, takes.sized)

      -- a read gives the bytes of the request
      pub came_is : bytes_at_extent store.kept extent d.seen ≡ r.body
      came_is =
          let few = length-take_most extent.length (drop (extent_start (media_start store.kept.journal.half) extent) d.seen) in
          sym (take_all (length r.body) (bytes_at_extent store.kept extent d.seen) (omega (arith, takes.sized, few)))
          ∙ subst (λ plan. HoldsPart store.kept put plan r.body d.seen) is full.holds

      fits_here : fits_bytes change r.body ≡ true
      fits_here = eq-eqb (length r.body) extent.length (sym takes.sized)

      -- the state behind it is good
      pub write_good : is_good p.state → is_good (state_with_change p.state change r.body)
      write_good good =
          made_good p.state.archive change r.body planned.next.library good (applied_here store d p.state keeps change planned write_makes) fits_here
