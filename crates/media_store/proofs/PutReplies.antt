-- What a put is answered: bytes that are stored are answered by Created, and a put has one of four refusals.
use Rattle.std.proofs.Common.{◌≡◌, ◌∙◌, ℕ, Bool, true, false, List, [], Option, Some, None, refl, sym, ap, subst, length, replicate}
use Rattle.std.specs.Prelude.{IfSome, bytes_eq}
use Rattle.std.proofs.lemmas.Bool.{cond_both}
use Rattle.std.proofs.lemmas.List.{length-replicate}
use Rattle.media_rows.specs.declared.change.Change.{Change}
use Rattle.media_rows.specs.declared.object.Extent.{Extent}
use Rattle.media_rows.specs.declared.object.ObjectRow.{ObjectRow}
use Rattle.media_rows.specs.declared.object.ObjectState.{ObjectState}
use Rattle.media_rows.specs.declared.object.ObjectState.TheVariants.{Allocated, Stored}
use Rattle.media_rows.specs.declared.refusal.Refusal.{Refusal}
use Rattle.media_rows.specs.declared.refusal.Refusal.TheVariants.{JournalFull}
use Rattle.media_rows.specs.declared.reply.Reply.{Reply}
use Rattle.media_rows.specs.declared.reply.Reply.TheVariants as replies
use Rattle.media_rows.specs.Answer.{Outcome, unchanged, put_answer_by, put_by_state, placed_put, stored_put}
use Rattle.media_rows.specs.Digests.{digest_of}
use Rattle.media_rows.specs.Media.{Archive, answer_to, puts}
use Rattle.media_rows.specs.Objects.{blocks_of, bytes_of, free_place, object_of}
use Rattle.change_codec.specs.Fitting.{State, fits}
use Rattle.store_states.specs.Fitting.{fitted, fitted_by}
use Rattle.store_plans.specs.declared.outcome.Planned.{Planned}
use Rattle.store_plans.specs.declared.puts.PutPlan.{PutPlan}
use Rattle.store_plans.specs.declared.puts.PutPlan.TheVariants.{Refused, Write}
use Rattle.store_plans.specs.declared.puts.StorePlan.{StorePlan}
use Rattle.store_plans.specs.Plans.{IsPutPlan, MakesStep, planned_with}
use Rattle.media_store.specs.Puts.{IsPlannedPut, put_reply}
use Rattle.media_store.specs.Stores.{PutSeen, journal_of}
use Rattle.media_store.specs.Within.{is_put_refusal}
use Rattle.media_store.proofs.PutFacts.{fresh_plan}

-- a reply that isn't a refusal, or one of those
abbrev may_be : Reply → Bool
may_be (replies.Refused why) = is_put_refusal why
may_be other = true

-- an outcome that a put may have
record MayPut (outcome : Outcome) : Type 0 where
  refused : may_be outcome.reply ≡ true
  made : IfSome outcome.change (λ change. outcome.reply ≡ replies.Created)

placed : (place : Option ℕ) (object bytes : List ℕ) (moment : ℕ) → MayPut (placed_put place object bytes moment)
placed None object bytes moment = record { refused = refl; made = tt }
placed (Some start) object bytes moment = record { refused = refl; made = refl }

again : (same : Bool) → MayPut (stored_put same)
again true = record { refused = refl; made = tt }
again false = record { refused = refl; made = tt }

by_state : (state : ObjectState) (first second : Outcome) → MayPut first → MayPut second → MayPut (put_by_state state first second)
by_state Allocated first second h k = h
by_state (Stored start size digest) first second h k = k

by_row : (row : Option ObjectRow) (first second : Outcome) → MayPut first → MayPut second → MayPut (put_answer_by row first second)
by_row None first second h k = record { refused = refl; made = tt }
by_row (Some row) first second h k = by_state row.state first second h k

by_change : (journal : State) (outcome : Outcome) (change : Option Change) → MayPut outcome → MayPut (fitted_by journal outcome change)
by_change journal outcome None h = h
by_change journal outcome (Some change) h =
    cond_both (fits journal change) outcome (unchanged (replies.Refused JournalFull)) MayPut (λ _. h) (λ _. record { refused = refl; made = tt })

may_put : (journal : State) (archive : Archive) (object bytes : List ℕ) (moment : ℕ)
    → MayPut (fitted journal (answer_to archive (puts object bytes) moment))
may_put journal archive object bytes moment =
    let outcome = answer_to archive (puts object bytes) moment in
    by_change journal outcome outcome.change
    (by_row (object_of object archive.library.objects) _ _
    (placed (free_place archive.library.objects archive.library.blocks (blocks_of (length bytes))) object bytes moment)
    (again (bytes_eq (bytes_of object archive.library.objects archive.held) bytes)))

-- ---- by plan

-- the library of a journal, with no bytes
without_bytes : State → Archive
without_bytes journal = record { library = journal.library; held = [] }

refusal_of_put : (journal : State) (object : List ℕ) (size moment : ℕ) (why : Refusal) → IsPutPlan journal object size moment (Refused why)
    → is_put_refusal why ≡ true
unfolding without_bytes
refusal_of_put journal object size moment why is =
    let bytes = replicate size 0 in
    sym (ap (λ (o : Outcome). may_be o.reply) (is (without_bytes journal) bytes refl (length-replicate size 0)))
    ∙ (may_put journal (without_bytes journal) object bytes moment).refused

-- a change that is made is answered by Created
made_reply : (journal : State) (change : Option Change) (reply : Reply) (planned : Planned) (payload : List ℕ) → MakesStep journal change planned
    → planned.frame ≡ Some payload → IfSome change (λ _. reply ≡ replies.Created) → reply ≡ replies.Created
made_reply journal None reply planned payload step frame made = let none = step.frame in absurd cc
made_reply journal (Some change) reply planned payload step frame made = made

reply_of_put : (journal : State) (object : List ℕ) (size moment : ℕ) (extent : Extent) (plan : StorePlan)
    → IsPutPlan journal object size moment (Write extent plan) → plan.prepared.reply ≡ replies.Created
unfolding without_bytes
reply_of_put journal object size moment extent plan is =
    let bytes = replicate size 0 in
    let planned = planned_with (digest_of bytes) plan in
    let made = is (without_bytes journal) bytes refl (length-replicate size 0) in
    let outcome = fitted journal (answer_to (without_bytes journal) (puts object bytes) moment) in
    made.reply
    ∙ made_reply journal outcome.change outcome.reply planned _ made.step refl (may_put journal (without_bytes journal) object bytes moment).made

-- ---- of a put that was planned

pub planned_refusal : (put : PutSeen) (why : Refusal) → IsPlannedPut put → put.plan ≡ Refused why → is_put_refusal why ≡ true
planned_refusal put why is at =
    refusal_of_put (journal_of is.kept) is.object put.size is.moment why
    (subst (IsPutPlan (journal_of is.kept) is.object put.size is.moment) at (fresh_plan is.kept is.object put.size is.moment put is.fresh))

pub planned_write : (put : PutSeen) (extent : Extent) (plan : StorePlan) → IsPlannedPut put → put.plan ≡ Write extent plan
    → replies.Created ≡ put_reply (record put { same = true }) put.plan
planned_write put extent plan is at =
    let journal = journal_of is.kept in
    let reply = reply_of_put journal is.object put.size is.moment extent plan
    (subst (IsPutPlan journal is.object put.size is.moment) at (fresh_plan is.kept is.object put.size is.moment put is.fresh)) in
    subst (λ (p : PutPlan). replies.Created ≡ put_reply (record put { same = true }) p) (sym at) (sym reply)
