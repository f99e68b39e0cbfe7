-- The responses to what a put may be answered, and that they can be printed.
use Rattle.std.proofs.Common.{◌≡◌, ◌∙◌, ℕ, Bool, true, false, List, [], refl, sym, ap, replicate}
use Rattle.std.proofs.lemmas.List.{length-replicate}
use Rattle.change_codec.specs.Fitting.{State}
use Rattle.json_replies.specs.Texts.{has_reply_texts}
use Rattle.media_rows.specs.declared.refusal.Refusal.TheVariants.{OtherBytes}
use Rattle.media_rows.specs.declared.reply.Reply.{Reply}
use Rattle.media_rows.specs.declared.reply.Reply.TheVariants as replies
use Rattle.media_rows.specs.Answer.{Outcome, stored_put}
use Rattle.media_rows.specs.Media.{Archive, answer_to, puts}
use Rattle.store_plans.specs.declared.puts.PutPlan.{PutPlan}
use Rattle.store_plans.specs.declared.puts.PutPlan.TheVariants.{Refused, Kept, Write}
use Rattle.store_plans.specs.Plans.{IsPutPlan}
use Rattle.media_store.specs.Puts.{IsPlannedPut, put_reply}
use Rattle.media_store.specs.Stores.{PutSeen, journal_of}
use Rattle.media_store.proofs.PutFacts.{fresh_plan}
use Rattle.reply_laws.specs.Replies.{FittedHaveTexts, MediaAnswersHaveTexts}
use Rattle.tams_http.specs.Answered.{Context, response_to}
use Rattle.tams_answers.specs.Media.{response_by}
use Rattle.tams_answers.specs.Within.{HasResponses}
use Rattle.tams_answers.specs.declared.media.Responses.{Responses}

by_reply : (responses : Responses) (context : Context) (reply : Reply) → responses.reply ≡ response_to context reply
    → responses.other ≡ response_to context (replies.Refused OtherBytes) → response_by responses reply ≡ response_to context reply
by_reply responses context (replies.Refused OtherBytes) one other = other
by_reply responses context reply one other = one

by_same : (responses : Responses) (context : Context) (same : Bool) → responses.reply ≡ response_to context replies.Done
    → responses.other ≡ response_to context (replies.Refused OtherBytes)
    → response_by responses (stored_put same).reply ≡ response_to context (stored_put same).reply
by_same responses context true one other = one
by_same responses context false one other = other

responses_by : (responses : Responses) (context : Context) (put : PutSeen) (plan : PutPlan) (same : Bool)
    → responses.reply ≡ response_to context (put_reply (record put { same = true }) plan)
    → responses.other ≡ response_to context (replies.Refused OtherBytes)
    → response_by responses (put_reply (record put { same = same }) plan) ≡ response_to context (put_reply (record put { same = same }) plan)
responses_by responses context put (Refused why) same one other = by_reply responses context (replies.Refused why) one other
responses_by responses context put (Kept extent) same one other = by_same responses context same one other
responses_by responses context put (Write extent plan) same one other = by_reply responses context plan.prepared.reply one other

pub has_responses : (responses : Responses) (context : Context) (put : PutSeen)
    → responses.reply ≡ response_to context (put_reply (record put { same = true }) put.plan)
    → responses.other ≡ response_to context (replies.Refused OtherBytes) → HasResponses context put responses
has_responses responses context put one other same = responses_by responses context put put.plan same one other

texts_by : MediaAnswersHaveTexts → FittedHaveTexts → (journal : State) (object : List ℕ) (size moment : ℕ) (put : PutSeen) (plan : PutPlan)
    → IsPutPlan journal object size moment plan → has_reply_texts (put_reply (record put { same = true }) plan) ≡ true
texts_by have fits journal object size moment put (Refused why) is =
    let archive : Archive = record { library = journal.library; held = [] } in
    let bytes = replicate size 0 in
    let outcome = answer_to archive (puts object bytes) moment in
    ap (λ (o : Outcome). has_reply_texts o.reply) (sym (is archive bytes refl (length-replicate size 0)))
    ∙ fits journal outcome (have.put archive object bytes moment)
texts_by have fits journal object size moment put (Kept extent) is = refl
texts_by have fits journal object size moment put (Write extent plan) is =
    let archive : Archive = record { library = journal.library; held = [] } in
    let bytes = replicate size 0 in
    let outcome = answer_to archive (puts object bytes) moment in
    ap has_reply_texts (is archive bytes refl (length-replicate size 0)).reply ∙ fits journal outcome (have.put archive object bytes moment)

-- what a put that was planned is answered has its texts
pub put_texts : MediaAnswersHaveTexts → FittedHaveTexts → (put : PutSeen) → IsPlannedPut put
    → has_reply_texts (put_reply (record put { same = true }) put.plan) ≡ true
put_texts have fits put is =
    texts_by have fits (journal_of is.kept) is.object put.size is.moment put put.plan
    (fresh_plan is.kept is.object put.size is.moment put is.fresh)
