-- The plan of a media PUT, with its responses, is the machine's answer, whatever the bytes will be.
use Rattle.std.proofs.Common.{◌≡◌, ◌∙◌, ℕ, true, List, [], Option, Result, Ok, Err, refl, sym, ap, ap₂, subst}
use Rattle.std.specs.Prelude.{IfOk}
use Rattle.http_wire.specs.Framing.{method_kind}
use Rattle.http_wire.specs.declared.head.MethodKind.{MethodKind}
use Rattle.http_wire.specs.declared.head.MethodKind.TheVariants.{Put}
use Rattle.json_bodies.specs.Answers.{Answers as Found}
use Rattle.json_bodies.specs.declared.fault.BodyFault.{BodyFault}
use Rattle.json_bodies.specs.declared.fault.BodyFault.TheVariants as bodies
use Rattle.json_replies.specs.Texts.{has_refusal_texts}
use Rattle.media_rows.specs.declared.refusal.Refusal.{Refusal}
use Rattle.media_rows.specs.declared.refusal.Refusal.TheVariants.{NoMethod}
use Rattle.media_rows.specs.declared.reply.Reply.TheVariants as replies
use Rattle.store_states.specs.Kept.{StoreView}
use Rattle.media_store.specs.Puts.{IsFreshPut, put_reply}
use Rattle.media_store.specs.Stores.{PutSeen}
use Rattle.reply_laws.specs.MediaPuts.{IsPutOrRefusal, MediaPutsAsk}
use Rattle.tams_http.specs.Answered.{Context, response_to}
use Rattle.tams_http.specs.Asked.{ask_of}
use Rattle.tams_http.specs.declared.ask.Ask.{Ask}
use Rattle.tams_http.specs.declared.ask.Ask.TheVariants.{GetMedia, PutMedia, Run}
use Rattle.tams_machine.specs.Requests.{TamsRequest, context_of}
use Rattle.tams_answers.specs.Media.{IsMediaSent, MediaAnswers, MediaSent}
use Rattle.tams_answers.specs.Within.{IsPlannedWith, IsRefusedPlan, object_asked, put_context}
use Rattle.tams_answers.specs.declared.media.MediaPlan.{MediaPlan}
use Rattle.tams_answers.specs.declared.media.Responses.{Responses}

-- ---- what a media PUT asks for

-- the same whatever its body is
same_asked : MediaPutsAsk → (store : ℕ) (sent : MediaSent) (r : TamsRequest) → IsMediaSent sent r
    → ask_of store (method_kind r.head.method) r.head.target r.body ≡ ask_of store Put sent.target []
same_asked law store sent r is =
    let asks = law store r.head.method r.head.target is.media in
    asks.same r.body ∙ sym (asks.same []) ∙ ap₂ (λ (k : MethodKind) (t : List ℕ). ask_of store k t []) asks.kind is.target

-- and it is a put of an object's bytes, or a refusal
put_or_refusal : MediaPutsAsk → (store : ℕ) (sent : MediaSent) (r : TamsRequest) → IsMediaSent sent r → IsPutOrRefusal (ask_of store Put sent.target [])
put_or_refusal law store sent r is =
    let asks = law store r.head.method r.head.target is.media in
    subst IsPutOrRefusal (sym (asks.same r.body) ∙ same_asked law store sent r is) asks.is

same_context : MediaPutsAsk → (store : ℕ) (base : List ℕ) (sent : MediaSent) (r : TamsRequest) → IsMediaSent sent r
    → context_of store base r ≡ put_context store base sent.target sent.ends
same_context law store base sent r is =
    let kind = (law store r.head.method r.head.target is.media).kind in rw (kind, is.target, is.ends) refl

-- ---- plans

pub refused_is : MediaPutsAsk → (base : List ℕ) (kept : StoreView) (moment : ℕ) (sent : MediaSent) (why : Refusal) (put : Option PutSeen)
    (responses : Responses) → (IsPutOrRefusal (ask_of kept.library.id Put sent.target []) → ask_of kept.library.id Put sent.target [] ≡ Err why)
    → IsRefusedPlan (put_context kept.library.id base sent.target sent.ends) why put responses
    → (r : TamsRequest) → IsMediaSent sent r → MediaAnswers base r moment kept put responses
refused_is law base kept moment sent why put responses asked plan r is =
    let store = kept.library.id in
    subst (λ (p : Option PutSeen). MediaAnswers base r moment kept p responses) (sym plan.none) (record {
      why = why;
      asked = λ held. same_asked law store sent r is ∙ asked (put_or_refusal law store sent r is);
      response_is = plan.response_is ∙ ap (λ (c : Context). response_to c (replies.Refused why)) (sym (same_context law store base sent r is));
    })

pub planned_is : MediaPutsAsk → (base : List ℕ) (kept : StoreView) (moment : ℕ) (sent : MediaSent) (object : List ℕ) (put : Option PutSeen)
    (responses : Responses) → ask_of kept.library.id Put sent.target [] ≡ Ok (PutMedia object)
    → IsPlannedWith (put_context kept.library.id base sent.target sent.ends) kept object sent.size moment put responses
    → (r : TamsRequest) → IsMediaSent sent r → MediaAnswers base r moment kept put responses
planned_is law base kept moment sent object put responses asked plan r is =
    let store = kept.library.id in
    subst (λ (p : Option PutSeen). MediaAnswers base r moment kept p responses) (sym plan.some) (record {
      object = object;
      asked = λ held. same_asked law store sent r is ∙ asked;
      fresh = subst (λ (n : ℕ). IsFreshPut kept object n moment plan.seen) (sym is.size) plan.fresh;
      response_is = λ same. plan.has same
          ∙ ap (λ (c : Context). response_to c (put_reply (record plan.seen { same = same }) plan.seen.plan)) (sym (same_context law store base sent r is));
    })

-- ---- by what was found

pub object_found : (found : Result Ask Refusal) (asked : Result Ask BodyFault) (object : List ℕ) → Found found asked → object_asked asked ≡ Ok object
    → found ≡ Ok (PutMedia object)
object_found found (Ok (Run command)) object is e = absurd cc
object_found found (Ok (PutMedia other)) object is e = let same : other ≡ object = cc in is ∙ ap (λ (o : List ℕ). Ok (PutMedia o)) same
object_found found (Ok (GetMedia other)) object is e = absurd cc
object_found found (Err fault) object is e = absurd cc

pub refusal_found : (found : Result Ask Refusal) (asked : Result Ask BodyFault) (why : Refusal) → Found found asked
    → object_asked asked ≡ Err (bodies.Refused why) → IsPutOrRefusal found → found ≡ Err why
refusal_found found (Ok (Run command)) why is e put = absurd (subst IsPutOrRefusal is put)
refusal_found found (Ok (PutMedia object)) why is e put = absurd cc
refusal_found found (Ok (GetMedia object)) why is e put = absurd (subst IsPutOrRefusal is put)
refusal_found found (Err (bodies.Refused other)) why is e put = let same : other ≡ why = cc in is ∙ ap (λ (w : Refusal). Err w) same
refusal_found found (Err bodies.Memory) why is e put = absurd cc

-- the refusal has its texts
pub refusal_texts : (found : Result Ask Refusal) (asked : Result Ask BodyFault) (why : Refusal)
    → ((other : Refusal) → found ≡ Err other → has_refusal_texts other ≡ true) → Found found asked → object_asked asked ≡ Err (bodies.Refused why)
    → has_refusal_texts why ≡ true
refusal_texts found (Ok (Run command)) why texts is e = let same : NoMethod ≡ why = cc in ap has_refusal_texts (sym same)
refusal_texts found (Ok (PutMedia object)) why texts is e = absurd cc
refusal_texts found (Ok (GetMedia object)) why texts is e = let same : NoMethod ≡ why = cc in ap has_refusal_texts (sym same)
refusal_texts found (Err (bodies.Refused other)) why texts is e = let same : other ≡ why = cc in texts why (is ∙ ap (λ (w : Refusal). Err w) same)
refusal_texts found (Err bodies.Memory) why texts is e = absurd cc

-- ---- by what was planned

pub as_planned : {E : Type 0} → MediaPutsAsk → (base : List ℕ) (kept : StoreView) (moment : ℕ) (sent : MediaSent) (object : List ℕ) (store : ℕ)
    → store ≡ kept.library.id → (result : Result MediaPlan E) → ask_of store Put sent.target [] ≡ Ok (PutMedia object)
    → IfOk result (λ plan. IsPlannedWith (put_context store base sent.target sent.ends) kept object sent.size moment plan.put plan.responses)
    → IfOk result (λ plan. (r : TamsRequest) → IsMediaSent sent r → MediaAnswers base r moment kept plan.put plan.responses)
as_planned law base kept moment sent object store same (Ok plan) asked planned =
    planned_is law base kept moment sent object plan.put plan.responses (subst (λ (s : ℕ). ask_of s Put sent.target [] ≡ Ok (PutMedia object)) same asked)
    (subst (λ (s : ℕ). IsPlannedWith (put_context s base sent.target sent.ends) kept object sent.size moment plan.put plan.responses) same planned)
as_planned law base kept moment sent object store same (Err e) asked planned = tt

pub as_refused : {E : Type 0} → MediaPutsAsk → (base : List ℕ) (kept : StoreView) (moment : ℕ) (sent : MediaSent) (why : Refusal) (store : ℕ)
    → store ≡ kept.library.id → (result : Result MediaPlan E)
    → (IsPutOrRefusal (ask_of store Put sent.target []) → ask_of store Put sent.target [] ≡ Err why)
    → IfOk result (λ plan. IsRefusedPlan (put_context store base sent.target sent.ends) why plan.put plan.responses)
    → IfOk result (λ plan. (r : TamsRequest) → IsMediaSent sent r → MediaAnswers base r moment kept plan.put plan.responses)
as_refused law base kept moment sent why store same (Ok plan) asked refused =
    refused_is law base kept moment sent why plan.put plan.responses
    (subst (λ (s : ℕ). IsPutOrRefusal (ask_of s Put sent.target []) → ask_of s Put sent.target [] ≡ Err why) same asked)
    (subst (λ (s : ℕ). IsRefusedPlan (put_context s base sent.target sent.ends) why plan.put plan.responses) same refused)
as_refused law base kept moment sent why store same (Err e) asked refused = tt
