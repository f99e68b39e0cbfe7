-- A store keeps its id over the changes that it makes.
use Rattle.std.proofs.Common.{◌≡◌, ℕ, List, Option, None, Some, refl, sym, ap, ◌∙◌, subst}
use Rattle.std.specs.Prelude.{IfSome}
use Rattle.library_laws.proofs.ChangeFacts.{store_stays}
use Rattle.media_rows.specs.declared.change.Change.{Change}
use Rattle.media_rows.specs.declared.change.Change.TheVariants as changes
use Rattle.media_rows.specs.Digests.{digest_of}
use Rattle.change_codec.specs.Fitting.{State}
use Rattle.change_codec.proofs.DigestLemmas.{digests_have_halves}
use Rattle.media_store.specs.Changes.{IsNextIf, kept_by, kept_with}
use Rattle.media_store.specs.Puts.{kept_after_put, plan_of}
use Rattle.media_store.specs.Stores.{PutSeen}
use Rattle.media_store.specs.Stores as media
use Rattle.media_store.proofs.Planning.{planned_next}
use Rattle.store_plans.specs.declared.outcome.Planned.{Planned}
use Rattle.store_plans.specs.declared.puts.PutPlan.{PutPlan}
use Rattle.store_plans.specs.declared.puts.PutPlan.TheVariants.{Refused, Kept, Write}
use Rattle.store_plans.specs.Plans.{HasExtent, MakesStep, planned_with}
use Rattle.store_states.specs.Kept.{StoreView}
use Rattle.tams_service.specs.Answering.{EndKeepsId, PlanKeepsId}

-- over a turn
pub next_id : (kept : StoreView) (change : Option Change) (next : StoreView) → IsNextIf kept change next → next.library.id ≡ kept.library.id
next_id kept None next same = ap (λ (k : StoreView). k.library.id) same
next_id kept (Some change) next is = ap (λ (j : State). j.library.id) is.journal ∙ (store_stays kept.library change).id

-- over a plan
pub planned_id : (kept : StoreView) (change : Option Change) (planned : Planned) → MakesStep (media.journal_of kept) change planned
    → PlanKeepsId kept planned
planned_id kept None planned step = ap (λ frame. (kept_with kept planned frame).library.id) step.frame
planned_id kept (Some change) planned step = next_id kept (Some change) (kept_by kept planned) (planned_next kept change planned step)

-- over a put
pub keeps_id : (kept : StoreView) (object : List ℕ) (size moment : ℕ) (plan : PutPlan) → HasExtent (media.journal_of kept) object size moment plan
    → (came : List ℕ) → (kept_after_put kept plan (digest_of came)).library.id ≡ kept.library.id
keeps_id kept object size moment (Refused why) has came = refl
keeps_id kept object size moment (Kept extent) has came = refl
keeps_id kept object size moment (Write extent plan) has came =
    planned_id kept (Some (changes.Store moment object extent.start extent.length (Some (digest_of came)))) (planned_with (digest_of came) plan)
    (has.makes (digest_of came) (digests_have_halves came))

-- so it is of each put with its plan
pub id_with : (kept : StoreView) (put begun : Option PutSeen) → plan_of put ≡ plan_of begun → IfSome begun (EndKeepsId kept) → IfSome put (EndKeepsId kept)
id_with kept None begun same is = tt
id_with kept (Some put) None same is = let no : Some put.plan ≡ None = same in absurd cc
id_with kept (Some put) (Some begun) same is =
    let plans : Some put.plan ≡ Some begun.plan = same in
    let plan : put.plan ≡ begun.plan = cc in
    subst (λ (x : PutPlan). (came : List ℕ) → (kept_after_put kept x (digest_of came)).library.id ≡ kept.library.id) (sym plan) is
