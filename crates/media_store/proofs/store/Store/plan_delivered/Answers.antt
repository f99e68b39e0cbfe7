use Rattle.std.proofs.Common.{subst, sym, ◌∙◌}
use Rattle.std.proofs.lemmas.Bool.{true≢false}
use Rattle.media_rows.specs.declared.change.Change.TheVariants.{Delivered}
use Rattle.media_rows.specs.Good.{Good}
use Rattle.store_plans.specs.declared.changes.ChangePlan.TheVariants.{Made, Refused}
use Rattle.store_plans.specs.Plans.{ChangeFits, IsChangePlan}
use Rattle.media_store.specs.Stores.{StoreSeen, journal_of}
use Rattle.media_store.proofs.Delivering.{delivery_applies, delivery_ready, made_step}
use Rattle.media_store.proofs.store.Store.plan_delivered.Goals as goal

pub returns-in-Made-clause-planned : goal.returns-in-Made-clause-planned
returns-in-Made-clause-planned c =
    let change = Delivered c.args.now c.args.event in
    made_step (journal_of c.args.self.now.kept) change c.in-Made.planned
    (subst (λ (s : StoreSeen). IsChangePlan (journal_of s.kept) change (Made c.in-Made.planned)) c.self.view_is
    (rw c.in-Made.is at c.in_ok-planned.ensures.planned))

pub returns-in-Made-clause-ready : goal.returns-in-Made-clause-ready
returns-in-Made-clause-ready c =
    let change = Delivered c.args.now c.args.event in
    delivery_ready c.args.self.now.kept c.args.event c.args.now c.in-Made.planned
    (subst (λ (s : StoreSeen). IsChangePlan (journal_of s.kept) change (Made c.in-Made.planned)) c.self.view_is
    (rw c.in-Made.is at c.in_ok-planned.ensures.planned))
    (subst (λ (s : StoreSeen). ChangeFits s.kept.journal (Made c.in-Made.planned)) c.self.view_is
    (rw c.in-Made.is at c.in_ok-planned.ensures.fits))

-- such a change is never refused
pub unreachable-requires : goal.unreachable-requires
unreachable-requires c =
    let change = Delivered c.args.now c.args.event in
    let good = subst (λ (s : StoreSeen). Good s.kept.library) c.self.view_is c.keeps_good.ensures in
    let refused = subst (λ (s : StoreSeen). IsChangePlan (journal_of s.kept) change Refused) c.self.view_is
    (rw c.in-Refused.is at c.in_ok-planned.ensures.planned) in
    absurd (true≢false
    (sym (delivery_applies c.applies_is_tested.ensures c.serials_end.ensures c.args.self.now.kept.library c.args.event c.args.now good c.requires.moment
    c.requires.first) ∙ refused))
