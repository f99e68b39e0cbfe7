use Rattle.std.proofs.Common.{List, [], ℕ, arith, refl, subst, sym, ◌∙◌}
use Rattle.store_plans.specs.Plans.{HasExtent, IsPutPlan, PutFits}
use Rattle.media_store.specs.Stores.{StoreSeen, journal_of}
use Rattle.media_store.proofs.PutFacts.{hashed_by}
use Rattle.media_store.proofs.store.Store.plan_put.Goals as goal

pub returns : goal.returns
returns c =
    let extent = subst (λ (s : StoreSeen). HasExtent (journal_of s.kept) c.args.object.now c.args.length c.args.now c.in_ok-plan.plan) c.self.view_is
    c.in_ok-plan.ensures.extent in
    let planned = subst (λ (s : StoreSeen). IsPutPlan (journal_of s.kept) c.args.object.now c.args.length c.args.now c.in_ok-plan.plan) c.self.view_is
    c.in_ok-plan.ensures.planned in
    let fits = subst (λ (s : StoreSeen). PutFits s.kept.journal c.in_ok-plan.plan) c.self.view_is c.in_ok-plan.ensures.fits in
    let journal = journal_of c.args.self.now.kept in
    record {
      of_store = record {
        plan = subst (λ (id : List ℕ). IsPutPlan journal id c.args.length c.args.now c.in_ok-plan.plan) (sym c.in_ok-id.ensures) planned;
        extent = subst (λ (id : List ℕ). HasExtent journal id c.args.length c.args.now c.in_ok-plan.plan) (sym c.in_ok-id.ensures) extent;
        fits = fits;
        few = omega arith;
        came = [];
        hashed = hashed_by c.in_ok-plan.plan c.new.result [] c.new.ensures;
        same = λ so. sym c.may_be_same-same.ensures ∙ so;
      };
      object_is = c.in_ok-id.ensures;
      sized = refl;
      moment_is = refl;
      none = refl;
      unhashed = hashed_by c.in_ok-plan.plan c.new.result [] c.new.ensures;
      same = c.may_be_same-same.ensures;
    }
