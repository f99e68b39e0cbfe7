use Rattle.std.proofs.Common.{◌≡◌, ℕ, Option, Some, sym, ap, subst, ◌∙◌}
use Rattle.media_rows.specs.declared.object.Extent.{Extent}
use Rattle.media_rows.specs.Objects.{blocks_of, free_place}
use Rattle.store_plans.specs.declared.puts.StorePlan.{StorePlan}
use Rattle.store_plans.specs.Plans.{journal_in}
use Rattle.store_plans.specs.Within.{IsStorePlanned}
use Rattle.store_plans.proofs.Storing.{takes_extent, write_plan}
use Rattle.store_plans.proofs.puts.plan_first.Goals as goal

-- the plan with the digest of the bytes is that of their answer
pub returns-in-Some-2-clause-planned : goal.returns-in-Some-2-clause-planned
returns-in-Some-2-clause-planned c =
    let position = c.args.journal.now in
    let library = c.args.core.now.library in
    let extent : Extent = record { start = c.in-Some.start; length = c.args.length } in
    let place : free_place library.objects library.blocks (blocks_of c.args.length) ≡ Some c.in-Some.start =
    ap (λ (n : ℕ). free_place library.objects library.blocks n) (sym c.blocks_of.ensures) ∙ sym c.place.ensures ∙ c.in-Some.is in
    let plan = subst (λ (o : Option StorePlan). IsStorePlanned position (journal_in library position) c.args.object.now extent c.args.now o) c.in-Some-2.is
    c.in_ok-plan_store.ensures in
    write_plan position library c.args.object.now extent c.args.now c.in-Some-2.planned place plan c.requires.allocated

-- and the bytes take the least free place
pub returns-in-Some-2-clause-extent : goal.returns-in-Some-2-clause-extent
returns-in-Some-2-clause-extent c =
    let position = c.args.journal.now in
    let library = c.args.core.now.library in
    let extent : Extent = record { start = c.in-Some.start; length = c.args.length } in
    let place : free_place library.objects library.blocks (blocks_of c.args.length) ≡ Some c.in-Some.start =
    ap (λ (n : ℕ). free_place library.objects library.blocks n) (sym c.blocks_of.ensures) ∙ sym c.place.ensures ∙ c.in-Some.is in
    let plan = subst (λ (o : Option StorePlan). IsStorePlanned position (journal_in library position) c.args.object.now extent c.args.now o) c.in-Some-2.is
    c.in_ok-plan_store.ensures in
    takes_extent position library c.args.object.now extent c.args.now c.in-Some-2.planned place plan c.places_are_least.ensures
