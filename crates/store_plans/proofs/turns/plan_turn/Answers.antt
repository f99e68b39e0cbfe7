use Rattle.std.proofs.Common.{◌≡◌, Some, true, sym, ap, ◌∙◌}
use Rattle.std.specs.Prelude.{is_some, option_map}
use Rattle.media_rows.specs.Apply.{turn}
use Rattle.store_core.specs.Prepared.{preparation, turned}
use Rattle.store_core.proofs.Prepares.{of_any}
use Rattle.store_plans.proofs.Due.{some_due}
use Rattle.store_plans.proofs.turns.plan_turn.Goals as goal

-- where something was prepared, something is due
pub returns-in-Some-clause-due : goal.returns-in-Some-clause-due
returns-in-Some-clause-due c =
    let library = c.args.core.now.library in
    let prepared : turned library c.args.now ≡ Some (preparation c.in-Some.prepared) =
    sym c.in_ok-prepare_turn.ensures.prepared ∙ ap (option_map preparation) c.in-Some.is in
    of_any c.plan_step.result (is_some (turn library c.args.now) ≡ true) (some_due library c.args.now (preparation c.in-Some.prepared) prepared)
