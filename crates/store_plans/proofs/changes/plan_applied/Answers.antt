use Rattle.std.proofs.Common.{Option, None, Some, subst}
use Rattle.store_plans.specs.declared.room.Recorded.{Recorded}
use Rattle.store_plans.specs.Plans.{journal_in}
use Rattle.store_plans.specs.Within.{IsRecorded}
use Rattle.store_plans.proofs.Applied.{made_change, no_place}
use Rattle.store_plans.proofs.changes.plan_applied.Goals as goal

-- the record has no place
pub returns-in-None-clause-planned : goal.returns-in-None-clause-planned
returns-in-None-clause-planned c =
    let journal = journal_in c.args.core.now.library c.args.journal.now in
    let full = subst (λ (o : Option Recorded). IsRecorded journal c.args.change.now o) c.in-None.is c.in_ok-record_of.ensures.found in
    no_place journal c.args.change.now c.requires.applies full

-- or the plan has it
pub returns-in-Some-clause-planned : goal.returns-in-Some-clause-planned
returns-in-Some-clause-planned c =
    let journal = journal_in c.args.core.now.library c.args.journal.now in
    let has = subst (λ (o : Option Recorded). IsRecorded journal c.args.change.now o) c.in-Some.is c.in_ok-record_of.ensures.found in
    made_change c.applies_is_tested.ensures journal c.args.change.now c.keeps_good.ensures c.requires.applies c.args.next c.requires.next
    c.in-Some.field-0 has
