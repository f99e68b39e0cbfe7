use Rattle.std.proofs.Common.{Some, sym, ◌∙◌}
use Rattle.media_rows.specs.declared.change.Change.TheVariants.{Delivered}
use Rattle.media_store.specs.Stores.{journal_of}
use Rattle.media_store.proofs.Delivering.{none_delivered}
use Rattle.media_store.proofs.store.Store.mark_delivered.Goals as goal

pub returns-in-Some-clause-makes : goal.returns-in-Some-clause-makes
returns-in-Some-clause-makes g c = λ honest shows held agrees.
    let change = Delivered c.args.now c.args.event in
    c.step.ensures.makes honest shows held (Some change) change agrees (rw c.in-Some.is at c.in_ok-planned.ensures.planned)

pub returns-in-Some-clause-next : goal.returns-in-Some-clause-next
returns-in-Some-clause-next g c =
    let change = Delivered c.args.now c.args.event in
    c.step.ensures.next (Some change) change (rw c.in-Some.is at c.in_ok-planned.ensures.planned)

pub returns-in-Some-clause-handed : goal.returns-in-Some-clause-handed
returns-in-Some-clause-handed g c = λ tells.
    let change = Delivered c.args.now c.args.event in
    c.step.ensures.handed tells (Some change) change (rw c.in-Some.is at c.in_ok-planned.ensures.planned)

pub returns-in-Some-clause-handed_at_most : goal.returns-in-Some-clause-handed_at_most
returns-in-Some-clause-handed_at_most g c = λ tells.
    let change = Delivered c.args.now c.args.event in
    c.step.ensures.handed_at_most tells (Some change) change (rw c.in-Some.is at c.in_ok-planned.ensures.planned)
