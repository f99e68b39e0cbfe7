use Rattle.std.proofs.Common.{ap, sym, ◌∙◌}
use Rattle.delete_work.specs.Work.{released_by}
use Rattle.delete_work.specs.Within.Seeking.{without_starts}
use Rattle.delete_work.proofs.Stepping.{IsFor, index_is, own_removed, references_removed, some_due}
use Rattle.delete_work.proofs.book.DeleteBook.step.Goals as goal

-- a request is due
pub unreachable-requires : goal.unreachable-requires
unreachable-requires c = absurd (some_due _ c.requires.due c.in_default.ensures)

-- the segments that go are of its flow
pub objects_without-requires-clause-flow : goal.objects_without-requires-clause-flow
objects_without-requires-clause-flow c =
    let due = sym c.in-Some.ensures in
    let fits : IsFor c.in-Some.request.now c.args.index.now = record {
      own = c.requires.flow c.in-Some.request.now due;
      up = c.is_in_order.ensures.starts;
      bounded = c.is_in_order.ensures.bounded;
    } in
    own_removed fits _ (c.items-rows.ensures ∙ c.in_ok-step.ensures.removed c.in-Some.request.now due)

-- and the objects have their references
pub objects_without-requires-clause-references : goal.objects_without-requires-clause-references
objects_without-requires-clause-references c =
    let due = sym c.in-Some.ensures in
    let fits : IsFor c.in-Some.request.now c.args.index.now = record {
      own = c.requires.flow c.in-Some.request.now due;
      up = c.is_in_order.ensures.starts;
      bounded = c.is_in_order.ensures.bounded;
    } in
    references_removed fits c.args.objects.now.kept _ (c.requires.references c.in-Some.request.now due)
    (c.items-rows.ensures ∙ c.in_ok-step.ensures.removed c.in-Some.request.now due)

-- the segments that begin where these do are just these
pub returns-clause-index : goal.returns-clause-index
returns-clause-index c =
    let due = sym c.in-Some.ensures in
    let fits : IsFor c.in-Some.request.now c.args.index.now = record {
      own = c.requires.flow c.in-Some.request.now due;
      up = c.is_in_order.ensures.starts;
      bounded = c.is_in_order.ensures.bounded;
    } in
    c.in_ok-index_without.ensures ∙ ap (λ l. without_starts l c.args.index.now) c.items-rows.ensures
    ∙ index_is fits c.in_ok-step.step.removed (c.in_ok-step.ensures.removed c.in-Some.request.now due)

pub returns-clause-objects : goal.returns-clause-objects
returns-clause-objects c = c.in_ok-objects_without.ensures.book ∙ ap (λ l. released_by c.args.now l c.args.objects.now.kept) c.items-rows.ensures
