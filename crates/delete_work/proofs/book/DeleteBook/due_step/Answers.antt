use Rattle.std.proofs.Common.{◌≡◌, sym}
use Rattle.media_rows.specs.Requests.{after_step, is_finished_by_step, removed_by_step}
use Rattle.delete_work.proofs.Stepping.{due_is, some_due}
use Rattle.delete_work.proofs.book.DeleteBook.due_step.Goals as goal

-- a request is due
pub unreachable-requires : goal.unreachable-requires
unreachable-requires c = absurd (some_due _ c.requires.due c.in_default.ensures)

pub step_rows-requires : goal.step_rows-requires
step_rows-requires c = record { flow = c.requires.flow c.in-Some.request.now (sym c.in-Some.ensures) }

pub stepped-requires : goal.stepped-requires
stepped-requires c = record { due = sym c.in-Some.ensures }

pub returns-clause-removed : goal.returns-clause-removed
returns-clause-removed c =
    due_is c.args.self.now (λ request. c.in_ok-rows.rows.removed ≡ removed_by_step c.args.index.now request) c.in-Some.request.now
    (sym c.in-Some.ensures) c.in_ok-rows.ensures.removed

pub returns-clause-finished : goal.returns-clause-finished
returns-clause-finished c =
    due_is c.args.self.now (λ request. c.in_ok-rows.rows.finished ≡ is_finished_by_step c.args.index.now request) c.in-Some.request.now
    (sym c.in-Some.ensures) c.in_ok-rows.ensures.finished

pub returns-clause-book : goal.returns-clause-book
returns-clause-book c =
    due_is c.args.self.now (λ request. c.in_ok-stepped.field-0 ≡ after_step request.serial _ c.args.now c.args.self.now) c.in-Some.request.now
    (sym c.in-Some.ensures) c.in_ok-stepped.ensures
