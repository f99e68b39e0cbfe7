use Rattle.std.proofs.Common.{ap, subst, sym, ◌∙◌}
use Rattle.media_rows.specs.Requests.{first_unfinished, is_finished_by_step, removed_by_step}
use Rattle.delete_work.specs.Work.{AreOfFlow}
use Rattle.delete_work.proofs.Theorems.{finished_of_all, removed_of_all}
use Rattle.id_index.proofs.Pairs.{if_ok}
use Rattle.media_book.specs.Media.{AreSome}
use Rattle.media_book.proofs.Covering.{index_is, of_flow, removed_some}
use Rattle.media_book.proofs.book.MediaBook.due_step.Goals as goal
use Rattle.delete_work.proofs.Stepping.{some_due}

-- a request is due
pub unreachable-requires : goal.unreachable-requires
unreachable-requires c = absurd (some_due (first_unfinished c.args.requests.now) c.requires.due c.in_default.ensures)

pub due_step-requires-clause-flow : goal.due_step-requires-clause-flow
due_step-requires-clause-flow c = λ request due.
    let own =
    index_is c.args.requests.now c.in-Some.request.now request c.in_ok-index.index c.self.inside.segments (sym c.in-Some.ensures) c.in_ok-index.ensures due in
    subst (AreOfFlow request.flow) (sym own) (of_flow request.flow c.self.inside.segments c.self.invariant.rising)

-- a step on the segments of the flow is one on all
pub returns-clause-removed : goal.returns-clause-removed
returns-clause-removed c =
    let segments = c.self.inside.segments in
    if_ok c.due_step.result (λ step is request due.
    let own =
    index_is c.args.requests.now c.in-Some.request.now request c.in_ok-index.index segments (sym c.in-Some.ensures) c.in_ok-index.ensures due in
    is request due ∙ ap (λ l. removed_by_step l request) own ∙ removed_of_all request segments
    ∙ ap (λ m. removed_by_step m.segments request) (ap (λ m. m.media) c.self.view_is)) c.due_step.ensures.removed

pub returns-clause-finished : goal.returns-clause-finished
returns-clause-finished c =
    let segments = c.self.inside.segments in
    if_ok c.due_step.result (λ step is request due.
    let own =
    index_is c.args.requests.now c.in-Some.request.now request c.in_ok-index.index segments (sym c.in-Some.ensures) c.in_ok-index.ensures due in
    is request due ∙ ap (λ l. is_finished_by_step l request) own ∙ finished_of_all request segments
    ∙ ap (λ m. is_finished_by_step m.segments request) (ap (λ m. m.media) c.self.view_is)) c.due_step.ensures.finished

-- and what goes is there
pub returns-clause-some : goal.returns-clause-some
returns-clause-some c =
    let segments = c.self.inside.segments in
    let request = c.in-Some.request.now in
    if_ok c.due_step.result (λ step is. subst (λ l. AreSome l c.args.self.now.media.segments)
    (sym (is request (sym c.in-Some.ensures) ∙ ap (λ l. removed_by_step l request) c.in_ok-index.ensures ∙ removed_of_all request segments))
    (subst (λ m. AreSome (removed_by_step segments request) m.segments) (ap (λ m. m.media) c.self.view_is) (removed_some request segments c.self.invariant.rising)))
    c.due_step.ensures.removed
