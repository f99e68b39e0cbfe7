use Rattle.std.proofs.Common.{◌≡◌, false, length, nat_le, subst, sym, take, true, ap, ◌∙◌}
use Rattle.media_rows.specs.declared.request.DeleteRow.{DeleteRow}
use Rattle.media_rows.specs.Requests.{asked_row, is_finished_by_step, removed_by_step, step_size}
use Rattle.media_rows.specs.Segments.{covered}
use Rattle.delete_work.specs.Work.{AreOfFlow}
use Rattle.delete_work.proofs.Theorems.{finished_of_all, removed_of_all}
use Rattle.media_book.specs.Media.{AreSome, are_segments_below}
use Rattle.media_book.proofs.Covering.{finished_all, of_flow, removed_all, removed_some, whole_taken}
use Rattle.media_book.proofs.book.MediaBook.covered.Goals as goal

pub step_rows-requires : goal.step_rows-requires
step_rows-requires c =
    let row : DeleteRow = asked_row (record { flow = c.args.flow; range = c.args.range.now; delete_flow = false }) c.args.serial 0 in
    record {
      flow = rw c.row.ensures (subst (AreOfFlow row.flow) (sym c.in_ok-index.ensures) (of_flow row.flow c.self.inside.segments c.self.invariant.rising));
    }

-- all segments were there before the request
pub returns-clause-rows : goal.returns-clause-rows
returns-clause-rows c =
    let segments = c.self.inside.segments in
    let row : DeleteRow = asked_row (record { flow = c.args.flow; range = c.args.range.now; delete_flow = false }) c.args.serial 0 in
    let below = subst (λ m. are_segments_below c.args.serial m.segments ≡ true) (sym (ap (λ m. m.media) c.self.view_is)) c.requires.above in
    c.in_ok-step.ensures.removed ∙ ap (λ r. removed_by_step c.in_ok-index.index r) c.row.ensures ∙ ap (λ l. removed_by_step l row) c.in_ok-index.ensures
    ∙ removed_of_all row segments ∙ removed_all row segments below
    ∙ ap (λ m. take step_size (covered m.segments c.args.flow c.args.range.now)) (ap (λ m. m.media) c.self.view_is)

pub returns-clause-whole : goal.returns-clause-whole
returns-clause-whole c =
    let segments = c.self.inside.segments in
    let row : DeleteRow = asked_row (record { flow = c.args.flow; range = c.args.range.now; delete_flow = false }) c.args.serial 0 in
    let below = subst (λ m. are_segments_below c.args.serial m.segments ≡ true) (sym (ap (λ m. m.media) c.self.view_is)) c.requires.above in
    c.in_ok-step.ensures.finished ∙ ap (λ r. is_finished_by_step c.in_ok-index.index r) c.row.ensures
    ∙ ap (λ l. is_finished_by_step l row) c.in_ok-index.ensures ∙ finished_of_all row segments
    ∙ finished_all row segments c.self.invariant.rising below
    ∙ ap (λ m. nat_le (length (covered m.segments c.args.flow c.args.range.now)) step_size) (ap (λ m. m.media) c.self.view_is)

-- the first ones are all where there are no more
pub returns-clause-all : goal.returns-clause-all
returns-clause-all c = λ whole.
    let segments = c.self.inside.segments in
    let row : DeleteRow = asked_row (record { flow = c.args.flow; range = c.args.range.now; delete_flow = false }) c.args.serial 0 in
    let below = subst (λ m. are_segments_below c.args.serial m.segments ≡ true) (sym (ap (λ m. m.media) c.self.view_is)) c.requires.above in
    whole_taken c.in_ok-step.step.removed (covered segments c.args.flow c.args.range.now) c.in_ok-step.step.finished
    (c.in_ok-step.ensures.removed ∙ ap (λ r. removed_by_step c.in_ok-index.index r) c.row.ensures ∙ ap (λ l. removed_by_step l row) c.in_ok-index.ensures
    ∙ removed_of_all row segments ∙ removed_all row segments below)
    (c.in_ok-step.ensures.finished ∙ ap (λ r. is_finished_by_step c.in_ok-index.index r) c.row.ensures
    ∙ ap (λ l. is_finished_by_step l row) c.in_ok-index.ensures ∙ finished_of_all row segments
    ∙ finished_all row segments c.self.invariant.rising below) whole
    ∙ ap (λ m. covered m.segments c.args.flow c.args.range.now) (ap (λ m. m.media) c.self.view_is)

pub returns-clause-some : goal.returns-clause-some
returns-clause-some c =
    let segments = c.self.inside.segments in
    let row : DeleteRow = asked_row (record { flow = c.args.flow; range = c.args.range.now; delete_flow = false }) c.args.serial 0 in
    subst (λ l. AreSome l c.args.self.now.media.segments)
    (sym (c.in_ok-step.ensures.removed ∙ ap (λ r. removed_by_step c.in_ok-index.index r) c.row.ensures ∙ ap (λ l. removed_by_step l row) c.in_ok-index.ensures
    ∙ removed_of_all row segments))
    (subst (λ m. AreSome (removed_by_step segments row) m.segments) (ap (λ m. m.media) c.self.view_is) (removed_some row segments c.self.invariant.rising))
