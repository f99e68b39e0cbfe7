use Rattle.std.proofs.Common.{◌+◌, ◌∙◌, ◌≤◌, ap, subst}
use Rattle.std.proofs.lemmas.Bool.{false≢true}
use Rattle.media_store.specs.Changes.{fitted_outcome}
use Rattle.media_store.specs.Stores.{journal_of}
use Rattle.media_store.proofs.Outcomes.{bytes_if_are, next_if, no_frame}
use Rattle.media_store.proofs.store.Store.handle.Goals as goal

pub returns-in-Ok-clause-makes : goal.returns-in-Ok-clause-makes
returns-in-Ok-clause-makes g c = λ honest shows held agrees.
    c.in-Ok.ensures.makes honest shows held agrees (fitted_outcome c.args.self.now.kept c.args.command.now c.args.now).change
    c.in_ok-planned.ensures.planned.step

pub returns-in-Err-clause-makes : goal.returns-in-Err-clause-makes
returns-in-Err-clause-makes g c = λ honest shows held agrees.
    c.in-Err.ensures.makes honest shows held agrees (fitted_outcome c.args.self.now.kept c.args.command.now c.args.now).change
    c.in_ok-planned.ensures.planned.step

pub returns-in-Ok-clause-next : goal.returns-in-Ok-clause-next
returns-in-Ok-clause-next g c =
    let kept = c.args.self.now.kept in
    next_if kept c.commit.new.self.kept (fitted_outcome kept c.args.command.now c.args.now).change c.in_ok-planned.planned
    c.in_ok-planned.ensures.planned.step c.in-Ok.ensures.kept

pub returns-in-Ok-clause-unchanged : goal.returns-in-Ok-clause-unchanged
returns-in-Ok-clause-unchanged g c = λ none.
    let kept = c.args.self.now.kept in
    let same = c.in-Ok.ensures.unchanged (no_frame (journal_of kept) (fitted_outcome kept c.args.command.now c.args.now).change c.in_ok-planned.planned
    c.in_ok-planned.ensures.planned.step none) in
    (same.2, same.0)

pub returns-in-Err-clause-unchanged : goal.returns-in-Err-clause-unchanged
returns-in-Err-clause-unchanged g c = λ none.
    let kept = c.args.self.now.kept in
    let same = c.in-Err.ensures.unchanged (no_frame (journal_of kept) (fitted_outcome kept c.args.command.now c.args.now).change c.in_ok-planned.planned
    c.in_ok-planned.ensures.planned.step none) in
    absurd (false≢true same.1)

pub returns-in-Ok-clause-handed : goal.returns-in-Ok-clause-handed
returns-in-Ok-clause-handed g c = λ tells.
    let kept = c.args.self.now.kept in
    c.in-Ok.ensures.handed tells
    ∙ ap (λ n. (g.D.Disk.device c.args.disk.now).handed + n)
    (bytes_if_are kept (fitted_outcome kept c.args.command.now c.args.now).change c.in_ok-planned.planned c.in_ok-planned.ensures.planned.step)

pub returns-in-Ok-clause-handed_at_most : goal.returns-in-Ok-clause-handed_at_most
returns-in-Ok-clause-handed_at_most g c = λ tells.
    let kept = c.args.self.now.kept in
    subst (λ n. (g.D.Disk.device c.commit.new.disk).handed ≤ (g.D.Disk.device c.args.disk.now).handed + n)
    (bytes_if_are kept (fitted_outcome kept c.args.command.now c.args.now).change c.in_ok-planned.planned c.in_ok-planned.ensures.planned.step)
    (c.in-Ok.ensures.handed_at_most tells)

pub returns-in-Err-clause-handed_at_most : goal.returns-in-Err-clause-handed_at_most
returns-in-Err-clause-handed_at_most g c = λ tells.
    let kept = c.args.self.now.kept in
    subst (λ n. (g.D.Disk.device c.commit.new.disk).handed ≤ (g.D.Disk.device c.args.disk.now).handed + n)
    (bytes_if_are kept (fitted_outcome kept c.args.command.now c.args.now).change c.in_ok-planned.planned c.in_ok-planned.ensures.planned.step)
    (c.in-Err.ensures.handed_at_most tells)
