use Rattle.std.proofs.Common.{inl, inr, ap, subst, arith}
use Rattle.std.proofs.lemmas.Result.{err_from_is_err_and}
use Rattle.media_rows.specs.declared.change.Change.TheVariants.{DeleteStep, SweepStep}
use Rattle.media_rows.specs.Apply.{turn}
use Rattle.media_store.specs.Stores.{journal_of}
use Rattle.media_store.specs.Turns.{TurnIs}
use Rattle.store_commands.proofs.WorkingLemmas.{deleted, no_room, nothing, swept, works_done, works_fails, works_first, works_more, works_to_last}
use Rattle.store_commands.proofs.working.make_turns.Goals as goal

pub loop-init : goal.loop-init
loop-init g c = works_first _ _ _ _ c.requires.unspent c.requires.idle c.requires.device

-- A turn changed something.
pub loop-preserved : goal.loop-preserved
loop-preserved g c =
    let journal = journal_of c.loop.store.kept in
    let due = turn c.loop.store.kept.library c.now.result in
    let made = c.in_ok-turn.ensures in
    let more =
    works_more (g.D.Disk.device c.args.disk.now) (g.D.Disk.device c.loop.disk) (g.D.Disk.device c.turn.new.disk) _ _ _ _ _ _
    c.args.store.now c.loop.store c.turn.new.self c.loop.turns c.loop.counter c.now.result c.loop.invariant c.now.ensures.moment
    c.now.ensures.lasts c.now.ensures.given c.turns_keep.ensures.good in
    elim c.in-Deleted.is [
      | inl is ↦
          more (DeleteStep c.now.result) (deleted journal due c.now.result (subst (TurnIs journal due c.now.result) is made.made)) made.spent made.idle
          made.makes made.next made.calls made.handed
      | inr is ↦
          more (SweepStep c.now.result) (swept journal due c.now.result (subst (TurnIs journal due c.now.result) is made.made)) made.spent made.idle
          made.makes made.next made.calls made.handed
    ]

-- One changed nothing.
pub returns-in-Nothing-clause-worked : goal.returns-in-Nothing-clause-worked
returns-in-Nothing-clause-worked g c = λ all few b w.
    let journal = journal_of c.loop.store.kept in
    let due = turn c.loop.store.kept.library c.now.result in
    let made = c.in_ok-turn.ensures in
    let done =
    works_done (g.D.Disk.device c.args.disk.now) (g.D.Disk.device c.loop.disk) (g.D.Disk.device c.turn.new.disk) _ _ _ _ _ _
    c.args.store.now c.loop.store c.turn.new.self c.loop.turns c.loop.counter c.now.result c.loop.invariant c.now.ensures.moment
    c.now.ensures.lasts c.now.ensures.given c.turns_keep.ensures.good b w all few (g.met.D.Disk.sound c.turn.new.disk) in
    elim c.in-Nothing.is [
      | inl is ↦ done (nothing journal due c.now.result (subst (TurnIs journal due c.now.result) is made.made)) made.makes made.calls made.handed
      | inr is ↦ done (no_room journal due c.now.result (subst (TurnIs journal due c.now.result) is made.made)) made.makes made.calls made.handed
    ]

-- One failed.
pub returns-in_err-turn-clause-worked : goal.returns-in_err-turn-clause-worked
returns-in_err-turn-clause-worked g c = λ all few b w.
    let p = err_from_is_err_and c.from_residual.result c.from_residual.ensures.1 in
    let failed = c.in_err-turn.ensures in
    rw (p.1, p.2)
    (works_fails (g.D.Disk.device c.args.disk.now) (g.D.Disk.device c.loop.disk) (g.D.Disk.device c.turn.new.disk) _ _ _ _ _ _
    c.args.store.now c.loop.store c.turn.new.self c.loop.turns c.loop.counter c.now.result c.loop.invariant c.now.ensures.moment
    c.now.ensures.lasts c.now.ensures.given c.turns_keep.ensures.good b w all few (g.met.D.Disk.sound c.turn.new.disk) c.in_err-turn.field-0.0 _
    failed.memory (λ starved. (ap (λ d. g.D.Disk.device d) starved.1, starved.2)) failed.failing failed.makes failed.calls)

-- There can't be as many as can be counted.
pub returns-clause-worked : goal.returns-clause-worked
returns-clause-worked g c = λ all few b w.
    let so_far = c.loop.invariant in
    works_to_last b (g.D.Disk.device c.loop.disk) (g.C.Clock.given c.loop.clock) c.loop.store c.loop.turns
    (omega (arith, so_far.counted, c.loop-test.false, c.loop.auto.counter-end)) (so_far.working all few b w).1
