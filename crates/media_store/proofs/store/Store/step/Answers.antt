use Rattle.media_store.specs.Stores.{journal_of}
use Rattle.media_store.specs.Turns.{turn_change}
use Rattle.media_store.proofs.Outcomes.{next_if, step_makes}
use Rattle.media_store.proofs.store.Store.step.Goals as goal
use Rattle.media_store.proofs.store.Store.step.Goals.{in-Ok, in-Err}

pub returns-clause-next : goal.returns-clause-next
returns-clause-next g c = λ due change is.
    let kept = c.args.self.now.kept in
    elim c.match-commit.branch [
      | in-Ok w ↦
          rw w.result-is
          (next_if kept c.commit.new.self.kept (turn_change (journal_of kept) due) c.args.planned (step_makes (journal_of kept) due change c.args.planned is)
          w.in-Ok.ensures.kept)
      | in-Err w ↦ rw w.result-is tt
    ]

pub returns-clause-stands : goal.returns-clause-stands
returns-clause-stands g c = λ honest shows stands.
    elim c.match-commit.branch [
      | in-Ok w ↦ rw w.result-is (w.in-Ok.ensures.stands honest shows stands)
      | in-Err w ↦ rw w.result-is tt
    ]

-- the change that is due was written, or it wasn't
pub returns-clause-makes : goal.returns-clause-makes
returns-clause-makes g c = λ honest shows held due change agrees is.
    let journal = journal_of c.args.self.now.kept in
    let makes = step_makes journal due change c.args.planned is in
    elim c.match-commit.branch [
      | in-Ok w ↦ rw w.result-is (w.in-Ok.ensures.makes honest shows held agrees (turn_change journal due) makes)
      | in-Err w ↦ rw w.result-is (w.in-Err.ensures.makes honest shows held agrees (turn_change journal due) makes)
    ]
