use Rattle.run_examples.proofs.SmallRuns.{small_run}
use Rattle.run_examples.proofs.running.run_over_small_store.Goals as goal

-- The store was made, and the clock gave no moment before.
pub returns : goal.returns
returns c = small_run _ _ _ _ _ _ _ (rw c.new-clock.ensures (rw c.in-Some.is at c.in_ok-site.ensures)) c.run-status.ensures
