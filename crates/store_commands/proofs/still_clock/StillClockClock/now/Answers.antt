use Rattle.store_commands.proofs.WorkloadLemmas.{lasts_zeros}
use Rattle.store_commands.proofs.still_clock.StillClockClock.now.Goals as goal

pub returns-clause-lasts : goal.returns-clause-lasts
returns-clause-lasts c =
    lasts_zeros c.args.self.now.calls c.checked_add-self.result (rw c.unwrap_or-calls.ensures at c.checked_add-self.ensures)
