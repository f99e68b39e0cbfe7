use Rattle.site_edge.proofs.ListLemmas.{lasts}
use Rattle.site_edge.proofs.list_clock.ListClockClock.now.Goals as goal

pub returns-clause-lasts : goal.returns-clause-lasts
returns-clause-lasts c = λ tells few.
    lasts c.self.inside.moments c.self.inside.count c.checked_add-self-inside.result (rw c.unwrap_or-count.ensures at c.checked_add-self-inside.ensures)
    (rw (← c.self.view_is) at tells) (rw (← c.self.view_is) at few)
