use Rattle.tams_outcomes.proofs.NoteLemmas.{takes_twice}
use Rattle.tams_outcomes.proofs.outcome.+put_parts.Goals as goal

-- The first part was put whole, and the rest is behind it.
pub returns : goal.returns
returns g t c =
    let rest = c.put_parts.ensures in
    rw c.in-Some.ensures.cases.0
    (takes_twice _ _ _ _ _ _ _ _ _ _ _ c.put_part.ensures.tells c.in_ok-put_part.ensures.takes
    (record { counted = rest.counted; puts = rest.puts }))
