use Rattle.media_journal.proofs.FormattingLemmas.{GateIs-front}
use Rattle.media_journal.proofs.format.read_gate.Goals as goal

-- The bytes read are the first 41 of the image.
pub returns-clause-gate : goal.returns-clause-gate
returns-clause-gate g c = λ shows. GateIs-front _ _ (rw (c.in_ok-read_at.ensures.read shows) at c.gate_of.ensures)
