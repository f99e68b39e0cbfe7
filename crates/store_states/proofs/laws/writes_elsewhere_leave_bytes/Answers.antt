use Rattle.store_states.proofs.Bytes.{clear_writes, early_writes}
use Rattle.store_states.proofs.laws.writes_elsewhere_leave_bytes.Goals as goal

pub returns : goal.returns
returns c = record {
  clear = clear_writes;
  early = early_writes;
}
