use Rattle.std.proofs.Common.{refl}
use Rattle.store_states.proofs.laws.states_as_worked.Goals as goal

pub returns : goal.returns
returns c = record {
  places = record { before = refl; start = refl; media = refl; third = refl };
  bytes = record { some = refl };
  rows = record { empty = refl; numbered = refl; none = refl };
}
