use Rattle.store_states.proofs.Making.{libraries_are_good, old_states_have_digests, states_are_good}
use Rattle.store_states.proofs.laws.states_are_good.Goals as goal

pub returns : goal.returns
returns c = record {
  library = libraries_are_good;
  state = states_are_good;
  digests = old_states_have_digests;
}
