use Rattle.store_states.proofs.Standing.{one_state}
use Rattle.store_states.proofs.laws.an_image_stands_for_one_state.Goals as goal

pub returns : goal.returns
returns c = one_state
