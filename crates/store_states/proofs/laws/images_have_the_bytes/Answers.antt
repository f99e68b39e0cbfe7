use Rattle.store_states.proofs.Held.{changes_find_bytes, lengths_held}
use Rattle.store_states.proofs.laws.images_have_the_bytes.Goals as goal

pub returns : goal.returns
returns c = record {
  lengths = lengths_held;
  next = changes_find_bytes;
}
