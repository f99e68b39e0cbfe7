use Rattle.std.proofs.Common.{refl}
use Rattle.media_rows.specs.Lists.{numbers_below}
use Rattle.library_examples.proofs.turns.turns_in_order.Goals as goal

pub returns : goal.returns
unfolding numbers_below
returns c = record { both_due = refl; three_turns = refl; not_due_yet = refl; nothing_due = refl }
