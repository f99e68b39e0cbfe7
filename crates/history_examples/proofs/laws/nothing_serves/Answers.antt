use Rattle.history_examples.proofs.Owing.{batch_unserved, dropped_unserved, late_unserved, open_unserved, silent_unserved, unanswered_unserved}
use Rattle.history_examples.proofs.laws.nothing_serves.Goals as goal

pub returns : goal.returns
returns c = record {
  late = late_unserved;
  batch = batch_unserved;
  unanswered = unanswered_unserved;
  dropped = dropped_unserved;
  silent = silent_unserved;
  unheard = open_unserved;
}
