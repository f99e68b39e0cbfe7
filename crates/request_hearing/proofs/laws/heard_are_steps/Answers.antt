use Rattle.request_hearing.proofs.Theorems.{media_unsaid_step, refused_step, unfinished, unsaid_step, waiting_owes, waiting_step}
use Rattle.request_hearing.proofs.laws.heard_are_steps.Goals as goal

pub returns : goal.returns
returns c = record {
  refused = refused_step;
  cut = waiting_step;
  unfinished = unfinished;
  owes = waiting_owes;
  unsaid = unsaid_step;
  media_unsaid = media_unsaid_step;
}
