use Rattle.tams_histories.proofs.Runs.{runs_keep_bytes, runs_keep_digests}
use Rattle.tams_histories.proofs.laws.runs_keep_objects.Goals as goal

pub returns : goal.returns
returns c = record {
  bytes = runs_keep_bytes c.requests_send_bytes.ensures c.answers_are_allowed.ensures c.turns_apply.ensures c.first_bytes_stay.ensures;
  digests = runs_keep_digests c.requests_send_bytes.ensures c.answers_are_allowed.ensures c.turns_apply.ensures c.first_bytes_stay.ensures;
}
