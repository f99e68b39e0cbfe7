use Rattle.tams_machine.proofs.Keeping.{and_so, turn_keeps}
use Rattle.tams_machine.specs.Answers.{turn_in}
use Rattle.tams_machine.proofs.laws.turns_keep.Goals as goal

pub returns : goal.returns
returns c = record {
  good = λ moment s good at.
      and_so (turn_in moment s) (λ next kept. kept.good) (turn_keeps c.first_bytes_stay.ensures s moment good (c.turns_apply.ensures s.archive.library moment good.good at));
  bytes = λ moment s good at.
      and_so (turn_in moment s) (λ next kept. kept.bytes) (turn_keeps c.first_bytes_stay.ensures s moment good (c.turns_apply.ensures s.archive.library moment good.good at));
  digests = λ moment s good at.
      and_so (turn_in moment s) (λ next kept. kept.digests) (turn_keeps c.first_bytes_stay.ensures s moment good (c.turns_apply.ensures s.archive.library moment good.good at));
}
