use Rattle.run_examples.proofs.SmallStore as small
use Rattle.run_examples.proofs.laws.premises_are_met.Goals as goal

pub returns : goal.returns
returns c = small.premises_are_met c.fresh_files_stand.ensures c.words_as_worked.ensures
