use Rattle.history_examples.proofs.Serving as serving
use Rattle.history_examples.proofs.laws.each_is_served.Goals as goal

pub returns : goal.returns
returns c = serving.each_is_served
