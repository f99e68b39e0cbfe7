use Rattle.tams_top.proofs.LawLemmas as lemmas
use Rattle.tams_top.proofs.laws.little_is_touched.Goals as goal

pub returns : goal.returns
returns g c = λ words clock begun given notes status ends. lemmas.little_is_touched words _ status ends
