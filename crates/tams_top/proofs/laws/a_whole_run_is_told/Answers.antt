use Rattle.tams_top.proofs.LawLemmas as lemmas
use Rattle.tams_top.proofs.laws.a_whole_run_is_told.Goals as goal

pub returns : goal.returns
returns g c = λ words clock begun given notes status ends. lemmas.whole_is_told words _ status ends
