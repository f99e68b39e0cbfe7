use Rattle.tams_top.proofs.LawLemmas as lemmas
use Rattle.tams_top.proofs.laws.statuses_are_known.Goals as goal

pub returns : goal.returns
returns g c = λ words clock begun given notes status ends. lemmas.status_is_known words _ status ends
