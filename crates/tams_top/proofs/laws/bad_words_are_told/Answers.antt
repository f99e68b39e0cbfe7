use Rattle.tams_top.proofs.LawLemmas as lemmas
use Rattle.tams_top.proofs.laws.bad_words_are_told.Goals as goal

pub returns : goal.returns
returns g c = λ words clock begun given notes status ends. lemmas.bad_words_are_told words _ status ends
