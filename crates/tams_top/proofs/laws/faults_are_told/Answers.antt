use Rattle.tams_top.proofs.LawLemmas as lemmas
use Rattle.tams_top.proofs.laws.faults_are_told.Goals as goal

pub returns-clause-disk : goal.returns-clause-disk
returns-clause-disk g c = λ words clock begun given notes status ends. lemmas.disk_faults_are_told words _ status ends

pub returns-clause-link : goal.returns-clause-link
returns-clause-link g c = λ words clock begun given notes status ends. lemmas.link_faults_are_told words _ status ends
