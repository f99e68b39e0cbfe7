use Rattle.tams_top.proofs.LawLemmas as lemmas
use Rattle.tams_top.proofs.laws.playlists_are_told.Goals as goal

pub returns : goal.returns
returns g c = λ words clock begun given notes status ends. lemmas.playlists_are_told words _ status ends c.damaged_images_stand_for_none.ensures.none
