use Rattle.edit_laws.proofs.ShowLemmas.{one_segment_shows}
use Rattle.edit_laws.proofs.laws.one_segment_shows.Goals as goal

pub returns : goal.returns
returns c = one_segment_shows
