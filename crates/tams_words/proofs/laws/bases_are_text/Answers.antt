use Rattle.tams_words.proofs.WordLemmas.{base_is_utf8}
use Rattle.tams_words.proofs.laws.bases_are_text.Goals as goal

pub returns : goal.returns
returns c = base_is_utf8
