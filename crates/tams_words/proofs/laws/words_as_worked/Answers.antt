use Rattle.tams_words.proofs.WorkedWords as worked
use Rattle.tams_words.proofs.laws.words_as_worked.Goals as goal

pub returns : goal.returns
returns c = worked.words_as_worked
