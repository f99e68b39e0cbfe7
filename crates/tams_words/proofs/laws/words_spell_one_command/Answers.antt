use Rattle.tams_words.proofs.WordTheorems.{one_command}
use Rattle.tams_words.proofs.laws.words_spell_one_command.Goals as goal

pub returns : goal.returns
returns c = one_command
