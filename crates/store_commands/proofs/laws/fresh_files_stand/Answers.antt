use Rattle.store_commands.proofs.FreshLemmas as lemmas
use Rattle.store_commands.proofs.laws.fresh_files_stand.Goals as goal

pub returns : goal.returns
returns c = lemmas.fresh_files_stand
