use Rattle.library_laws.proofs.RestoreLemmas.{books_are_restored}
use Rattle.library_laws.proofs.laws.books_are_restored.Goals as goal

pub returns : goal.returns
returns c = books_are_restored
