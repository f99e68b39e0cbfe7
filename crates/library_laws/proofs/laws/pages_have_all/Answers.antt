use Rattle.library_laws.proofs.PageLemmas.{pages_have_all}
use Rattle.library_laws.proofs.laws.pages_have_all.Goals as goal

pub returns : goal.returns
returns c = pages_have_all
