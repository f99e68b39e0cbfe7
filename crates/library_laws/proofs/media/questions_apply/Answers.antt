use Rattle.library_laws.proofs.MediaKept.{questions_apply}
use Rattle.library_laws.proofs.media.questions_apply.Goals as goal

pub returns : goal.returns
returns c = questions_apply
