use Rattle.library_laws.proofs.MediaKept.{puts_apply}
use Rattle.library_laws.proofs.media.puts_apply.Goals as goal

pub returns : goal.returns
returns c = puts_apply
