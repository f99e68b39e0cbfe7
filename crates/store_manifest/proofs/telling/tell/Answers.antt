use Rattle.store_manifest.proofs.TellLemmas.{told_after}
use Rattle.store_manifest.proofs.telling.tell.Goals as goal

-- A peer came, and was told what could be said.
pub returns-in-Ok-true : goal.returns-in-Ok-true
returns-in-Ok-true g c = told_after c.args.text.now c.args.objects _ _ _ c.say_and_close.result (rw c.in-Ok-true.field-0-test at c.in-Ok-true.ensures.call) (rw c.in-Ok-true.field-0-test at c.in-Ok-true.ensures.next) c.say_and_close.ensures
