use Rattle.media_book.proofs.Restored.{last_tells}
use Rattle.media_book.proofs.restores.is_behind_objects.Goals as goal

-- the last of them tells
pub returns-in-Some : goal.returns-in-Some
returns-in-Some c = last_tells (λ row. row.serial) c.args.objects.now c.in-Some.last.now c.args.serial c.requires.rising c.in-Some.ensures.value
