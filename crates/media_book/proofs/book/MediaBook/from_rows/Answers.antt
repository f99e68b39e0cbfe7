use Rattle.std.proofs.Common.{ap, sym, ◌∙◌}
use Rattle.id_index.proofs.Pairs.{if_ok}
use Rattle.media_book.specs.Media.{only_media}
use Rattle.media_book.proofs.Restored.{both_good}
use Rattle.media_book.proofs.book.MediaBook.from_rows.Goals as goal

-- objects came, and then segments
pub returns-in-Some : goal.returns-in-Some
returns-in-Some c =
    if_ok c.with_segments.result (λ media is. both_good c.args.blocks c.args.objects.now c.args.segments.now c.in-Some.bare.media (only_media media)
    (sym (ap only_media c.in-Some.is) ∙ c.in_ok-bare.ensures) is) c.with_segments.ensures
