use Rattle.std.proofs.Common.{◌∙◌}
use Rattle.media_journal.proofs.WindowLemmas.{piece_part}
use Rattle.media_journal.proofs.window.Window.read_at.Goals as goal

-- The window's bytes are those of the image.
pub returns-clause-read : goal.returns-clause-read
returns-clause-read g c = λ shows.
    let first = c.in_ok-cover.ensures.reads in
    let shown = rw first.seen at (c.in_ok-cover.ensures.piece.shown (first.calls.same.shows ∙ shows)) in
    c.copy.ensures ∙ piece_part _ _ c.args.at _ shown c.in_ok-cover.ensures.covers
