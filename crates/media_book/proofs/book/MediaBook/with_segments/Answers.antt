use Rattle.std.proofs.Common.{◌∷◌, ◌++◌, [], ap, sym, take, ◌∙◌}
use Rattle.std.proofs.lemmas.List.{take_more}
use Rattle.media_book.specs.Media.{only_media}
use Rattle.media_book.proofs.Restored.{rows_fail, rows_more}
use Rattle.media_book.proofs.book.MediaBook.with_segments.Goals as goal

-- one of them may not come
pub returns-in-None : goal.returns-in-None
returns-in-None c =
    let rows = c.args.segments.now in
    let row = c.index-segments-index.result in
    let shape = take_more rows c.loop-index.index row c.loop-index-test.true
    ∙ ap (λ r. take c.loop-index.index rows ++ r ∷ []) (sym c.index-segments-index.is) in
    rows_fail c.args.self.now.media c.loop-index.index rows c.loop-index.media.media row c.requires.none c.loop-index.invariant shape
    (sym (ap only_media c.in-None.is) ∙ c.in_ok-next.ensures)

-- one more came
pub loop-index-preserved : goal.loop-index-preserved
loop-index-preserved c =
    let rows = c.args.segments.now in
    let row = c.index-segments-index.result in
    let shape = take_more rows c.loop-index.index row c.loop-index-test.true
    ∙ ap (λ r. take c.loop-index.index rows ++ r ∷ []) (sym c.index-segments-index.is) in
    rows_more c.args.self.now.media c.loop-index.index rows c.loop-index.media.media c.in-Some.next.media row c.requires.none c.loop-index.invariant shape
    (sym (ap only_media c.in-Some.is) ∙ c.in_ok-next.ensures)
