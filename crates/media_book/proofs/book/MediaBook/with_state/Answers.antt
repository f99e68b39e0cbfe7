use Rattle.std.proofs.Common.{◌≡◌, true, ap, arith, ◌∙◌}
use Rattle.media_rows.specs.Answer.{keep_refusal}
use Rattle.media_rows.specs.Objects.{object_of}
use Rattle.id_index.proofs.Pairs.{if_ok}
use Rattle.media_book.specs.Media.{can_take}
use Rattle.media_book.proofs.Restored.{found_last, held_last}
use Rattle.media_book.proofs.book.MediaBook.with_state.Goals as goal

-- it has no bytes yet
pub stored-requires-clause-bare : goal.stored-requires-clause-bare
stored-requires-clause-bare c =
    let row = c.args.row.now in
    ap (λ m. keep_refusal (object_of row.id m.objects)) c.requires.bare
    ∙ found_last c.args.self.now.media.objects row row.serial row.idle_since c.requires.new

-- and has its own place then
pub returns-else-not-takes : goal.returns-else-not-takes
returns-else-not-takes c =
    let media = c.args.self.now.media in
    let can : can_take media (record { start = c.in-Stored.start_block; length = c.in-Stored.length }) ≡ true =
    let told = c.if-not-takes.false in let is = c.takes.ensures in grind (arith, told, is) in
    if_ok c.stored.result (λ next is. is
    ∙ held_last media c.args.bare.media c.args.row.now c.in-Stored.start_block c.in-Stored.length c.in-Stored.digest c.in-Stored.is c.requires.new c.requires.bare can)
    c.stored.ensures
