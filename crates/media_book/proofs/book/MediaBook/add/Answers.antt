use Rattle.std.proofs.Common.{◌+◌, ◌∷◌, [], drop, sym, subst, ap, ◌∙◌, arith}
use Rattle.media_book.specs.Media.{with_posts}
use Rattle.media_book.specs.Within.Ties.{Adding}
use Rattle.media_book.proofs.Posts.{adding_fails, adding_more, adding_starts}
use Rattle.media_book.proofs.Serials.{next_is}
use Rattle.media_book.proofs.book.MediaBook.add.Goals as goal

pub loop-index-init : goal.loop-index-init
loop-index-init c = adding_starts c.args.flow c.args.serial _ c.args.self.now.media c.in_ok-media.media.media c.args.posts.now (omega arith) (ap (λ m. m.media) c.in_ok-media.ensures)
    c.requires.above c.requires.bounded

-- the next segment stands first among those that are left, and its copy is the same
pub loop-index-preserved : goal.loop-index-preserved
loop-index-preserved c =
    let later = drop (c.loop-index.index + 1) c.args.posts.now in
    let post = c.in_ok-duplicate.field-0 in
    let shape = next_is c.args.posts.now c.loop-index.index c.index-posts-index.result c.loop-index-test.true c.index-posts-index.is
    ∙ ap (λ p. p ∷ later) (sym c.in_ok-duplicate.ensures) in
    subst (λ n. Adding c.args.flow c.args.serial n c.args.self.now.media c.in-Ok.next.media c.args.posts.now later) (omega arith)
    (adding_more c.args.flow c.args.serial (c.args.serial + c.loop-index.index) c.args.self.now.media c.loop-index.media.media c.in-Ok.next.media c.args.posts.now
    (drop c.loop-index.index c.args.posts.now) later post c.loop-index.invariant shape c.in-Ok.ensures.0 c.in-Ok.ensures.1)

pub returns-in-Err : goal.returns-in-Err
returns-in-Err c =
    let later = drop (c.loop-index.index + 1) c.args.posts.now in
    let post = c.in_ok-duplicate.field-0 in
    let shape = next_is c.args.posts.now c.loop-index.index c.index-posts-index.result c.loop-index-test.true c.index-posts-index.is
    ∙ ap (λ p. p ∷ later) (sym c.in_ok-duplicate.ensures) in
    adding_fails c.args.flow c.args.serial (c.args.serial + c.loop-index.index) c.args.self.now.media c.loop-index.media.media
    (with_posts c.args.flow (c.args.serial + c.loop-index.index) (post ∷ []) c.loop-index.media.media) c.args.posts.now
    (drop c.loop-index.index c.args.posts.now) later post c.in-Err.fault c.loop-index.invariant shape c.in-Err.ensures
