use Rattle.std.proofs.Common.{◌≡◌, ◌+◌, ◌∷◌, ◌++◌, [], None, Some, drop, sym, subst, ap, ◌∙◌}
use Rattle.media_rows.specs.declared.reply.SortedPosts.{SortedPosts}
use Rattle.media_book.specs.Media.{with_posts}
use Rattle.media_book.specs.Within.Ties.{Telling, row_refusal}
use Rattle.media_book.proofs.Posts.{row_of}
use Rattle.media_book.proofs.Telling.{one_failed, refused_by, telling_fails, telling_keeps}
use Rattle.media_book.proofs.Serials.{next_is}
use Rattle.media_book.proofs.book.MediaBook.add_list.Goals as goal
use Rattle.media_book.proofs.book.MediaBook.add_list.Goals.{in-Ok+in_ok-duplicate-in-Ok+in_ok-push-in-Ok, in-Err-Refused+in_ok-failed-in-Err-Refused+in_ok-push-in-Err-Refused}

-- the next segment stands first among those that are left, and its copy is the same
pub loop-post-preserved : goal.loop-post-preserved
loop-post-preserved c =
    let later = drop (c.loop-post.post-index + 1) c.args.posts.now in
    let shape = next_is c.args.posts.now c.loop-post.post-index c.post-item.result c.loop-post-test.true c.post-item.is in
    let post = c.post-item.result in
    elim c.match-with_row.branch [
      | in-Ok+in_ok-duplicate-in-Ok+in_ok-push-in-Ok w ↦
          let told_is = w.told-is ∙ ap (λ l. (let t : SortedPosts = record { kept = l; failed = c.loop-post.told.failed } in t))
          (w.in_ok-push-in-Ok.ensures.ok ∙ ap (λ p. c.loop-post.told.kept ++ p ∷ []) w.in_ok-duplicate-in-Ok.ensures) in
          subst (λ n. Telling c.args.flow c.args.serial n c.args.self.now.media c.match-with_row.media.media c.match-with_row.told c.args.posts.now later) (sym w.next-is)
          (subst (λ t. Telling c.args.flow c.args.serial (c.loop-post.next + 1) c.args.self.now.media c.match-with_row.media.media t c.args.posts.now later) (sym told_is)
          (telling_keeps c.args.flow c.args.serial c.loop-post.next c.args.self.now.media c.loop-post.media.media c.match-with_row.media.media c.loop-post.told
          c.args.posts.now (drop c.loop-post.post-index c.args.posts.now) later post c.loop-post.invariant shape
          (subst (λ p. row_refusal c.loop-post.media.media (row_of c.args.flow c.loop-post.next p) ≡ None) c.in_ok-duplicate.ensures w.in-Ok.ensures.0)
          (ap (λ m. m.media) w.media-is ∙ w.in-Ok.ensures.1 ∙ ap (λ p. with_posts c.args.flow c.loop-post.next (p ∷ []) c.loop-post.media.media) c.in_ok-duplicate.ensures)))
      | in-Err-Refused+in_ok-failed-in-Err-Refused+in_ok-push-in-Err-Refused w ↦
          let told_is = w.told-is ∙ ap (λ l. (let t : SortedPosts = record { kept = c.loop-post.told.kept; failed = l } in t))
          (w.in_ok-push-in-Err-Refused.ensures.ok ∙ ap (λ f. c.loop-post.told.failed ++ f ∷ []) w.in_ok-failed-in-Err-Refused.ensures) in
          subst (λ n. Telling c.args.flow c.args.serial n c.args.self.now.media c.match-with_row.media.media c.match-with_row.told c.args.posts.now later) (sym w.next-is)
          (subst (λ t. Telling c.args.flow c.args.serial c.loop-post.next c.args.self.now.media c.match-with_row.media.media t c.args.posts.now later) (sym told_is)
          (subst (λ m. Telling c.args.flow c.args.serial c.loop-post.next c.args.self.now.media m
          (one_failed c.loop-post.told w.in-Err-Refused.refusal post) c.args.posts.now later) (sym (ap (λ m. m.media) w.media-is))
          (telling_fails c.args.flow c.args.serial c.loop-post.next c.args.self.now.media c.loop-post.media.media c.loop-post.told
          c.args.posts.now (drop c.loop-post.post-index c.args.posts.now) later post w.in-Err-Refused.refusal c.loop-post.invariant shape
          (subst (λ p. row_refusal c.loop-post.media.media (row_of c.args.flow c.loop-post.next p) ≡ Some w.in-Err-Refused.refusal) c.in_ok-duplicate.ensures
          (refused_by (row_refusal c.loop-post.media.media (row_of c.args.flow c.loop-post.next c.in_ok-duplicate.field-0))
          (with_posts c.args.flow c.loop-post.next (c.in_ok-duplicate.field-0 ∷ []) c.loop-post.media.media) w.in-Err-Refused.field-0 w.in-Err-Refused.refusal
          w.in-Err-Refused.ensures w.in-Err-Refused.field-0-is)))))
    ]
