use Rattle.std.proofs.Common.{◌≡◌, Err, map, true, subst}
use Rattle.media_rows.specs.Lists.{are_distinct}
use Rattle.media_rows.specs.Refusals.{Restores}
use Rattle.media_rows.specs.Restoring.{can_restore_requests, requests_of}
use Rattle.delete_work.specs.Within.Keeping.{serial_of_row}
use Rattle.delete_work.proofs.Restored.{both_restore, restored_twice}
use Rattle.delete_work.proofs.book.DeleteBook.from_rows.Goals as goal
use Rattle.media_rows.proofs.RestoringLemmas.{handed_on}

-- distinct serials make a book, unless too many are done
pub returns-in-Ok : goal.returns-in-Ok
returns-in-Ok c =
    both_restore c.args.requests.now c.in-Ok.book c.within_limit.result
    (subst (λ l. (are_distinct (map serial_of_row l) ≡ true) × (c.in-Ok.book ≡ requests_of l)) c.items.ensures c.in-Ok.ensures) c.within_limit.ensures

-- serials that repeat refuse all
pub returns-in-Err : goal.returns-in-Err
returns-in-Err c =
    let rows = c.args.requests.now in
    handed_on c.in-Err.fault (are_distinct (map serial_of_row rows)) (can_restore_requests rows) (requests_of rows) (requests_of rows) (restored_twice rows)
    (subst (λ l. Restores (are_distinct (map serial_of_row l)) (requests_of l) (Err c.in-Err.fault)) c.items.ensures c.in-Err.ensures)
