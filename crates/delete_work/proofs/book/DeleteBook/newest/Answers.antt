use Rattle.std.proofs.Common.{sym, arith, ◌∙◌}
use Rattle.delete_work.proofs.Newest.{newest_few, newest_less, one_fewer}
use Rattle.delete_work.proofs.book.DeleteBook.newest.Goals as goal

pub without_first_done-requires : goal.without_first_done-requires
without_first_done-requires c = record { some = omega (arith, c.done_count.ensures, c.excess-test.true) }

pub excess-smaller : goal.excess-smaller
excess-smaller c =
    rw c.in_ok-book.ensures (one_fewer c.excess.book (omega (arith, c.done_count.ensures, c.excess-test.true)))

pub excess-preserved : goal.excess-preserved
excess-preserved c = rw c.in_ok-book.ensures (newest_less c.excess.book (omega (arith, c.done_count.ensures, c.excess-test.true)) ∙ c.excess.invariant)

pub returns : goal.returns
returns c = sym (newest_few c.excess.book (omega (arith, c.done_count.ensures, c.excess-test.false))) ∙ c.excess.invariant
