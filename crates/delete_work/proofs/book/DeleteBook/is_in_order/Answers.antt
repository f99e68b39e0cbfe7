use Rattle.std.proofs.Common.{◌≡◌, true, subst}
use Rattle.media_rows.specs.Good.{rises_by}
use Rattle.delete_work.specs.Within.Keeping.{serial_of_row}
use Rattle.delete_work.proofs.Orders.{serials_rise}
use Rattle.delete_work.proofs.book.DeleteBook.is_in_order.Goals as goal

-- keys rise as serials do
pub returns : goal.returns
returns c = subst (λ rows. rises_by serial_of_row rows ≡ true) c.self.view_is (serials_rise c.self.inside.rows c.keys_rise.ensures c.self.invariant.keyed)
