use Rattle.std.proofs.Common.{ap, not, sym, ◌∙◌}
use Rattle.delete_work.proofs.Orders.{placed_new, rises}
use Rattle.delete_work.proofs.restores.with_request.Goals as goal

-- a new serial has its own place
pub returns : goal.returns
returns c =
    let none = sym c.has.ensures ∙ c.if-has.false in
    (ap not none, c.in_ok-put.ensures ∙ placed_new c.args.row.now c.args.book.now (rises c.args.book.now c.is_in_order.ensures) none)
