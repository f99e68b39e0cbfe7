use Rattle.range_edit.proofs.PageLemmas.{fault_of_page, page_takable, takes_all, takes_more, takes_nothing}
use Rattle.range_edit.proofs.Rows.{fault_passes}
use Rattle.range_edit.proofs.pieces.take_all.Goals as goal

-- At first nothing is taken.
pub loop-read-init : goal.loop-read-init
loop-read-init c = takes_nothing c.args.core.now.library c.args.flow c.args.clip.now
    c.args.pieces.now

-- The segments of a page are bounded, and overlap the range.
pub take_page-requires-clause-takable : goal.take_page-requires-clause-takable
take_page-requires-clause-takable c =
    rw c.items.ensures (page_takable c.args.core.now.library c.keeps_good.ensures c.args.flow
    c.args.clip.now
    c.loop-read.after c.in_ok-read.read c.in_ok-read.ensures.read)

-- A piece of the page wants a rate.
pub returns-in_err-take_page-clause-fault : goal.returns-in_err-take_page-clause-fault
returns-in_err-take_page-clause-fault c =
    fault_passes _ _ _ c.from_residual-in_err-take_page.ensures.1
    (fault_of_page c.args.core.now.library c.args.flow c.args.clip.now c.loop-read.after
    c.in_ok-read.read
    c.args.pieces.now c.loop-read.pieces c.loop-read.invariant c.in_ok-read.ensures.read _
    (rw c.items.ensures at c.in_err-take_page.ensures.fault))

-- Nothing is left.
pub returns-then-is_none-clause-taken : goal.returns-then-is_none-clause-taken
returns-then-is_none-clause-taken c =
    takes_all c.args.core.now.library c.args.flow c.args.clip.now c.loop-read.after
    c.in_ok-read.read
    c.args.pieces.now c.loop-read.pieces c.loop-read.invariant c.in_ok-read.ensures.read
    c.take_page.new.pieces
    c.if-is_none.ensures (rw c.items.ensures at c.in_ok-take_page.ensures.taken)

-- A page more is taken.
pub loop-read-preserved : goal.loop-read-preserved
loop-read-preserved c =
    takes_more c.args.core.now.library c.args.flow c.args.clip.now c.loop-read.after
    c.in_ok-read.read
    c.args.pieces.now c.loop-read.pieces c.loop-read.invariant c.in_ok-read.ensures.read
    c.take_page.new.pieces
    c.if-is_none.ensures (rw c.items.ensures at c.in_ok-take_page.ensures.taken)
