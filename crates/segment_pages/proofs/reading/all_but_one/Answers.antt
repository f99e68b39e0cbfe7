use Rattle.std.proofs.Common.{length, ap, arith}
use Rattle.segment_pages.proofs.OrderLemmas.{apart_as, apart_at, read_at}
use Rattle.segment_pages.proofs.reading.all_but_one.Goals as goal

-- The last two segments of the page are the two that were compared.
pub returns-clause-apart : goal.returns-clause-apart
returns-clause-apart c =
    let many = ap (λ l. length l) c.items-items.ensures in
    apart_at c.args.rows c.index-items-count.result c.index-items-count-2.result c.requires.two
    (read_at c.args.rows c.items-items.result.now _ _ c.index-items-count.result c.items-items.ensures (omega (arith, many)) (omega (arith, c.requires.two)) c.index-items-count.is)
    (read_at c.args.rows c.items-items.result.now _ _ c.index-items-count-2.result c.items-items.ensures (omega (arith, many, c.requires.two)) (omega (arith, c.requires.two)) c.index-items-count-2.is)
    (apart_as c.index-items-count.result c.index-items-count-2.result _ _ c.index-items-count.is c.index-items-count-2.is c.ranges_are_apart.ensures)
