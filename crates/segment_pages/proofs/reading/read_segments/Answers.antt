use Rattle.segment_pages.proofs.ReadLemmas.{read_all, read_more}
use Rattle.segment_pages.proofs.reading.read_segments.Goals as goal

-- The page has all that is left.
pub returns-in-None-clause-read : goal.returns-in-None-clause-read
returns-in-None-clause-read c = rw c.all_of.ensures (read_all c.pages_have_all.ensures c.args.core.now.library c.args.flow c.args.range.now c.args.after c.in_ok-rows.rows
    (rw c.in-None.is at c.in_ok-rows.ensures.page))

-- The page has a next one.
pub returns-in-Some-clause-read : goal.returns-in-Some-clause-read
returns-in-Some-clause-read c = read_more c.range_answer_is_in_order.ensures c.args.core.now.library c.keeps_good.ensures c.args.flow c.args.range.now c.args.after
    c.in_ok-rows.rows c.in-Some.field-0 c.all_but_one.result (rw c.in-Some.is at c.in_ok-rows.ensures.page) c.all_but_one.ensures.rows c.all_but_one.ensures.count
    c.all_but_one.ensures.next c.all_but_one.ensures.apart
