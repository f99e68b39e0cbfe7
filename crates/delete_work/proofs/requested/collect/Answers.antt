use Rattle.std.proofs.Common.{◌++◌, ap, arith, filter, sym, ◌∙◌}
use Rattle.std.proofs.lemmas.List.{length-map}
use Rattle.shared_tree.specs.Pairs.{values_of}
use Rattle.delete_work.specs.Within.Seeking.{is_wanted_by}
use Rattle.delete_work.proofs.Paging.{behind_some, enough, looked_all, looks_fewer, pages_start}
use Rattle.delete_work.proofs.requested.collect.Goals as goal

-- the first page begins with the first segment
pub pages-init : goal.pages-init
pages-init g c = pages_start c.args.index.now (values_of c.args.list.now.items) (values_of c.append_page.new.list.items) c.args.request.now c.in_ok-after.after
    c.is_in_order.ensures.bounded c.in_ok-after.ensures.rows

pub pages-smaller : goal.pages-smaller
pages-smaller g c = looks_fewer c.args.index.now c.args.request.now c.pages.after c.in_ok-after-2.after (sym c.is_some.ensures ∙ c.pages-test.true)
    c.in_ok-after-2.ensures.fewer

pub pages-preserved : goal.pages-preserved
pages-preserved g c =
    c.in_ok-after-2.ensures.rows
    ∙ ap (λ l. values_of c.pages.list.items ++ filter (is_wanted_by c.args.request.now) l)
    (sym (behind_some c.args.index.now c.args.request.now c.pages.after (sym c.is_some.ensures ∙ c.pages-test.true)))
    ∙ c.pages.invariant

-- enough were found
pub returns-then-len-gt-STEP_SIZE : goal.returns-then-len-gt-STEP_SIZE
returns-then-len-gt-STEP_SIZE g c =
    enough (values_of c.pages.list.items) _ _ c.pages.invariant (let same = length-map c.pages.list.items (λ r. r.now) in omega (arith, same))

-- all were looked at
pub returns : goal.returns
returns g c = looked_all (values_of c.pages.list.items) _ c.args.request.now c.args.index.now c.pages.after (sym c.is_some.ensures ∙ c.pages-test.false)
    c.pages.invariant
