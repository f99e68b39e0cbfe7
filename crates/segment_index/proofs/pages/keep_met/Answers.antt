use Rattle.std.proofs.Common.{◌-◌, ap, arith, drop, length, take, ◌∙◌}
use Rattle.std.proofs.lemmas.List.{length-drop, take_all}
use Rattle.segment_index.specs.Answers.{is_met}
use Rattle.segment_index.proofs.PageWalks.{kept_from}
use Rattle.segment_index.proofs.pages.keep_met.Goals as goal

-- those before the place stay, and behind it the first that are met
pub returns-clause-rows : goal.returns-clause-rows
returns-clause-rows c =
    let all = c.deref.result.now in
    let rest = take_all (length all - c.args.start) (drop c.args.start all) (omega (arith, length-drop c.args.start all)) in
    kept_from (is_met c.args.range.now) c.args.start c.leading_met-met.result c.args.out.now.items (take (length all - c.args.start) (drop c.args.start all)) _
    (rest ∙ ap (drop c.args.start) c.deref.ensures.value) c.leading_met-met.ensures.value c.truncate.ensures.items
