use Rattle.std.proofs.Common.{ap, ◌∙◌}
use Rattle.media_rows.specs.Good.{are_serials_good}
use Rattle.core_restore.specs.Within.{rise_within}
use Rattle.core_restore.proofs.Numbered.{serials_are_tested}
use Rattle.core_restore.proofs.Sorting.{sorted_is}
use Rattle.core_restore.proofs.serials.are_serials_good.Goals as goal

pub returns : goal.returns
returns c =
    c.rise_within.ensures
    ∙ ap (rise_within c.args.next_serial) (c.deref.ensures.value ∙ sorted_is (λ n. n) _ _ c.in_ok-sort.ensures.sorted c.in_ok-sort.ensures.stable)
    ∙ serials_are_tested c.args.next_serial c.in_ok-serials.serials.items ∙ ap (are_serials_good c.args.next_serial) c.in_ok-serials.ensures
