use Rattle.std.proofs.Common.{sym, subst}
use Rattle.media_rows.specs.Good.{Good}
use Rattle.store_core.proofs.Applied.{restored_good}
use Rattle.store_core.proofs.library.Core.from_rows.Goals as goal

-- rows that aren't refused are those of a good library
pub invariant_of-result : goal.invariant_of-result
invariant_of-result c =
    subst Good (sym c.in-Ok.ensures.1) (restored_good c.good_is_tested.ensures c.args.id c.args.blocks c.args.rows c.in-Ok.ensures.0)
