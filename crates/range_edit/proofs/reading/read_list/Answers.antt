use Rattle.std.specs.List.{All}
use Rattle.std.proofs.lemmas.Result.{IfOk-weaker}
use Rattle.range_edit.specs.Lists.{IsBoundedRow, IsListOf}
use Rattle.range_edit.proofs.Rows.{list_bounded}
use Rattle.range_edit.proofs.reading.read_list.Goals as goal

-- the rows of a list are bounded
pub returns-clause-bounded : goal.returns-clause-bounded
returns-clause-bounded c =
    IfOk-weaker _ (IsListOf c.args.bytes.now) (All IsBoundedRow) (list_bounded c.args.bytes.now)
    c.read_records.ensures.rows
