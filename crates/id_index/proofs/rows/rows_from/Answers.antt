use Rattle.std.proofs.Common.{◌≡◌, ◌++◌, arith, length, ap, filter, take, FitsSigned}
use mir.Syntax.{w128}
use Rattle.std.proofs.lemmas.Int.{to_z-of_z}
use Rattle.shared_tree.specs.Pairs.{is_from, values, values_of}
use Rattle.id_index.proofs.Ids.{walked_from}
use Rattle.id_index.proofs.rows.rows_from.Goals as goal

-- the walk passes all rows from the key on
pub returns : goal.returns
returns g c =
    let fit : FitsSigned w128 c.args.key = c.ranges.key in
    let count : c.len-count.result ≡ length c.args.rows.now = omega (arith, c.len-count.ensures) in
    let walked : values_of c.walk_from.new.out.items ≡ values_of c.in_ok-list.list.items ++ take c.len-count.result
    (values (filter (is_from c.args.key) c.args.rows.now)) = simp to_z-of_z at c.walk_from.ensures.values in
    walked_from c.len-count.result c.args.key c.args.rows.now (values_of c.in_ok-list.list.items) (values_of c.walk_from.new.out.items)
    (ap values_of c.in_ok-list.ensures.items) walked count
