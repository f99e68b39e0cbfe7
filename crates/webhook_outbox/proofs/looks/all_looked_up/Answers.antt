use Rattle.std.proofs.Common.{◌≡◌, arith, length, ap}
use Rattle.shared_tree.specs.Pairs.{values_of}
use Rattle.webhook_outbox.proofs.Listing.{walked_all}
use Rattle.webhook_outbox.proofs.looks.all_looked_up.Goals as goal

-- the walk passes all rows
pub returns : goal.returns
returns g c =
    let count : c.len-count.result ≡ length c.args.rows.now = omega (arith, c.len-count.ensures) in
    walked_all c.len-count.result c.args.rows.now (values_of c.in_ok-list.list.items) (values_of c.walk_from.new.out.items)
    (ap values_of c.in_ok-list.ensures.items) c.walk_from.ensures.values count c.requires.serials
