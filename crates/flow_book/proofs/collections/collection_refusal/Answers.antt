use Rattle.std.proofs.Common.{◌≡◌, length, rules}
use Rattle.shared_tree.specs.Pairs.{values}
use Rattle.flow_book.proofs.Kept.{none_refused}
use Rattle.flow_book.proofs.collections.collection_refusal.Goals as goal

-- nothing is refused where nothing is collected
pub returns-then-members-eq0 : goal.returns-then-members-eq0
returns-then-members-eq0 c =
    let none : length c.args.members.now ≡ 0 = search rules in
    none_refused (values c.args.flows.now) c.args.id c.args.members.now none
