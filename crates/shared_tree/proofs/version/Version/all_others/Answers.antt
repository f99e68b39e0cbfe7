use Rattle.std.proofs.Common.{rules, ◌≡◌, ◌≤◌, length, arith, false, is_some, FitsSigned}
use mir.Syntax.{w128}
use Rattle.shared_tree.specs.Pairs.{value_at, without_key}
use Rattle.shared_tree.proofs.Counted.{others_not, some_left, fewer_than_keys}
use Rattle.shared_tree.proofs.version.Version.all_others.Goals as goal

-- where no pair has the key, another one has room
pub overflow_add-result : goal.overflow_add-result
overflow_add-result g c =
    let fit : FitsSigned w128 c.args.key.now = search rules in
    let none : is_some (value_at c.args.key.now c.self.inside.tree.0) ≡ false = rw (← c.self.view_is) at c.requires.other in
    let some = some_left c.self.inside.tree.0 c.if-is_empty.ensures.1 in
    let few = fewer_than_keys c.args.key.now c.self.inside.tree.0 c.self.invariant.rising c.self.invariant.fits fit none some in
    omega (arith, c.self.invariant.more, few, some)

pub returns-else-is_empty : goal.returns-else-is_empty
returns-else-is_empty g c =
    let none : is_some (value_at c.args.key.now c.self.inside.tree.0) ≡ false = rw (← c.self.view_is) at c.requires.other in
    let e : length (without_key c.args.key.now c.self.inside.tree.0) ≡ length c.self.inside.tree.0 = others_not c.args.key.now c.self.inside.tree.0 none in
    let some : 1 ≤ length c.self.inside.tree.0 = some_left c.self.inside.tree.0 c.if-is_empty.ensures.1 in
    rw (← c.self.view_is) (omega (arith, c.self.invariant.more, e, some))
