use Rattle.std.proofs.Common.{◌≡◌, ◌-◌, is_some, length, subst, sym, true, ◌∙◌}
use Rattle.shared_tree.specs.Pairs.{value_at, without_key}
use Rattle.shared_tree.proofs.Counted.{others_there}
use Rattle.shared_tree.proofs.version.Version.others.Goals as goal

pub returns-then-has : goal.returns-then-has
returns-then-has g c =
    let told : is_some (value_at c.args.key.now c.args.self.now) ≡ true = sym c.if-has.ensures in
    let e : length (without_key c.args.key.now c.self.inside.tree.0) ≡ length c.self.inside.tree.0 - 1 = others_there c.args.key.now c.self.inside.tree.0
    c.self.invariant.rising (subst (λ ps. is_some (value_at c.args.key.now ps) ≡ true) (sym c.self.view_is) told) in
    rw (← c.self.view_is) (c.self.invariant.more ∙ sym e)
