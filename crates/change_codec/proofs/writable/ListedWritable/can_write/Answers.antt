use Rattle.std.proofs.Common.{◌≡◌, ap, arith, length, subst}
use Rattle.std.specs.List.{AllByRecursion}
use Rattle.change_codec.proofs.Asking.{u32_asks}
use Rattle.change_codec.proofs.writable.ListedWritable.can_write.Goals as goal

pub returns-then-items-clause-yes : goal.returns-then-items-clause-yes
returns-then-items-clause-yes g c = λ told.
    let same : c.items-items.result.now ≡ c.args.self.now = c.items-items.ensures in
    ((u32_asks _, subst (AllByRecursion g.T.Field.spelling.asks) same (c.can_write_items.ensures.yes told)), omega (arith, ap length same, c.if-items.true))
