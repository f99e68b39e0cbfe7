use Rattle.std.proofs.Common.{arith, rules, sym, ◌∙◌}
use Rattle.std.proofs.lemmas.Result.{err_from_is_err_and}
use Rattle.field_codec.proofs.Wholes.{decoded, read_fault}
use Rattle.change_codec.proofs.whole.read_all.Goals as goal

pub returns-in_err-value : goal.returns-in_err-value
returns-in_err-value g c =
    let p = err_from_is_err_and c.from_residual.result c.from_residual.ensures.1 in
    rw (p.1, p.2) (read_fault g.T.Field.spelling c.requires c.args.bytes.now c.in_err-value.field-0.0 (λ i. omega (arith, c.type_inv.bytes i))
    (rw c.new-input.ensures at c.in_err-value.ensures))

-- `search` finds that no byte is left
pub returns : goal.returns
returns g c =
    decoded g.T.Field.spelling c.requires c.args.bytes.now c.read_from.new.input c.in_ok-value.value (λ i. omega (arith, c.type_inv.bytes i))
    (rw c.new-input.ensures at c.in_ok-value.ensures) (sym c.left-left.ensures ∙ search rules)
