use Rattle.std.proofs.Common.{rules, arith, ap, length}
use Rattle.field_codec.specs.Laws.{IsBytes}
use Rattle.field_codec.proofs.Wholes.{less_left}
use Rattle.change_codec.proofs.SizedLemmas.{sized_found, sized_wrong}
use Rattle.change_codec.proofs.sized.read_sized.Goals as goal

pub overflow_sub-fields : goal.overflow_sub-fields
overflow_sub-fields g c =
    let bytes : IsBytes c.u32_field.new.self = rw (← c.rest-fields.ensures) (λ i. search rules) in
    let less = less_left g.T.Field.spelling c.requires c.u32_field.new.self c.read_from.new.input c.in_ok-value.value bytes c.in_ok-value.ensures in
    omega (arith, less, ap length c.rest-fields.ensures, c.left.ensures)

pub returns-then-fields-left : goal.returns-then-fields-left
returns-then-fields-left g c =
    let bytes : IsBytes c.u32_field.new.self = rw (← c.rest-fields.ensures) (λ i. search rules) in
    rw c.left-left.ensures (sized_wrong g.T.Field.spelling c.requires c.args.input.now c.u32_field.new.self c.read_from.new.input c.in_ok-size.size
    c.in_ok-value.value bytes
    c.in_ok-size.ensures.field c.in_ok-value.ensures (λ e. omega (arith, c.if-fields-left.true, e, ap length c.rest-fields.ensures, c.left.ensures)))

pub returns : goal.returns
returns g c =
    let bytes : IsBytes c.u32_field.new.self = rw (← c.rest-fields.ensures) (λ i. search rules) in
    sized_found g.T.Field.spelling c.requires c.args.input.now c.u32_field.new.self c.read_from.new.input c.in_ok-size.size c.in_ok-value.value bytes
    c.in_ok-size.ensures.field c.in_ok-value.ensures (omega (arith, c.if-fields-left.false, ap length c.rest-fields.ensures, c.left.ensures))
