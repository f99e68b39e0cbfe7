use Rattle.std.proofs.Common.{rules, arith, ap, length}
use Rattle.field_codec.specs.Laws.{IsBytes}
use Rattle.field_codec.proofs.Wholes.{less_left}
use Rattle.change_codec.specs.Rows.{object_row_spelling}
use Rattle.change_codec.proofs.RowLaws.{object_row_lawful}
use Rattle.change_codec.proofs.SizedLemmas.{sized_found, sized_wrong}
use Rattle.change_codec.proofs.objects.read_sized_object.Goals as goal

pub overflow_sub-fields : goal.overflow_sub-fields
overflow_sub-fields c =
    let bytes : IsBytes c.u32_field.new.self = rw (← c.rest-fields.ensures) (λ i. search rules) in
    let less = less_left (object_row_spelling c.args.form) (object_row_lawful c.args.form) c.u32_field.new.self c.read_object.new.input c.in_ok-value.value bytes c.in_ok-value.ensures in
    omega (arith, less, ap length c.rest-fields.ensures, c.left.ensures)

pub returns-then-fields-left : goal.returns-then-fields-left
returns-then-fields-left c =
    let bytes : IsBytes c.u32_field.new.self = rw (← c.rest-fields.ensures) (λ i. search rules) in
    rw c.left-left.ensures (sized_wrong (object_row_spelling c.args.form) (object_row_lawful c.args.form) c.args.input.now c.u32_field.new.self c.read_object.new.input c.in_ok-size.size
    c.in_ok-value.value bytes
    c.in_ok-size.ensures.field c.in_ok-value.ensures (λ e. omega (arith, c.if-fields-left.true, e, ap length c.rest-fields.ensures, c.left.ensures)))

pub returns : goal.returns
returns c =
    let bytes : IsBytes c.u32_field.new.self = rw (← c.rest-fields.ensures) (λ i. search rules) in
    sized_found (object_row_spelling c.args.form) (object_row_lawful c.args.form) c.args.input.now c.u32_field.new.self c.read_object.new.input c.in_ok-size.size c.in_ok-value.value bytes
    c.in_ok-size.ensures.field c.in_ok-value.ensures (omega (arith, c.if-fields-left.false, ap length c.rest-fields.ensures, c.left.ensures))
