use Rattle.std.proofs.Common.{get_or, sym, ◌∙◌, arith}
use Rattle.http_wire.proofs.Digits.{below_more, digit_small, digits_fit, digits_more, value_more}
use Rattle.http_wire.proofs.fields.read_length.Goals as goal

pub overflow_mul-value : goal.overflow_mul-value
overflow_mul-value c =
    omega (arith, digits_fit c.loop-byte.byte-index c.loop-byte.value 0 (omega arith) c.loop-byte.invariant.small (omega arith))

pub overflow_add-value : goal.overflow_add-value
overflow_add-value c =
    let test = sym c.is_ascii_digit.ensures.value ∙ c.if-not-is_ascii_digit.false in
    let small = digit_small (get_or c.args.text.now c.loop-byte.byte-index 0) test in
    omega (arith, digits_fit c.loop-byte.byte-index c.loop-byte.value c.from.result (omega arith) c.loop-byte.invariant.small (omega (arith, small)))

pub loop-byte-preserved : goal.loop-byte-preserved
loop-byte-preserved c =
    let test = sym c.is_ascii_digit.ensures.value ∙ c.if-not-is_ascii_digit.false in
    let small = digit_small (get_or c.args.text.now c.loop-byte.byte-index 0) test in
    let so_far = c.loop-byte.invariant in
    let inside = c.loop-byte-test.true in
    record {
      digits = digits_more _ _ inside test so_far.digits;
      value = value_more _ _ _ _ inside test c.from.ensures so_far.value;
      small = below_more _ _ _ so_far.small (omega (arith, small));
    }
