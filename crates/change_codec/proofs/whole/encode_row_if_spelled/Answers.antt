use Rattle.std.proofs.Common.{List, ℕ, ◌++◌, ap, ◌∙◌}
use Rattle.change_codec.proofs.CodecLemmas.{row_spelled}
use Rattle.change_codec.proofs.whole.encode_row_if_spelled.Goals as goal

pub returns-clause-ok : goal.returns-clause-ok
returns-clause-ok c =
    row_spelled c.args.out.now _ c.args.row.now c.write_row.new.out c.append.new.self c.in_ok-write_row.field-0 c.if-not-branch.false
    c.new-spelling.ensures c.in_ok-write_row.ensures
    (c.in_ok-append.ensures.ok ∙ ap (λ (t : List ℕ). c.args.out.now ++ t) c.bytes.ensures)
