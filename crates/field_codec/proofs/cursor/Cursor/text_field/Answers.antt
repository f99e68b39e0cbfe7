use Rattle.std.proofs.Common.{arith, ◌∙◌}
use Rattle.field_codec.proofs.ReadingLaws.{text_found}
use Rattle.field_codec.proofs.cursor.Cursor.text_field.Goals as goal

pub returns-clause-field : goal.returns-clause-field
returns-clause-field c =
    rw (← c.self.view_is) (text_found c.self.inside.rest.now c.split_at.result.0.now c.split_at.result.1.now c.in_ok-text.text
    c.split_at-2.result.1.now c.read_u32-size.result
    (omega arith) (omega arith) c.split_at.ensures.front c.read_u32-size.ensures c.split_at.ensures.back (omega arith)
    (c.in_ok-text.ensures ∙ c.split_at-2.ensures.front) c.split_at-2.ensures.back)
