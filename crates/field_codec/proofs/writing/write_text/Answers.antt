use Rattle.std.proofs.Common.{List, ℕ, ◌++◌, length, ap, ◌∙◌}
use Rattle.disk_trait.specs.Numbers.{u32_bytes}
use Rattle.field_codec.proofs.WritingLaws.{text_wrote}
use Rattle.field_codec.proofs.writing.write_text.Goals as goal

pub returns-in-Ok-clause-ok : goal.returns-in-Ok-clause-ok
returns-in-Ok-clause-ok c =
    text_wrote c.args.out.now c.append.new.self c.args.text.now c.append-2.new.self c.requires
    (c.in_ok-append.ensures.ok ∙ ap (λ (t : List ℕ). c.args.out.now ++ t) (c.u32_bytes.ensures ∙ ap (λ (l : List ℕ). u32_bytes (length l))
    c.bytes-bytes.ensures))
    (c.in-Ok.ensures.ok ∙ ap (λ (t : List ℕ). c.append.new.self ++ t) c.bytes-bytes.ensures)
