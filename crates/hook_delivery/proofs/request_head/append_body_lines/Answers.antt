use Rattle.std.proofs.lemmas.Result.{on_ok_weaker}
use Rattle.hook_delivery.specs.Posting.{body_lines}
use Rattle.hook_delivery.proofs.Texts.{behind}
use Rattle.hook_delivery.proofs.request_head.append_body_lines.Goals as goal

-- the second line stands behind the first
pub returns : goal.returns
unfolding body_lines
returns c = on_ok_weaker c.append_length.result (behind _ _ _ c.in_ok-append_field.ensures) c.append_length.ensures
