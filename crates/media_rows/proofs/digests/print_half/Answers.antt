use Rattle.std.proofs.Common.{◌≡◌, ◌∙◌, ap}
use Rattle.std.proofs.lemmas.Result.{IfOk-weaker}
use Rattle.uuid.specs.Text.{lower, simple_text}
use Rattle.media_rows.specs.Digests.{half_digest_text}
use Rattle.media_rows.proofs.digests.print_half.Goals as goal

pub returns : goal.returns
unfolding half_digest_text
returns c =
    let printed = c.as_bytes.ensures.value ∙ c.write_half-printed.ensures ∙ ap (simple_text lower) (c.simple-spelled.ensures ∙ c.from_u128.ensures) in
    IfOk-weaker c.from_bytes.result _ _ (λ text e. e ∙ printed) c.from_bytes.ensures
