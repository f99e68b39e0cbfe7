-- What was written is the text of the id, which is read as the id.
use Rattle.std.proofs.Common.{◌≡◌, ◌∙◌, ap, arith}
use Rattle.std.proofs.lemmas.Result.{IfOk-weaker}
use Rattle.uuid.specs.Text.{hyphenated_text, lower}
use Rattle.media_rows.specs.Ids.{id_of, id_text}
use Rattle.media_rows.proofs.IdLemmas.{id_of-id_text}
use Rattle.media_rows.proofs.ids.print_id.Goals as goal

pub returns-clause-text : goal.returns-clause-text
unfolding id_text
returns-clause-text c =
    let printed = c.as_bytes.ensures.value ∙ c.write_id-printed.ensures ∙ ap (hyphenated_text lower) (c.hyphenated-spelled.ensures ∙ c.from_u128.ensures) in
    IfOk-weaker c.from_bytes.result _ _ (λ text e. e ∙ printed) c.from_bytes.ensures

pub returns-clause-reads_back : goal.returns-clause-reads_back
unfolding id_text
returns-clause-reads_back c =
    let printed : c.as_bytes.result.now ≡ id_text c.args.id = c.as_bytes.ensures.value ∙ c.write_id-printed.ensures ∙ ap (hyphenated_text lower)
    (c.hyphenated-spelled.ensures ∙ c.from_u128.ensures) in
    IfOk-weaker c.from_bytes.result _ _ (λ text e. ap id_of (e ∙ printed) ∙ id_of-id_text c.args.id (omega arith)) c.from_bytes.ensures
