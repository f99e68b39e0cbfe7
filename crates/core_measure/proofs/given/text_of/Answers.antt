use Rattle.std.proofs.Common.{◌∙◌, ap}
use Rattle.std.specs.Str.{is_utf8}
use Rattle.std.proofs.lemmas.Result.{IfOk-weaker}
use Rattle.std.proofs.lemmas.Str.{is_utf8-from_IsUtf8}
use Rattle.core_measure.proofs.given.text_of.Goals as goal

-- a text's own bytes are UTF-8
pub returns : goal.returns
returns c = IfOk-weaker c.from_bytes.result _ _ (λ text same. ap is_utf8 same ∙ is_utf8-from_IsUtf8 _ c.as_bytes.ensures.utf8) c.from_bytes.ensures
