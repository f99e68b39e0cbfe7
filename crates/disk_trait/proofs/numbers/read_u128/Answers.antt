use Rattle.std.proofs.Common.{◌∙◌, arith}
use Rattle.std.proofs.lemmas.List.{take-append-drop}
use Rattle.disk_trait.proofs.NumberLemmas.{u128_of_halves}
use Rattle.disk_trait.proofs.numbers.read_u128.Goals as goal

pub returns : goal.returns
returns c =
    u128_of_halves _ _ (omega arith)
    ∙ rw (c.from.ensures, c.from-2.ensures, c.read_u64.ensures, c.read_u64-2.ensures, c.split_at.ensures.front, c.split_at.ensures.back) (take-append-drop 8 _)
