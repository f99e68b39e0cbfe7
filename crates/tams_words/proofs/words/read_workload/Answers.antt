use Rattle.std.proofs.Common.{refl}
use Rattle.tams_words.proofs.WordTheorems.{not_workload}
use Rattle.tams_words.proofs.words.read_workload.Goals as goal

-- Its number is none.
pub returns-in_default : goal.returns-in_default
returns-in_default c = λ command form.
    let none = rw c.as_bytes.ensures.value at c.in_default.ensures.none in
    not_workload c.args.number.now c.args.count.now (λ n is. none refl n is) command form
