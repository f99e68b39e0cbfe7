use Rattle.std.proofs.Common.{arith, rules}
use Rattle.range_edit.proofs.Three.{are_all, has_each}
use Rattle.range_edit.proofs.reading.three_fields.Goals as goal

-- each of three fields is there
pub returns-in_err-get-clause-none : goal.returns-in_err-get-clause-none
returns-in_err-get-clause-none c = λ none three. has_each _ 0 three (omega arith) (rw c.in_err-get.was at c.get.ensures.value)

pub returns-in_err-get-2-clause-none : goal.returns-in_err-get-2-clause-none
returns-in_err-get-2-clause-none c = λ none three. has_each _ 1 three (omega arith) (rw c.in_err-get-2.was at c.get-2.ensures.value)

pub returns-in_err-get-3-clause-none : goal.returns-in_err-get-3-clause-none
returns-in_err-get-3-clause-none c = λ none three. has_each _ 2 three (omega arith) (rw c.in_err-get-3.was at c.get-3.ensures.value)

-- and they are all
pub returns-clause-some : goal.returns-clause-some
returns-clause-some c =
    are_all _ _ _ _ (search rules) (rw c.in_ok-get.was at c.get.ensures.value) (rw c.in_ok-get-2.was at c.get-2.ensures.value)
    (rw c.in_ok-get-3.was at c.get-3.ensures.value)
