-- The one answer that a connection had to a request.
use Rattle.std.proofs.Common.{◌≡◌, ℕ, Bool, true, false, ◌||◌, List, refl, sym, ap, ◌∙◌}
use Rattle.std.proofs.lemmas.Bool.{false≢true}
use Rattle.disk_trait.specs.Device.{Connection}
use Rattle.hook_delivery.specs.Exchanging.{IsAnswer, IsBroken, IsHeardOut, SaysAnswer, is_accepted}
use Rattle.hook_delivery.specs.Judging.{IsVerdict}
use Rattle.hook_delivery.specs.declared.judging.Verdict.TheVariants as verdicts
use Rattle.hook_delivery.specs.declared.exchanging.Answered.{Answered}
use Rattle.hook_delivery.specs.declared.exchanging.Answered.TheVariants.{Accepted, Other, Silent, Failed}
use Rattle.hook_delivery.proofs.Verdicts.{one_verdict}

-- bytes have one status
one_status : (bytes : List ℕ) (ended : Bool) (status other : ℕ) → IsVerdict bytes ended (verdicts.Status status)
    → IsVerdict bytes ended (verdicts.Status other) → status ≡ other
one_status bytes ended status other one two =
    let same = one_verdict bytes ended (verdicts.Status status) (verdicts.Status other) one two in
    cc

-- and none where they are no response
no_status : (bytes : List ℕ) (ended : Bool) (status : ℕ) → IsVerdict bytes ended (verdicts.Status status)
    → IsVerdict bytes ended verdicts.Silent → ⊥
no_status bytes ended status one two =
    let same = one_verdict bytes ended (verdicts.Status status) verdicts.Silent one two in
    cc

-- one that accepts is no other
not_both : (bytes : List ℕ) (ended : Bool) (status other : ℕ) → IsVerdict bytes ended (verdicts.Status status) → is_accepted status ≡ true
    → IsVerdict bytes ended (verdicts.Status other) → is_accepted other ≡ false → ⊥
not_both bytes ended status other one accepts two refuses =
    false≢true (sym refuses ∙ ap is_accepted (sym (one_status bytes ended status other one two)) ∙ accepts)

-- bytes say one answer
says_one : (bytes : List ℕ) (ended : Bool) (answer other : Answered) → SaysAnswer answer bytes ended → SaysAnswer other bytes ended
    → answer ≡ other
says_one bytes ended Accepted Accepted one two = refl
says_one bytes ended Accepted (Other other) (status, one, accepts) (two, refuses) = absurd (not_both bytes ended status other one accepts two refuses)
says_one bytes ended Accepted Silent (status, one, accepts) two = absurd (no_status bytes ended status one two)
says_one bytes ended (Other other) Accepted (two, refuses) (status, one, accepts) = absurd (not_both bytes ended status other one accepts two refuses)
says_one bytes ended (Other status) (Other other) (one, refuses) (two, refuses_too) = ap Other (one_status bytes ended status other one two)
says_one bytes ended (Other status) Silent (one, refuses) two = absurd (no_status bytes ended status one two)
says_one bytes ended Silent Accepted two (status, one, accepts) = absurd (no_status bytes ended status one two)
says_one bytes ended Silent (Other status) two (one, refuses) = absurd (no_status bytes ended status one two)
says_one bytes ended Silent Silent one two = refl
says_one bytes ended Accepted Failed one two = absurd two
says_one bytes ended (Other status) Failed one two = absurd two
says_one bytes ended Silent Failed one two = absurd two
says_one bytes ended Failed other one two = absurd one

-- a connection on which no call failed isn't one on which one did
not_broken : (answer : Answered) (request : List ℕ) (c : Connection) → IsHeardOut answer request c → IsBroken request c → ⊥
not_broken answer request c heard broken =
    let none : (c.unsaid || c.unheard) ≡ false = rw (heard.unsaid, heard.unheard) refl in
    false≢true (sym none ∙ broken.failed)

heard_one : (answer other : Answered) (request : List ℕ) (c : Connection) → IsHeardOut answer request c → IsHeardOut other request c → answer ≡ other
heard_one answer other request c one two = says_one c.heard c.ended answer other one.says two.says

pub one_answer : (request : List ℕ) (c : Connection) (answer other : Answered) → IsAnswer answer request c → IsAnswer other request c
    → answer ≡ other
one_answer request c Accepted Accepted one two = refl
one_answer request c Accepted (Other status) one two = heard_one Accepted (Other status) request c one two
one_answer request c Accepted Silent one two = heard_one Accepted Silent request c one two
one_answer request c Accepted Failed one two = absurd (not_broken Accepted request c one two)
one_answer request c (Other status) Accepted one two = heard_one (Other status) Accepted request c one two
one_answer request c (Other status) (Other other) one two = heard_one (Other status) (Other other) request c one two
one_answer request c (Other status) Silent one two = heard_one (Other status) Silent request c one two
one_answer request c (Other status) Failed one two = absurd (not_broken (Other status) request c one two)
one_answer request c Silent Accepted one two = heard_one Silent Accepted request c one two
one_answer request c Silent (Other status) one two = heard_one Silent (Other status) request c one two
one_answer request c Silent Silent one two = refl
one_answer request c Silent Failed one two = absurd (not_broken Silent request c one two)
one_answer request c Failed Accepted one two = absurd (not_broken Accepted request c two one)
one_answer request c Failed (Other status) one two = absurd (not_broken (Other status) request c two one)
one_answer request c Failed Silent one two = absurd (not_broken Silent request c two one)
one_answer request c Failed Failed one two = refl
