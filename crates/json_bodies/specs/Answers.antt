-- What the readers answer: Ok exactly with what is found, and each refusal exactly where it is the
-- one that is found. Want of memory may stand at any place.
use Rattle.std.specs.Prelude.{◌≡◌, ℕ, List, Result, Ok, Err}
use Rattle.serde_json.specs.Data.{Data}
use Rattle.serde_json.specs.View.{view}
use Rattle.serde_json.specs.declared.value.Value.{Value}
use Rattle.media_rows.specs.declared.refusal.Refusal.{Refusal}
use Rattle.json_bodies.specs.Rules.{breach_of}
use Rattle.json_bodies.specs.declared.fault.Breach.{Breach}
use Rattle.json_bodies.specs.declared.fault.RuleFault.{RuleFault}
use Rattle.json_bodies.specs.declared.fault.RuleFault.TheVariants as rules
use Rattle.json_bodies.specs.declared.fault.BodyFault.{BodyFault}
use Rattle.json_bodies.specs.declared.fault.BodyFault.TheVariants as bodies

-- the answer is what is found in a body
abbrev pub Answers : {T : Type 0} → Result T Refusal → Result T BodyFault → Type 0
Answers found (Ok x) = found ≡ Ok x
Answers found (Err (bodies.Refused why)) = found ≡ Err why
Answers found (Err bodies.Memory) = Unit {0}

-- the same of a value, which is seen as its data
abbrev pub AnswersValue : Result Data Refusal → Result Value BodyFault → Type 0
AnswersValue found (Ok value) = found ≡ Ok (view value)
AnswersValue found (Err (bodies.Refused why)) = found ≡ Err why
AnswersValue found (Err bodies.Memory) = Unit {0}

-- the answer is what a rule gives
abbrev pub KeepsBreach : {T : Type 0} → Result T Breach → Result T RuleFault → Type 0
KeepsBreach given (Ok x) = given ≡ Ok x
KeepsBreach given (Err (rules.Breach breach)) = given ≡ Err breach
KeepsBreach given (Err rules.Memory) = Unit {0}

-- the answer for a fault of a rule, at the member of this name
abbrev pub IsFaultOf : {T : Type 0} → List ℕ → RuleFault → Result T BodyFault → Type 0
IsFaultOf name (rules.Breach breach) result = Answers (Err (breach_of name breach)) result
IsFaultOf name rules.Memory result = result ≡ Err bodies.Memory
