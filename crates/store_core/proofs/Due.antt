-- What is prepared of a turn.
use Rattle.std.proofs.Common.{◌≡◌, true, Option, Some, None, refl, sym, subst, ap, ◌∙◌}
use Rattle.std.specs.Prelude.{IfSome, is_some, option_map}
use Rattle.media_rows.specs.declared.change.Change.{Change}
use Rattle.media_rows.specs.declared.reply.Reply.TheVariants.{Done}
use Rattle.media_rows.specs.Answer.{changed}
use Rattle.media_rows.specs.Good.{Good}
use Rattle.media_rows.specs.Library.{Library}
use Rattle.library_laws.specs.Laws.{AppliesWithin, GoodIsTested}
use Rattle.store_core.specs.Prepared.{AppliesTo, Preparation, prepared_by}
use Rattle.store_core.specs.Within.{Making, made_by, prepared_step}
use Rattle.store_core.proofs.Prepares.{applies_by, step_good, step_prepared}

-- what a turn's change makes of a library, and what is prepared of it
abbrev pub made_turn : Library → Option Change → Option Making
made_turn library change = option_map (λ c. made_by library (changed Done c)) change

abbrev pub prepared_turn : Library → Option Change → Option Preparation
prepared_turn library change = option_map (λ c. prepared_by library (changed Done c)) change

-- nothing is prepared where nothing is due
pub none_turned : (library : Library) (change : Option Change) → None ≡ made_turn library change → None ≡ prepared_turn library change
none_turned library None e = refl
none_turned library (Some change) e = absurd (cc)

-- something is due where something was made
pub some_due : (library : Library) (change : Option Change) (made : Making) → Some made ≡ made_turn library change → is_some change ≡ true
some_due library None made e = absurd (cc)
some_due library (Some change) made e = refl

-- it is prepared as it was made
pub some_turned : (library : Library) (change : Option Change) (made : Making) → Some made ≡ made_turn library change
    → (p : Preparation) → p ≡ prepared_step library made.reply made.step → Some p ≡ prepared_turn library change
some_turned library None made e p is = absurd (cc)
some_turned library (Some change) made e p is =
    let same : made ≡ made_by library (changed Done change) = cc in
    ap Some (is ∙ ap (λ (m : Making). prepared_step library m.reply m.step) same ∙ sym (step_prepared library Done change))

-- and is good
pub turn_good : GoodIsTested → (library : Library) (change : Option Change) → IfSome change (AppliesWithin library)
    → (made : Making) → Some made ≡ made_turn library change → IfSome made.step (λ step. IfSome step.next Good)
turn_good tested library None applies_then made e = absurd (cc)
turn_good tested library (Some change) applies_then made e =
    let same : made_by library (changed Done change) ≡ made = cc in
    subst (λ (m : Making). IfSome m.step (λ step. IfSome step.next Good)) same (step_good tested library (Some change) applies_then)

-- and applies
pub turn_applies : (library : Library) (change : Option Change) → IfSome change (AppliesWithin library)
    → (p : Option Preparation) → p ≡ prepared_turn library change → IfSome p (AppliesTo library)
turn_applies library None applies_then p e = subst (λ (o : Option Preparation). IfSome o (AppliesTo library)) (sym e) tt
turn_applies library (Some change) applies_then p e =
    subst (λ (o : Option Preparation). IfSome o (AppliesTo library)) (sym e) (applies_by library Done (Some change) applies_then)
