use Rattle.std.proofs.Common.{◌≡◌, true, Some, sym, subst, ap, ◌∙◌}
use Rattle.media_rows.specs.Apply.{turn}
use Rattle.media_rows.specs.Good.{Good}
use Rattle.media_rows.specs.Library.{Library}
use Rattle.std.specs.Prelude.{is_some, option_map}
use Rattle.store_core.specs.Prepared.{preparation}
use Rattle.store_core.specs.Within.{making}
use Rattle.store_core.proofs.Due.{made_turn, some_due, some_turned, turn_applies, turn_good}
use Rattle.store_core.proofs.Prepares.{of_any}
use Rattle.store_core.proofs.library.Core.prepare_turn.Goals as goal

-- what is made of a good library is good
pub prepared-requires : goal.prepared-requires
prepared-requires c =
    let library = c.args.self.now.library in
    let now = c.args.now in
    let made : Some (making c.in-Ok-Some.made) ≡ made_turn library (turn library now) = sym (ap (option_map making) c.in-Ok-Some.field-0-is) ∙ c.in-Ok-Some.ensures.made
    ∙ ap (λ (l : Library). made_turn l (turn l now)) (ap (λ h. h.library) c.self.view_is) in
    record {
      good = turn_good c.good_is_tested.ensures library (turn library now)
          (c.turns_apply.ensures library now (subst Good (ap (λ h. h.library) c.self.view_is) c.self.invariant) c.requires.moment) (making c.in-Ok-Some.made) made;
    }

-- it is prepared as it was made
pub returns-in_ok-prepared-in-Ok-Some-clause-prepared : goal.returns-in_ok-prepared-in-Ok-Some-clause-prepared
returns-in_ok-prepared-in-Ok-Some-clause-prepared c =
    let library = c.args.self.now.library in
    let now = c.args.now in
    let made : Some (making c.in-Ok-Some.made) ≡ made_turn library (turn library now) = sym (ap (option_map making) c.in-Ok-Some.field-0-is) ∙ c.in-Ok-Some.ensures.made
    ∙ ap (λ (l : Library). made_turn l (turn l now)) (ap (λ h. h.library) c.self.view_is) in
    some_turned library (turn library now) (making c.in-Ok-Some.made) made (preparation c.in_ok-prepared-in-Ok-Some.field-0) c.in_ok-prepared-in-Ok-Some.ensures.prepared

-- and applies
pub returns-in_ok-prepared-in-Ok-Some-clause-applies : goal.returns-in_ok-prepared-in-Ok-Some-clause-applies
returns-in_ok-prepared-in-Ok-Some-clause-applies c =
    let library = c.args.self.now.library in
    let now = c.args.now in
    turn_applies library (turn library now) (c.turns_apply.ensures library now (subst Good (ap (λ h. h.library) c.self.view_is) c.self.invariant) c.requires.moment)
    (Some (preparation c.in_ok-prepared-in-Ok-Some.field-0)) (returns-in_ok-prepared-in-Ok-Some-clause-prepared c)

-- something is due
pub returns-in_err-prepared-in-Ok-Some-clause-due : goal.returns-in_err-prepared-in-Ok-Some-clause-due
returns-in_err-prepared-in-Ok-Some-clause-due c =
    let library = c.args.self.now.library in
    let now = c.args.now in
    let made : Some (making c.in-Ok-Some.made) ≡ made_turn library (turn library now) = sym (ap (option_map making) c.in-Ok-Some.field-0-is) ∙ c.in-Ok-Some.ensures.made
    ∙ ap (λ (l : Library). made_turn l (turn l now)) (ap (λ h. h.library) c.self.view_is) in
    of_any c.from_residual.result (is_some (turn library now) ≡ true) (some_due library (turn library now) (making c.in-Ok-Some.made) made)
