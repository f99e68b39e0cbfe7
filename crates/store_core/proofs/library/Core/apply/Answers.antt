use Rattle.std.proofs.Common.{◌≡◌, sym, subst, ap, ◌∙◌}
use Rattle.std.specs.Prelude.{IsFalse, IsTrue}
use Rattle.media_rows.specs.Apply.{applies}
use Rattle.media_rows.specs.Changes.{after}
use Rattle.media_rows.specs.Library.{Library}
use Rattle.media_rows.specs.Moments.{is_moment}
use Rattle.core_parts.specs.Parts.{only_library}
use Rattle.store_core.proofs.Applied.{IsApplied, applied_next, at_no_moment, bad_values}
use Rattle.store_core.proofs.library.Core.apply.Goals as goal

-- the change applies
does : (c : goal.In-Ok-Some) → IsApplied c.self.inside.parts.library c.args.change.now c.in-Ok-Some.parts.library
does c =
    applied_next c.applies_is_tested.ensures c.good_is_tested.ensures c.self.inside.parts.library c.args.change.now c.self.invariant
    (ap is_moment (sym c.moment_of.ensures) ∙ sym c.is_moment.ensures ∙ c.if-not-is_moment.false)
    (sym c.in_ok-has_good_values.ensures ∙ c.if-not-branch.false) c.in-Ok-Some.ensures.0 c.in-Ok-Some.parts.library
    (sym (ap only_library c.in-Ok-Some.field-0-is) ∙ c.in-Ok-Some.ensures.1)

-- so the next library is good
pub invariant_of-result : goal.invariant_of-result
invariant_of-result c = (does c).good

pub returns-in-Ok-Some : goal.returns-in-Ok-Some
returns-in-Ok-Some c =
    let is = does c in
    subst (λ (l : Library). IsTrue (applies l c.args.change.now) × (c.in-Ok-Some.parts.library ≡ after c.args.change.now l)) (ap (λ h. h.library) c.self.view_is) (is.applies, is.is)

-- a change at no moment, or with bad values, doesn't apply
pub returns-then-not-is_moment : goal.returns-then-not-is_moment
returns-then-not-is_moment c =
    subst (λ (l : Library). IsFalse (applies l c.args.change.now)) (ap (λ h. h.library) c.self.view_is)
    (at_no_moment c.applies_is_tested.ensures c.self.inside.parts.library c.args.change.now c.self.invariant
    (ap is_moment (sym c.moment_of.ensures) ∙ sym c.is_moment.ensures ∙ c.if-not-is_moment.true))

pub returns-then-not-branch : goal.returns-then-not-branch
returns-then-not-branch c =
    subst (λ (l : Library). IsFalse (applies l c.args.change.now)) (ap (λ h. h.library) c.self.view_is)
    (bad_values c.applies_is_tested.ensures c.self.inside.parts.library c.args.change.now c.self.invariant
    (sym c.in_ok-has_good_values.ensures ∙ c.if-not-branch.true))
