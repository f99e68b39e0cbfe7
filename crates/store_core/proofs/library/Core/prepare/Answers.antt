use Rattle.std.proofs.Common.{Ok, ap, subst}
use Rattle.media_rows.specs.Good.{Good}
use Rattle.media_rows.specs.Library.{Library}
use Rattle.store_core.specs.Prepared.{preparation}
use Rattle.store_core.specs.Within.{KeepsApart, making}
use Rattle.store_core.proofs.Held.{holds_stored}
use Rattle.store_core.proofs.Prepares.{command_applies, given, made_at, made_good}
use Rattle.store_core.proofs.library.Core.prepare.Goals as goal

-- what is made of a good library is good
pub prepared-requires : goal.prepared-requires
prepared-requires c =
    let library = c.args.self.now.library in
    let made = made_at c.self.inside.parts.library library (ap (λ h. h.library) c.self.view_is) c.args.command.now c.args.now (making c.in-Ok.made) c.in-Ok.ensures.answer in
    record {
      good = made_good c.answers_apply.ensures c.good_is_tested.ensures library c.args.command.now c.args.now (subst Good (ap (λ h. h.library) c.self.view_is) c.self.invariant)
          made.0 c.requires.good c.requires.moment (making c.in-Ok.made) made.1;
    }

-- it is prepared as it was made
pub returns-in_ok-prepared-in-Ok-clause-prepared : goal.returns-in_ok-prepared-in-Ok-clause-prepared
returns-in_ok-prepared-in-Ok-clause-prepared c =
    let library = c.args.self.now.library in
    let made = made_at c.self.inside.parts.library library (ap (λ h. h.library) c.self.view_is) c.args.command.now c.args.now (making c.in-Ok.made) c.in-Ok.ensures.answer in
    given library c.args.command.now c.args.now made.0 (making c.in-Ok.made) made.1 (preparation c.in_ok-prepared-in-Ok.field-0) c.in_ok-prepared-in-Ok.ensures.prepared

-- and applies
pub returns-in_ok-prepared-in-Ok-clause-applies : goal.returns-in_ok-prepared-in-Ok-clause-applies
returns-in_ok-prepared-in-Ok-clause-applies c =
    command_applies c.answers_apply.ensures c.args.self.now.library c.args.command.now c.args.now (subst Good (ap (λ h. h.library) c.self.view_is) c.self.invariant) c.requires.good
    c.requires.moment (preparation c.in_ok-prepared-in-Ok.field-0) (returns-in_ok-prepared-in-Ok-clause-prepared c)

-- the object that is stored is held apart
pub returns-in_ok-prepared-in-Ok-clause-apart : goal.returns-in_ok-prepared-in-Ok-clause-apart
returns-in_ok-prepared-in-Ok-clause-apart c =
    let library = c.args.self.now.library in
    let made = made_at c.self.inside.parts.library library (ap (λ h. h.library) c.self.view_is) c.args.command.now c.args.now (making c.in-Ok.made)
    c.in-Ok.ensures.answer in
    holds_stored library c.args.command.now c.args.now made.0 c.in-Ok.made made.1
    (subst (λ (l : Library). KeepsApart l c.args.command.now (Ok c.in-Ok.made)) (ap (λ h. h.library) c.self.view_is) c.in-Ok.ensures.apart)
    c.in_ok-prepared-in-Ok.field-0 c.in_ok-prepared-in-Ok.ensures.prepared c.in_ok-prepared-in-Ok.ensures.apart
