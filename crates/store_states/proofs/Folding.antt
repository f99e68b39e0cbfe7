-- Records make one library of another, and one more makes the next.
use Rattle.std.proofs.Common.{◌≡◌, ℕ, List, [], ◌∷◌, ◌++◌, Some, refl, sym, ap, ◌∙◌, subst}
use Rattle.field_codec.proofs.Wholes.{one_value}
use Rattle.media_rows.specs.declared.change.Change.{Change}
use Rattle.media_rows.specs.Apply.{applied}
use Rattle.media_rows.specs.Library.{Library}
use Rattle.change_codec.specs.Changes.{change_spelling}
use Rattle.change_codec.proofs.ChangeLaws.{change_lawful}
use Rattle.media_journal.specs.declared.record.Record.{Record}
use Rattle.store_states.specs.States.{Folds, StepOf}

pub one_step : (form : ℕ) (payload : List ℕ) (from a b : Library) → StepOf form payload from a → StepOf form payload from b → b ≡ a
one_step form payload from a b first second =
    let same : second.change ≡ first.change =
    one_value (change_spelling form) (change_lawful form) payload second.change first.change second.spells first.spells in
    let made : applied first.change from ≡ Some b = subst (λ (c : Change). applied c from ≡ Some b) same second.made in
    let e : Some b ≡ Some a = sym made ∙ first.made in
    cc

pub one_fold : (form : ℕ) (records : List Record) (from a b : Library) → Folds form records from a → Folds form records from b → b ≡ a
one_fold form [] from a b first second = second ∙ sym first
one_fold form (r ∷ records) from a b first second =
    let same : second.0 ≡ first.0 = one_step form r.payload from first.0 second.0 first.1 second.1 in
    one_fold form records first.0 a b first.2 (subst (λ (x : Library). Folds form records x b) same second.2)

-- one record more
pub fold_push : (form : ℕ) (records : List Record) (r : Record) (from mid next : Library) → Folds form records from mid → StepOf form r.payload mid next
    → Folds form (records ++ r ∷ []) from next
fold_push form [] r from mid next e step = (next, subst (λ (x : Library). StepOf form r.payload x next) e step, refl)
fold_push form (q ∷ records) r from mid next h step = (h.0, h.1, fold_push form records r h.0 mid next h.2 step)
