-- Records that are applied one after another.
use Rattle.std.proofs.Common.{◌≡◌, ◌<◌, ◌+◌, ℕ, suc, Bool, false, cond, List, [], ◌∷◌, ◌++◌, length, take, drop, get_or, Err, Some, None, sym, ap, ◌∙◌, subst, drop-cons, add-one}
use Rattle.std.proofs.lemmas.List.{take-append-drop, take_more}
use Rattle.field_codec.proofs.Wholes.{one_value}
use Rattle.media_rows.specs.declared.change.Change.{Change}
use Rattle.media_rows.specs.Apply.{applied, applies}
use Rattle.media_rows.specs.Changes.{after}
use Rattle.media_rows.specs.Library.{Library}
use Rattle.change_codec.specs.Changes.{change_spelling}
use Rattle.change_codec.specs.Codec.{SpellsChange}
use Rattle.change_codec.proofs.ChangeLaws.{change_lawful}
use Rattle.media_journal.specs.declared.record.Record.{Record}
use Rattle.store_states.specs.States.{Folds, StepOf}
use Rattle.store_states.proofs.Folding.{fold_push, one_step}
use Rattle.store_opening.specs.declared.fault.OpenFault.{OpenFault}
use Rattle.store_opening.specs.declared.fault.OpenFault.TheVariants.{Damaged, Memory}
use Rattle.store_opening.specs.Opening.{IsNoStep, IsRefusedAt}
use Rattle.store_opening.specs.Within.{AtDamage}

-- ---- one record

none_made : (b : Bool) (made next : Library) → b ≡ false → cond b (Some made) None ≡ Some next → ⊥
none_made b made next is e =
    let none : None ≡ Some next = ap (λ (x : Bool). cond x (Some made) None) (sym is) ∙ e in
    cc

-- a payload whose change doesn't apply makes nothing
pub no_step : (form : ℕ) (payload : List ℕ) (change : Change) (from : Library) → SpellsChange form payload change → applies from change ≡ false → IsNoStep form payload from
no_step form payload change from spells is next step =
    let same : step.change ≡ change = one_value (change_spelling form) (change_lawful form) payload step.change change step.spells spells in
    let made : applied change from ≡ Some next = subst (λ (c : Change). applied c from ≡ Some next) same step.made in
    none_made (applies from change) (after change from) next is made

-- ---- records in order

-- records fold up to the one at a place, and with it
pub fold_more : (form : ℕ) (rs : List Record) (i : ℕ) (r : Record) (first from next : Library) → i < length rs → r ≡ get_or rs i r
    → Folds form (take i rs) first from → StepOf form r.payload from next → Folds form (take (i + 1) rs) first next
fold_more form rs i r first from next within is folds step =
    let more : take (i + 1) rs ≡ take i rs ++ r ∷ [] = take_more rs i r within ∙ ap (λ (x : Record). take i rs ++ x ∷ []) (sym is) in
    subst (λ (xs : List Record). Folds form xs first next) (sym more) (fold_push form (take i rs) r first from next folds step)

-- a record in the midst of others
split_at : (rs : List Record) (i : ℕ) (r : Record) → i < length rs → r ≡ get_or rs i r → rs ≡ take i rs ++ r ∷ drop (i + 1) rs
split_at rs i r within is =
    let rest : drop i rs ≡ r ∷ drop (i + 1) rs = rw (add-one, drop-cons rs i r) (ap (λ (x : Record). x ∷ drop (suc i) rs) (sym is)) in
    sym (take-append-drop i rs) ∙ ap (λ (xs : List Record). take i rs ++ xs) rest

-- the first record that makes nothing is the refused one
pub fold_refused : (form : ℕ) (rs : List Record) (i : ℕ) (r : Record) (first from : Library) (fault : OpenFault) → i < length rs → r ≡ get_or rs i r
    → Folds form (take i rs) first from → AtDamage {X = Library} (Err fault) (λ at. IsNoStep form r.payload from)
    → AtDamage {X = Library} (Err fault) (λ at. at ≡ r.offset) → AtDamage {X = Library} (Err fault) (IsRefusedAt form rs first)
fold_refused form rs i r first from (Damaged at) within is folds none place = record {
  front = take i rs;
  refused = r;
  behind = drop (i + 1) rs;
  parts = split_at rs i r within is;
  before = from;
  folds = folds;
  none = none;
  place = place;
}
fold_refused form rs i r first from Memory within is folds none place = tt

-- ---- the refused record

-- records among which one is refused make nothing
pub no_fold : (form : ℕ) (front : List Record) (r : Record) (behind : List Record) (first before to : Library) → Folds form front first before
    → IsNoStep form r.payload before → Folds form (front ++ r ∷ behind) first to → ⊥
no_fold form [] r behind first before to same none folds =
    subst (λ (x : Library). IsNoStep form r.payload x) same none folds.0 folds.1
no_fold form (q ∷ front) r behind first before to made none folds =
    let same : folds.0 ≡ made.0 = one_step form q.payload first made.0 folds.0 made.1 folds.1 in
    no_fold form front r behind made.0 before to made.2 none (subst (λ (x : Library). Folds form (front ++ r ∷ behind) x to) same folds.2)

pub refused_no_fold : (form : ℕ) (records : List Record) (first to : Library) (at : ℕ) → IsRefusedAt form records first at → Folds form records first to → ⊥
refused_no_fold form records first to at refused folds =
    no_fold form refused.front refused.refused refused.behind first refused.before to refused.folds refused.none
    (subst (λ (rs : List Record). Folds form rs first to) refused.parts folds)

heads : (r q : Record) (rs qs : List Record) → r ∷ rs ≡ q ∷ qs → r ≡ q
heads r q rs qs e = cc

tails : (r q : Record) (rs qs : List Record) → r ∷ rs ≡ q ∷ qs → rs ≡ qs
tails r q rs qs e = cc

-- among records one is the first that is refused
one_refused_by : (form : ℕ) (front more : List Record) (r q : Record) (behind rest : List Record) (first before other : Library)
    → front ++ r ∷ behind ≡ more ++ q ∷ rest → Folds form front first before → IsNoStep form r.payload before → Folds form more first other
    → IsNoStep form q.payload other → q ≡ r
one_refused_by form [] [] r q behind rest first before other e made none makes nothing = sym (heads r q behind rest e)
one_refused_by form [] (p ∷ more) r q behind rest first before other e same none makes nothing =
    let is : p ≡ r = sym (heads r p behind (more ++ q ∷ rest) e) in
    absurd (subst (λ (x : Library). IsNoStep form r.payload x) same none makes.0 (subst (λ (x : Record). StepOf form x.payload first makes.0) is makes.1))
one_refused_by form (p ∷ front) [] r q behind rest first before other e made none same nothing =
    let is : p ≡ q = heads p q (front ++ r ∷ behind) rest e in
    absurd (subst (λ (x : Library). IsNoStep form q.payload x) same nothing made.0 (subst (λ (x : Record). StepOf form x.payload first made.0) is made.1))
one_refused_by form (p ∷ front) (s ∷ more) r q behind rest first before other e made none makes nothing =
    let is : s ≡ p = sym (heads p s (front ++ r ∷ behind) (more ++ q ∷ rest) e) in
    let step : StepOf form p.payload first makes.0 = subst (λ (x : Record). StepOf form x.payload first makes.0) is makes.1 in
    let same : makes.0 ≡ made.0 = one_step form p.payload first made.0 makes.0 made.1 step in
    one_refused_by form front more r q behind rest made.0 before other (tails p s (front ++ r ∷ behind) (more ++ q ∷ rest) e) made.2 none
    (subst (λ (x : Library). Folds form more x other) same makes.2) nothing

pub one_refused : (form : ℕ) (records : List Record) (first : Library) (at other : ℕ) → IsRefusedAt form records first at → IsRefusedAt form records first other
    → other ≡ at
one_refused form records first at other a b =
    let same =
    one_refused_by form a.front b.front a.refused b.refused a.behind b.behind first a.before b.before (sym a.parts ∙ b.parts) a.folds a.none b.folds b.none in
    b.place ∙ ap (λ (r : Record). r.offset) same ∙ sym a.place
