-- The laws of values by kind, and of options.
use Rattle.std.proofs.Common.{◌≡◌, ◌≤◌, ◌<◌, ℕ, suc, Bool, true, false, List, [], ◌∷◌, ◌++◌, length, Option, Some, None, Result, Ok, Err, refl, sym, ap, subst, ◌∙◌, append_assoc, arith, inl, inr, ◌⊎◌}
use Rattle.std.specs.Prelude.{◌==◌}
use Rattle.std.proofs.lemmas.Bool.{eq-eqb, ne_eqb, eqb-true, eqb-false}
use Rattle.std.proofs.lemmas.List.{append-nil}
use Rattle.field_codec.specs.Meaning.{OfKind, SpellsFirst, HasKind}
use Rattle.field_codec.specs.Spelling.{Spelling, ◌>>=◌, no_field, by_kind, either, no_kind, option_of, option_parts, optional}
use Rattle.field_codec.specs.Laws.{IsBytes, Lawful}
use Rattle.field_codec.proofs.Lawful.{bind_ok, bind_err, ok_is}
use Rattle.field_codec.proofs.Combined.{via_lawful, nothing_lawful}

-- each spelled value begins with a byte from this one on
abbrev pub KindsFrom : {A : Type 0} → ℕ → Spelling A → Type 0
KindsFrom {A = A} low f = (x : A) → f.meaning.fits x → (b : ℕ) × (rest : List ℕ) × (f.meaning.spell x ≡ b ∷ rest) × (low ≤ b)

-- a lawful spelling of values by kind, from this kind on
pub record Kinds {A : Type 0} (low : ℕ) (f : Spelling A) : Type 0 where
  pub lawful : Lawful f
  pub from : KindsFrom low f

no_kind_lawful : {A : Type 0} → Lawful (no_kind {A = A})
no_kind_lawful = record {
  takes = λ bytes x rest is e. absurd cc;
  again = λ x rest fits. absurd fits;
  adds = λ front x. sym (append-nil front);
  faults = λ bytes left is e. let same : length bytes ≡ left = cc in sym same;
  ends = λ bytes left is f. rw f refl;
  within = λ bytes left is f. omega (arith, f);
  writable = λ x fits. absurd fits;
}

pub no_kinds : {A : Type 0} (low : ℕ) → Kinds low (no_kind {A = A})
no_kinds low = record { lawful = no_kind_lawful; from = λ x fits. absurd fits }

-- how bytes of the kind are read, and how others are
this_kind : {A B : Type 0} (kind : ℕ) (first : List ℕ → Result (A × List ℕ) ℕ) (other : List ℕ → Result (B × List ℕ) ℕ) (rest : List ℕ)
    → by_kind kind first other (kind ∷ rest) ≡ (first rest >>= λ x. Ok (inl x.0, x.1))
this_kind kind first other rest = rw (eq-eqb kind kind refl) refl

other_kind : {A B : Type 0} (kind : ℕ) (first : List ℕ → Result (A × List ℕ) ℕ) (other : List ℕ → Result (B × List ℕ) ℕ) (bytes : List ℕ)
    → (HasKind kind bytes → ⊥) → by_kind kind first other bytes ≡ (other bytes >>= λ y. Ok (inr y.0, y.1))
other_kind kind first other [] apart = refl
other_kind kind first other (b ∷ rest) apart =
    let e : (b == kind) ≡ false = ne_eqb b kind (λ same. apart (rest, ap (λ (k : ℕ). k ∷ rest) same)) in
    rw e refl

eq_or_not_by : (a b : ℕ) (t : Bool) → (a == b) ≡ t → (a ≡ b) ⊎ (a ≡ b → ⊥)
eq_or_not_by a b true e = inl (eqb-true a b e)
eq_or_not_by a b false e = inr (eqb-false a b e)

pub eq_or_not : (a b : ℕ) → (a ≡ b) ⊎ (a ≡ b → ⊥)
eq_or_not a b = eq_or_not_by a b (a == b) refl

-- whether bytes are of a kind
kind_or_not : (kind : ℕ) (bytes : List ℕ) → HasKind kind bytes ⊎ (HasKind kind bytes → ⊥)
kind_or_not kind [] = inr (λ h. let e = h.1 in cc)
kind_or_not kind (b ∷ rest) =
    elim (eq_or_not b kind) [
      | inl e ↦ inl (rest, ap (λ (k : ℕ). k ∷ rest) e)
      | inr ne ↦ inr (λ h. ne (let e = h.1 in cc))
    ]

IsBytes-rest : (b : ℕ) (bytes : List ℕ) → IsBytes (b ∷ bytes) → IsBytes bytes
IsBytes-rest b bytes is i = is (suc i)

either_takes : {A B : Type 0} (kind : ℕ) (f : Spelling A) (g : Spelling B) → Lawful f → Lawful g
    → (bytes : List ℕ) (x : A ⊎ B) (rest : List ℕ) → IsBytes bytes → (either kind f g).read bytes ≡ Ok (x, rest)
    → SpellsFirst (either kind f g).meaning bytes x rest
either_takes {A = A} {B = B} kind f g law other bytes x rest is e =
    elim (kind_or_not kind bytes) [
      | inl h ↦
          let a = bind_ok (f.read h.0) (λ x. Ok (inl x.0, x.1)) (x, rest) (sym (this_kind kind f.read g.read h.0) ∙ sym (ap (by_kind kind f.read g.read) h.1) ∙
          e) in
          let first = law.takes h.0 a.0.0 a.0.1 (IsBytes-rest kind h.0 (rw (← h.1) is)) a.1 in
          let whole : SpellsFirst (either kind f g).meaning bytes (inl a.0.0) a.0.1 =
          record { fits = first.fits; parts = h.1 ∙ ap (λ (t : List ℕ). kind ∷ t) first.parts } in
          subst (λ (p : (A ⊎ B) × List ℕ). SpellsFirst (either kind f g).meaning bytes p.0 p.1) (ok_is (inl a.0.0, a.0.1) (x, rest) a.2) whole
      | inr apart ↦
          let a = bind_ok (g.read bytes) (λ y. Ok (inr y.0, y.1)) (x, rest) (sym (other_kind kind f.read g.read bytes apart) ∙ e) in
          let first = other.takes bytes a.0.0 a.0.1 is a.1 in
          let whole : SpellsFirst (either kind f g).meaning bytes (inr a.0.0) a.0.1 = record { fits = first.fits; parts = first.parts } in
          subst (λ (p : (A ⊎ B) × List ℕ). SpellsFirst (either kind f g).meaning bytes p.0 p.1) (ok_is (inr a.0.0, a.0.1) (x, rest) a.2) whole
    ]

-- a spelling from a later kind on is none of this kind
later_apart : (kind low b : ℕ) (text rest more : List ℕ) → kind < low → low ≤ b → text ≡ b ∷ rest → HasKind kind (text ++ more) → ⊥
later_apart kind low b text rest more lt le e h =
    let one : b ∷ (rest ++ more) ≡ kind ∷ h.0 = ap (λ (t : List ℕ). t ++ more) (sym e) ∙ h.1 in
    let same : b ≡ kind = cc in
    omega arith

either_again : {A B : Type 0} (kind low : ℕ) (f : Spelling A) (g : Spelling B) → Lawful f → Kinds low g → kind < low
    → (x : A ⊎ B) (rest : List ℕ) → (either kind f g).meaning.fits x → (either kind f g).read ((either kind f g).meaning.spell x ++ rest) ≡ Ok (x, rest)
either_again kind low f g law other lt (inl x) rest fits = rw (this_kind kind f.read g.read (f.meaning.spell x ++ rest), law.again x rest fits) refl
either_again kind low f g law other lt (inr y) rest fits =
    let opens = other.from y fits in
    rw (
      other_kind kind f.read g.read (g.meaning.spell y ++ rest) (later_apart kind low opens.0 (g.meaning.spell y) opens.1 rest lt opens.3 opens.2),
      other.lawful.again y rest fits,
    ) refl

either_adds : {A B : Type 0} (kind : ℕ) (f : Spelling A) (g : Spelling B) → Lawful f → Lawful g → (front : List ℕ) (x : A ⊎ B)
    → (either kind f g).onto front x ≡ front ++ (either kind f g).meaning.spell x
either_adds kind f g law other front (inl x) = law.adds (front ++ kind ∷ []) x ∙ append_assoc front (kind ∷ []) (f.meaning.spell x)
either_adds kind f g law other front (inr y) = other.adds front y

either_faults : {A B : Type 0} (kind : ℕ) (f : Spelling A) (g : Spelling B) → Lawful f → Lawful g
    → (bytes : List ℕ) (left : ℕ) → IsBytes bytes → (either kind f g).read bytes ≡ Err left → (either kind f g).meaning.faulty bytes left
either_faults {A = A} {B = B} kind f g law other bytes left is e =
    elim (kind_or_not kind bytes) [
      | inl h ↦
          elim (bind_err {A = A × List ℕ} {B = (A ⊎ B) × List ℕ} (f.read h.0) (λ x. Ok (inl x.0, x.1)) left
          (sym (this_kind kind f.read g.read h.0) ∙ sym (ap (by_kind kind f.read g.read) h.1) ∙ e)) [
            | inl d ↦ inl (h.0, h.1, law.faults h.0 left (IsBytes-rest kind h.0 (rw (← h.1) is)) d)
            | inr a ↦ absurd (let impossible = a.2 in cc)
          ]
      | inr apart ↦
          elim (bind_err {A = B × List ℕ} {B = (A ⊎ B) × List ℕ} (g.read bytes) (λ y. Ok (inr y.0, y.1)) left
          (sym (other_kind kind f.read g.read bytes apart) ∙ e)) [
            | inl d ↦ inr (apart, other.faults bytes left is d)
            | inr a ↦ absurd (let impossible = a.2 in cc)
          ]
    ]

either_ends : {A B : Type 0} (kind : ℕ) (f : Spelling A) (g : Spelling B) → Lawful f → Lawful g
    → (bytes : List ℕ) (left : ℕ) → IsBytes bytes → (either kind f g).meaning.faulty bytes left → (either kind f g).read bytes ≡ Err left
either_ends kind f g law other bytes left is (inl h) =
    ap (by_kind kind f.read g.read) h.1 ∙ rw (this_kind kind f.read g.read h.0, law.ends h.0 left (IsBytes-rest kind h.0 (rw (← h.1) is)) h.2) refl
either_ends kind f g law other bytes left is (inr h) = rw (other_kind kind f.read g.read bytes h.0, other.ends bytes left is h.1) refl

either_within : {A B : Type 0} (kind : ℕ) (f : Spelling A) (g : Spelling B) → Lawful f → Lawful g
    → (bytes : List ℕ) (left : ℕ) → IsBytes bytes → (either kind f g).meaning.faulty bytes left → left ≤ length bytes
either_within kind f g law other bytes left is (inl h) =
    omega (arith, law.within h.0 left (IsBytes-rest kind h.0 (rw (← h.1) is)) h.2, ap length h.1)
either_within kind f g law other bytes left is (inr h) = other.within bytes left is h.1

either_from : {A B : Type 0} (kind low : ℕ) (f : Spelling A) (g : Spelling B) → kind < low → KindsFrom low g → KindsFrom kind (either kind f g)
either_from kind low f g lt from (inl x) fits = (kind, f.meaning.spell x, refl, omega arith)
either_from kind low f g lt from (inr y) fits = let o = from y fits in (o.0, o.1, o.2, omega (arith, o.3))

either_writable : {A B : Type 0} (f : Spelling A) (g : Spelling B) → Lawful f → Lawful g → (x : A ⊎ B) → OfKind f.meaning.fits g.meaning.fits x
    → OfKind f.asks g.asks x
either_writable f g law other (inl x) h = law.writable x h
either_writable f g law other (inr y) h = other.writable y h

-- one kind in front of later ones
pub one_kind : {A B : Type 0} (kind low : ℕ) (f : Spelling A) (g : Spelling B) → kind < low → Lawful f → Kinds low g → Kinds kind (either kind f g)
one_kind kind low f g lt law other = record {
  lawful = record {
    takes = either_takes kind f g law other.lawful;
    again = either_again kind low f g law other lt;
    adds = either_adds kind f g law other.lawful;
    faults = either_faults kind f g law other.lawful;
    ends = either_ends kind f g law other.lawful;
    within = either_within kind f g law other.lawful;
    writable = either_writable f g law other.lawful;
  };
  from = either_from kind low f g lt other.from;
}

-- ---- options

parts-option : {A : Type 0} (p : Unit {0} ⊎ (A ⊎ ⊥)) → option_parts (option_of p) ≡ p
parts-option (inl tt) = refl
parts-option (inr (inl x)) = refl
parts-option (inr (inr x)) = absurd x

option-parts : {A : Type 0} (o : Option A) → option_of (option_parts o) ≡ o
option-parts None = refl
option-parts (Some x) = refl

pub optional_lawful : {A : Type 0} (f : Spelling A) → Lawful f → Lawful (optional f)
optional_lawful f law =
    via_lawful option_of option_parts (either 0 no_field (either 1 f no_kind)) parts-option option-parts
    (one_kind 0 1 no_field (either 1 f no_kind) (omega arith) nothing_lawful (one_kind 1 2 f no_kind (omega arith) law (no_kinds 2))).lawful
