-- The laws of values of which some kinds stand alone, and of a field that stands in some forms alone.
use Rattle.std.proofs.Common.{◌≡◌, ◌≤◌, ℕ, Bool, true, false, List, ◌∷◌, ◌++◌, length, Option, Some, None, Ok, Err, refl, sym, ap, subst, ◌∙◌, arith, inl, inr}
use Rattle.std.proofs.lemmas.Bool.{false≢true}
use Rattle.std.proofs.lemmas.List.{append-nil}
use Rattle.field_codec.specs.Meaning.{SpellsFirst, begins_with, IsPresent}
use Rattle.field_codec.specs.Spelling.{Spelling, of_kinds, present_if, onto_present}
use Rattle.field_codec.specs.Laws.{IsBytes, Lawful}
use Rattle.field_codec.proofs.Lawful.{bind_ok, bind_err, ok_is}

-- ---- values of some kinds

-- each value's bytes begin with its kind
abbrev pub BeginsWithKind : {A : Type 0} → (A → ℕ) → Spelling A → Type 0
BeginsWithKind {A = A} kind_of f = (x : A) → (rest : List ℕ) × (f.meaning.spell x ≡ kind_of x ∷ rest)

-- bytes that begin with a value's are of its kind
kind_stands : {A : Type 0} (stands : ℕ → Bool) (kind_of : A → ℕ) (f : Spelling A) → BeginsWithKind kind_of f → (bytes : List ℕ) (x : A) (rest : List ℕ)
    → bytes ≡ f.meaning.spell x ++ rest → begins_with stands bytes ≡ stands (kind_of x)
kind_stands stands kind_of f begins bytes x rest e =
    let first = begins x in
    ap (begins_with stands) (e ∙ ap (λ (t : List ℕ). t ++ rest) first.1)

-- how bytes of a kind that stands are read, and how others are
stands_read : {A : Type 0} (stands : ℕ → Bool) (kind_of : A → ℕ) (f : Spelling A) (bytes : List ℕ) → begins_with stands bytes ≡ true
    → (of_kinds stands kind_of f).read bytes ≡ f.read bytes
stands_read stands kind_of f bytes e = rw e refl

lacks_read : {A : Type 0} (stands : ℕ → Bool) (kind_of : A → ℕ) (f : Spelling A) (bytes : List ℕ) → begins_with stands bytes ≡ false
    → (of_kinds stands kind_of f).read bytes ≡ Err (length bytes)
lacks_read stands kind_of f bytes e = rw e refl

kinds_takes : {A : Type 0} (stands : ℕ → Bool) (kind_of : A → ℕ) (f : Spelling A) → Lawful f → BeginsWithKind kind_of f
    → (bytes : List ℕ) (x : A) (rest : List ℕ) → IsBytes bytes → (b : Bool) → begins_with stands bytes ≡ b
    → (of_kinds stands kind_of f).read bytes ≡ Ok (x, rest) → SpellsFirst (of_kinds stands kind_of f).meaning bytes x rest
kinds_takes stands kind_of f law begins bytes x rest is true t e =
    let first = law.takes bytes x rest is (sym (stands_read stands kind_of f bytes t) ∙ e) in
    record { fits = (first.fits, sym (kind_stands stands kind_of f begins bytes x rest first.parts) ∙ t); parts = first.parts }
kinds_takes stands kind_of f law begins bytes x rest is false t e = absurd (let bad = sym (lacks_read stands kind_of f bytes t) ∙ e in cc)

kinds_faults : {A : Type 0} (stands : ℕ → Bool) (kind_of : A → ℕ) (f : Spelling A) → Lawful f
    → (bytes : List ℕ) (left : ℕ) → IsBytes bytes → (b : Bool) → begins_with stands bytes ≡ b
    → (of_kinds stands kind_of f).read bytes ≡ Err left → (of_kinds stands kind_of f).meaning.faulty bytes left
kinds_faults stands kind_of f law bytes left is true t e = inr (t, law.faults bytes left is (sym (stands_read stands kind_of f bytes t) ∙ e))
kinds_faults stands kind_of f law bytes left is false t e =
    let same = sym (lacks_read stands kind_of f bytes t) ∙ e in
    let at : length bytes ≡ left = cc in
    inl (t, sym at)

kinds_ends : {A : Type 0} (stands : ℕ → Bool) (kind_of : A → ℕ) (f : Spelling A) → Lawful f
    → (bytes : List ℕ) (left : ℕ) → IsBytes bytes → (of_kinds stands kind_of f).meaning.faulty bytes left
    → (of_kinds stands kind_of f).read bytes ≡ Err left
kinds_ends stands kind_of f law bytes left is (inl h) = lacks_read stands kind_of f bytes h.0 ∙ ap (λ n. Err n) (sym h.1)
kinds_ends stands kind_of f law bytes left is (inr h) = stands_read stands kind_of f bytes h.0 ∙ law.ends bytes left is h.1

kinds_within : {A : Type 0} (stands : ℕ → Bool) (kind_of : A → ℕ) (f : Spelling A) → Lawful f
    → (bytes : List ℕ) (left : ℕ) → IsBytes bytes → (of_kinds stands kind_of f).meaning.faulty bytes left → left ≤ length bytes
kinds_within stands kind_of f law bytes left is (inl h) = omega (arith, h.1)
kinds_within stands kind_of f law bytes left is (inr h) = law.within bytes left is h.1

pub of_kinds_lawful : {A : Type 0} (stands : ℕ → Bool) (kind_of : A → ℕ) (f : Spelling A) → Lawful f → BeginsWithKind kind_of f
    → Lawful (of_kinds stands kind_of f)
of_kinds_lawful stands kind_of f law begins = record {
  takes = λ bytes x rest is e. kinds_takes stands kind_of f law begins bytes x rest is (begins_with stands bytes) refl e;
  again = λ x rest fits.
      stands_read stands kind_of f (f.meaning.spell x ++ rest) (kind_stands stands kind_of f begins (f.meaning.spell x ++ rest) x rest refl ∙ fits.1)
      ∙ law.again x rest fits.0;
  adds = law.adds;
  faults = λ bytes left is e. kinds_faults stands kind_of f law bytes left is (begins_with stands bytes) refl e;
  ends = kinds_ends stands kind_of f law;
  within = kinds_within stands kind_of f law;
  writable = λ x h. (law.writable x h.0, h.1);
}

-- ---- a field that may not stand

present_takes : {A : Type 0} (f : Spelling A) → Lawful f → (bytes : List ℕ) (x : Option A) (rest : List ℕ) → IsBytes bytes
    → (present_if true f).read bytes ≡ Ok (x, rest) → SpellsFirst (present_if true f).meaning bytes x rest
present_takes {A = A} f law bytes x rest is e =
    let a = bind_ok (f.read bytes) (λ x. Ok (Some x.0, x.1)) (x, rest) e in
    let first = law.takes bytes a.0.0 a.0.1 is a.1 in
    let whole : SpellsFirst (present_if true f).meaning bytes (Some a.0.0) a.0.1 = record { fits = first.fits; parts = first.parts } in
    subst (λ (p : Option A × List ℕ). SpellsFirst (present_if true f).meaning bytes p.0 p.1) (ok_is (Some a.0.0, a.0.1) (x, rest) a.2) whole

present_again : {A : Type 0} (f : Spelling A) → Lawful f → (x : Option A) (rest : List ℕ) → IsPresent true f.meaning.fits x
    → (present_if true f).read ((present_if true f).meaning.spell x ++ rest) ≡ Ok (x, rest)
present_again f law None rest fits = absurd fits
present_again f law (Some x) rest fits = rw (law.again x rest fits) refl

present_adds : {A : Type 0} (stands : Bool) (f : Spelling A) → Lawful f → (front : List ℕ) (x : Option A)
    → onto_present f.onto front x ≡ front ++ (present_if stands f).meaning.spell x
present_adds stands f law front None = sym (append-nil front)
present_adds stands f law front (Some x) = law.adds front x

present_faults : {A : Type 0} (f : Spelling A) → Lawful f → (bytes : List ℕ) (left : ℕ) → IsBytes bytes
    → (present_if true f).read bytes ≡ Err left → (present_if true f).meaning.faulty bytes left
present_faults {A = A} f law bytes left is e =
    elim (bind_err {A = A × List ℕ} {B = Option A × List ℕ} (f.read bytes) (λ x. Ok (Some x.0, x.1)) left e) [
      | inl d ↦ (refl, law.faults bytes left is d)
      | inr a ↦ absurd (let impossible = a.2 in cc)
    ]

present_writable : {A : Type 0} (f : Spelling A) → Lawful f → (stands : Bool) (x : Option A) → IsPresent stands f.meaning.fits x → IsPresent stands f.asks x
present_writable f law true None h = h
present_writable f law true (Some x) h = law.writable x h
present_writable f law false None h = h
present_writable f law false (Some x) h = h

absent_takes : {A : Type 0} (f : Spelling A) (bytes : List ℕ) (x : Option A) (rest : List ℕ)
    → (present_if false f).read bytes ≡ Ok (x, rest) → SpellsFirst (present_if false f).meaning bytes x rest
absent_takes {A = A} f bytes x rest e =
    let whole : SpellsFirst (present_if false f).meaning bytes None bytes = record { fits = tt; parts = refl } in
    subst (λ (p : Option A × List ℕ). SpellsFirst (present_if false f).meaning bytes p.0 p.1) (ok_is (None, bytes) (x, rest) e) whole

absent_again : {A : Type 0} (f : Spelling A) (x : Option A) (rest : List ℕ) → IsPresent false f.meaning.fits x
    → (present_if false f).read ((present_if false f).meaning.spell x ++ rest) ≡ Ok (x, rest)
absent_again f None rest fits = refl
absent_again f (Some x) rest fits = absurd fits

-- a field that stands, or doesn't, is lawful where what it holds is
pub present_lawful : {A : Type 0} (stands : Bool) (f : Spelling A) → Lawful f → Lawful (present_if stands f)
present_lawful true f law = record {
  takes = present_takes f law;
  again = present_again f law;
  adds = present_adds true f law;
  faults = present_faults f law;
  ends = λ bytes left is h. rw (law.ends bytes left is h.1) refl;
  within = λ bytes left is h. law.within bytes left is h.1;
  writable = present_writable f law true;
}
present_lawful false f law = record {
  takes = λ bytes x rest is e. absent_takes f bytes x rest e;
  again = absent_again f;
  adds = present_adds false f law;
  faults = λ bytes left is e. absurd cc;
  ends = λ bytes left is h. absurd (false≢true h.0);
  within = λ bytes left is h. absurd (false≢true h.0);
  writable = present_writable f law false;
}
