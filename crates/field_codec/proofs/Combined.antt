-- The laws of fields without parts, of fields one after the other, and of values of another type.
use Rattle.std.proofs.Common.{◌≡◌, ◌≤◌, ℕ, List, ◌++◌, length, Option, Some, None, Ok, Err, refl, sym, ap, subst, ◌∙◌, append_assoc, arith, inl, inr, ◌⊎◌, length-append}
use Rattle.std.proofs.lemmas.List.{append-nil}
use Rattle.std.specs.Prelude.{Bool, true, false, if◌then◌else◌}
use Rattle.field_codec.specs.Meaning.{SpellsFirst, HasNone}
use Rattle.field_codec.specs.Spelling.{Spelling, ◌>>=◌, found_or, leaf, no_field, followed, pair, via, narrowed, kept_if, where_is}
use Rattle.field_codec.specs.Laws.{IsBytes, Lawful}
use Rattle.field_codec.proofs.Lawful.{IsBytes-behind, bind_ok, bind_err, ok_is}

-- ---- a field without parts

-- what is true of the finding of such a field
pub record LeafLaws {A : Type 0} (spell : A → List ℕ) (fits : A → Type 0) (find : List ℕ → Option (A × List ℕ)) : Type 0 where
  pub takes : (bytes : List ℕ) (x : A) (rest : List ℕ) → IsBytes bytes → find bytes ≡ Some (x, rest) → fits x × (bytes ≡ spell x ++ rest)
  pub again : (x : A) (rest : List ℕ) → fits x → find (spell x ++ rest) ≡ Some (x, rest)

pub found_ok : {A : Type 0} (left : ℕ) (o : Option A) (x : A) → found_or left o ≡ Ok x → o ≡ Some x
found_ok left None x e = absurd cc
found_ok left (Some y) x e = let same : y ≡ x = cc in ap (λ z. Some z) same

pub found_err : {A : Type 0} (left d : ℕ) (o : Option A) → found_or left o ≡ Err d → (o ≡ None) × (left ≡ d)
found_err left d None e = (refl, cc)
found_err left d (Some y) e = absurd cc

some_or_none : {A : Type 0} (o : Option A) → ((x : A) × (o ≡ Some x)) ⊎ (o ≡ None)
some_or_none None = inr refl
some_or_none (Some x) = inl (x, refl)

-- where nothing is spelled, nothing is found
none_found : {A : Type 0} (spell : A → List ℕ) (fits : A → Type 0) (find : List ℕ → Option (A × List ℕ)) (laws : LeafLaws spell fits find) (bytes : List ℕ)
    → IsBytes bytes
    → HasNone fits spell bytes → find bytes ≡ None
none_found spell fits find laws bytes is none =
    elim (some_or_none (find bytes)) [
      | inl s ↦ let t = laws.takes bytes s.0.0 s.0.1 is s.1 in absurd (none s.0.0 s.0.1 t.0 t.1)
      | inr e ↦ e
    ]

some_none : {A : Type 0} (o : Option A) (x : A) → o ≡ Some x → o ≡ None → ⊥
some_none o x s n = let e = sym s ∙ n in cc

pub leaf_lawful : {A : Type 0} (spell : A → List ℕ) (fits asks : A → Type 0) (find : List ℕ → Option (A × List ℕ)) → LeafLaws spell fits find
    → ((x : A) → fits x → asks x) → Lawful (leaf spell fits asks find)
leaf_lawful spell fits asks find laws writable = record {
  takes = λ bytes x rest is e. let t = laws.takes bytes x rest is (found_ok (length bytes) (find bytes) (x, rest) e) in record { fits = t.0; parts = t.1 };
  again = λ x rest fit. rw (laws.again x rest fit) refl;
  adds = λ front x. refl;
  faults = λ bytes left is e.
      let f = found_err (length bytes) left (find bytes) e in
      ((λ x rest fit p. some_none (find (spell x ++ rest)) (x, rest) (laws.again x rest fit) (ap find (sym p) ∙ f.0)), sym f.1);
  ends = λ bytes left is f. rw (none_found spell fits find laws bytes is f.0, f.1) refl;
  within = λ bytes left is f. omega (arith, f.1);
  writable = writable;
}

pub nothing_lawful : Lawful no_field
nothing_lawful = record {
  takes = λ bytes x rest is e. record { fits = tt; parts = ap (λ (p : Unit {0} × List ℕ). p.1) (ok_is (tt, bytes) (x, rest) e) };
  again = λ x rest fit. refl;
  adds = λ front x. sym (append-nil front);
  faults = λ bytes left is e. absurd cc;
  ends = λ bytes left is f. absurd f;
  within = λ bytes left is f. absurd f;
  writable = λ x h. tt;
}

-- ---- fields one after the other

two_begin : {A B : Type 0} (f : Spelling A) (g : A → Spelling B) (bytes : List ℕ) (x : A) (y : B) (middle rest : List ℕ) → SpellsFirst f.meaning bytes x middle
    → SpellsFirst (g x).meaning middle y rest → SpellsFirst (followed f g).meaning bytes (x, y) rest
two_begin f g bytes x y middle rest first second = record {
  fits = (first.fits, second.fits);
  parts = first.parts ∙ ap (λ (t : List ℕ). f.meaning.spell x ++ t) second.parts ∙ sym (append_assoc (f.meaning.spell x) ((g x).meaning.spell y) rest);
}

followed_takes : {A B : Type 0} (f : Spelling A) (g : A → Spelling B) → Lawful f → ((x : A) → Lawful (g x)) → (bytes : List ℕ) (x : A × B) (rest : List ℕ)
    → IsBytes bytes
    → (followed f g).read bytes ≡ Ok (x, rest) → SpellsFirst (followed f g).meaning bytes x rest
followed_takes {A = A} {B = B} f g law laws bytes x rest is e =
    let a = bind_ok (f.read bytes) (λ x. (g x.0).read x.1 >>= λ y. Ok ((x.0, y.0), y.1)) (x, rest) e in
    let b = bind_ok ((g a.0.0).read a.0.1) (λ y. Ok ((a.0.0, y.0), y.1)) (x, rest) a.2 in
    let first = law.takes bytes a.0.0 a.0.1 is a.1 in
    let second = (laws a.0.0).takes a.0.1 b.0.0 b.0.1 (IsBytes-behind bytes (f.meaning.spell a.0.0) a.0.1 is first.parts) b.1 in
    let whole : SpellsFirst (followed f g).meaning bytes (a.0.0, b.0.0) b.0.1 = two_begin f g bytes a.0.0 b.0.0 a.0.1 b.0.1 first second in
    subst (λ (p : (A × B) × List ℕ). SpellsFirst (followed f g).meaning bytes p.0 p.1) (ok_is ((a.0.0, b.0.0), b.0.1) (x, rest) b.2) whole

followed_again : {A B : Type 0} (f : Spelling A) (g : A → Spelling B) → Lawful f → ((x : A) → Lawful (g x)) → (x : A × B) (rest : List ℕ)
    → (followed f g).meaning.fits x
    → (followed f g).read ((followed f g).meaning.spell x ++ rest) ≡ Ok (x, rest)
followed_again f g law laws x rest fits =
    rw (
      append_assoc (f.meaning.spell x.0) ((g x.0).meaning.spell x.1) rest,
      law.again x.0 ((g x.0).meaning.spell x.1 ++ rest) fits.0,
      (laws x.0).again x.1 rest fits.1,
    ) refl

-- what stands behind a front that is spelled is read
pub read_behind : {A : Type 0} (f : Spelling A) → Lawful f → (bytes : List ℕ) (x : A) (rest : List ℕ) → SpellsFirst f.meaning bytes x rest
    → f.read bytes ≡ Ok (x, rest)
read_behind f law bytes x rest b = ap f.read b.parts ∙ law.again x rest b.fits

followed_ends : {A B : Type 0} (f : Spelling A) (g : A → Spelling B) → Lawful f → ((x : A) → Lawful (g x)) → (bytes : List ℕ) (left : ℕ) → IsBytes bytes
    → (followed f g).meaning.faulty bytes left → (followed f g).read bytes ≡ Err left
followed_ends f g law laws bytes left is (inl h) = rw (law.ends bytes left is h) refl
followed_ends f g law laws bytes left is (inr b) =
    rw (
      read_behind f law bytes b.value b.rest b.begins,
      (laws b.value).ends b.rest left (IsBytes-behind bytes (f.meaning.spell b.value) b.rest is b.begins.parts)
          b.keeps,
    ) refl

followed_faults : {A B : Type 0} (f : Spelling A) (g : A → Spelling B) → Lawful f → ((x : A) → Lawful (g x)) → (bytes : List ℕ) (left : ℕ) → IsBytes bytes
    → (followed f g).read bytes ≡ Err left → (followed f g).meaning.faulty bytes left
followed_faults f g law laws bytes left is e =
    elim (bind_err (f.read bytes) (λ x. (g x.0).read x.1 >>= λ y. Ok ((x.0, y.0), y.1)) left e) [
      | inl h ↦ inl (law.faults bytes left is h)
      | inr a ↦
          let first = law.takes bytes a.0.0 a.0.1 is a.1 in
          elim (bind_err ((g a.0.0).read a.0.1) (λ y. Ok ((a.0.0, y.0), y.1)) left a.2) [
            | inl h ↦ inr (record {
              value = a.0.0;
              rest = a.0.1;
              begins = first;
              keeps = (laws a.0.0).faults a.0.1 left
                  (IsBytes-behind bytes (f.meaning.spell a.0.0) a.0.1 is first.parts) h;
            })
            | inr b ↦ absurd (let impossible = b.2 in cc)
          ]
    ]

followed_within : {A B : Type 0} (f : Spelling A) (g : A → Spelling B) → Lawful f → ((x : A) → Lawful (g x)) → (bytes : List ℕ) (left : ℕ) → IsBytes bytes
    → (followed f g).meaning.faulty bytes left → left ≤ length bytes
followed_within f g law laws bytes left is (inl h) = law.within bytes left is h
followed_within f g law laws bytes left is (inr b) =
    let rest_is = IsBytes-behind bytes (f.meaning.spell b.value) b.rest is b.begins.parts in
    omega (arith, (laws b.value).within b.rest left rest_is b.keeps, ap length b.begins.parts, length-append (f.meaning.spell b.value) b.rest)

pub followed_lawful : {A B : Type 0} (f : Spelling A) (g : A → Spelling B) → Lawful f → ((x : A) → Lawful (g x)) → Lawful (followed f g)
followed_lawful f g law laws = record {
  takes = followed_takes f g law laws;
  again = followed_again f g law laws;
  adds = λ front x. (laws x.0).adds (f.onto front x.0) x.1 ∙ ap (λ (t : List ℕ). t ++ (g x.0).meaning.spell x.1) (law.adds front x.0) ∙ append_assoc front
      (f.meaning.spell x.0)
      ((g x.0).meaning.spell x.1);
  faults = followed_faults f g law laws;
  ends = followed_ends f g law laws;
  within = followed_within f g law laws;
  writable = λ x h. (law.writable x.0 h.0, (laws x.0).writable x.1 h.1);
}

pub pair_lawful : {A B : Type 0} (f : Spelling A) (g : Spelling B) → Lawful f → Lawful g → Lawful (pair f g)
pair_lawful f g law other = followed_lawful f (λ x. g) law (λ x. other)

-- ---- values of another type

pub via_lawful : {A B : Type 0} (to : A → B) (from : B → A) (f : Spelling A) → ((x : A) → from (to x) ≡ x) → ((y : B) → to (from y) ≡ y) → Lawful f
    → Lawful (via to from f)
via_lawful {A = A} {B = B} to from f back forth law = record {
  takes = λ bytes y rest is e.
      let a = bind_ok (f.read bytes) (λ x. Ok (to x.0, x.1)) (y, rest) e in
      let first = law.takes bytes a.0.0 a.0.1 is a.1 in
      let whole : SpellsFirst (via to from f).meaning bytes (to a.0.0) a.0.1 = record { fits = rw (back a.0.0) first.fits; parts = rw (back a.0.0) first.parts }
      in
      subst (λ (p : B × List ℕ). SpellsFirst (via to from f).meaning bytes p.0 p.1) (ok_is (to a.0.0, a.0.1) (y, rest) a.2) whole;
  again = λ y rest fits. rw (law.again (from y) rest fits, forth y) refl;
  adds = λ front y. law.adds front (from y);
  faults = λ bytes left is e.
      elim (bind_err (f.read bytes) (λ x. Ok (to x.0, x.1)) left e) [
        | inl h ↦ law.faults bytes left is h
        | inr b ↦ absurd (let impossible = b.2 in cc)
      ];
  ends = λ bytes left is h. rw (law.ends bytes left is h) refl;
  within = law.within;
  writable = λ y h. law.writable (from y) h;
}

-- ---- values that stand for one of another type

-- what is true of such a narrowing
pub record NarrowLaws {A B : Type 0} (to : A → Option B) (from : B → A) (has asks : B → Type 0) (given_first : A → Type 0) : Type 0 where
  pub is : (x : A) (y : B) → given_first x → to x ≡ Some y → (from y ≡ x) × has y
  pub again : (y : B) → given_first (from y) → has y → to (from y) ≡ Some y
  pub writable : (y : B) → given_first (from y) → has y → asks y

narrowed_takes : {A B : Type 0} (to : A → Option B) (from : B → A) (has asks : B → Type 0) (f : Spelling A) → NarrowLaws to from has asks f.meaning.fits
    → Lawful f
    → (bytes : List ℕ) (y : B) (rest : List ℕ) → IsBytes bytes → (narrowed to from has asks f).read bytes ≡ Ok (y, rest)
    → SpellsFirst (narrowed to from has asks f).meaning bytes y rest
narrowed_takes {A = A} {B = B} to from has asks f laws law bytes y rest is e =
    let a = bind_ok (f.read bytes) (λ x. found_or (length bytes) (to x.0) >>= λ y. Ok (y, x.1)) (y, rest) e in
    let b = bind_ok (found_or (length bytes) (to a.0.0)) (λ y. Ok (y, a.0.1)) (y, rest) a.2 in
    let first = law.takes bytes a.0.0 a.0.1 is a.1 in
    let n = laws.is a.0.0 b.0 first.fits (found_ok (length bytes) (to a.0.0) b.0 b.1) in
    let whole : SpellsFirst (narrowed to from has asks f).meaning bytes b.0 a.0.1 = record { fits = (rw n.0 first.fits, n.1); parts = rw n.0 first.parts } in
    subst (λ (p : B × List ℕ). SpellsFirst (narrowed to from has asks f).meaning bytes p.0 p.1) (ok_is (b.0, a.0.1) (y, rest) b.2) whole

narrowed_faults : {A B : Type 0} (to : A → Option B) (from : B → A) (has asks : B → Type 0) (f : Spelling A) → Lawful f
    → (bytes : List ℕ) (left : ℕ) → IsBytes bytes → (narrowed to from has asks f).read bytes ≡ Err left
    → (narrowed to from has asks f).meaning.faulty bytes left
narrowed_faults to from has asks f law bytes left is e =
    elim (bind_err (f.read bytes) (λ x. found_or (length bytes) (to x.0) >>= λ y. Ok (y, x.1)) left e) [
      | inl h ↦ inl (law.faults bytes left is h)
      | inr a ↦
          elim (bind_err (found_or (length bytes) (to a.0.0)) (λ y. Ok (y, a.0.1)) left a.2) [
            | inl h ↦
                let n = found_err (length bytes) left (to a.0.0) h in
                inr (record { value = a.0.0; rest = a.0.1; begins = law.takes bytes a.0.0 a.0.1 is a.1; keeps = (n.0, sym n.1) })
            | inr b ↦ absurd (let impossible = b.2 in cc)
          ]
    ]

narrowed_ends : {A B : Type 0} (to : A → Option B) (from : B → A) (has asks : B → Type 0) (f : Spelling A) → Lawful f
    → (bytes : List ℕ) (left : ℕ) → IsBytes bytes → (narrowed to from has asks f).meaning.faulty bytes left
    → (narrowed to from has asks f).read bytes ≡ Err left
narrowed_ends to from has asks f law bytes left is (inl h) = rw (law.ends bytes left is h) refl
narrowed_ends to from has asks f law bytes left is (inr b) = rw (read_behind f law bytes b.value b.rest b.begins, b.keeps.0, b.keeps.1) refl

narrowed_within : {A B : Type 0} (to : A → Option B) (from : B → A) (has asks : B → Type 0) (f : Spelling A) → Lawful f
    → (bytes : List ℕ) (left : ℕ) → IsBytes bytes → (narrowed to from has asks f).meaning.faulty bytes left → left ≤ length bytes
narrowed_within to from has asks f law bytes left is (inl h) = law.within bytes left is h
narrowed_within to from has asks f law bytes left is (inr b) = omega (arith, b.keeps.1)

pub narrowed_lawful : {A B : Type 0} (to : A → Option B) (from : B → A) (has asks : B → Type 0) (f : Spelling A) → NarrowLaws to from has asks f.meaning.fits
    → Lawful f
    → Lawful (narrowed to from has asks f)
narrowed_lawful to from has asks f laws law = record {
  takes = narrowed_takes to from has asks f laws law;
  again = λ y rest fits. rw (law.again (from y) rest fits.0, laws.again y fits.0 fits.1) refl;
  adds = λ front y. law.adds front (from y);
  faults = narrowed_faults to from has asks f law;
  ends = narrowed_ends to from has asks f law;
  within = narrowed_within to from has asks f law;
  writable = λ y h. (law.writable (from y) h.0, laws.writable y h.0 h.1);
}

-- ---- a field with a test

kept_some : {A : Type 0} (b : Bool) (x y : A) → (if b then Some x else None) ≡ Some y → (y ≡ x) × (b ≡ true)
kept_some true x y e = (cc, refl)
kept_some false x y e = absurd cc

kept_laws : {A : Type 0} (test : A → Bool) (fits : A → Type 0) → NarrowLaws (kept_if test) (λ x. x) (λ x. test x ≡ true) (λ x. test x ≡ true) fits
kept_laws test fits = record {
  is = λ x y fit e. let k = kept_some (test x) x y e in (k.0, ap test k.0 ∙ k.1);
  again = λ y fit has. rw has refl;
  writable = λ y fit has. has;
}

pub where_is_lawful : {A : Type 0} (test : A → Bool) (f : Spelling A) → Lawful f → Lawful (where_is test f)
where_is_lawful test f law = narrowed_lawful (kept_if test) (λ x. x) (λ x. test x ≡ true) (λ x. test x ≡ true) f (kept_laws test f.meaning.fits) law
