-- Fields behind their length, as they are read and written.
use Rattle.std.proofs.Common.{◌≡◌, ◌<◌, ◌+◌, ◌-◌, ◌^◌, ℕ, List, [], ◌++◌, length, Ok, Err, refl, sym, ap, subst, ◌∙◌, arith, length-append}
use Rattle.std.proofs.lemmas.Bool.{eq-eqb, ne_eqb}
use Rattle.field_codec.specs.Spelling.{Spelling}
use Rattle.field_codec.specs.Laws.{IsBytes, Lawful}
use Rattle.field_codec.specs.Leaves.{u32_spelling}
use Rattle.field_codec.specs.Reading.{WritesValue}
use Rattle.change_codec.specs.Rows.{sized}

-- what a value takes of the bytes is its spelling
taken : {A : Type 0} (f : Spelling A) → Lawful f → (bytes rest : List ℕ) (x : A) → IsBytes bytes → f.read bytes ≡ Ok (x, rest)
    → length (f.meaning.spell x) + length rest ≡ length bytes
taken f law bytes rest x is e =
    let b = law.takes bytes x rest is e in
    omega (arith, ap length b.parts, length-append (f.meaning.spell x) rest)

pub sized_found : {A : Type 0} (f : Spelling A) → Lawful f → (bytes fields rest : List ℕ) (size : ℕ) (x : A) → IsBytes fields
    → u32_spelling.read bytes ≡ Ok (size, fields) → f.read fields ≡ Ok (x, rest)
    → length fields - length rest ≡ size → (sized f).read bytes ≡ Ok (x, rest)
sized_found f law bytes fields rest size x is head e same =
    let len : length (f.meaning.spell x) ≡ size = omega (arith, taken f law fields rest x is e) in
    rw (head, e, eq-eqb (length (f.meaning.spell x)) size len) refl

pub sized_wrong : {A : Type 0} (f : Spelling A) → Lawful f → (bytes fields rest : List ℕ) (size : ℕ) (x : A) → IsBytes fields
    → u32_spelling.read bytes ≡ Ok (size, fields) → f.read fields ≡ Ok (x, rest)
    → (length fields - length rest ≡ size → ⊥) → (sized f).read bytes ≡ Err (length bytes)
sized_wrong f law bytes fields rest size x is head e apart =
    let len : length (f.meaning.spell x) ≡ size → ⊥ = λ same. apart (omega (arith, taken f law fields rest x is e, same)) in
    rw (head, e, ne_eqb (length (f.meaning.spell x)) size len) refl

-- the fields, which were written by themselves, are the value's spelling
pub fields_are : {A : Type 0} (f : Spelling A) → Lawful f → (x : A) (fields : List ℕ) → WritesValue f [] x fields → fields ≡ f.meaning.spell x
fields_are f law x fields w = w.written ∙ law.adds [] x

pub sized_wrote : {A : Type 0} (f : Spelling A) → Lawful f → (kind middle new fields : List ℕ) (x : A) → WritesValue f [] x fields
    → WritesValue u32_spelling kind (length fields) middle
    → new ≡ middle ++ fields → length (f.meaning.spell x) < 2 ^ 32 → WritesValue (sized f) kind x new
sized_wrote f law kind middle new fields x wrote head behind short =
    let is = fields_are f law x fields wrote in
    let len : length fields ≡ length (f.meaning.spell x) = ap length is in
    record {
      written =
          behind ∙ ap (λ (t : List ℕ). middle ++ t) is ∙ sym (law.adds middle x)
          ∙ ap (λ (t : List ℕ). f.onto t x) (head.written ∙ ap (u32_spelling.onto kind) len);
      fits = ((subst u32_spelling.meaning.fits len head.fits, wrote.fits), tt);
    }
