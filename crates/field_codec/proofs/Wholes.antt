-- Laws of the whole of some bytes: which value they spell, and where they are faulty.
use Rattle.std.proofs.Common.{◌≡◌, ◌≤◌, ℕ, List, [], ◌++◌, Ok, Err, length, refl, sym, ap, ◌∙◌, arith, inl, inr, length-append}
use Rattle.std.proofs.lemmas.List.{append-nil, nil_from_length}
use Rattle.field_codec.specs.Meaning.{SpellsFirst, Spells, WholeFault}
use Rattle.field_codec.specs.Spelling.{Spelling}
use Rattle.field_codec.specs.Reading.{Fails, ReadsWhole}
use Rattle.field_codec.specs.declared.fault.ReadFault.{ReadFault}
use Rattle.field_codec.specs.declared.fault.ReadFault.TheVariants as faults
use Rattle.field_codec.specs.Laws.{IsBytes, Lawful}
use Rattle.field_codec.proofs.Lawful.{ok_is, not_both}
use Rattle.field_codec.proofs.Combined.{read_behind}

-- Bytes begin with one spelling at most: no spelling is a proper front of another.
pub one_front : {A : Type 0} (f : Spelling A) → Lawful f → (bytes : List ℕ) (x y : A) (front rest : List ℕ) → SpellsFirst f.meaning bytes x front
    → SpellsFirst f.meaning bytes y rest → (x ≡ y) × (front ≡ rest)
one_front {A = A} f law bytes x y front rest a b =
    let e = ok_is (x, front) (y, rest) (sym (read_behind f law bytes x front a) ∙ read_behind f law bytes y rest b) in
    (ap (λ (p : A × List ℕ). p.0) e, ap (λ (p : A × List ℕ). p.1) e)

whole_begins : {A : Type 0} (f : Spelling A) (bytes : List ℕ) (x : A) → Spells f.meaning bytes x → SpellsFirst f.meaning bytes x []
whole_begins f bytes x s = record { fits = s.fits; parts = s.whole ∙ sym (append-nil (f.meaning.spell x)) }

-- bytes are the spelling of one value at most
pub one_value : {A : Type 0} (f : Spelling A) → Lawful f → (bytes : List ℕ) (x y : A) → Spells f.meaning bytes x → Spells f.meaning bytes y → x ≡ y
one_value f law bytes x y a b = (one_front f law bytes x y [] [] (whole_begins f bytes x a) (whole_begins f bytes y b)).0

-- bytes that begin with a spelling have no faulty field
pub not_faulty : {A : Type 0} (f : Spelling A) → Lawful f → (bytes : List ℕ) (x : A) (rest : List ℕ) (left : ℕ) → IsBytes bytes
    → SpellsFirst f.meaning bytes x rest
    → f.meaning.faulty bytes left → ⊥
not_faulty f law bytes x rest left is b h = not_both (f.read bytes) (x, rest) left (read_behind f law bytes x rest b) (law.ends bytes left is h)

-- a fault has one place
pub one_place : {A : Type 0} (f : Spelling A) → Lawful f → (bytes : List ℕ) (left other : ℕ) → IsBytes bytes → f.meaning.faulty bytes left
    → f.meaning.faulty bytes other
    → left ≡ other
one_place f law bytes left other is a b =
    let e = sym (law.ends bytes left is a) ∙ law.ends bytes other is b in cc

-- bytes with a fault are no spelling
pub fault_refuses : {A : Type 0} (f : Spelling A) → Lawful f → (bytes : List ℕ) (left : ℕ) → IsBytes bytes → WholeFault f.meaning bytes left → (x : A)
    → Spells f.meaning bytes x → ⊥
fault_refuses f law bytes left is (inl h) x s = not_faulty f law bytes x [] left is (whole_begins f bytes x s) h
fault_refuses f law bytes left is (inr b) x s = b.keeps.0 (sym (one_front f law bytes x b.value [] b.rest (whole_begins f bytes x s) b.begins).1)

-- the fault of the whole has one place
pub one_whole_place : {A : Type 0} (f : Spelling A) → Lawful f → (bytes : List ℕ) (left other : ℕ) → IsBytes bytes → WholeFault f.meaning bytes left
    → WholeFault f.meaning bytes other → left ≡ other
one_whole_place f law bytes left other is (inl a) (inl b) = one_place f law bytes left other is a b
one_whole_place f law bytes left other is (inl a) (inr b) = absurd (not_faulty f law bytes b.value b.rest left is b.begins a)
one_whole_place f law bytes left other is (inr a) (inl b) = absurd (not_faulty f law bytes a.value a.rest other is a.begins b)
one_whole_place f law bytes left other is (inr a) (inr b) =
    a.keeps.1 ∙ ap length (one_front f law bytes a.value b.value a.rest b.rest a.begins b.begins).1 ∙ sym b.keeps.1

-- the place of the fault of the whole is in the bytes
pub whole_within : {A : Type 0} (f : Spelling A) → Lawful f → (bytes : List ℕ) (left : ℕ) → IsBytes bytes → WholeFault f.meaning bytes left
    → left ≤ length bytes
whole_within f law bytes left is (inl h) = law.within bytes left is h
whole_within f law bytes left is (inr b) = omega (arith, b.keeps.1, ap length b.begins.parts, length-append (f.meaning.spell b.value) b.rest)

-- ---- what reading gave of the whole

-- what was read, and left nothing, is spelled by the whole
pub decoded : {A : Type 0} (f : Spelling A) → Lawful f → (bytes rest : List ℕ) (x : A) → IsBytes bytes → f.read bytes ≡ Ok (x, rest) → length rest ≡ 0
    → Spells f.meaning bytes x
decoded f law bytes rest x is e none =
    let b = law.takes bytes x rest is e in
    let empty : rest ≡ [] = nil_from_length rest none in
    record { fits = b.fits; whole = b.parts ∙ ap (λ (t : List ℕ). f.meaning.spell x ++ t) empty ∙ append-nil (f.meaning.spell x) }

-- what was read, and left bytes, has its fault at the first of them
pub left_over : {A : Type 0} (f : Spelling A) → Lawful f → (bytes rest : List ℕ) (x : A) → IsBytes bytes → f.read bytes ≡ Ok (x, rest) → (length rest ≡ 0 → ⊥)
    → WholeFault f.meaning bytes (length rest)
left_over f law bytes rest x is e some =
    inr (record { value = x; rest = rest; begins = law.takes bytes x rest is e; keeps = (λ none. some (ap length none), refl) })

-- reading's fault is the fault of the whole
pub read_fault : {A : Type 0} (f : Spelling A) → Lawful f → (bytes : List ℕ) (e : ReadFault) → IsBytes bytes → Fails e (f.read bytes)
    → ReadsWhole f bytes (Err e)
read_fault f law bytes faults.Memory is h = tt
read_fault f law bytes (faults.Bad field) is h = inl (law.faults bytes field.left is h)

-- reading leaves no more bytes than there were
pub less_left : {A : Type 0} (f : Spelling A) → Lawful f → (bytes rest : List ℕ) (x : A) → IsBytes bytes → f.read bytes ≡ Ok (x, rest)
    → length rest ≤ length bytes
less_left f law bytes rest x is e =
    let b = law.takes bytes x rest is e in
    omega (arith, ap length b.parts, length-append (f.meaning.spell x) rest)

-- the place of a fault that was read is in the bytes
pub fault_within : {A : Type 0} (f : Spelling A) → Lawful f → (bytes : List ℕ) (left : ℕ) → IsBytes bytes → f.read bytes ≡ Err left → left ≤ length bytes
fault_within f law bytes left is e = law.within bytes left is (law.faults bytes left is e)

-- bytes whose reading met a fault begin with no spelling
pub fault_begins_none : {A : Type 0} (f : Spelling A) → Lawful f → (bytes rest : List ℕ) (left : ℕ) (x : A) → f.read bytes ≡ Err left
    → SpellsFirst f.meaning bytes x rest → ⊥
fault_begins_none f law bytes rest left x e b = not_both (f.read bytes) (x, rest) left (read_behind f law bytes x rest b) e
