-- The laws of so many values, one after the other.
use Rattle.std.proofs.Common.{◌≡◌, ◌≤◌, ◌<◌, ℕ, zero, suc, List, [], ◌∷◌, ◌++◌, length, Ok, Err, refl, sym, ap, subst, ◌∙◌, append_assoc, arith, inl, inr, length-append}
use Rattle.std.specs.List.{flat_map, AllByRecursion}
use Rattle.std.proofs.lemmas.List.{append-nil}
use Rattle.std.proofs.lemmas.List.Concat.{flat_map-cons}
use Rattle.field_codec.specs.Meaning.{SpellsFirst, ItemFault}
use Rattle.field_codec.specs.Spelling.{Spelling, ◌>>=◌, items_at, items_onto, items}
use Rattle.field_codec.specs.Laws.{IsBytes, Lawful}
use Rattle.field_codec.proofs.Lawful.{IsBytes-behind, bind_ok, bind_err, ok_is}

-- the first item, and then others
cons_parts : {A : Type 0} (f : Spelling A) (x : A) (xs : List A) (rest : List ℕ)
    → flat_map f.meaning.spell (x ∷ xs) ++ rest ≡ f.meaning.spell x ++ (flat_map f.meaning.spell xs ++ rest)
cons_parts f x xs rest = ap (λ (t : List ℕ). t ++ rest) (flat_map-cons f.meaning.spell x xs) ∙ append_assoc (f.meaning.spell x) (flat_map f.meaning.spell xs)
    rest

items_takes : {A : Type 0} (f : Spelling A) → Lawful f → (count : ℕ) (bytes : List ℕ) (xs : List A) (rest : List ℕ) → IsBytes bytes
    → items_at f.read count bytes ≡ Ok (xs, rest) → SpellsFirst (items f count).meaning bytes xs rest
items_takes {A = A} f law zero bytes xs rest is e =
    subst (λ (p : List A × List ℕ). SpellsFirst (items f 0).meaning bytes p.0 p.1) (ok_is ([], bytes) (xs, rest) e) (record { fits = (refl, tt); parts = refl })
items_takes {A = A} f law (suc n) bytes xs rest is e =
    let a = bind_ok (f.read bytes) (λ x. items_at f.read n x.1 >>= λ xs. Ok (x.0 ∷ xs.0, xs.1)) (xs, rest) e in
    let b = bind_ok (items_at f.read n a.0.1) (λ xs. Ok (a.0.0 ∷ xs.0, xs.1)) (xs, rest) a.2 in
    let first = law.takes bytes a.0.0 a.0.1 is a.1 in
    let others = items_takes f law n a.0.1 b.0.0 b.0.1 (IsBytes-behind bytes (f.meaning.spell a.0.0) a.0.1 is first.parts) b.1 in
    let whole : SpellsFirst (items f (suc n)).meaning bytes (a.0.0 ∷ b.0.0) b.0.1 = record {
      fits = (ap suc others.fits.0, (first.fits, others.fits.1));
      parts = first.parts ∙ ap (λ (t : List ℕ). f.meaning.spell a.0.0 ++ t) others.parts ∙ sym (cons_parts f a.0.0 b.0.0 b.0.1);
    } in
    subst (λ (p : List A × List ℕ). SpellsFirst (items f (suc n)).meaning bytes p.0 p.1) (ok_is (a.0.0 ∷ b.0.0, b.0.1) (xs, rest) b.2) whole

items_again : {A : Type 0} (f : Spelling A) → Lawful f → (xs : List A) (rest : List ℕ) → AllByRecursion f.meaning.fits xs
    → items_at f.read (length xs) (flat_map f.meaning.spell xs ++ rest) ≡ Ok (xs, rest)
items_again f law [] rest fits = refl
items_again f law (x ∷ xs) rest fits =
    ap (items_at f.read (suc (length xs))) (cons_parts f x xs rest) ∙ rw (
      law.again x (flat_map f.meaning.spell xs ++ rest) fits.0,
      items_again f law xs rest fits.1,
    )
    refl

items_adds : {A : Type 0} (f : Spelling A) → Lawful f → (front : List ℕ) (xs : List A) → items_onto f.onto front xs ≡ front ++ flat_map f.meaning.spell xs
items_adds f law front [] = sym (append-nil front)
items_adds f law front (x ∷ xs) =
    items_adds f law (f.onto front x) xs ∙ ap (λ (t : List ℕ). t ++ flat_map f.meaning.spell xs) (law.adds front x) ∙ append_assoc front (f.meaning.spell x)
    (flat_map f.meaning.spell xs)
    ∙ ap (λ (t : List ℕ). front ++ t) (sym (flat_map-cons f.meaning.spell x xs))

items_faults : {A : Type 0} (f : Spelling A) → Lawful f → (count : ℕ) (bytes : List ℕ) (left : ℕ) → IsBytes bytes
    → items_at f.read count bytes ≡ Err left → ItemFault f.meaning count bytes left
items_faults f law zero bytes left is e = absurd cc
items_faults {A = A} f law (suc n) bytes left is e =
    elim (bind_err (f.read bytes) (λ x. items_at f.read n x.1 >>= λ xs. Ok (x.0 ∷ xs.0, xs.1)) left e) [
      | inl h ↦ record { items = []; rest = bytes; fewer = omega arith; fits = tt; parts = refl; fault = law.faults bytes left is h }
      | inr a ↦
          let first = law.takes bytes a.0.0 a.0.1 is a.1 in
          elim (bind_err (items_at f.read n a.0.1) (λ xs. Ok (a.0.0 ∷ xs.0, xs.1)) left a.2) [
            | inl h ↦
                let later = items_faults f law n a.0.1 left (IsBytes-behind bytes (f.meaning.spell a.0.0) a.0.1 is first.parts) h in
                record {
                  items = a.0.0 ∷ later.items;
                  rest = later.rest;
                  fewer = omega (arith, later.fewer);
                  fits = (first.fits, later.fits);
                  parts = first.parts ∙ ap (λ (t : List ℕ). f.meaning.spell a.0.0 ++ t) later.parts ∙ sym (cons_parts f a.0.0 later.items later.rest);
                  fault = later.fault;
                }
            | inr b ↦ absurd (let impossible = b.2 in cc)
          ]
    ]

items_end : {A : Type 0} (f : Spelling A) → Lawful f → (count : ℕ) (xs : List A) (rest : List ℕ) (left : ℕ) → length xs < count
    → AllByRecursion f.meaning.fits xs
    → f.read rest ≡ Err left → items_at f.read count (flat_map f.meaning.spell xs ++ rest) ≡ Err left
items_end f law zero xs rest left lt fits e = absurd (let impossible : ⊥ = omega arith in impossible)
items_end f law (suc n) [] rest left lt fits e = rw e refl
items_end f law (suc n) (x ∷ xs) rest left lt fits e =
    ap (items_at f.read (suc n)) (cons_parts f x xs rest) ∙ rw (
      law.again x (flat_map f.meaning.spell xs ++ rest) fits.0,
      items_end f law n xs rest left (omega arith)
          fits.1 e,
    ) refl

items_ends : {A : Type 0} (f : Spelling A) → Lawful f → (count : ℕ) (bytes : List ℕ) (left : ℕ) → IsBytes bytes
    → ItemFault f.meaning count bytes left → items_at f.read count bytes ≡ Err left
items_ends f law count bytes left is h =
    let rest_is = IsBytes-behind bytes (flat_map f.meaning.spell h.items) h.rest is h.parts in
    ap (items_at f.read count) h.parts ∙ items_end f law count h.items h.rest left h.fewer h.fits (law.ends h.rest left rest_is h.fault)

items_within : {A : Type 0} (f : Spelling A) → Lawful f → (count : ℕ) (bytes : List ℕ) (left : ℕ) → IsBytes bytes
    → ItemFault f.meaning count bytes left → left ≤ length bytes
items_within f law count bytes left is h =
    let rest_is = IsBytes-behind bytes (flat_map f.meaning.spell h.items) h.rest is h.parts in
    omega (arith, law.within h.rest left rest_is h.fault, ap length h.parts, length-append (flat_map f.meaning.spell h.items) h.rest)

all_writable : {A : Type 0} (f : Spelling A) → Lawful f → (xs : List A) → AllByRecursion f.meaning.fits xs → AllByRecursion f.asks xs
all_writable f law [] h = tt
all_writable f law (x ∷ xs) h = (law.writable x h.0, all_writable f law xs h.1)

pub items_lawful : {A : Type 0} (f : Spelling A) (count : ℕ) → Lawful f → Lawful (items f count)
items_lawful f count law = record {
  takes = items_takes f law count;
  again = λ xs rest fits. rw (← fits.0) (items_again f law xs rest fits.1);
  adds = items_adds f law;
  faults = items_faults f law count;
  ends = items_ends f law count;
  within = items_within f law count;
  writable = λ xs h. all_writable f law xs h.1;
}
