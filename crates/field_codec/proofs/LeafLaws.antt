-- The laws of the other fields: marks, timestamps, texts, lists, ends and ranges.
use Rattle.std.proofs.Common.{◌≡◌, ◌≤◌, ◌^◌, ℕ, zero, suc, List, [], ◌∷◌, ◌++◌, length, take, drop, Option, Some, None, refl, sym, ap, ap₂, ◌∙◌, append_assoc, arith, inl, inr, ◌⊎◌, length-append}
use Rattle.std.specs.Prelude.{◌==◌, nat_lt, Bool, true, false, if◌then◌else◌}
use Rattle.std.proofs.lemmas.Bool.{ltb-false, le-ltb, eqb-true}
use Rattle.std.proofs.lemmas.List.{take_at, drop_at, take-append-drop, length-take}
use Rattle.disk_trait.specs.Numbers.{u32_bytes}
use Rattle.field_codec.specs.Spelling.{Spelling, followed, items}
use Rattle.field_codec.specs.Leaves.{number_at, u32_of, u8_spelling, u32_spelling, mark_of, mark_number, bool_spelling, with_number, one_of, text_at, counted_text, IsShort, text_spelling, HasFew, listed}
use Rattle.field_codec.specs.Laws.{IsBytes, Lawful}
use Rattle.field_codec.proofs.Combined.{leaf_lawful, NarrowLaws, narrowed_lawful, followed_lawful}
use Rattle.field_codec.proofs.Many.{items_lawful}
use Rattle.field_codec.proofs.Numbers.{wide32, cond_some, number_takes, number_again, u32_below, u8_lawful, u32_lawful}

some_is : {A : Type 0} (x y : A) (o : Option A) → o ≡ Some x → o ≡ Some y → x ≡ y
some_is x y o a b = let e = sym a ∙ b in cc

-- which way a test went
chosen : {A : Type 0} (b : Bool) (x y z : A) → (if b then x else y) ≡ z → ((b ≡ true) × (x ≡ z)) ⊎ ((b ≡ false) × (y ≡ z))
chosen true x y z e = inl (refl, e)
chosen false x y z e = inr (refl, e)

-- ---- marks

mark_is : (n : ℕ) (b : Bool) → mark_of n ≡ Some b → mark_number b ≡ n
mark_is zero true e = absurd cc
mark_is zero false e = refl
mark_is (suc zero) true e = refl
mark_is (suc zero) false e = absurd cc
mark_is (suc (suc n)) b e = absurd cc

mark_again : (b : Bool) → mark_of (mark_number b) ≡ Some b
mark_again true = refl
mark_again false = refl

pub bool_lawful : Lawful bool_spelling
unfolding bool_spelling
bool_lawful =
    narrowed_lawful mark_of mark_number (λ b. Unit {0}) (λ b. Unit {0}) u8_spelling
    (record { is = λ n b fits e. (mark_is n b e, tt); again = λ b fits has. mark_again b; writable = λ b fits has. tt }) u8_lawful

-- ---- one of some values

numbered_is : {A : Type 0} (number_of : A → ℕ) (values : List A) (n : ℕ) (x : A) → with_number number_of values n ≡ Some x → number_of x ≡ n
numbered_is number_of [] n x e = absurd cc
numbered_is number_of (y ∷ ys) n x e =
    elim (chosen (n == number_of y) (Some y) (with_number number_of ys n) (Some x) e) [
      | inl this ↦ let same : y ≡ x = some_is y x (Some y) refl this.1 in ap number_of (sym same) ∙ sym (eqb-true n (number_of y) this.0)
      | inr other ↦ numbered_is number_of ys n x other.1
    ]

pub one_of_lawful : {A : Type 0} (number_of : A → ℕ) (values : List A) → ((x : A) → with_number number_of values (number_of x) ≡ Some x)
    → Lawful (one_of number_of values)
one_of_lawful number_of values all =
    narrowed_lawful (with_number number_of values) number_of (λ x. Unit {0}) (λ x. Unit {0}) u8_spelling
    (record { is = λ n x fits e. (numbered_is number_of values n x e, tt); again = λ x fits has. all x; writable = λ x fits has. tt }) u8_lawful

-- ---- texts

-- where a text and the bytes behind it were found
record Found (o : Option (ℕ × List ℕ)) (text rest : List ℕ) : Type 0 where
  size : ℕ
  bytes : List ℕ
  number : o ≡ Some (size, bytes)
  len : length text ≡ size
  parts : bytes ≡ text ++ rest

text_some : (o : Option (ℕ × List ℕ)) (text rest : List ℕ) → text_at o ≡ Some (text, rest) → Found o text rest
text_some None text rest e = absurd cc
text_some (Some n) text rest e =
    let g = cond_some (nat_lt (length n.1) n.0) (take n.0 n.1, drop n.0 n.1) (text, rest) e in
    let long : n.0 ≤ length n.1 = ltb-false _ _ g.0 in
    let text-is : take n.0 n.1 ≡ text = ap (λ (p : List ℕ × List ℕ). p.0) g.1 in
    let rest-is : drop n.0 n.1 ≡ rest = ap (λ (p : List ℕ × List ℕ). p.1) g.1 in
    record {
      size = n.0;
      bytes = n.1;
      number = refl;
      len = rw (← text-is) (omega (arith, length-take n.0 n.1));
      parts = rw (← text-is, ← rest-is) (sym (take-append-drop n.0 n.1));
    }

pub text_takes : (bytes text rest : List ℕ) → IsBytes bytes → text_at (number_at 4 u32_of bytes) ≡ Some (text, rest)
    → IsShort text × (bytes ≡ counted_text text ++ rest)
text_takes bytes text rest is e =
    let t = text_some (number_at 4 u32_of bytes) text rest e in
    let n = number_takes 4 (2 ^ 32) u32_bytes u32_of wide32 bytes t.size t.bytes is t.number in
    let parts : bytes ≡ u32_bytes (length text) ++ (text ++ rest) = n.1 ∙ ap₂ (λ (k : ℕ) (more : List ℕ). u32_bytes k ++ more) (sym t.len) t.parts in
    (omega (arith, n.0, t.len), parts ∙ sym (append_assoc (u32_bytes (length text)) text rest))

pub text_again : (text rest : List ℕ) → IsShort text → text_at (number_at 4 u32_of (counted_text text ++ rest)) ≡ Some (text, rest)
text_again text rest short =
    let long : nat_lt (length (text ++ rest)) (length text) ≡ false = le-ltb _ _ (omega (arith, length-append text rest)) in
    rw (
      append_assoc (u32_bytes (length text)) text rest,
      number_again 4 (2 ^ 32) u32_bytes u32_of wide32 (length text) (text ++ rest) short,
      long,
      take_at text rest (length text) refl,
      drop_at text rest (length text) refl,
    ) refl

pub text_lawful : Lawful text_spelling
unfolding text_spelling
text_lawful = leaf_lawful counted_text IsShort IsShort (λ bytes. text_at (number_at 4 u32_of bytes)) (record { takes = text_takes; again = text_again })
    (λ text short. short)

-- ---- lists

listed_laws : {A : Type 0} (f : Spelling A)
    → NarrowLaws (λ (x : ℕ × List A). Some x.1) (λ xs. (length xs, xs)) (λ xs. Unit {0}) HasFew (followed u32_spelling (items f)).meaning.fits
listed_laws {A = A} f = record {
  is = λ x xs fits e.
      let same : x.1 ≡ xs = some_is x.1 xs (Some x.1) refl e in
      (ap₂ (λ (n : ℕ) (ys : List A). (n, ys)) (ap length (sym same) ∙ fits.1.0) (sym same), tt);
  again = λ xs fits has. refl;
  writable = λ xs fits has. u32_below (length xs) fits.0;
}

pub listed_lawful : {A : Type 0} (f : Spelling A) → Lawful f → Lawful (listed f)
listed_lawful f law =
    narrowed_lawful (λ x. Some x.1) (λ xs. (length xs, xs)) (λ xs. Unit {0}) HasFew (followed u32_spelling (items f)) (listed_laws f)
    (followed_lawful u32_spelling (items f) u32_lawful (λ count. items_lawful f count law))
