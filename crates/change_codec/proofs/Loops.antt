-- Lists, item by item, as loops read and write them.
use Rattle.std.proofs.Common.{◌≡◌, ℕ, zero, suc, ◌-◌, ◌+◌, ◌≤◌, ◌<◌, List, [], ◌∷◌, ◌++◌, length, take, drop, get_or, Result, Ok, Err, refl, sym, ap, subst, length-drop, ◌∙◌, append_assoc, arith}
use Rattle.std.specs.List.{AllByRecursion}
use Rattle.std.proofs.lemmas.List.{append-nil, nil_from_length, take_all}
use Rattle.field_codec.specs.Spelling.{Spelling, ◌>>=◌, items_at, items_onto, items}
use Rattle.field_codec.specs.Reading.{Fails, WritesValue}
use Rattle.field_codec.specs.declared.fault.ReadFault.{ReadFault}
use Rattle.field_codec.specs.declared.fault.ReadFault.TheVariants as faults

-- ---- reading

-- what was read before, and what is still read
abbrev pub with_front : {A : Type 0} → List A → Result (List A × List ℕ) ℕ → Result (List A × List ℕ) ℕ
with_front front read = read >>= λ x. Ok (front ++ x.0, x.1)

regroup : {A : Type 0} (front : List A) (x : A) (read : Result (List A × List ℕ) ℕ) → with_front front (read >>= λ xs. Ok (x ∷ xs.0, xs.1)) ≡ with_front
    (front ++ x ∷ []) read
regroup {A = A} front x (Ok xs) = ap (λ (ys : List A). Ok (ys, xs.1)) (simp append_assoc)
regroup front x (Err e) = refl

pub goes_on : {A : Type 0} (f : Spelling A) (front : List A) (count i : ℕ) (bytes : List ℕ) (x : A) (after : List ℕ) (total : Result (List A × List ℕ) ℕ)
    → i < count → f.read bytes ≡ Ok (x, after)
    → with_front front (items_at f.read (count - i) bytes) ≡ total → with_front (front ++ x ∷ []) (items_at f.read (count - (i + 1)) after) ≡ total
goes_on f front count i bytes x after total lt h so_far =
    let k : count - i ≡ suc (count - (i + 1)) = omega arith in
    let one : with_front front (items_at f.read (count - i) bytes) ≡ with_front (front ++ x ∷ []) (items_at f.read (count - (i + 1)) after) =
    rw (k, h) (regroup front x (items_at f.read (count - (i + 1)) after)) in
    sym one ∙ so_far

pub stops : {A : Type 0} (f : Spelling A) (e : ReadFault) (front : List A) (count i : ℕ) (bytes : List ℕ) (total : Result (List A × List ℕ) ℕ) → i < count
    → Fails e (f.read bytes)
    → with_front front (items_at f.read (count - i) bytes) ≡ total → Fails e total
stops f faults.Memory front count i bytes total lt h so_far = tt
stops f (faults.Bad field) front count i bytes total lt h so_far =
    let k : count - i ≡ suc (count - (i + 1)) = omega arith in
    let one : with_front front (items_at f.read (count - i) bytes) ≡ Err field.left = rw (k, h) refl in
    sym so_far ∙ one

pub is_done : {A : Type 0} (f : Spelling A) (front : List A) (count i : ℕ) (bytes : List ℕ) (total : Result (List A × List ℕ) ℕ) → count ≤ i
    → with_front front (items_at f.read (count - i) bytes) ≡ total → total ≡ Ok (front, bytes)
is_done {A = A} f front count i bytes total le so_far =
    let k : count - i ≡ 0 = omega arith in
    let one : with_front front (items_at f.read (count - i) bytes) ≡ Ok (front, bytes) = rw k (ap (λ (xs : List A). Ok (xs, bytes)) (append-nil front)) in
    sym so_far ∙ one

-- ---- writing

-- so many items are written: what is left to write stands behind them, and they fit
pub record Written {A : Type 0} (f : Spelling A) (old : List ℕ) (xs : List A) (i : ℕ) (now : List ℕ) : Type 0 where
  pub rest : items_onto f.onto now (drop i xs) ≡ items_onto f.onto old xs
  pub fits : AllByRecursion f.meaning.fits (take i xs)

pub none_written : {A : Type 0} (f : Spelling A) (old : List ℕ) (xs : List A) → Written f old xs 0 old
none_written f old xs = record { rest = refl; fits = tt }

all_more : {A : Type 0} (P : A → Type 0) (xs : List A) (i : ℕ) (d : A) → i < length xs → AllByRecursion P (take i xs) → P (get_or xs i d)
    → AllByRecursion P (take (suc i) xs)
all_more P [] i d lt h p = absurd (let impossible : ⊥ = omega arith in impossible)
all_more P (x ∷ xs) zero d lt h p = (p, tt)
all_more P (x ∷ xs) (suc i) d lt h p = (h.0, all_more P xs i d (omega arith) h.1 p)

drop_one : {A : Type 0} (xs : List A) (i : ℕ) (d : A) → i < length xs → drop i xs ≡ get_or xs i d ∷ drop (suc i) xs
drop_one [] i d lt = absurd (let impossible : ⊥ = omega arith in impossible)
drop_one (x ∷ xs) zero d lt = refl
drop_one (x ∷ xs) (suc i) d lt = drop_one xs i d (omega arith)

pub one_written : {A : Type 0} (f : Spelling A) (old : List ℕ) (xs : List A) (i : ℕ) (x : A) (now next : List ℕ) → i < length xs → x ≡ get_or xs i x
    → Written f old xs i now → WritesValue f now x next → Written f old xs (i + 1) next
one_written {A = A} f old xs i x now next lt is before wrote =
    let more : i + 1 ≡ suc i = omega arith in
    let step : items_onto f.onto next (drop (suc i) xs) ≡ items_onto f.onto now (drop i xs) =
    ap (λ (t : List ℕ). items_onto f.onto t (drop (suc i) xs)) (wrote.written ∙ ap (f.onto now) is)
    ∙ sym (ap (items_onto f.onto now) (drop_one xs i x lt)) in
    rw more (record { rest = step ∙ before.rest; fits = all_more f.meaning.fits xs i x lt before.fits (subst f.meaning.fits is wrote.fits) })

drop_all : {A : Type 0} (xs : List A) (i : ℕ) → length xs ≤ i → drop i xs ≡ []
drop_all xs i le = nil_from_length (drop i xs) (omega (arith, length-drop i xs))

pub all_written : {A : Type 0} (f : Spelling A) (old : List ℕ) (xs : List A) (i : ℕ) (now : List ℕ) → length xs ≤ i → Written f old xs i now
    → WritesValue (items f (length xs)) old xs now
all_written f old xs i now le w = record {
  written = sym (ap (items_onto f.onto now) (drop_all xs i le)) ∙ w.rest;
  fits = (refl, subst (AllByRecursion f.meaning.fits) (take_all i xs le) w.fits);
}
