-- Spellings: a meaning beside how its bytes are written and read from the left, which is proved to
-- agree with it (Laws). Each is put together from smaller ones as its meaning is. Our own words.
use Rattle.std.proofs.Common.{inl, inr}
use Rattle.std.specs.Prelude.{◌≡◌, ◌==◌, ◌⊎◌, ℕ, zero, suc, Bool, true, IsTrue, if◌then◌else◌, List, [], ◌∷◌, ◌++◌, length, Option, Some, None, Result, Ok, Err}
use Rattle.std.specs.List.{AllByRecursion}
use Rattle.field_codec.specs.Meaning.{Meaning, leaf_meaning, no_field_meaning, followed_meaning, via_meaning, narrowed_meaning, OfKind, on_kind, either_meaning, no_kind_meaning, begins_with, of_kinds_meaning, IsPresent, present_meaning, items_meaning}

pub record Spelling (A : Type 0) : Type 1 where
  pub meaning : Meaning A
  -- what is asked of a value that is written; its type gives the rest of what it means to fit
  pub asks : A → Type 0
  -- bytes with the value's spelling behind them
  pub onto : List ℕ → A → List ℕ
  -- the value at the front and the bytes behind it, or the place of the fault
  pub read : List ℕ → Result (A × List ℕ) ℕ

-- what a first reading gave goes on
infixl 10 ◌>>=◌
abbrev pub ◌>>=◌ : {A B : Type 0} → Result A ℕ → (A → Result B ℕ) → Result B ℕ
(Ok x) >>= f = f x
(Err e) >>= f = Err e

-- ---- a field that holds no other

-- what was found, or a fault where so many bytes are left
abbrev pub found_or : {A : Type 0} → ℕ → Option A → Result A ℕ
found_or left None = Err left
found_or left (Some x) = Ok x

-- a field without parts
abbrev pub leaf : {A : Type 0} → (A → List ℕ) → (A → Type 0) → (A → Type 0)
    → (List ℕ → Option (A × List ℕ)) → Spelling A
leaf spell fits asks find = record {
  meaning = leaf_meaning spell fits;
  asks = asks;
  onto = λ front x. front ++ spell x;
  read = λ bytes. found_or (length bytes) (find bytes);
}

-- nothing at all
abbrev pub no_field : Spelling (Unit {0})
no_field = record {
  meaning = no_field_meaning;
  asks = λ x. Unit {0};
  onto = λ front x. front;
  read = λ bytes. Ok (tt, bytes);
}

-- ---- fields one after the other

-- a value, and one whose spelling may depend on it
abbrev pub followed : {A B : Type 0} → Spelling A → (A → Spelling B) → Spelling (A × B)
followed f g = record {
  meaning = followed_meaning f.meaning (λ x. (g x).meaning);
  asks = λ x. f.asks x.0 × (g x.0).asks x.1;
  onto = λ front x. (g x.0).onto (f.onto front x.0) x.1;
  read = λ bytes. f.read bytes >>= λ x. (g x.0).read x.1 >>= λ y. Ok ((x.0, y.0), y.1);
}

-- two values, one after the other
abbrev pub pair : {A B : Type 0} → Spelling A → Spelling B → Spelling (A × B)
pair f g = followed f (λ x. g)

-- ---- values of another type, and values that pass a test

-- the same fields seen as a value of another type
abbrev pub via : {A B : Type 0} → (A → B) → (B → A) → Spelling A → Spelling B
via to from f = record {
  meaning = via_meaning from f.meaning;
  asks = λ y. f.asks (from y);
  onto = λ front y. f.onto front (from y);
  read = λ bytes. f.read bytes >>= λ x. Ok (to x.0, x.1);
}

-- values of which only some stand for one of the other type
abbrev pub narrowed : {A B : Type 0} → (A → Option B) → (B → A) → (B → Type 0) → (B → Type 0)
    → Spelling A → Spelling B
narrowed to from fits asks f = record {
  meaning = narrowed_meaning to from fits f.meaning;
  asks = λ y. f.asks (from y) × asks y;
  onto = λ front y. f.onto front (from y);
  read = λ bytes. f.read bytes >>= λ x. found_or (length bytes) (to x.0) >>= λ y. Ok (y, x.1);
}

-- the value, where it passes a test
abbrev pub kept_if : {A : Type 0} → (A → Bool) → A → Option A
kept_if test x = if test x then Some x else None

-- a field with a test
abbrev pub where_is : {A : Type 0} → (A → Bool) → Spelling A → Spelling A
where_is test f = narrowed (kept_if test) (λ x. x) (λ x. test x ≡ true) (λ x. test x ≡ true) f

-- ---- kinds

-- how the bytes are read that begin with this kind, and how others are
abbrev pub by_kind : {A B : Type 0} → ℕ → (List ℕ → Result (A × List ℕ) ℕ)
    → (List ℕ → Result (B × List ℕ) ℕ) → List ℕ → Result ((A ⊎ B) × List ℕ) ℕ
by_kind kind first other [] = other [] >>= λ y. Ok (inr y.0, y.1)
by_kind kind first other (b ∷ rest) =
    if b == kind
    then (first rest >>= λ x. Ok (inl x.0, x.1))
    else (other (b ∷ rest) >>= λ y. Ok (inr y.0, y.1))

-- one byte of kind and what belongs to it, or a value of another kind
abbrev pub either : {A B : Type 0} → ℕ → Spelling A → Spelling B → Spelling (A ⊎ B)
either kind f g = record {
  meaning = either_meaning kind f.meaning g.meaning;
  asks = OfKind f.asks g.asks;
  onto = λ front. on_kind (λ x. f.onto (front ++ kind ∷ []) x) (λ y. g.onto front y);
  read = by_kind kind f.read g.read;
}

-- no value of the type has a spelling
abbrev pub no_kind : {A : Type 0} → Spelling A
no_kind = record {
  meaning = no_kind_meaning;
  asks = λ x. ⊥;
  onto = λ front x. front;
  read = λ bytes. Err (length bytes);
}

-- values of which only some kinds stand, each of which is its value's first byte
abbrev pub of_kinds : {A : Type 0} → (ℕ → Bool) → (A → ℕ) → Spelling A → Spelling A
of_kinds stands kind_of f = record {
  meaning = of_kinds_meaning stands kind_of f.meaning;
  asks = λ x. f.asks x × IsTrue (stands (kind_of x));
  onto = f.onto;
  read = λ bytes. if begins_with stands bytes then f.read bytes else Err (length bytes);
}

-- ---- a field that may not stand

-- how a value is written behind some bytes, where it is there
abbrev pub onto_present : {A : Type 0} → (List ℕ → A → List ℕ) → List ℕ → Option A → List ℕ
onto_present onto front None = front
onto_present onto front (Some x) = onto front x

-- a value where the field stands, and nothing where it doesn't
abbrev pub present_if : {A : Type 0} → Bool → Spelling A → Spelling (Option A)
present_if stands f = record {
  meaning = present_meaning stands f.meaning;
  asks = IsPresent stands f.asks;
  onto = onto_present f.onto;
  read = λ bytes.
      if stands then (f.read bytes >>= λ x. Ok (Some x.0, x.1)) else Ok (None, bytes);
}

-- ---- options

-- an option by its two kinds: none, or some value
abbrev pub option_of : {A : Type 0} → Unit {0} ⊎ (A ⊎ ⊥) → Option A
option_of (inl x) = None
option_of (inr (inl x)) = Some x
option_of (inr (inr x)) = None

-- the kind of an option, and its value
abbrev pub option_parts : {A : Type 0} → Option A → Unit {0} ⊎ (A ⊎ ⊥)
option_parts None = inl tt
option_parts (Some x) = inr (inl x)

-- 0, or 1 and a value
abbrev pub optional : {A : Type 0} → Spelling A → Spelling (Option A)
optional f = via option_of option_parts (either 0 no_field (either 1 f no_kind))

-- ---- so many values

-- how so many values are read
abbrev pub items_at : {A : Type 0} → (List ℕ → Result (A × List ℕ) ℕ) → ℕ → List ℕ
    → Result (List A × List ℕ) ℕ
items_at read zero bytes = Ok ([], bytes)
items_at read (suc n) bytes =
    read bytes >>= λ x. items_at read n x.1 >>= λ xs. Ok (x.0 ∷ xs.0, xs.1)

-- how values are written behind some bytes
abbrev pub items_onto : {A : Type 0} → (List ℕ → A → List ℕ) → List ℕ → List A → List ℕ
items_onto onto front [] = front
items_onto onto front (x ∷ xs) = items_onto onto (onto front x) xs

-- so many values, one after the other
abbrev pub items : {A : Type 0} → Spelling A → ℕ → Spelling (List A)
items f count = record {
  meaning = items_meaning f.meaning count;
  asks = AllByRecursion f.asks;
  onto = items_onto f.onto;
  read = items_at f.read count;
}
