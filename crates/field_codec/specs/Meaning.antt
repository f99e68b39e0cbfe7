-- How the values of a type are spelled in bytes, and where bytes that begin with no value's
-- spelling are faulty: what is to be believed of a spelling. One is put together from smaller
-- ones. A place in bytes is said by the number of bytes that are left there. Our own words.
use Rattle.std.proofs.Common.{inl, inr}
use Rattle.std.specs.Prelude.{◌≡◌, ◌<◌, ◌⊎◌, ℕ, Bool, true, false, IsTrue, IsFalse, List, [], ◌∷◌, ◌++◌, length, Option, Some, None}
use Rattle.std.specs.List.{flat_map, AllByRecursion}

pub record Meaning (A : Type 0) : Type 1 where
  -- the bytes of a value
  pub spell : A → List ℕ
  -- the value has a spelling
  pub fits : A → Type 0
  -- the bytes begin with no spelling, and so many are left where the first faulty field begins that
  -- holds no other faulty field
  pub faulty : List ℕ → ℕ → Type 0

-- the bytes are the spelling of the value and then the rest
pub record SpellsFirst {A : Type 0} (m : Meaning A) (bytes : List ℕ) (value : A)
    (rest : List ℕ) : Type 0 where
  pub fits : m.fits value
  pub parts : bytes ≡ m.spell value ++ rest

-- the bytes begin with a spelling, and the value and the bytes behind it keep this
pub record Behind {A : Type 0} (m : Meaning A) (bytes : List ℕ)
    (Keeps : A → List ℕ → Type 0) : Type 0 where
  pub value : A
  pub rest : List ℕ
  pub begins : SpellsFirst m bytes value rest
  pub keeps : Keeps value rest

-- ---- a field that holds no other

-- no spelling of such a value stands at the front
abbrev pub HasNone : {A : Type 0} → (A → Type 0) → (A → List ℕ) → List ℕ → Type 0
HasNone {A = A} fits spell bytes = (x : A) (rest : List ℕ) → fits x → bytes ≡ spell x ++ rest → ⊥

-- A field without parts is faulty at its own beginning.
abbrev pub leaf_meaning : {A : Type 0} → (A → List ℕ) → (A → Type 0) → Meaning A
leaf_meaning spell fits = record {
  spell = spell;
  fits = fits;
  faulty = λ bytes left. HasNone fits spell bytes × (left ≡ length bytes);
}

-- nothing at all
abbrev pub no_field_meaning : Meaning (Unit {0})
no_field_meaning = record {
  spell = λ x. [];
  fits = λ x. Unit {0};
  faulty = λ bytes left. ⊥;
}

-- ---- fields one after the other

-- A value, and one whose spelling may depend on it: the first one's fault comes first.
abbrev pub followed_meaning : {A B : Type 0} → Meaning A → (A → Meaning B) → Meaning (A × B)
followed_meaning m n = record {
  spell = λ x. m.spell x.0 ++ (n x.0).spell x.1;
  fits = λ x. m.fits x.0 × (n x.0).fits x.1;
  faulty = λ bytes left. m.faulty bytes left ⊎ Behind m bytes (λ x rest. (n x).faulty rest left);
}

-- ---- values of another type, and values that pass a test

-- the same fields seen as a value of another type
abbrev pub via_meaning : {A B : Type 0} → (B → A) → Meaning A → Meaning B
via_meaning from m = record {
  spell = λ y. m.spell (from y);
  fits = λ y. m.fits (from y);
  faulty = m.faulty;
}

-- Only some values stand for one of the other type. A value that stands for none is faulty at its
-- own beginning, where no field in it is.
abbrev pub narrowed_meaning : {A B : Type 0} → (A → Option B) → (B → A) → (B → Type 0) → Meaning A
    → Meaning B
narrowed_meaning to from fits m = record {
  spell = λ y. m.spell (from y);
  fits = λ y. m.fits (from y) × fits y;
  faulty = λ bytes left.
      m.faulty bytes left ⊎ Behind m bytes (λ x rest. (to x ≡ None) × (left ≡ length bytes));
}

-- ---- kinds

-- what one of two kinds gives
abbrev pub on_kind : {A B T : Type 0} → (A → T) → (B → T) → A ⊎ B → T
on_kind first other (inl x) = first x
on_kind first other (inr y) = other y

-- the same for what is true
abbrev pub OfKind : {A B : Type 0} → (A → Type 0) → (B → Type 0) → A ⊎ B → Type 0
OfKind First Other (inl x) = First x
OfKind First Other (inr y) = Other y

-- this kind is the first byte
abbrev pub HasKind : ℕ → List ℕ → Type 0
HasKind kind bytes = (rest : List ℕ) × (bytes ≡ kind ∷ rest)

-- One byte of kind and what belongs to it, or a value of another kind.
abbrev pub either_meaning : {A B : Type 0} → ℕ → Meaning A → Meaning B → Meaning (A ⊎ B)
either_meaning kind m n = record {
  spell = on_kind (λ x. kind ∷ m.spell x) n.spell;
  fits = OfKind m.fits n.fits;
  faulty = λ bytes left.
      ((rest : List ℕ) × (bytes ≡ kind ∷ rest) × m.faulty rest left)
      ⊎ ((HasKind kind bytes → ⊥) × n.faulty bytes left);
}

-- No value of the type has a spelling: no kind is left, and any bytes are faulty here.
abbrev pub no_kind_meaning : {A : Type 0} → Meaning A
no_kind_meaning = record {
  spell = λ x. [];
  fits = λ x. ⊥;
  faulty = λ bytes left. left ≡ length bytes;
}

-- the first byte is there, and passes a test
abbrev pub begins_with : (ℕ → Bool) → List ℕ → Bool
begins_with stands [] = false
begins_with stands (kind ∷ rest) = stands kind

-- Values of which only some kinds stand, each of which is its value's first byte: bytes that begin
-- with no such kind are faulty there.
abbrev pub of_kinds_meaning : {A : Type 0} → (ℕ → Bool) → (A → ℕ) → Meaning A → Meaning A
of_kinds_meaning stands kind_of m = record {
  spell = m.spell;
  fits = λ x. m.fits x × IsTrue (stands (kind_of x));
  faulty = λ bytes left.
      (IsFalse (begins_with stands bytes) × (left ≡ length bytes))
      ⊎ (IsTrue (begins_with stands bytes) × m.faulty bytes left);
}

-- ---- a field that may not stand

-- the bytes of a value, and none where it isn't there
abbrev pub spell_present : {A : Type 0} → (A → List ℕ) → Option A → List ℕ
spell_present spell None = []
spell_present spell (Some x) = spell x

-- a value is there exactly where the field stands, and keeps this
abbrev pub IsPresent : {A : Type 0} → Bool → (A → Type 0) → Option A → Type 0
IsPresent true Keeps None = ⊥
IsPresent true Keeps (Some x) = Keeps x
IsPresent false Keeps None = Unit {0}
IsPresent false Keeps (Some x) = ⊥

-- A field that stands or doesn't: one that doesn't has no bytes, and none are faulty.
abbrev pub present_meaning : {A : Type 0} → Bool → Meaning A → Meaning (Option A)
present_meaning stands m = record {
  spell = spell_present m.spell;
  fits = IsPresent stands m.fits;
  faulty = λ bytes left. IsTrue stands × m.faulty bytes left;
}

-- ---- so many values

-- fewer than so many items are spelled, and behind them the next one is faulty
pub record ItemFault {A : Type 0} (m : Meaning A) (count : ℕ) (bytes : List ℕ)
    (left : ℕ) : Type 0 where
  pub items : List A
  pub rest : List ℕ
  pub fewer : length items < count
  pub fits : AllByRecursion m.fits items
  pub parts : bytes ≡ flat_map m.spell items ++ rest
  pub fault : m.faulty rest left

-- so many values, one after the other
abbrev pub items_meaning : {A : Type 0} → Meaning A → ℕ → Meaning (List A)
items_meaning m count = record {
  spell = flat_map m.spell;
  fits = λ xs. (length xs ≡ count) × AllByRecursion m.fits xs;
  faulty = ItemFault m count;
}

-- ---- the whole of some bytes

-- the bytes are the spelling of a value and no more
pub record Spells {A : Type 0} (m : Meaning A) (bytes : List ℕ) (value : A) : Type 0 where
  pub fits : m.fits value
  pub whole : bytes ≡ m.spell value

-- The bytes are no value's spelling: a field is faulty, or all are spelled and bytes remain, the
-- first of which is the place.
abbrev pub WholeFault : {A : Type 0} → Meaning A → List ℕ → ℕ → Type 0
WholeFault m bytes left =
    m.faulty bytes left ⊎ Behind m bytes (λ x rest. (rest ≡ [] → ⊥) × (left ≡ length rest))
