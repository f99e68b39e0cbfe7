-- What was said on each connection, and what a crash leaves told of it.
use Rattle.std.specs.Prelude.{◌≡◌, ℕ, List, [], ◌∷◌, ◌++◌, length}
use Rattle.disk_trait.specs.Device.{Device, Left, may_leave}
use Rattle.site_edge.specs.Links.{change_last}

-- a prefix of a text
abbrev pub IsPrefix : List ℕ → List ℕ → Type 0
IsPrefix front text = (rest : List ℕ) × (text ≡ front ++ rest)

-- What was told is, connection by connection, a prefix of what was said. The later connections need
-- not have begun.
abbrev pub ArePrefixes : List (List ℕ) → List (List ℕ) → Type 0
ArePrefixes [] said = Unit {0}
ArePrefixes (t ∷ told) [] = ⊥
ArePrefixes (t ∷ told) (s ∷ said) = IsPrefix t s × ArePrefixes told said

-- Such prefixes, of which the last connection was told all that was said on it.
pub record IsToldToLast (told said : List (List ℕ)) : Type 0 where
  pub told_before : List (List ℕ)
  pub said_before : List (List ℕ)
  pub last : List ℕ
  pub told_is : told ≡ told_before ++ last ∷ []
  pub said_is : said ≡ said_before ++ last ∷ []
  pub same_length : length told_before ≡ length said_before
  pub prefixes : ArePrefixes told_before said_before

-- these bytes, said on the last connection too
abbrev pub said_also : List ℕ → List (List ℕ) → List (List ℕ)
said_also bytes = change_last (λ s. s ++ bytes)

-- A crash since a moment leaves told prefixes of what was said, and a crash now leaves the last
-- connection told of all of it.
pub record SaidSince (t : ℕ) (said : List (List ℕ)) (d : Device) : Type 0 where
  pub since : (p : Left) → d.left_since t p → ArePrefixes p.told said
  pub now : (p : Left) → may_leave d p → IsToldToLast p.told said

-- The same of a last connection that may have been told only a part of what was said on it.
pub record SaidAtMost (t : ℕ) (said : List (List ℕ)) (d : Device) : Type 0 where
  pub since : (p : Left) → d.left_since t p → ArePrefixes p.told said
  pub now : (p : Left) → may_leave d p → ArePrefixes p.told said × (length p.told ≡ length said)

-- a step that tells nothing
abbrev pub KeepsTold : (Left → Left → Type 0) → Type 0
KeepsTold step = (old new : Left) → step old new → new.told ≡ old.told
