-- The forms of the store's file: which there are, and which is written. Our own format.
use Rattle.std.specs.Prelude.{◌≡◌, ◌⊎◌, ℕ}

-- There are two forms, and both are read. Form 1 has no digest of an object's bytes, and form 2 has
-- one.
abbrev pub IsForm : ℕ → Type 0
IsForm form = (form ≡ 1) ⊎ (form ≡ 2)

-- the form in which the file is written
abbrev pub form_in_use : ℕ
form_in_use = 2
