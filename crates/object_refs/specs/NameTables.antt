-- A table of names: the serial of each object, by its id and by a number under which the id stands.
-- Our own rules.
use Rattle.std.specs.Prelude.{◌≡◌, ◌≢◌, ℕ, ℤ, List, [], Bool, Option, bytes_eq, find, option_map, unwrap_or}
use Rattle.media_rows.specs.Views.{id_key}
use Rattle.shared_tree.specs.Pairs.{value_at}
use Rattle.object_refs.specs.declared.names.Named.{Named}

-- the ids of each number with their serials, by the number's key
abbrev pub Names : Type 0
Names = List (ℤ × List Named)

-- an entry is the one of an id
abbrev pub is_named_so : List ℕ → Named → Bool
is_named_so id entry = bytes_eq entry.id id

-- the serial of an id among some entries
abbrev pub serial_in : List ℕ → List Named → Option ℕ
serial_in id entries = option_map (λ entry. entry.serial) (find (is_named_so id) entries)

-- the entries of a number
abbrev pub bucket_at : ℕ → Names → List Named
bucket_at number names = unwrap_or (value_at (id_key number) names) []

-- the serial of an id under a number
abbrev pub serial_named : ℕ → List ℕ → Names → Option ℕ
serial_named number id names = serial_in id (bucket_at number names)

-- An id has this serial now under a number, or none. All other ids have what they had, under this
-- number as under others.
pub record Renames (number : ℕ) (id : List ℕ) (serial : Option ℕ) (old new : Names) : Type 0 where
  pub this : serial_named number id new ≡ serial
  pub others : (n : ℕ) (other : List ℕ) → (n ≡ number → other ≢ id)
      → serial_named n other new ≡ serial_named n other old
