-- Numbers of ids, and what a change makes of the entries of a number.
use Rattle.std.specs.Prelude.{ℕ, List, [], ◌∷◌, ◌++◌, filter, not, take}
use Rattle.std.specs.Int.{from_be_bytes, w128}
use Rattle.sha2.specs.Sha256.{sha256}
use Rattle.object_refs.specs.declared.names.Named.{Named}
use Rattle.object_refs.specs.NameTables.{is_named_so}

-- the number of an id: the first 128 bits of its SHA-256 (FIPS 180-4)
unfoldable pub id_number : List ℕ → ℕ
id_number id = from_be_bytes w128 (take 16 (sha256 id))

-- the entries without those of an id
abbrev pub bucket_without : List ℕ → List Named → List Named
bucket_without id bucket = filter (λ entry. not (is_named_so id entry)) bucket

-- the entries with this one in place of those that have its id
abbrev pub bucket_with : Named → List Named → List Named
bucket_with entry bucket = bucket_without entry.id bucket ++ entry ∷ []
