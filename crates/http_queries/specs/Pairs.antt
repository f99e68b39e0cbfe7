-- The pairs of a query, as the URL Standard reads a form (section 5.1): what isn't UTF-8 in a name
-- or a value becomes U+FFFD.
use Rattle.std.specs.Prelude.{ℕ, List, Bool, Option, option_map, map, find, bytes_eq}
use Rattle.std.specs.Str.Lossy.{utf8_lossy}
use Rattle.form_urlencoded.specs.Form.{decode, raw_pairs}
use Rattle.http_queries.specs.declared.pairs.Pair.{Pair}

-- a name and a value that stand in a query, with their escapes undone
abbrev pub pair_of : List ℕ × List ℕ → Pair
pair_of raw = record { name = utf8_lossy (decode raw.0); value = utf8_lossy (decode raw.1) }

-- the pairs of a query, in its order
unfoldable pub query_pairs : List ℕ → List Pair
query_pairs query = map pair_of (raw_pairs query)

-- a pair has this name
abbrev pub is_pair_named : List ℕ → Pair → Bool
is_pair_named name pair = bytes_eq pair.name name

-- the value of the first pair of a name, where there is one
abbrev pub value_of : List ℕ → List Pair → Option (List ℕ)
value_of name pairs = option_map (λ pair. pair.value) (find (is_pair_named name) pairs)
