-- What one step of a change makes of an index.
use Rattle.std.specs.Prelude.{◌≡◌, ℕ, ℤ, ◌==◌, List, [], ◌∷◌, if◌then◌else◌}
use Rattle.media_rows.specs.Views.{id_key}
use Rattle.shared_tree.specs.Pairs.{with_pair, without_key}
use Rattle.id_index.specs.Index.{ids_at}

-- just these stand at an id, and at all others what stood there
abbrev pub Sets : ℕ → List (ℤ × ℕ) → List (ℤ × List (ℤ × ℕ)) → List (ℤ × List (ℤ × ℕ)) → Type 0
Sets to ids old new = (a : ℕ) → ids_at a new ≡ (if a == to then ids else ids_at a old)

-- what stands at an id once another was linked to each of these, one after the other
abbrev pub linked : ℕ → ℕ → List ℕ → List (ℤ × ℕ) → List (ℤ × ℕ)
linked a id [] ids = ids
linked a id (x ∷ to) ids =
    linked a id to (if a == x then with_pair (id_key id, id) ids else ids)

-- what stands at an id once another was unlinked from each of these, one after the other
abbrev pub unlinked : ℕ → ℕ → List ℕ → List (ℤ × ℕ) → List (ℤ × ℕ)
unlinked a id [] ids = ids
unlinked a id (x ∷ to) ids = unlinked a id to (if a == x then without_key (id_key id) ids else ids)
