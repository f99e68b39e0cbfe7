-- The number of items of an array.
use Rattle.std.proofs.Common.{◌≡◌, refl, ap, suc, List, [], ◌∷◌, length}
use Rattle.serde_json.specs.View.{items_view}
use Rattle.serde_json.specs.declared.value.Value.{Value}
use Rattle.json_bodies.specs.Segments.{item_count}

-- it is the number of the values
pub item_count_of : (values : List Value) → item_count (items_view values) ≡ length values
item_count_of [] = refl
item_count_of (value ∷ values) = ap suc (item_count_of values)
