-- Lists in bodies, and what their items are. An item that isn't of the kind makes the whole list
-- one of the wrong kind.
use Rattle.std.specs.Prelude.{ℕ, List, [], ◌∷◌, Bool, true, false, Option, Some, None, Result, option_map, option_and_then, if◌then◌else◌, codes}
use Rattle.std.specs.List.{list_all}
use Rattle.serde_json.specs.Data.{Data, Items, no_items, item}
use Rattle.serde_json.specs.Find.{get, as_str, as_array}
use Rattle.media_rows.specs.declared.flow.Member.{Member}
use Rattle.media_rows.specs.declared.flow.Tag.{Tag}
use Rattle.media_rows.specs.Good.{if_there}
use Rattle.media_rows.specs.Ids.{is_object_id}
use Rattle.media_rows.specs.Lists.{or_else}
use Rattle.json_bodies.specs.declared.fault.Breach.{Breach}
use Rattle.json_bodies.specs.Rules.{judged, is_any, has_at_most, has_between, id_of_value, longest_text}

-- an item of a kind and the rest of its list
abbrev pub with_item : {X : Type 0} → Option X → Option (List X) → Option (List X)
with_item found rest = option_and_then (λ x. option_map (λ xs. x ∷ xs) rest) found

-- what the items are, where each is of the kind
abbrev pub each_item : {X : Type 0} → (Data → Option X) → Items → Option (List X)
each_item kind no_items = Some []
each_item kind (item value values) = with_item (kind value) (each_item kind values)

-- a list, each item of which is of the kind
abbrev pub items_of_value : {X : Type 0} → (Data → Option X) → Data → Option (List X)
items_of_value kind value = option_and_then (each_item kind) (as_array value)

-- a list with as many items as are allowed
abbrev pub counted_items : {X : Type 0} → (Data → Option X) → ℕ → ℕ → Data → Result (List X) Breach
counted_items kind least most value =
    judged is_any (has_between least most) (items_of_value kind value)

-- what passes a test
abbrev pub tested : {X : Type 0} → (X → Bool) → X → Option X
tested test x = if test x then Some x else None

-- ---- ids of objects

-- the id of an object
abbrev pub object_id_value : Data → Option (List ℕ)
object_id_value value = option_and_then (tested is_object_id) (as_str value)

-- ---- tags

-- a tag that was given as a text
abbrev pub single_tag : List ℕ → List ℕ → Tag
single_tag name value = record { name = name; single = true; values = value ∷ [] }

-- a tag that was given as a list of texts
abbrev pub listed_tag : List ℕ → List (List ℕ) → Tag
listed_tag name values = record { name = name; single = false; values = values }

-- a tag, whose value is a text or a list of texts
abbrev pub tag_of_value : List ℕ → Data → Option Tag
tag_of_value name value =
    or_else (option_map (single_tag name) (as_str value))
    (option_map (listed_tag name) (items_of_value as_str value))

-- no value of a tag is longer than a text may be
abbrev pub has_short_values : Tag → Bool
has_short_values tag = list_all (has_at_most longest_text) tag.values

-- a tag with values of allowed length
abbrev pub tag_rule : List ℕ → Data → Result Tag Breach
tag_rule name value = judged has_short_values is_any (tag_of_value name value)

-- ---- collected flows

-- the most flows that a flow collects
abbrev pub most_members : ℕ
most_members = 256

-- the role of a collected flow, which may be absent
abbrev pub role_value : Option Data → Option (Option (List ℕ))
role_value None = Some None
role_value (Some value) = option_map Some (as_str value)

-- a collected flow with this role
abbrev pub member_with : ℕ → Option (List ℕ) → Member
member_with flow role = record { flow = flow; role = role }

-- a collected flow: an object with its id, and a role where it has one
abbrev pub member_value : Data → Option Member
member_value value = option_and_then
    (λ flow. option_map (member_with flow) (role_value (get (codes "role") value)))
    (option_and_then id_of_value (get (codes "id") value))

-- a role is no longer than a text may be
abbrev pub has_short_role : Member → Bool
has_short_role member = if_there (has_at_most longest_text) member.role

-- the flows that a flow collects
abbrev pub collection : Data → Result (List Member) Breach
collection value =
    judged (list_all has_short_role) (has_at_most most_members) (items_of_value member_value value)
