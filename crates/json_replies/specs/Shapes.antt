-- JSON (RFC 8259) by its tokens. A value is the list of its tokens, and its text is compact: the
-- `print` of the `json` library sets commas, colons, brackets and escapes.
use Rattle.std.specs.Prelude.{◌≡◌, ℕ, List, [], ◌∷◌, ◌++◌, Bool, IsTrue, Option, Some, None, option_map, decimal}
use Rattle.std.specs.List.{flat_map}
use Rattle.json.specs.Token.{Token, begin_object, end_object, begin_array, end_array, key, string, number, boolean}
use Rattle.media_rows.specs.Lists.{text_before, rises}

-- the new tokens are the old ones and these behind them
pub record Appends (old new tokens : List Token) : Type 0 where
  pub whole : new ≡ old ++ tokens

-- ---- values

-- a text
abbrev pub string_value : List ℕ → List Token
string_value text = string text ∷ []

-- a whole number, in decimal
abbrev pub number_value : ℕ → List Token
number_value n = number (decimal n) ∷ []

-- a truth value
abbrev pub truth_value : Bool → List Token
truth_value truth = boolean truth ∷ []

-- the values of some items, in their order
abbrev pub list_tokens : {X : Type 0} → (X → List Token) → List X → List Token
list_tokens value xs = begin_array ∷ flat_map value xs ++ end_array ∷ []

-- ---- members of an object

-- a member's name, and its value where it is there
pub record ObjectMember : Type 0 where
  pub name : List ℕ
  pub value : Option (List Token)

-- a member that is always there
abbrev pub always : List ℕ → List Token → ObjectMember
always name value = record { name = name; value = Some value }

-- a member that is there where it is set
abbrev pub where_set : {X : Type 0} → List ℕ → (X → List Token) → Option X → ObjectMember
where_set name value x = record { name = name; value = option_map value x }

-- the value of some items, where there is one
abbrev pub if_any : {X : Type 0} → (List X → List Token) → List X → Option (List Token)
if_any value [] = None
if_any value (x ∷ xs) = Some (value (x ∷ xs))

-- a member that is there where it has an item
abbrev pub where_any : {X : Type 0} → List ℕ → (List X → List Token) → List X → ObjectMember
where_any name value xs = record { name = name; value = if_any value xs }

-- the tokens of a name with its value
abbrev pub named_tokens : List ℕ → Option (List Token) → List Token
named_tokens name None = []
named_tokens name (Some value) = key name ∷ value

-- the tokens of a member: none where it isn't there
unfoldable pub member_tokens : ObjectMember → List Token
member_tokens m = named_tokens m.name m.value

-- the tokens of members, in their order
abbrev pub members_tokens : List ObjectMember → List Token
members_tokens members = flat_map member_tokens members

-- an object with these members
abbrev pub object_tokens : List ObjectMember → List Token
object_tokens members = begin_object ∷ members_tokens members ++ end_object ∷ []

-- a member's name, where the member is there
abbrev pub name_if : List ℕ → Option (List Token) → List (List ℕ)
name_if name None = []
name_if name (Some value) = name ∷ []

-- the names of the members that are there, which are the keys of their object, in order
abbrev pub keys_of : List ObjectMember → List (List ℕ)
keys_of members = flat_map (λ m. name_if m.name m.value) members

-- the keys of an object with these members rise, byte by byte, and so each stands once
abbrev pub HasRisingKeys : List ObjectMember → Type 0
HasRisingKeys members = IsTrue (rises text_before (keys_of members))
