-- Keys rise, since the names of all members do, and those of the members that are there are some of
-- these.
use Rattle.std.proofs.Common.{◌≡◌, List, [], ◌∷◌, ◌++◌, ℕ, Bool, true, ◌&&◌, Option, Some, None, refl, ap, ap₂, ◌∙◌, map}
use Rattle.std.specs.List.{list_all}
use Rattle.std.proofs.lemmas.Bool.{and_parts}
use Rattle.json.specs.Token.{Token}
use Rattle.media_rows.specs.Lists.{text_before, rises}
use Rattle.media_rows.specs.declared.flow.Tag.{Tag}
use Rattle.json_replies.specs.Shapes.{ObjectMember, name_if, keys_of}
use Rattle.json_replies.specs.Values.{tag_member}

-- the names of all members
abbrev names : List ObjectMember → List (List ℕ)
names members = map (λ m. m.name) members

-- a name passes where it is there, and so do those behind it
pass_if : (test : List ℕ → Bool) (name : List ℕ) (value : Option (List Token)) (rest : List (List ℕ)) → test name ≡ true → list_all test rest ≡ true
    → list_all test (name_if name value ++ rest) ≡ true
pass_if test name None rest h k = k
pass_if test name (Some value) rest h k = ap₂ (λ a b. a && b) h k

-- what holds of all names holds of those that are there
keys_pass : (test : List ℕ → Bool) (members : List ObjectMember) → list_all test (names members) ≡ true → list_all test (keys_of members) ≡ true
keys_pass test [] h = refl
keys_pass test (m ∷ ms) h =
    let both = and_parts (test m.name) (list_all test (names ms)) h in pass_if test m.name m.value (keys_of ms) both.0 (keys_pass test ms both.1)

-- a name stands where it is there before those behind it
rise_if : (name : List ℕ) (value : Option (List Token)) (rest : List (List ℕ)) → list_all (text_before name) rest ≡ true → rises text_before rest ≡ true
    → rises text_before (name_if name value ++ rest) ≡ true
rise_if name None rest h k = k
rise_if name (Some value) rest h k = ap₂ (λ a b. a && b) h k

-- the names that are there rise where all names do
pub keys_rise : (members : List ObjectMember) → rises text_before (names members) ≡ true → rises text_before (keys_of members) ≡ true
keys_rise [] h = refl
keys_rise (m ∷ ms) h =
    let both = and_parts (list_all (text_before m.name) (names ms)) (rises text_before (names ms)) h in
    rise_if m.name m.value (keys_of ms) (keys_pass (text_before m.name) ms both.0) (keys_rise ms both.1)

-- a test of the names of tags
names_pass : (test : List ℕ → Bool) (tags : List Tag) → list_all test (names (map tag_member tags)) ≡ list_all (λ t. test t.name) tags
names_pass test [] = refl
names_pass test (t ∷ ts) = ap (λ b. test t.name && b) (names_pass test ts)

-- the names of tags rise where the tags do
names_rise : (tags : List Tag) → rises text_before (names (map tag_member tags)) ≡ rises (λ a b. text_before a.name b.name) tags
names_rise [] = refl
names_rise (t ∷ ts) = ap₂ (λ a b. a && b) (names_pass (text_before t.name) ts) (names_rise ts)

-- and so do the keys of their object
pub tags_rise : (tags : List Tag) → rises (λ a b. text_before a.name b.name) tags ≡ true → rises text_before (keys_of (map tag_member tags)) ≡ true
tags_rise tags h = keys_rise (map tag_member tags) (names_rise tags ∙ h)
