-- The members of a value that prints and reads again do so too.
use Rattle.std.proofs.Common.{◌≡◌, ◌≤◌, refl, subst, Bool, true, false, ◌||◌, ℕ, List, Option, Some, arith}
use Rattle.std.specs.Ordering.{nat_cmp, match_ordering}
use Rattle.std.specs.declared.cmp.Ordering.{Ordering}
use Rattle.std.specs.declared.cmp.Ordering.TheVariants.{Less, Equal, Greater}
use Rattle.std.specs.Cmp.Lexicographic.{slice_cmp}
use Rattle.serde_json.specs.Data.{Data, null, boolean, number, string, array, object, Members, no_members, member, depth, members_depth}
use Rattle.serde_json.specs.Find.{get, get_member}
use Rattle.serde_json.specs.Written.{has_float, members_have_float}
use Rattle.json_bodies.specs.Plain.{IsPlain}

-- neither of two tests holds
or_left : (a b : Bool) → (a || b) ≡ false → a ≡ false
or_left false b none = refl
or_left true b none = none

or_right : (a b : Bool) → (a || b) ≡ false → b ≡ false
or_right false b none = none
or_right true b none = cc

-- what is found is the value at hand, or is found among the rest
found_either : (P : Data → Type 0) (order : Ordering) (rest : Option Data) (here value : Data)
    → P here → (rest ≡ Some value → P value) → match_ordering order rest (Some here) rest ≡ Some value → P value
found_either P Less rest here value first later found = later found
found_either P Equal rest here value first later found = let same : here ≡ value = cc in subst P same first
found_either P Greater rest here value first later found = later found

-- no member holds a fraction where none of all does
whole_member : (key : List ℕ) (members : Members) (value : Data)
    → members_have_float members ≡ false → get_member key members ≡ Some value → has_float value ≡ false
whole_member key no_members value whole found = cc
whole_member key (member name here members) value whole found =
    found_either (λ d. has_float d ≡ false) (slice_cmp nat_cmp key name) (get_member key members) here value
    (or_left _ _ whole) (λ later. whole_member key members value (or_right (has_float here) _ whole) later) found

-- a member nests no deeper than all
nests_member : (key : List ℕ) (members : Members) (value : Data)
    → get_member key members ≡ Some value → depth value ≤ members_depth members
nests_member key no_members value found = cc
nests_member key (member name here members) value found =
    found_either (λ d. depth d ≤ members_depth (member name here members)) (slice_cmp nat_cmp key name) (get_member key members)
    here value (omega arith)
    (λ later. let deep : depth value ≤ members_depth members = nests_member key members value later in omega (arith, deep)) found

-- a member of a value that prints and reads again
pub get_plain : (key : List ℕ) (d value : Data) → IsPlain d → get key d ≡ Some value → IsPlain value
get_plain key null value plain found = cc
get_plain key (boolean b) value plain found = cc
get_plain key (number n) value plain found = cc
get_plain key (string s) value plain found = cc
get_plain key (array ds) value plain found = cc
get_plain key (object members) value plain found = record {
  whole = whole_member key members value plain.whole found;
  nests = let deep = nests_member key members value found in omega (arith, deep, plain.nests);
}
