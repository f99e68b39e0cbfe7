-- An essence text is shown as it stands: it is the compact text of a value, whose numbers can be
-- written since they were read.
use Rattle.std.proofs.Common.{◌≡◌, ℕ, suc, ◌<◌, ◌≤◌, ◌^◌, List, Bool, true, false, ◌&&◌, if◌then◌else◌, nat_lt, nat_le, Option, Some, None, option_map, option_and_then, refl, sym, ap, ◌∙◌, subst, arith}
use Rattle.std.specs.Prelude.{◌==◌, ⊤, drop, slice_index, unwrap_or, not, bytes_eq, zero, negsuc}
use Rattle.std.specs.Str.{is_utf8}
use Rattle.std.proofs.lemmas.Slice.Eq.{bytes_eq-Decides}
use Rattle.media_rows.specs.Essence.{is_essence, is_essence_read, is_object}
use Rattle.json_replies.specs.Values.{kept_value}
use Rattle.std.specs.Ordering.{match_ordering, nat_cmp}
use Rattle.std.specs.Cmp.Lexicographic.{slice_cmp}
use Rattle.std.specs.declared.cmp.Ordering.{Ordering}
use Rattle.std.specs.declared.cmp.Ordering.TheVariants.{Less, Equal, Greater}
use Rattle.std.proofs.lemmas.Bool.{and_parts, or_parts, not-true, true≢false, false≢true}
use Rattle.fast_float.specs.Text.{Parts, minus, scan, digits_of, with_sign}
use Rattle.json.specs.Json as json
use Rattle.json.specs.Lex.{tokens}
use Rattle.json.specs.Print.{print, IsNumber}
use Rattle.json.specs.Tree.{json_tokens, HasNumbers, ItemsHaveNumbers, MembersHaveNumbers}
use Rattle.json.proofs.Printed.Decimals.{IsNumber-decimal, IsNumber-signed_decimal}
use Rattle.json.proofs.Printed.Tokens.{tokens-print}
use Rattle.json.proofs.Printed.Trees.{ArePrintable-json_tokens}
use Rattle.serde_json.specs.Data.{Num, negative, Data, null, boolean, number, string, array, object, Items, no_items, item, Members, no_members, member, put}
use Rattle.serde_json.specs.Find.{is_float}
use Rattle.serde_json.specs.Read.{max_depth, is_integer, float_of, number_from, number_of, of_json, of_items, of_members, read}
use Rattle.serde_json.specs.Written.{number_text, outline, items_outline, members_outline, has_float, items_have_float, members_have_float, compact_text}
use Rattle.serde_json.proofs.Texts.{print-outline}

-- ---- what was found

-- what is there is what was found
found : {X : Type 0} {x y : X} → Some x ≡ Some y → x ≡ y
found {X} {x} e = ap (λ o. unwrap_or o x) e

-- nothing is no find
none_found : {X : Type 0} {x : X} {P : Type 0} → None ≡ Some x → P
none_found {X} {x} {P} e = absurd (subst (λ o. elim o as (λ _. Type 0) [ None ↦ ⊤ | Some y ↦ ⊥ ]) e tt)

-- a find under a function comes from a find
mapped : {X Y : Type 0} (P : Y → Type 0) (f : X → Y) (o : Option X) (y : Y) → ((x : X) → o ≡ Some x → P (f x)) → option_map f o ≡ Some y → P y
mapped P f None y good e = none_found e
mapped P f (Some x) y good e = subst P (found e) (good x refl)

-- a find after a find comes from both
bound : {X Y : Type 0} (P : Y → Type 0) (f : X → Option Y) (o : Option X) (y : Y) → ((x : X) → o ≡ Some x → f x ≡ Some y → P y)
    → option_and_then f o ≡ Some y → P y
bound P f None y good e = none_found e
bound P f (Some x) y good e = good x refl e

-- ---- numbers

-- a whole number that can be written
abbrev Written : Num → Type 0
Written n = is_float n ≡ false → IsNumber (number_text n)

-- one of two, where a test decides
chosen : (test : Bool) (m : Num) (other : Option Num) (n : Num) → (test ≡ true → Written m) → ((k : Num) → other ≡ Some k → Written k)
    → (if test then Some m else other) ≡ Some n → Written n
chosen true m other n first second e = subst Written (found e) (first refl)
chosen false m other n first second e = second n e

-- a number that isn't whole
written_float : (sign : Bool) (p : Parts) (n : Num) → float_of sign p ≡ Some n → Written n
written_float sign p n e = chosen _ _ None n (λ _ h. absurd (true≢false h)) (λ k none. none_found none) e

written_negative : (d : ℕ) → 0 < d → d ≤ 2 ^ 63 → IsNumber (number_text (negative (with_sign true d)))
written_negative zero l u = absurd (omega (arith, l))
written_negative (suc d) l u = IsNumber-signed_decimal (negsuc d) (omega (arith, u))

-- a number that was read
written_from : (sign : Bool) (p : Parts) (n : Num) → number_from sign p ≡ Some n → Written n
written_from false p n e =
    chosen (is_integer p && nat_lt (digits_of p) (2 ^ 64)) _ _ n
    (λ t _. IsNumber-decimal (digits_of p) (grind (arith, and_parts (is_integer p) (nat_lt (digits_of p) (2 ^ 64)) t))) (written_float false p) e
written_from true p n e =
    chosen (is_integer p && nat_lt 0 (digits_of p) && nat_le (digits_of p) (2 ^ 63)) _ _ n
    (λ t _. let parts = and_parts (is_integer p && nat_lt 0 (digits_of p)) (nat_le (digits_of p) (2 ^ 63)) t in
    let more = and_parts (is_integer p) (nat_lt 0 (digits_of p)) parts.0 in
    written_negative (digits_of p) (grind (arith, more.1)) (grind (arith, parts.1)))
    (written_float true p) e

-- one of two finds, where a test decides
either_find : (test : Bool) (a b : Option Num) (n : Num) → (a ≡ Some n → Written n) → (b ≡ Some n → Written n) → (if test then a else b) ≡ Some n → Written n
either_find true a b n first second e = first e
either_find false a b n first second e = second e

written_of : (s : List ℕ) (n : Num) → number_of s ≡ Some n → Written n
unfolding number_of
written_of s n e =
    either_find (slice_index s 0 == minus) _ _ n (written_from true (scan (drop 1 s)) n) (written_from false (scan s) n) e

-- ---- values

-- each number in a value can be written
abbrev mutual
  Good : Data → Type 0
  Good null = ⊤
  Good (boolean b) = ⊤
  Good (number n) = Written n
  Good (string s) = ⊤
  Good (array ds) = GoodItems ds
  Good (object ms) = GoodMembers ms

  GoodItems : Items → Type 0
  GoodItems no_items = ⊤
  GoodItems (item d ds) = Good d × GoodItems ds

  GoodMembers : Members → Type 0
  GoodMembers no_members = ⊤
  GoodMembers (member k d ms) = Good d × GoodMembers ms

-- of three, the one that an order picks
picked : (P : Members → Type 0) (o : Ordering) (a b c : Members) → P a → P b → P c → P (match_ordering o a b c)
picked P Less a b c x y z = x
picked P Equal a b c x y z = y
picked P Greater a b c x y z = z

put_good : (k : List ℕ) (d : Data) (ms : Members) → Good d → GoodMembers ms → GoodMembers (put k d ms)
put_good k d no_members g h = (g, tt)
put_good k d (member l e ms) g h =
    picked GoodMembers (slice_cmp nat_cmp k l) _ _ _ (g, h) (g, h.1) (h.0, put_good k d ms g h.1)

mutual
  good_json : (j : json.Json) (d : Data) → of_json j ≡ Some d → Good d
  good_json json.null d e = subst Good (found e) tt
  good_json (json.boolean b) d e = subst Good (found e) tt
  good_json (json.number s) d e = mapped Good number (number_of s) d (written_of s) e
  good_json (json.string s) d e = subst Good (found e) tt
  good_json (json.array js) d e = mapped Good array (of_items js) d (good_items js) e
  good_json (json.object ms) d e = mapped Good object (of_members ms no_members) d (λ out f. good_members ms no_members out tt f) e

  good_items : (js : json.Items) (ds : Items) → of_items js ≡ Some ds → GoodItems ds
  good_items json.no_items ds e = subst GoodItems (found e) tt
  good_items (json.item j js) ds e =
      bound GoodItems _ (of_json j) ds (λ d f g. mapped GoodItems (item d) (of_items js) ds (λ rest h. (good_json j d f, good_items js rest h)) g) e

  good_members : (ms : json.Members) (before out : Members) → GoodMembers before → of_members ms before ≡ Some out → GoodMembers out
  good_members json.no_members before out g e = subst GoodMembers (found e) g
  good_members (json.member k j ms) before out g e =
      bound GoodMembers _ (of_json j) out (λ d f h. good_members ms (put k d before) out (put_good k d before (good_json j d f) g) h) e

-- a value that was read
good_read : (text : List ℕ) (d : Data) → read text ≡ Some d → Good d
good_read text d e =
    bound Good of_json (option_and_then (λ p. json.if_last p.0 p.1) (json.value max_depth (tokens text))) d (λ j f g. good_json j d g) e

mutual
  numbers : (d : Data) → Good d → has_float d ≡ false → HasNumbers (outline d)
  numbers null g h = tt
  numbers (boolean b) g h = tt
  numbers (number n) g h = g h
  numbers (string s) g h = tt
  numbers (array ds) g h = items_numbers ds g h
  numbers (object ms) g h = members_numbers ms g h

  items_numbers : (ds : Items) → GoodItems ds → items_have_float ds ≡ false → ItemsHaveNumbers (items_outline ds)
  items_numbers no_items g h = tt
  items_numbers (item d ds) g h = let p = or_parts (has_float d) _ h in (numbers d g.0 p.0, items_numbers ds g.1 p.1)

  members_numbers : (ms : Members) → GoodMembers ms → members_have_float ms ≡ false → MembersHaveNumbers (members_outline ms)
  members_numbers no_members g h = tt
  members_numbers (member k d ms) g h = let p = or_parts (has_float d) _ h in (numbers d g.0 p.0, members_numbers ms g.1 p.1)

-- ---- the text

-- two texts that are the same byte by byte
bytes_same : (a b : List ℕ) → bytes_eq a b ≡ true → a ≡ b
bytes_same a b h = (bytes_eq-Decides a b).0 h

-- the compact text of a value that was read prints again as itself
pub compact_again : (text : List ℕ) (d : Data) → read text ≡ Some d → has_float d ≡ false → compact_text d ≡ text → print (tokens text) ≡ text
compact_again text d e whole is =
    let ts = json_tokens (outline d) in
    let printed : print ts ≡ text = print-outline d ∙ is in
    let again : tokens text ≡ ts = ap tokens (sym printed) ∙ tokens-print ts (ArePrintable-json_tokens (outline d) (numbers d (good_read text d e) whole)) in
    ap print again ∙ printed

-- what an essence text's value says of it
kept_read : (text : List ℕ) (o : Option Data) → read text ≡ o → is_essence_read text o ≡ true → print (tokens text) ≡ text
kept_read text None e h = absurd (false≢true h)
kept_read text (Some d) e h =
    let both = and_parts (is_object d && not (has_float d)) (bytes_eq (compact_text d) text) h in
    let whole = not-true (has_float d) (and_parts (is_object d) (not (has_float d)) both.0).1 in
    compact_again text d e whole (bytes_same (compact_text d) text both.1)

-- an essence text is shown as it stands
pub kept_whole : (text : List ℕ) → is_essence text ≡ true → print (kept_value text) ≡ text
unfolding is_essence kept_value
kept_whole text h = kept_read text (read text) refl (and_parts (is_utf8 text) (is_essence_read text (read text)) h).1
