-- The address of an object behind an address is one.
use Rattle.std.proofs.Common.{◌≡◌, ◌≢◌, ℕ, ◌/◌, ◌%◌, ◌<◌, Bool, true, false, if◌then◌else◌, codes, List, [], ◌∷◌, ◌++◌, refl, subst, ⊎_elim, arith, rules}
use Rattle.std.specs.Fmt.{digit_glyph}
use Rattle.std.specs.List.{All, flat_map}
use Rattle.std.proofs.lemmas.Bool.{false≢true}
use Rattle.std.proofs.lemmas.Bool.Decides.{nat_tests}
use Rattle.std.proofs.lemmas.List.Elements.{All-append, All-contains, All-from_recursion, All-nil, Contains-append_cases}
use Rattle.percent_encoding.specs.Percent.{percent_encode_byte}
use Rattle.json_replies.specs.Addresses.{escaped_byte, is_unreserved, media_address}
use Rattle.hls_manifest.specs.Playlists.{IsAddress, IsLine}

-- a byte that isn't a line feed
abbrev IsNoFeed : ℕ → Type 0
IsNoFeed b = b ≢ 10

-- no digit of sixteen is one
digit_no_feed : (d : ℕ) → d < 16 → IsNoFeed (digit_glyph true d)
digit_no_feed d small = grind (arith, nat_tests)

-- nor is an unreserved byte
kept_no_feed : (b : ℕ) → is_unreserved b ≡ true → IsNoFeed b
kept_no_feed b kept = λ feed. false≢true (subst (λ x. is_unreserved x ≡ true) feed kept)

-- so what stands for a byte has none
escaped_no_feed : (b : ℕ) → All IsNoFeed (escaped_byte b)
unfolding percent_encode_byte
escaped_no_feed b = by (is_unreserved b) refl
  where
    by : (kept : Bool) → is_unreserved b ≡ kept
        → All IsNoFeed (if kept then b ∷ [] else percent_encode_byte b)
    by true e = All-from_recursion IsNoFeed (b ∷ []) (kept_no_feed b e, tt)
    by false e =
        let high = digit_no_feed (b / 16 % 16) (omega arith) in
        let low = digit_no_feed (b % 16) (omega arith) in
        All-from_recursion IsNoFeed (percent_encode_byte b) (search rules, (high, (low, tt)))

-- nor has what stands for an object
object_no_feed : (object : List ℕ) → All IsNoFeed (flat_map escaped_byte object)
object_no_feed [] = All-nil IsNoFeed
object_no_feed (b ∷ object) =
    All-append IsNoFeed (escaped_byte b) (flat_map escaped_byte object)
    (escaped_no_feed b) (object_no_feed object)

-- bytes without a line feed are a line
line_from_all : (line : List ℕ) → All IsNoFeed line → IsLine line
line_from_all line all = λ has. All-contains IsNoFeed line 10 all has refl

-- so is what stands between the base and the object
middle_line : IsLine (codes "/media/")
middle_line =
    line_from_all (codes "/media/") (All-from_recursion IsNoFeed (codes "/media/") (search rules))

-- a line behind an address is part of an address
address_more : (base line : List ℕ) → IsAddress base → IsLine line → IsAddress (base ++ line)
address_more [] line is rest = absurd (omega (arith, is.some))
address_more (b ∷ base) line is rest = record {
  some = omega arith;
  no_tag = is.no_tag;
  line = λ has. ⊎_elim is.line rest (Contains-append_cases (b ∷ base) line 10 has);
}

-- so the address of an object is one
pub media_address_is : (base object : List ℕ) → IsAddress base
    → IsAddress (media_address base object)
unfolding media_address
media_address_is base object is =
    address_more (base ++ codes "/media/") (flat_map escaped_byte object)
    (address_more base (codes "/media/") is middle_line)
    (line_from_all (flat_map escaped_byte object) (object_no_feed object))
