-- Addresses of media objects.
use Rattle.std.specs.Prelude.{ℕ, List, [], ◌∷◌, ◌++◌, Bool, ◌&&◌, ◌||◌, ◌==◌, nat_le, if◌then◌else◌, codes}
use Rattle.std.specs.List.{flat_map}
use Rattle.percent_encoding.specs.Percent.{percent_encode_byte}

-- a letter or a digit of ASCII
abbrev pub is_letter_or_digit : ℕ → Bool
is_letter_or_digit b =
    (nat_le 65 b && nat_le b 90) || (nat_le 97 b && nat_le b 122) || (nat_le 48 b && nat_le b 57)

-- a byte that stands for itself in an address: a letter, a digit, `-`, `.`, `_` or `~` (the
-- unreserved characters of RFC 3986, section 2.3)
abbrev pub is_unreserved : ℕ → Bool
is_unreserved b = is_letter_or_digit b || (b == 45) || (b == 46) || (b == 95) || (b == 126)

-- what stands in an address for a byte: itself, or `%` and its two digits of sixteen
abbrev pub escaped_byte : ℕ → List ℕ
escaped_byte b = if is_unreserved b then b ∷ [] else percent_encode_byte b

-- the address of a media object: the base of the store, `/media/`, and the object's id, escaped
unfoldable pub media_address : List ℕ → List ℕ → List ℕ
media_address base object = base ++ codes "/media/" ++ flat_map escaped_byte object
