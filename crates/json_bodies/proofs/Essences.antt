-- The compact text of an object is an essence text.
use Rattle.std.proofs.Common.{◌≡◌, sym, refl, true, false, ℕ, List, Some}
use Rattle.std.specs.Str.{IsUtf8, is_utf8, bytes_eq}
use Rattle.std.proofs.lemmas.Slice.Eq.{bytes_eq-Decides}
use Rattle.std.proofs.lemmas.Str.{is_utf8-from_IsUtf8}
use Rattle.serde_json.specs.Data.{Data}
use Rattle.serde_json.specs.Read.{read}
use Rattle.serde_json.specs.Written.{has_float, compact_text}
use Rattle.media_rows.specs.Essence.{is_object, is_essence}

-- a text that reads as an object without a fraction, and is its compact text
pub essence_of : (text : List ℕ) (value : Data) → IsUtf8 text → read text ≡ Some value → is_object value ≡ true
    → has_float value ≡ false → text ≡ compact_text value → is_essence text ≡ true
unfolding is_essence
essence_of text value utf8 found object_ whole same =
    let yes : is_utf8 text ≡ true = is_utf8-from_IsUtf8 text utf8 in
    let prints : bytes_eq (compact_text value) text ≡ true = (bytes_eq-Decides (compact_text value) text).1 (sym same) in
    rw (yes, found, object_, whole, prints) refl
