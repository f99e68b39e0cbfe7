-- Texts that are UTF-8, as a fact and as a test.
use Rattle.std.proofs.Common.{◌≡◌, true, false, ℕ, List, Bool, refl}
use Rattle.std.specs.Str.{IsUtf8, is_utf8}
use Rattle.std.proofs.lemmas.Str.{is_utf8-from_IsUtf8, IsUtf8-from_is_utf8}

-- a text that is UTF-8 passes the test
pub passes : (text : List ℕ) → IsUtf8 text → is_utf8 text ≡ true
passes text utf8 = is_utf8-from_IsUtf8 text utf8

-- what passes no test is no text
fails_by : (text : List ℕ) (test : Bool) → is_utf8 text ≡ test → ¬ (IsUtf8 text) → test ≡ false
fails_by text true is differs = absurd (differs (IsUtf8-from_is_utf8 text is))
fails_by text false is differs = refl

-- and one that isn't fails it
pub fails : (text : List ℕ) → ¬ (IsUtf8 text) → is_utf8 text ≡ false
fails text differs = fails_by text (is_utf8 text) refl differs
