-- Texts that are UTF-8, as a test and as a fact, and texts one behind the other.
use Rattle.std.proofs.Common.{◌≡◌, ℕ, List, ◌++◌, IsTrue, ap, ◌∙◌}
use Rattle.std.specs.Str.{IsUtf8, is_utf8}
use Rattle.std.proofs.lemmas.List.{append_assoc}
use Rattle.std.proofs.lemmas.Str.{IsUtf8-from_is_utf8}

-- a text that passes the test is UTF-8
pub is_text : (text : List ℕ) → IsTrue (is_utf8 text) → IsUtf8 text
is_text text passes = IsUtf8-from_is_utf8 text passes

-- a text behind another one, behind what stood there
pub behind : (old first second : List ℕ) {middle new : List ℕ} → middle ≡ old ++ first → new ≡ middle ++ second → new ≡ old ++ (first ++ second)
behind old first second e f = f ∙ ap (λ l. l ++ second) e ∙ append_assoc old first second
