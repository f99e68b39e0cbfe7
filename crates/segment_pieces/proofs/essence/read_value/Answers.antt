-- What is read is UTF-8, and what is not read spells a value only where it isn't UTF-8.
use Rattle.std.proofs.Common.{◌≡◌, ◌∙◌, sym, Bool, true, false, ℕ, List, Some, None, refl, if◌then◌else◌}
use Rattle.std.specs.Str.{IsUtf8, is_utf8}
use Rattle.std.proofs.lemmas.Bool.{false≢true}
use Rattle.std.proofs.lemmas.Str.{IsUtf8-from_is_utf8, is_utf8-from_IsUtf8}
use Rattle.serde_json.specs.Data.{Data}
use Rattle.serde_json.specs.Read.{read}
use Rattle.segment_pieces.specs.Rates.{value_in}
use Rattle.segment_pieces.proofs.essence.read_value.Goals as goal

-- a text that is read spells what was read
spelled : (text : List ℕ) (value : Data) → IsUtf8 text → read text ≡ Some value
    → Some value ≡ value_in text
unfolding value_in
spelled text value utf8 e = let yes : is_utf8 text ≡ true =
    is_utf8-from_IsUtf8 _ utf8 in sym (rw (yes, e) refl)

-- a text of which nothing is read where it is UTF-8 spells nothing
not_spelled : (text : List ℕ) → (IsUtf8 text → read text ≡ None) → (b : Bool) → is_utf8 text ≡ b
    → None ≡ (if b then read text else None)
not_spelled text none true e = sym (none (IsUtf8-from_is_utf8 text e))
not_spelled text none false e = refl

pub returns-in-Ok : goal.returns-in-Ok
returns-in-Ok c = spelled c.args.bytes.now _ c.in-Ok.ensures.ok.0 c.in-Ok.ensures.ok.1

pub returns-else-is_memory : goal.returns-else-is_memory
unfolding value_in
returns-else-is_memory c =
    not_spelled c.args.bytes.now (c.in-Err.ensures.err
    (λ memory. false≢true (sym c.if-is_memory.false ∙ c.is_memory.ensures.1 memory))) _ refl
