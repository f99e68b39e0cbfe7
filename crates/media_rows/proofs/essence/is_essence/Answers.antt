-- A text that is read is UTF-8, and one that is not read is UTF-8 only where it spells no value.
use Rattle.std.proofs.Common.{◌≡◌, ◌∙◌, sym, refl, Bool, true, false, ℕ, List, None, ◌&&◌}
use Rattle.std.specs.Str.{IsUtf8, is_utf8}
use Rattle.std.proofs.lemmas.Bool.{false≢true}
use Rattle.std.proofs.lemmas.Result.{IfOk-weaker}
use Rattle.std.proofs.lemmas.Str.{IsUtf8-from_is_utf8, is_utf8-from_IsUtf8}
use Rattle.serde_json.specs.Read.{read}
use Rattle.media_rows.specs.Essence.{is_essence, is_essence_read}
use Rattle.media_rows.proofs.essence.is_essence.Goals as goal

pub returns-in-Ok : goal.returns-in-Ok
unfolding is_essence
returns-in-Ok c =
    let utf8 : is_utf8 c.args.text.now ≡ true = is_utf8-from_IsUtf8 _ c.in-Ok.ensures.ok.0 in
    IfOk-weaker c.prints_back.result _ _ (λ yes e. e ∙ sym (rw (utf8, c.in-Ok.ensures.ok.1) refl)) c.prints_back.ensures

-- a text that spells no value is no essence text
not_essence : (text : List ℕ) → (IsUtf8 text → read text ≡ None) → (b : Bool) → is_utf8 text ≡ b → false ≡ (b && is_essence_read text (read text))
not_essence text none true e = rw (none (IsUtf8-from_is_utf8 text e)) refl
not_essence text none false e = refl

pub returns-else-is_memory : goal.returns-else-is_memory
unfolding is_essence
returns-else-is_memory c =
    not_essence c.args.text.now (c.in-Err.ensures.err (λ memory. false≢true (sym c.if-is_memory.false ∙ c.is_memory.ensures.1 memory))) _ refl
