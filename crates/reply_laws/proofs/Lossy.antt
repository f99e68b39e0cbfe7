-- What is read as UTF-8, with U+FFFD for what isn't, is UTF-8; so are the names of the pairs of a query.
use Rattle.std.proofs.Common.{◌≡◌, inl, inr, ℕ, zero, suc, ◌≤◌, true, List, length, take, subst, sym, refl, ap, ◌∙◌, arith}
use Rattle.std.specs.List.{list_all}
use Rattle.std.specs.Str.{IsUtf8, is_utf8, chars}
use Rattle.std.specs.Str.Lossy.{utf8_lossy, utf8_valid_len, valid_len_up_to, after_first_chunk, replacement_bytes}
use Rattle.std.proofs.Math.Seq.{take-length}
use Rattle.std.proofs.Math.Utf8.{encode}
use Rattle.std.proofs.lemmas.Bool.{cond_both, cases_eq}
use Rattle.std.proofs.lemmas.Str.{IsUtf8-append, IsUtf8-from_is_utf8, is_utf8-from_IsUtf8, utf8_lossy-IsUtf8, utf8_lossy_step, utf8_valid_len_le}
use Rattle.std.proofs.str.Lossy.{length-after_first_chunk}
use Rattle.form_urlencoded.specs.Form.{decode, raw_pairs}
use Rattle.http_queries.specs.Pairs.{pair_of, query_pairs}
use Rattle.http_queries.specs.declared.pairs.Pair.{Pair}
use Rattle.library_laws.proofs.KeptLemmas.{list_all-mapped}

-- the longest front that is UTF-8 is so
front_is_text : (bytes : List ℕ) (n : ℕ) → is_utf8 (take (valid_len_up_to bytes n) bytes) ≡ true
unfolding is_utf8 chars
front_is_text bytes zero = refl
front_is_text bytes (suc n) =
    cond_both (is_utf8 (take (suc n) bytes)) (suc n) (valid_len_up_to bytes n) (λ k. is_utf8 (take k bytes) ≡ true) (λ e. e) (λ e. front_is_text bytes n)

front : (bytes : List ℕ) → IsUtf8 (take (utf8_valid_len bytes) bytes)
unfolding utf8_valid_len
front bytes = IsUtf8-from_is_utf8 _ (front_is_text bytes (length bytes))

replacement : IsUtf8 replacement_bytes
unfolding is_utf8 chars encode
replacement = IsUtf8-from_is_utf8 replacement_bytes refl

-- bytes that are UTF-8 stay as they are
whole : (bytes : List ℕ) → utf8_valid_len bytes ≡ length bytes → IsUtf8 (utf8_lossy bytes)
whole bytes e =
    let is : IsUtf8 bytes = subst IsUtf8 (ap (λ n. take n bytes) e ∙ take-length bytes) (front bytes) in
    subst IsUtf8 (sym (utf8_lossy-IsUtf8 bytes is)) is

-- bytes that aren't are a front, a mark and what is read of fewer bytes
lossy : (most : ℕ) (bytes : List ℕ) → length bytes ≤ most → IsUtf8 (utf8_lossy bytes)
lossy zero bytes short = whole bytes (omega (arith, utf8_valid_len_le bytes))
lossy (suc most) bytes short = elim (cases_eq (utf8_valid_len bytes) (length bytes)) [
  | inl same ↦ whole bytes same
  | inr faulty ↦ subst IsUtf8 (sym (utf8_lossy_step bytes faulty))
      (IsUtf8-append _ _ (front bytes) (IsUtf8-append replacement_bytes _ replacement
      (lossy most (after_first_chunk bytes) (omega (arith, length-after_first_chunk bytes faulty)))))
]

lossy_is_text : (bytes : List ℕ) → is_utf8 (utf8_lossy bytes) ≡ true
lossy_is_text bytes = is_utf8-from_IsUtf8 (utf8_lossy bytes) (lossy (length bytes) bytes (omega arith))

-- the name of each pair of a query is UTF-8
pub names_are_texts : (query : List ℕ) → list_all (λ pair. is_utf8 pair.name) (query_pairs query) ≡ true
unfolding query_pairs
names_are_texts query =
    list_all-mapped (λ (pair : Pair). is_utf8 pair.name) pair_of (raw_pairs query) (λ raw here. lossy_is_text (decode raw.0))
