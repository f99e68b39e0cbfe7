-- The ids that the store makes have the form of ids: their bytes are digits and hyphens, and they are short.
use Rattle.std.proofs.Common.{◌≡◌, inl, inr, ℕ, zero, suc, ◌+◌, ◌<◌, ◌≤◌, ◌^◌, true, cond, [], ◌∷◌, length, codes, length-append, refl, arith}
use Rattle.std.specs.Prelude.{decimal}
use Rattle.std.specs.Int.{w128, to_be_bytes}
use Rattle.std.specs.List.{list_all}
use Rattle.std.proofs.lemmas.Bool.{and_from, le-leb, leb-true}
use Rattle.std.proofs.lemmas.Fmt.{length-decimal-le}
use Rattle.uuid.specs.Text.{hex_digit, lower, nibble, digit_place, is_hyphen_place}
use Rattle.media_rows.proofs.IdLemmas.{length-id_text}
use Rattle.media_rows.specs.declared.command.Want.{Want}
use Rattle.media_rows.specs.declared.command.Want.TheVariants.{Count, Named}
use Rattle.media_rows.specs.Answer.{made_id, made_prefix, wanted_ids}
use Rattle.media_rows.specs.Ids.{id_text, is_id_byte, is_object_id}
use Rattle.media_rows.specs.Library.{Library, last_serial}
use Rattle.media_rows.specs.Lists.{numbers_below}
use Rattle.media_rows.specs.Sound.{is_want_good}
use Rattle.library_laws.proofs.KeptLemmas.{list_all-both, list_all-mapped}
use Rattle.library_laws.proofs.ListLemmas.{In, In-append}
use Rattle.reply_laws.specs.Asks.{is_few}
use Rattle.library_laws.proofs.AppliesLemmas.{all_places, digits_are_bytes, place_is_byte}

id_is_bytes : (id : ℕ) → list_all is_id_byte (id_text id) ≡ true
unfolding id_text
id_is_bytes id = all_places 36 (λ k. cond (is_hyphen_place k) 45 (hex_digit lower (nibble (to_be_bytes w128 id) (digit_place k))))
    (place_is_byte (to_be_bytes w128 id))

made_is_id : (store serial : ℕ) → serial < 2 ^ 64 → is_object_id (made_id store serial) ≡ true
made_is_id store serial small =
    let short = length-decimal-le 20 serial (omega arith) (omega arith) (omega arith) in
    let long : length (made_id store serial) ≡ 37 + length (decimal serial) = omega
    (arith, length-append (made_prefix store) (decimal serial), length-append (id_text store) (codes "-"), length-id_text store) in
    and_from _ _ (and_from _ _ (le-leb 1 (length (made_id store serial)) (omega arith)) (le-leb (length (made_id store serial)) 200 (omega arith)))
    (list_all-both is_id_byte (made_prefix store) (decimal serial) (list_all-both is_id_byte (id_text store) (codes "-") (id_is_bytes store) refl)
    (digits_are_bytes serial small))

below : (n i : ℕ) → In i (numbers_below n) → i < n
unfolding numbers_below
below zero i here = absurd here
below (suc n) i here = elim (In-append (numbers_below n) (n ∷ []) i here)
    [ inl front ↦ let b = below n i front in omega arith | inr (inl same) ↦ omega (arith, same) | inr (inr bad) ↦ absurd bad ]

-- the ids of an allocation of few objects
pub wanted_are_ids : (library : Library) (want : Want) → library.next_serial ≤ last_serial → is_want_good want ≡ true → is_few want ≡ true
    → list_all is_object_id (wanted_ids library want) ≡ true
wanted_are_ids library (Count n) most good few =
    let limit = leb-true n 1000 few in
    list_all-mapped is_object_id (λ i. made_id library.id (library.next_serial + i)) (numbers_below n) (λ i here.
    let b = below n i here in made_is_id library.id (library.next_serial + i) (omega arith))
wanted_are_ids library (Named ids) most good few = good
