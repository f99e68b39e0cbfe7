-- The text of rows, row by row.
use Rattle.std.proofs.Common.{Bool, true, false, true≢false, arith, ◌≡◌, ◌<◌, ◌+◌, ℕ, List, [], ◌∷◌, ◌++◌, get_or, length, map, take, sym, ap, subst, ◌∙◌, append_assoc}
use Rattle.std.proofs.lemmas.Grind.{flat_map-append, take_at_read}
use Rattle.std.proofs.lemmas.List.{append-nil, map-append}
use Rattle.std.proofs.Math.Seq.{take-append_seam}
use Rattle.std.specs.List.{AllByRecursion}
use Rattle.disk_trait.proofs.NumberLemmas.{length-u64_bytes}
use Rattle.field_codec.specs.Leaves.{u32_spelling, u64_spelling}
use Rattle.disk_trait.specs.Forms.{form_in_use}
use Rattle.media_rows.specs.declared.row.Row.TheVariants as rows
use Rattle.media_rows.specs.declared.row.Row.{Row}
use Rattle.change_codec.specs.Codec.{AppendsIfSpelled, AppendsRow}
use Rattle.change_codec.specs.Rows.{row_spelling}
use Rattle.core_rows.specs.Texts.{AddsRows, text_of}

-- no row adds nothing
pub none_added : (text : List ℕ) → AddsRows text [] text
none_added text = record { fit = tt; text = sym (append-nil text) }

both_fit : (xs ys : List Row) → AllByRecursion (row_spelling form_in_use).meaning.fits xs → AllByRecursion (row_spelling form_in_use).meaning.fits ys
    → AllByRecursion (row_spelling form_in_use).meaning.fits (xs ++ ys)
both_fit [] ys first second = second
both_fit (x ∷ xs) ys first second = (first.0, both_fit xs ys first.1 second)

-- rows are added behind others
pub added_behind : (old mid new : List ℕ) (xs ys : List Row) → AddsRows old xs mid → AddsRows mid ys new → AddsRows old (xs ++ ys) new
added_behind old mid new xs ys first second = record {
  fit = both_fit xs ys first.fit second.fit;
  text = second.text ∙ ap (λ t. t ++ text_of ys) first.text ∙ append_assoc old (text_of xs) (text_of ys)
      ∙ ap (λ t. old ++ t) (sym (flat_map-append (row_spelling form_in_use).meaning.spell xs ys));
}

-- one row is added
pub one_added : (old new : List ℕ) (row : Row) → AppendsRow old row new → AddsRows old (row ∷ []) new
one_added old new row appends = record {
  fit = (appends.spells.fits, tt);
  text = appends.appended ∙ ap (λ t. old ++ t) (appends.spells.whole ∙ sym (append-nil ((row_spelling form_in_use).meaning.spell row)));
}

-- so many rows, and one more
pub one_more : {X : Type 0} (f : X → Row) (xs : List X) (i : ℕ) (x : X) (old text new : List ℕ) → i < length xs → x ≡ get_or xs i x
    → AddsRows old (map f (take i xs)) text → AppendsRow text (f x) new → AddsRows old (map f (take (i + 1) xs)) new
one_more f xs i x old text new lt is so_far appends =
    subst (λ rows. AddsRows old rows new)
    (sym (map-append f (take i xs) (x ∷ [])) ∙ ap (λ y. map f (take i xs ++ y ∷ [])) is ∙ ap (map f) (sym (take_at_read xs i x lt).1))
    (added_behind old text new (map f (take i xs)) (f x ∷ []) so_far (one_added text new (f x) appends))

-- what was there stands before the rows
pub front_stays : (old text new : List ℕ) (rows : List Row) → AddsRows old rows text → new ≡ text → take (length old) new ≡ old
front_stays old text new rows adds same = ap (take (length old)) (same ∙ adds.text) ∙ take-append_seam old (text_of rows)

-- a row that was added, of which it was told that it has a spelling
pub one_spelled : (text new : List ℕ) (row : Row) (spelled : Bool) → spelled ≡ true → AppendsIfSpelled text row new spelled → AppendsRow text row new
one_spelled text new row true is appends = appends
one_spelled text new row false is appends = absurd (true≢false (sym is))

-- and one that has none
pub none_spelled : (text new : List ℕ) (row : Row) (spelled : Bool) → spelled ≡ false → AppendsIfSpelled text row new spelled → new ≡ text
none_spelled text new row true is appends = absurd (true≢false is)
none_spelled text new row false is appends = appends.1

-- the row of numbers has a spelling, of 8 bytes
pub numbers_asks : (serial : ℕ) → (row_spelling form_in_use).asks (rows.Numbers serial)
unfolding row_spelling u32_spelling u64_spelling
numbers_asks serial = ((tt, tt), omega (arith, length-u64_bytes serial))
