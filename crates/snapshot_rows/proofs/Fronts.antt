-- Rows that were read from the front of a text, and one more.
use Rattle.std.proofs.Common.{◌≡◌, ◌≤◌, ◌<◌, ◌+◌, ◌-◌, ℕ, Bool, true, false, List, [], ◌∷◌, ◌++◌, Option, Some, length, take, drop, suc, refl, sym, ap, subst, ◌∙◌, arith}
use Rattle.std.specs.List.{AllByRecursion, flat_map}
use Rattle.std.proofs.lemmas.Bool.{false≢true}
use Rattle.std.proofs.lemmas.List.{append-nil, append_assoc, length-append, length-drop, length-take-le, take-append-drop}
use Rattle.std.proofs.Math.Seq.{take-append_seam, take-append-add, take-length}
use Rattle.field_codec.specs.Meaning.{SpellsFirst}
use Rattle.media_rows.specs.declared.row.Row.{Row}
use Rattle.change_codec.specs.Codec.{BeginsWithRow}
use Rattle.change_codec.specs.Rows.{row_spelling}
use Rattle.snapshot_rows.specs.declared.places.Place.{Place}
use Rattle.snapshot_rows.specs.Texts.{Continues, IsDamagedAt, SpellsRows, text_of_rows}
use Rattle.snapshot_rows.specs.Within.Fronts.{IsFrontRead, IsLastPlace, NoneFollows}
use Rattle.snapshot_rows.specs.Within.Places.{IsPlaceOf, stands_behind}
use Rattle.snapshot_rows.proofs.Lists.{some_byte}
use Rattle.snapshot_rows.proofs.Orders.{behind_rising, last_place, rises_behind}

-- bytes that begin with a row's spelling, by its length
pub begins_by_length : (form : ℕ) (bytes : List ℕ) (row : Row) (later : List ℕ) → SpellsFirst (row_spelling form).meaning bytes row later
    → BeginsWithRow form bytes row (length ((row_spelling form).meaning.spell row))
begins_by_length form bytes row later first = record {
  rest = later;
  begins = first;
  place = sym (length-append ((row_spelling form).meaning.spell row) later) ∙ ap length (sym first.parts);
}

taken_is : (form : ℕ) (bytes : List ℕ) (row : Row) (taken : ℕ) → BeginsWithRow form bytes row taken → taken ≡ length ((row_spelling form).meaning.spell row)
taken_is form bytes row taken begins =
    let whole : length bytes ≡ length ((row_spelling form).meaning.spell row) + length begins.rest =
    ap length begins.begins.parts ∙ length-append ((row_spelling form).meaning.spell row) begins.rest in
    omega (arith, whole, begins.place)

pub taken_within : (form : ℕ) (bytes : List ℕ) (row : Row) (taken : ℕ) → BeginsWithRow form bytes row taken → taken ≤ length bytes
taken_within form bytes row taken begins = omega (arith, begins.place)

pub taken_some : (form : ℕ) (bytes : List ℕ) (row : Row) (taken : ℕ) → BeginsWithRow form bytes row taken → 0 < taken
taken_some form bytes row taken begins = by_length ((row_spelling form).meaning.spell row) refl
  where
    by_length : (spelling : List ℕ) → (row_spelling form).meaning.spell row ≡ spelling → 0 < taken
    by_length [] is = absurd (some_byte form row [] (append-nil ((row_spelling form).meaning.spell row) ∙ is))
    by_length (byte ∷ rest) is =
        let n : length ((row_spelling form).meaning.spell row) ≡ suc (length rest) = ap length is in
        omega (arith, n, taken_is form bytes row taken begins)

-- the bytes that a row at the front takes
taken_are : (form : ℕ) (bytes : List ℕ) (row : Row) (taken : ℕ) → BeginsWithRow form bytes row taken → take taken bytes ≡ (row_spelling form).meaning.spell row
taken_are form bytes row taken begins =
    ap (λ (n : ℕ). take n bytes) (taken_is form bytes row taken begins)
    ∙ ap (take (length ((row_spelling form).meaning.spell row))) begins.begins.parts
    ∙ take-append_seam ((row_spelling form).meaning.spell row) begins.rest

text_of_more : (form : ℕ) (rows : List Row) (row : Row) → text_of_rows form (rows ++ row ∷ []) ≡ text_of_rows form rows ++ (row_spelling form).meaning.spell row
text_of_more form [] row = append-nil ((row_spelling form).meaning.spell row)
text_of_more form (x ∷ rows) row =
    ap (λ (text : List ℕ). (row_spelling form).meaning.spell x ++ text) (text_of_more form rows row)
    ∙ sym (append_assoc ((row_spelling form).meaning.spell x) (text_of_rows form rows) ((row_spelling form).meaning.spell row))

fit_more : (form : ℕ) (rows : List Row) (row : Row) → AllByRecursion (row_spelling form).meaning.fits rows → (row_spelling form).meaning.fits row
    → AllByRecursion (row_spelling form).meaning.fits (rows ++ row ∷ [])
fit_more form [] row fit fits = (fits, tt)
fit_more form (x ∷ rows) row (fit, more) fits = (fit, fit_more form rows row more fits)

-- the bytes from an offset on, as a part of the text
pub rest_is : (text : List ℕ) (at : ℕ) → take (length text - at) (drop at text) ≡ drop at text
rest_is text at = ap (λ (n : ℕ). take n (drop at text)) (sym (length-drop at text)) ∙ take-length (drop at text)

-- one more row was read
pub one_more : (form : ℕ) (text : List ℕ) (rows : List Row) (at : ℕ) (last : Option Place) (row : Row) (place : Place) (taken : ℕ) → IsFrontRead form text rows at last
    → BeginsWithRow form (drop at text) row taken → IsPlaceOf place row → stands_behind last row ≡ true
    → IsFrontRead form text (rows ++ row ∷ []) (at + taken) (Some place)
one_more form text rows at last row place taken read begins is behind = record {
  within = omega (arith, read.within, taken_within form (drop at text) row taken begins, dropped);
  front = record {
    fit = fit_more form rows row read.front.fit begins.begins.fits;
    spelled = parts;
    rising = rises_behind rows row read.front.rising (read.place row ∙ behind);
  };
  place = last_place rows row place is;
}
  where
    front_length : length (take at text) ≡ at
    front_length = length-take-le at text read.within

    dropped : at + length (drop at text) ≡ length text
    dropped =
        let both = sym (length-append (take at text) (drop at text)) ∙ ap length (take-append-drop at text) in
        omega (arith, both, front_length)

    parts : take (at + taken) text ≡ text_of_rows form (rows ++ row ∷ [])
    parts =
        ap (λ (n : ℕ). take (n + taken) text) (sym front_length)
        ∙ ap (take (length (take at text) + taken)) (sym (take-append-drop at text))
        ∙ take-append-add (take at text) (drop at text) taken
        ∙ ap (λ (bytes : List ℕ). take at text ++ bytes) (taken_are form (drop at text) row taken begins)
        ∙ ap (λ (front : List ℕ). front ++ (row_spelling form).meaning.spell row) read.front.spelled
        ∙ sym (text_of_more form rows row)

-- no further row was read
pub none_more : (form : ℕ) (text : List ℕ) (rows : List Row) (at : ℕ) (last : Option Place) → IsFrontRead form text rows at last → at < length text
    → NoneFollows form last (drop at text) → IsDamagedAt form text at
none_more form text rows at last read before none = record {
  front = rows;
  before = take at text;
  behind = drop at text;
  parts = sym (take-append-drop at text);
  rows = read.front;
  place = sym (length-take-le at text read.within);
  some = omega (arith, before, length-drop at text);
  none = λ next.
      false≢true (sym (none next.row next.later next.begins) ∙ sym (read.place next.row) ∙ behind_rising rows next.row next.rising);
}
