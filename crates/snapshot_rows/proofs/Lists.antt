-- A text spells one list of rows at most.
use Rattle.std.proofs.Common.{◌≡◌, ◌<◌, ◌+◌, ℕ, Bool, true, false, List, [], ◌∷◌, ◌++◌, length, refl, sym, ap, subst, ◌∙◌, Some, slice_get, arith}
use Rattle.std.specs.List.{AllByRecursion, flat_map}
use Rattle.std.proofs.lemmas.List.{append_assoc}
use Rattle.field_codec.specs.Laws.{Lawful}
use Rattle.field_codec.specs.Meaning.{SpellsFirst}
use Rattle.field_codec.proofs.Wholes.{one_front}
use Rattle.media_rows.specs.declared.row.Row.{Row}
use Rattle.media_rows.specs.Lists.{rises}
use Rattle.media_rows.specs.Snapshot.{kind_number, row_before}
use Rattle.change_codec.specs.Rows.{row_spelling}
use Rattle.change_codec.proofs.RowLaws.{first_is_kind, row_lawful}
use Rattle.snapshot_rows.specs.Texts.{text_of_rows}

no_first : (bytes rest : List ℕ) (kind : ℕ) → slice_get bytes 0 ≡ Some kind → bytes ++ rest ≡ [] → ⊥
no_first [] rest kind first is = cc
no_first (byte ∷ bytes) rest kind first is = cc

-- bytes that begin with a row's spelling have one
pub some_byte : (form : ℕ) (row : Row) (rest : List ℕ) → (row_spelling form).meaning.spell row ++ rest ≡ [] → ⊥
some_byte form row rest is = no_first ((row_spelling form).meaning.spell row) rest (kind_number row) (first_is_kind form row) is

begins : (form : ℕ) (row : Row) (others : List Row) (text : List ℕ) → (row_spelling form).meaning.fits row → text ≡ text_of_rows form (row ∷ others)
    → SpellsFirst (row_spelling form).meaning text row (text_of_rows form others)
begins form row others text fits is = record { fits = fits; parts = is }

pub one_list : (form : ℕ) (some others : List Row) (text : List ℕ) → AllByRecursion (row_spelling form).meaning.fits some
    → AllByRecursion (row_spelling form).meaning.fits others → text ≡ text_of_rows form some → text ≡ text_of_rows form others → some ≡ others
one_list form [] [] text fit fits is same = refl
one_list form [] (other ∷ others) text fit fits is same = absurd (some_byte form other (text_of_rows form others) (sym same ∙ is))
one_list form (row ∷ some) [] text fit fits is same = absurd (some_byte form row (text_of_rows form some) (sym is ∙ same))
one_list form (row ∷ some) (other ∷ others) text (fit, more) (fits, rest) is same =
    let first = one_front (row_spelling form) (row_lawful form) text row other (text_of_rows form some) (text_of_rows form others)
    (begins form row some text fit is) (begins form other others text fits same) in
    let behind : some ≡ others = one_list form some others (text_of_rows form some) more rest refl first.1 in
    let front : row ≡ other = first.0 in
    rw (front, behind) refl
