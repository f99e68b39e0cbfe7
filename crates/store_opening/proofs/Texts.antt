-- Rows of a text, and whether a library has them.
use Rattle.std.proofs.Common.{◌≡◌, ◌<◌, ℕ, true, false, List, length, sym, ap, ◌∙◌, arith, ◌&&◌}
use Rattle.std.proofs.lemmas.Bool.{and_from, false≢true}
use Rattle.std.proofs.lemmas.List.{length-append}
use Rattle.media_rows.specs.declared.row.Row.{Row}
use Rattle.media_rows.specs.Good.{is_good}
use Rattle.media_rows.specs.Library.{Library}
use Rattle.media_rows.specs.Lists.{rises}
use Rattle.media_rows.specs.Snapshot.{have_numbers, library_of, row_before}
use Rattle.snapshot_rows.specs.Texts.{IsDamagedAt, SpellsRows}
use Rattle.snapshot_rows.proofs.Damage.{is_one_list}
use Rattle.core_restore.specs.Restored.{are_rows_of_good}
use Rattle.store_states.specs.States.{IsTextOf}

-- rows that don't pass the test make no library
pub text_of_none : (form id blocks : ℕ) (text : List ℕ) (some : List Row) → SpellsRows form text some → are_rows_of_good id blocks some ≡ false
    → (library : Library) → IsTextOf form id blocks text library → ⊥
text_of_none form id blocks text some spells wrong library is = false≢true (sym wrong ∙ passes)
  where
    same : is.rows ≡ some
    same = is_one_list form text some is.rows spells is.spells

    numbers : have_numbers some ≡ true
    numbers = ap have_numbers (sym same) ∙ is.numbered

    good : is_good (library_of id blocks some) ≡ true
    good = ap (λ (xs : List Row). is_good (library_of id blocks xs)) (sym same) ∙ ap is_good (sym is.made) ∙ is.good

    passes : are_rows_of_good id blocks some ≡ true
    passes = and_from (rises row_before some) (have_numbers some && is_good (library_of id blocks some)) spells.rising
        (and_from (have_numbers some) (is_good (library_of id blocks some)) numbers good)

-- a damaged row begins before the text's end
pub row_within : (form : ℕ) (text : List ℕ) (row : ℕ) → IsDamagedAt form text row → row < length text
row_within form text row damaged =
    let whole = ap length damaged.parts ∙ length-append damaged.before damaged.behind in
    omega (arith, whole, damaged.place, damaged.some)
