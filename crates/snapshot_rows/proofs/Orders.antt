-- Rows in their order, and one more behind the last of them.
use Rattle.std.proofs.Common.{◌≡◌, Bool, true, false, ◌&&◌, List, [], ◌∷◌, ◌++◌, Some, refl, ap, ◌∙◌, arith}
use Rattle.std.specs.List.{list_all}
use Rattle.std.proofs.lemmas.Bool.{and_from, and_parts}
use Rattle.media_rows.specs.declared.row.Row.{Row}
use Rattle.media_rows.specs.Lists.{rises}
use Rattle.media_rows.specs.Snapshot.{row_before}
use Rattle.media_rows.proofs.RowLemmas.{rows_pass}
use Rattle.snapshot_rows.specs.declared.places.Place.{Place}
use Rattle.snapshot_rows.specs.Within.Fronts.{IsLastPlace, is_behind_last}
use Rattle.snapshot_rows.specs.Within.Places.{IsPlaceOf, stands_behind}

-- ---- one more behind the last

-- those that stand before an item that stands before the next one
behind_all : (x y : Row) (rows : List Row) (row : Row) → row_before x y ≡ true → list_all (row_before x) rows ≡ true → rises row_before (y ∷ rows) ≡ true
    → is_behind_last (y ∷ rows) row ≡ true → row_before x row ≡ true
behind_all x y [] row before all rising last = rows_pass x y row before last
behind_all x y (z ∷ rows) row before all rising last =
    let parts = and_parts (row_before x z) (list_all (row_before x) rows) all in
    let rest = and_parts (list_all (row_before y) (z ∷ rows)) (rises row_before (z ∷ rows)) rising in
    behind_all x z rows row parts.0 parts.1 rest.1 last

all_behind : (test : Row → Bool) (rows : List Row) (row : Row) → list_all test (rows ++ row ∷ []) ≡ (list_all test rows && test row)
all_behind test [] row = at_end (test row)
  where
    at_end : (b : Bool) → (b && true) ≡ b
    at_end true = refl
    at_end false = refl
all_behind test (x ∷ rows) row = ap (λ (b : Bool). test x && b) (all_behind test rows row) ∙ grouped (test x) (list_all test rows) (test row)
  where
    grouped : (a b c : Bool) → (a && (b && c)) ≡ ((a && b) && c)
    grouped true b c = refl
    grouped false b c = refl

-- rows in their order and a row behind the last one are in order
pub rises_behind : (rows : List Row) (row : Row) → rises row_before rows ≡ true → is_behind_last rows row ≡ true → rises row_before (rows ++ row ∷ []) ≡ true
rises_behind [] row rising last = refl
rises_behind (x ∷ rows) row rising last =
    let parts = and_parts (list_all (row_before x) rows) (rises row_before rows) rising in
    and_from (list_all (row_before x) (rows ++ row ∷ [])) (rises row_before (rows ++ row ∷ []))
    (all_behind (row_before x) rows row ∙ and_from (list_all (row_before x) rows) (row_before x row) parts.0 (reaches rows parts.0 parts.1 last))
    (rises_behind rows row parts.1 (behind_rest rows last))
  where
    reaches : (rows : List Row) → list_all (row_before x) rows ≡ true → rises row_before rows ≡ true → is_behind_last (x ∷ rows) row ≡ true
        → row_before x row ≡ true
    reaches [] all rising last = last
    reaches (y ∷ rows) all rising last =
        let both = and_parts (row_before x y) (list_all (row_before x) rows) all in
        behind_all x y rows row both.0 both.1 rising last

    behind_rest : (rows : List Row) → is_behind_last (x ∷ rows) row ≡ true → is_behind_last rows row ≡ true
    behind_rest [] last = refl
    behind_rest (y ∷ rows) last = last

-- where rows and one more are in order, it stands behind the last one
pub behind_rising : (rows : List Row) (row : Row) → rises row_before (rows ++ row ∷ []) ≡ true → is_behind_last rows row ≡ true
behind_rising [] row rising = refl
behind_rising (x ∷ []) row rising =
    (and_parts (row_before x row) true (and_parts (list_all (row_before x) (row ∷ [])) (rises row_before (row ∷ [])) rising).0).0
behind_rising (x ∷ y ∷ rows) row rising =
    behind_rising (y ∷ rows) row (and_parts (list_all (row_before x) ((y ∷ rows) ++ row ∷ [])) (rises row_before ((y ∷ rows) ++ row ∷ [])) rising).1

-- ---- the place of the last one

last_of_more : (rows : List Row) (last row : Row) → is_behind_last (rows ++ last ∷ []) row ≡ row_before last row
last_of_more [] last row = refl
last_of_more (x ∷ []) last row = refl
last_of_more (x ∷ y ∷ rows) last row = last_of_more (y ∷ rows) last row

by_place : (place : Place) (last row : Row) → IsPlaceOf place last → row_before last row ≡ stands_behind (Some place) row
by_place place last row is = rw (is.kind, is.number, is.point) refl

pub last_place : (rows : List Row) (last : Row) (place : Place) → IsPlaceOf place last → IsLastPlace (Some place) (rows ++ last ∷ [])
last_place rows last place is = λ row. last_of_more rows last row ∙ by_place place last row is
