-- Places of rows, for proofs alone: what a row stands by, so that not the row before it but its
-- place is kept.
use Rattle.std.specs.Prelude.{◌≡◌, ◌==◌, ℕ, nat_lt, Bool, true, ◌&&◌, ◌||◌, Option, Some, None}
use Rattle.media_rows.specs.declared.row.Row.{Row}
use Rattle.media_rows.specs.Segments.{low_before}
use Rattle.media_rows.specs.Snapshot.{kind_number, place_number, place_point}
use Rattle.snapshot_rows.specs.declared.places.Place.{Place}

-- where a row stands
pub record IsPlaceOf (place : Place) (row : Row) : Type 0 where
  pub kind : place.kind ≡ kind_number row
  pub number : place.number ≡ place_number row
  pub point : place.point ≡ place_point row

-- a place stands before another: by kind, then in the order of its kind
abbrev pub place_before : Place → Place → Bool
place_before a b =
    nat_lt a.kind b.kind
    || ((a.kind == b.kind)
    && (nat_lt a.number b.number || ((a.number == b.number) && low_before a.point b.point)))

-- a row stands behind a place, where there is one
abbrev pub stands_behind : Option Place → Row → Bool
stands_behind None row = true
stands_behind (Some place) row =
    nat_lt place.kind (kind_number row)
    || ((place.kind == kind_number row)
    && (nat_lt place.number (place_number row)
    || ((place.number == place_number row) && low_before place.point (place_point row))))
