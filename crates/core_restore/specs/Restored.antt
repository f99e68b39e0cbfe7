-- Rows from which a library is made, as when a file is opened. Our own rules.
use Rattle.std.specs.Prelude.{◌≡◌, ℕ, List, Bool, ◌&&◌, IsTrue}
use Rattle.media_rows.specs.declared.row.Row.{Row}
use Rattle.media_rows.specs.Good.{Good, is_good}
use Rattle.media_rows.specs.Library.{Library}
use Rattle.media_rows.specs.Lists.{rises}
use Rattle.media_rows.specs.Snapshot.{have_numbers, library_of, row_before, rows_of}
use Rattle.library_laws.specs.Laws.{HaveRanges}

-- The rows are those of a good library, in the order of a snapshot: each stands before all later
-- ones, the row of numbers is among them, and the library that they make is good.
abbrev pub are_rows_of_good : ℕ → ℕ → List Row → Bool
are_rows_of_good id blocks rows =
    rises row_before rows && (have_numbers rows && is_good (library_of id blocks rows))

-- ---- laws

-- a library whose rows these are
pub record HasRows (id blocks : ℕ) (rows : List Row) (library : Library) : Type 0 where
  pub named : library.id ≡ id
  pub sized : library.blocks ≡ blocks
  pub good : Good library
  pub listed : rows_of library ≡ rows

-- rows that pass the test are those of the library that they make
abbrev pub PassingRowsAreOfALibrary : Type 0
PassingRowsAreOfALibrary = (id blocks : ℕ) (rows : List Row)
    → IsTrue (are_rows_of_good id blocks rows) → HasRows id blocks rows (library_of id blocks rows)

-- and the rows of each good library pass it
abbrev pub RowsOfALibraryPass : Type 0
RowsOfALibraryPass = (id blocks : ℕ) (rows : List Row) (library : Library)
    → HaveRanges library.segments → HasRows id blocks rows library
    → IsTrue (are_rows_of_good id blocks rows)
