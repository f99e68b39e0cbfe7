-- Delete requests at the keys of their serials, those unfinished and those done apart, and the
-- flows that requests delete.
use Rattle.std.specs.Prelude.{◌≡◌, ℕ, ◌==◌, nat_lt, ℤ, List, [], ◌∷◌, Bool, ◌&&◌, if◌then◌else◌, filter, map, true}
use Rattle.std.specs.List.{list_any}
use Rattle.media_rows.specs.declared.request.DeleteRow.{DeleteRow}
use Rattle.media_rows.specs.declared.request.DeleteStatus.TheVariants.{Done}
use Rattle.media_rows.specs.Requests.{is_done, is_unfinished}
use Rattle.media_rows.specs.Lists.{are_distinct, placed}
use Rattle.media_rows.specs.Restoring.{requests_of}
use Rattle.media_rows.specs.Views.{id_key}
use Rattle.shared_tree.specs.Pairs.{with_pair, without_key}
use Rattle.shared_tree.specs.Rows.{IsKeyedBy}
use Rattle.id_index.specs.Index.{IsIndexOf}

-- the serial of a request, and its key
abbrev pub serial_of_row : DeleteRow → ℕ
serial_of_row row = row.serial

abbrev pub request_key : DeleteRow → ℤ
request_key row = id_key row.serial

-- by serial
abbrev pub request_before : DeleteRow → DeleteRow → Bool
request_before a b = nat_lt a.serial b.serial

-- a request that is kept is unfinished, or done
abbrev pub is_unfinished_pair : ℤ × DeleteRow → Bool
is_unfinished_pair p = is_unfinished p.1

abbrev pub is_done_pair : ℤ × DeleteRow → Bool
is_done_pair p = is_done p.1.status

-- a request is unfinished and deletes its flow
abbrev pub is_ending : DeleteRow → Bool
is_ending row = is_unfinished row && row.delete_flow

-- the flow that a request deletes
abbrev pub flow_ending : DeleteRow → List ℕ
flow_ending row = if is_ending row then row.flow ∷ [] else []

-- an index has at each flow the requests that delete it
abbrev pub IsEnding : List (ℤ × DeleteRow) → List (ℤ × List (ℤ × ℕ)) → Type 0
IsEnding rows ending = IsIndexOf serial_of_row flow_ending rows ending

-- Requests stand at the keys of their serials; those unfinished and those done stand apart once
-- more, and those that delete a flow are found by it.
pub record AreRequests (rows some_unfinished some_done : List (ℤ × DeleteRow))
    (by_flow : List (ℤ × List (ℤ × ℕ))) : Type 0 where
  pub keyed : IsKeyedBy request_key rows
  pub unfinished : some_unfinished ≡ filter is_unfinished_pair rows
  pub done : some_done ≡ filter is_done_pair rows
  pub ending : IsEnding rows by_flow

-- requests with this one where it belongs there, and without it where it doesn't
abbrev pub entered_if : Bool → DeleteRow → List (ℤ × DeleteRow) → List (ℤ × DeleteRow)
entered_if belongs row rows =
    if belongs then with_pair (request_key row, row) rows else without_key (request_key row) rows

-- some request has this serial
abbrev pub has_request : ℕ → List DeleteRow → Bool
has_request serial requests = list_any (λ row. row.serial == serial) requests

-- the requests without the done one of least serial
abbrev pub without_first_done : List DeleteRow → List DeleteRow
without_first_done [] = []
without_first_done (row ∷ later) =
    if is_done row.status then later else row ∷ without_first_done later

-- a request that is done since this moment
abbrev pub done_row : ℕ → DeleteRow → DeleteRow
done_row moment row = record row { status = Done; updated = moment }

-- the requests with those of some rows done that are of a flow that goes
abbrev pub ended_by : ℕ → ℕ → List DeleteRow → List DeleteRow → List DeleteRow
ended_by flow moment [] requests = requests
ended_by flow moment (row ∷ rows) requests =
    ended_by flow moment rows
    (if row.flow == flow then placed request_before (done_row moment row) requests
    else requests)

-- a book has just these rows, which come in any order and of which no two have one serial
pub record HoldsJust (rows requests : List DeleteRow) : Type 0 where
  pub distinct : are_distinct (map serial_of_row rows) ≡ true
  pub is : requests ≡ requests_of rows
