-- What a book keeps beside its objects: two indexes, and what holds of them.
use Rattle.std.specs.Prelude.{◌≡◌, ℕ, ◌+◌, ◌*◌, ◌^◌, ◌<◌, ℤ, pos, List, [], ◌∷◌, Option, Some, None, option_and_then, option_map, if◌then◌else◌, Bool, true, ◌&&◌, ◌==◌, nat_lt, map}
use Rattle.std.specs.List.{AllByRecursion, list_all, list_any}
use Rattle.media_rows.specs.declared.object.ObjectRow.{ObjectRow}
use Rattle.media_rows.specs.Objects.{is_stored, is_stored_object}
use Rattle.media_rows.specs.declared.segment.SegmentRow.{SegmentRow}
use Rattle.media_rows.specs.Good.{are_object_ids_distinct}
use Rattle.media_rows.specs.Lists.{are_distinct, inserted}
use Rattle.media_rows.specs.Restoring.{objects_of}
use Rattle.media_rows.specs.Views.{id_key}
use Rattle.shared_tree.specs.Pairs.{value_at, with_pair, without_key}
use Rattle.shared_tree.specs.Rows.{IsKeyedBy}
use Rattle.object_refs.specs.declared.kept.Kept.{Kept}
use Rattle.object_refs.specs.NameTables.{Names, serial_named}
use Rattle.object_refs.specs.References.{changed_at, objects_in, referred}
use Rattle.object_refs.specs.Within.Names.{id_number}

-- objects stand by serial
abbrev pub kept_key : Kept → ℤ
kept_key k = pos k.row.serial

-- two functions that lead back to one another, each where it leads at all
pub record IsInverse {K : Type 0} (forth : ℤ → Option K) (back : K → Option ℤ) : Type 0 where
  pub out : (s : ℤ) (k : K) → forth s ≡ Some k → back k ≡ Some s
  pub home : (k : K) (s : ℤ) → back k ≡ Some s → forth s ≡ Some k

-- ---- ids

-- the id of the object of a serial
abbrev pub id_at : List (ℤ × Kept) → ℤ → Option (List ℕ)
id_at rows s = option_map (λ k. k.row.id) (value_at s rows)

-- the serial that names give an id
abbrev pub name_at : Names → List ℕ → Option ℤ
name_at names id = option_map (λ serial. pos serial) (serial_named (id_number id) id names)

-- ---- the order in which objects are swept

-- the key of an object to which nothing refers: its idle moment times 2^64, and its serial
abbrev pub idle_key : ℕ → ℕ → ℤ
idle_key moment serial = id_key (moment * 2 ^ 64 + serial)

-- that key, where there is no reference
abbrev pub key_if_idle : List ℕ → ObjectRow → Option ℤ
key_if_idle [] row = Some (idle_key row.idle_since row.serial)
key_if_idle (flow ∷ flows) row = None

abbrev pub idle_key_of : Kept → Option ℤ
idle_key_of k = key_if_idle k.flows k.row

-- the key of the object of a serial, where it is idle
abbrev pub idle_at : List (ℤ × Kept) → ℤ → Option ℤ
idle_at rows s = option_and_then idle_key_of (value_at s rows)

-- the serial at a key
abbrev pub idle_serial : List (ℤ × ℕ) → ℤ → Option ℤ
idle_serial idle key = option_map (λ serial. pos serial) (value_at key idle)

-- the serials without the one at a key, if there is a key
abbrev pub idle_left : Option ℤ → List (ℤ × ℕ) → List (ℤ × ℕ)
idle_left None idle = idle
idle_left (Some key) idle = without_key key idle

-- the serials with one at a key, if there is a key
abbrev pub idle_entered : Option ℤ → ℕ → List (ℤ × ℕ) → List (ℤ × ℕ)
idle_entered None serial idle = idle
idle_entered (Some key) serial idle = with_pair (key, serial) idle

-- ---- objects

-- the object, where it has its bytes
abbrev pub stored_of : Option Kept → Option Kept
stored_of None = None
stored_of (Some k) = if is_stored k.row.state then Some k else None

-- some object has this serial
abbrev pub has_serial : ℕ → List Kept → Bool
has_serial serial kept = list_any (λ k. k.row.serial == serial) kept

-- by serial
abbrev pub kept_before : Kept → Kept → Bool
kept_before a b = nat_lt a.row.serial b.row.serial

-- an object without references
abbrev pub bare : ObjectRow → Kept
bare row = record { row = row; flows = [] }

-- the objects with a new one at its place, to which nothing refers
abbrev pub with_new_object : ObjectRow → List Kept → List Kept
with_new_object row kept = inserted kept_before (bare row) kept

-- one reference more for each of these segments, of which the last one comes first
abbrev pub referring : List SegmentRow → List Kept → List Kept
referring [] kept = kept
referring (s ∷ segments) kept =
    changed_at s.segment.object (referred s.flow) (referring segments kept)

-- ids and serials are distinct
abbrev pub are_names_distinct : List ObjectRow → Bool
are_names_distinct objects =
    are_object_ids_distinct objects && are_distinct (map (λ row. row.serial) objects)

-- the objects of rows in any order, by rising serial, to which nothing refers
abbrev pub bare_objects : List ObjectRow → List Kept
bare_objects objects = map bare (objects_of objects)

-- a book of some rows, whose ids and serials are distinct
pub record IsGathered (rows : List ObjectRow) (kept : List Kept) : Type 0 where
  pub distinct : are_names_distinct rows ≡ true
  pub is : kept ≡ bare_objects rows

-- a book that some segments refer to, each of which names an object that has its bytes
pub record AreReferred (segments : List SegmentRow) (start kept : List Kept) : Type 0 where
  pub stored : list_all (λ s. is_stored_object (objects_in start) s.segment.object) segments ≡ true
  pub is : kept ≡ referring segments start

-- ---- a book

-- Objects stand by serial, which is a number of 64 bits. Each id leads to its object's serial and
-- to no other one. Each object without references stands in the order of sweeps, and no other
-- one.
pub record IsBook (rows : List (ℤ × Kept)) (names : Names) (idle : List (ℤ × ℕ)) : Type 0 where
  pub keyed : IsKeyedBy kept_key rows
  pub small : AllByRecursion (λ p. p.1.row.serial < 2 ^ 64) rows
  pub named : IsInverse (id_at rows) (name_at names)
  pub swept : IsInverse (idle_at rows) (idle_serial idle)
