-- A new object at the end of a book.
use Rattle.std.proofs.Common.{◌≡◌, ℕ, ◌<◌, ◌^◌, ℤ, pos, true, false, List, [], Option, Some, None, is_some, option_map, refl, sym, ap, subst, ◌∙◌, arith}
use Rattle.media_rows.specs.declared.object.ObjectRow.{ObjectRow}
use Rattle.media_rows.specs.declared.object.ObjectState.TheVariants.{Allocated}
use Rattle.media_rows.specs.Objects.{object_of}
use Rattle.shared_tree.specs.Pairs.{IsRising, values, with_pair}
use Rattle.object_refs.specs.declared.kept.Kept.{Kept}
use Rattle.object_refs.specs.References.{are_below, kept_of, objects_in, with_new}
use Rattle.object_refs.specs.NameTables.{Names, Renames}
use Rattle.object_refs.specs.Within.Names.{id_number}
use Rattle.object_refs.specs.Within.Books.{IsBook, bare, has_serial, idle_entered, idle_key_of, with_new_object}
use Rattle.object_refs.proofs.Found.{object_is, unnamed}
use Rattle.object_refs.proofs.Moving.{book_gains}
use Rattle.object_refs.proofs.Restoring.{put_last, serial_none}

-- one with these parts
abbrev pub kept_with : ObjectRow → List ℕ → Kept
kept_with row flows = record { row = row; flows = flows }

pub bare_is : (row : ObjectRow) (flows : List ℕ) → flows ≡ [] → kept_with row flows ≡ bare row
bare_is row flows e = rw e refl

-- where no object is found, none is kept
pub not_kept : (id : List ℕ) (kept : List Kept) → is_some (object_of id (objects_in kept)) ≡ false → kept_of id kept ≡ None
not_kept id kept e = by (kept_of id kept) (ap is_some (sym (object_is id kept)) ∙ e)
  where
    by : (o : Option Kept) → is_some (option_map (λ k. k.row) o) ≡ false → o ≡ None
    by None f = refl
    by (Some k) f = absurd (grind (arith, f))

pub new_book : (row : ObjectRow) (copied : List ℕ) (number : ℕ) (key : Option ℤ) (kept : Kept) (rows rows' : List (ℤ × Kept))
    (names names' : Names) (idle idle' : List (ℤ × ℕ)) → IsBook rows names idle → IsRising rows → row.serial < 2 ^ 64
    → has_serial row.serial (values rows) ≡ false → kept_of row.id (values rows) ≡ None → kept ≡ bare row → copied ≡ row.id → number ≡ id_number row.id
    → key ≡ idle_key_of kept → rows' ≡ with_pair (pos row.serial, kept) rows → Renames number copied (Some row.serial) names names'
    → idle' ≡ idle_entered key row.serial idle → IsBook rows' names' idle'
new_book row copied number key kept rows rows' names names' idle idle' book rising low fresh none made ei en ek er renames is =
    book_gains rows rows' names names' idle idle' (bare row) book low (serial_none row.serial rows book.keyed fresh)
    (unnamed row.id rows names rising book.named none)
    (er ∙ ap (λ v. with_pair (pos row.serial, v) rows) made)
    (subst (λ n. Renames n row.id (Some row.serial) names names') en (subst (λ i. Renames number i (Some row.serial) names names') ei renames))
    (is ∙ ap (λ k. idle_entered k row.serial idle) (ek ∙ ap idle_key_of made))

pub new_at_end : (copied id : List ℕ) (serial moment : ℕ) (kept next : List Kept) → copied ≡ id → are_below serial kept ≡ true
    → next ≡ with_new_object (record { id = copied; serial = serial; state = Allocated; idle_since = moment }) kept → next ≡ with_new id serial moment kept
new_at_end copied id serial moment kept next e below is =
    is ∙ ap (λ i. with_new_object (record { id = i; serial = serial; state = Allocated; idle_since = moment }) kept) e
    ∙ put_last (record { id = id; serial = serial; state = Allocated; idle_since = moment }) kept below

-- what isn't found isn't kept
pub none_kept : (id copied : List ℕ) (kept : List Kept) → is_some (object_of id (objects_in kept)) ≡ false → copied ≡ id → kept_of copied kept ≡ None
none_kept id copied kept e same = ap (λ i. kept_of i kept) same ∙ not_kept id kept e
