-- An archive follows another where what was stored in the one has its bytes and its digest in the other.
use Rattle.std.proofs.Common.{◌≡◌, ◌≤◌, ◌<◌, ℕ, true, List, refl, sym, ap, ◌∙◌, arith}
use Rattle.media_rows.specs.declared.change.Change.{Change}
use Rattle.media_rows.specs.declared.object.ObjectRow.{ObjectRow}
use Rattle.media_rows.specs.Apply.{is_allowed}
use Rattle.media_rows.specs.Changes.{after}
use Rattle.media_rows.specs.Media.{Archive, archive_after}
use Rattle.media_rows.specs.Objects.{digest_in_state, is_stored}
use Rattle.library_laws.specs.Laws.{FirstBytesStay}
use Rattle.library_laws.specs.MediaLaws.{IsGoodArchive, bytes_in}
use Rattle.library_laws.proofs.KeptLemmas.{same_by_key}
use Rattle.library_laws.proofs.ListLemmas.{Contains-from_In, In}
use Rattle.library_laws.proofs.MediaKept.{bytes_stay}
use Rattle.library_laws.proofs.OutboxKept.{Names-from, object_below}
use Rattle.tams_machine.specs.Laws.{IsSameObject}
use Rattle.tams_histories.proofs.Objects.{serials_rise, was}

-- it was there, and if it was stored it is, with its bytes and its digest
pub record Kept (a next : Archive) (row : ObjectRow) : Type 0 where
  pub old : ObjectRow
  pub here : In old a.library.objects
  pub serial : row.serial ≡ old.serial
  pub stays : is_stored old.state ≡ true → (is_stored row.state ≡ true) × IsSameObject a next old row

pub record Follows (a next : Archive) : Type 0 where
  pub serials : a.library.next_serial ≤ next.library.next_serial
  pub kept : (row : ObjectRow) → In row next.library.objects → row.serial < a.library.next_serial → Kept a next row

pub follows_self : (a : Archive) → Follows a a
follows_self a = record {
  serials = omega arith;
  kept = λ row here early. record { old = row; here = here; serial = refl; stays = λ e. (e, record { bytes = refl; digest = refl }) };
}

pub follows_change : FirstBytesStay → (a : Archive) (change : Change) (came : List ℕ) → IsGoodArchive a → is_allowed a.library change ≡ true
    → Follows a (archive_after change came a)
follows_change stay a change came good allowed = record {
  serials = serials_rise a.library change;
  kept = λ row here early.
      let from = was a.library change row here early in
      record {
        old = from.old;
        here = from.here;
        serial = from.serial;
        stays = λ e.
            let was_there = Contains-from_In a.library.objects from.old from.here in
            let is_there = Contains-from_In (after change a.library).objects row here in (
              from.stays e,
              record {
                bytes = bytes_stay a change came good allowed from.old row was_there is_there from.serial e;
                digest = ap digest_in_state (stay a.library change good.good allowed from.old row was_there is_there from.serial e).1;
              },
            );
      };
}

pub follows_twice : (a b c : Archive) → Follows a b → Follows b c → Follows a c
follows_twice a b c one two = record {
  serials = omega (arith, one.serials, two.serials);
  kept = λ row here early.
      let mid = two.kept row here (omega (arith, early, one.serials)) in
      let first = one.kept mid.old mid.here (omega (arith, early, mid.serial)) in
      record {
        old = first.old;
        here = first.here;
        serial = mid.serial ∙ first.serial;
        stays = λ e.
            let was = first.stays e in
            let is = mid.stays was.0 in
            (is.0, record { bytes = is.1.bytes ∙ was.1.bytes; digest = is.1.digest ∙ was.1.digest });
      };
}

-- what is known by its serial is the same object
pub follows_keeps : (a next : Archive) → IsGoodArchive a → Follows a next → (old new : ObjectRow) → In old a.library.objects
    → In new next.library.objects → new.serial ≡ old.serial → is_stored old.state ≡ true → IsSameObject a next old new
follows_keeps a next good follows old new here there same is =
    let names = Names-from a.library good.good.names in
    let below = object_below a.library names old here in
    let from = follows.kept new there (omega (arith, same, below)) in
    let one : from.old ≡ old =
    same_by_key (λ (r : ObjectRow). r.serial) a.library.objects names.objects_rise from.old old from.here here (sym from.serial ∙ same) in
    let stays = from.stays (ap (λ (r : ObjectRow). is_stored r.state) one ∙ is) in
    record {
      bytes = stays.1.bytes ∙ ap (λ (r : ObjectRow). bytes_in a r.id) one;
      digest = stays.1.digest ∙ ap (λ (r : ObjectRow). digest_in_state r.state) one;
    }
