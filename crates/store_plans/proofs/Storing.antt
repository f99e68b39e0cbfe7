-- The plan of a change that stores an object's bytes, with whatever digest it is given.
use Rattle.std.proofs.Common.{◌≡◌, ◌≤◌, ◌+◌, ◌-◌, ◌==◌, ℕ, Bool, true, false, cond, ◌||◌, ◌&&◌, List, [], ◌∷◌, Option, Some, None, map, length, take, bytes_eq, refl, sym, ap, subst, ◌∙◌, arith, inl, inr}
use Rattle.std.specs.Prelude.{is_some, nat_le, nat_lt, IfSome, option_map}
use Rattle.std.specs.List.{list_all}
use Rattle.std.specs.Option.{MatchOption}
use Rattle.std.proofs.lemmas.Bool.Decides.{nat_tests}
use Rattle.std.proofs.lemmas.Bool.{and_from, and_left, and_parts, and_right, eq-eqb, eqb-true, false≢true, le-leb, lt-leb, ltb-false, ltb-true}
use Rattle.std.proofs.lemmas.List.{length-append, length-take-le}
use Rattle.disk_trait.specs.Forms.{form_in_use}
use Rattle.disk_trait.specs.Numbers.{u128_bytes}
use Rattle.disk_trait.proofs.NumberLemmas.{length-u128_bytes}
use Rattle.media_rows.specs.declared.change.Change.{Change}
use Rattle.media_rows.specs.declared.change.Change.TheVariants as changes
use Rattle.media_rows.specs.declared.command.Command.TheVariants as commands
use Rattle.media_rows.specs.declared.object.Digest.{Digest}
use Rattle.media_rows.specs.declared.object.Extent.{Extent}
use Rattle.media_rows.specs.declared.object.ObjectRow.{ObjectRow}
use Rattle.media_rows.specs.declared.object.ObjectState.{ObjectState}
use Rattle.media_rows.specs.declared.reply.Reply.TheVariants.{Created}
use Rattle.media_rows.specs.Answer.{Outcome, answer, answer_by, changed, keep_refusal, keep_state, placed_put, put_answer_by, put_by_state, put_media_answer, stored_put}
use Rattle.media_rows.specs.Apply.{applied, passes_serials}
use Rattle.media_rows.specs.Changes.{after}
use Rattle.media_rows.specs.Digests.{digest_of}
use Rattle.media_rows.specs.Good.{Good}
use Rattle.media_rows.specs.Library.{Library, last_serial}
use Rattle.media_rows.specs.Media.{Archive, answer_to, puts}
use Rattle.media_rows.specs.Moments.{is_moment}
use Rattle.media_rows.specs.Objects.{blocks_of, bytes_of, free_place, is_clear_of, object_of}
use Rattle.media_rows.specs.Sound.{is_good_command}
use Rattle.library_laws.specs.Laws.{AppliesWithin, HasNoPlace, IsLeastPlace, PlacesAreLeast}
use Rattle.library_laws.proofs.AppliesLemmas.{answers_apply}
use Rattle.change_codec.specs.Codec.{SpellsChange}
use Rattle.change_codec.specs.Digests.{HasHalves, digest_bytes, ending_in}
use Rattle.change_codec.specs.Fitting.{State, change_size, fits, fits_room, snapshot_size}
use Rattle.change_codec.proofs.DigestLemmas.{digests_are_last, digests_have_halves, digests_take_alike}
use Rattle.media_journal.specs.Journal.{Position}
use Rattle.object_refs.specs.References.{digested}
use Rattle.media_book.specs.Media.{media_of, serial_in}
use Rattle.core_parts.specs.Parts.{HeldLibrary, library_digested}
use Rattle.store_core.specs.declared.prepare.Prepared.{Prepared}
use Rattle.store_core.specs.Prepared.{Preparation, preparation, prepared_by}
use Rattle.store_core.proofs.Stored.{after_so}
use Rattle.store_states.specs.Fitting.{FitsJournal}
use Rattle.store_plans.specs.declared.puts.StorePlan.{StorePlan}
use Rattle.store_plans.specs.declared.room.Recorded.{Recorded}
use Rattle.store_plans.specs.Plans.{ComesFirst, IsPlanOf, MakesChange, TakesExtent, journal_in, planned_with}
use Rattle.store_plans.specs.Within.{IsAllocated, IsPreparedStore, IsRecord, IsRecordIn, IsRecorded, IsStorePlan, IsStorePlanned, RecordFits, has_place, store_change, store_plan_of, storing}
use Rattle.store_plans.proofs.Fitted.{fits_plan}

-- ---- one digest in place of another

module _ (object : List ℕ) (extent : Extent) (moment : ℕ) (kept digest : Digest) where
  abbrev change : Digest → Change
  change d = store_change object extent moment d

  -- the library with another digest is the one after the change with that digest
  with_digest : (library : Library) → Good library → (held : HeldLibrary) → held.library ≡ after (change kept) library
      → held.apart ≡ serial_in object (media_of library) → (library_digested digest held).library ≡ after (change digest) library
  with_digest library good held is apart =
      ap (λ (l : Library). record l { objects = digested held.apart digest l.objects }) is
      ∙ ap (λ (a : Option ℕ). record (after (change kept) library) { objects = digested a digest (after (change kept) library).objects }) apart
      ∙ sym (after_so library moment object extent.start extent.length (Some kept) digest good)

  -- ---- the room

  same_size : change_size (change digest) ≡ change_size (change kept)
  same_size = digests_take_alike moment object extent.start extent.length kept digest

  same_room : (journal : State) → fits_room journal (change digest) ≡ fits_room journal (change kept)
  same_room journal = ap (λ n. nat_le (n + 6) journal.room) same_size

  same_place : (journal : State) → has_place journal (change digest) ≡ has_place journal (change kept)
  same_place journal = ap (λ n. nat_le (n + 6) journal.room || nat_le (snapshot_size journal.library + n + 14) journal.half) same_size

  -- what comes before the one comes before the other
  first_with : (journal : State) (rows : Option (List ℕ)) → ComesFirst journal (change kept) rows → ComesFirst journal (change digest) rows
  first_with journal None fits = same_room journal ∙ fits
  first_with journal (Some rows) point = record { needed = same_room journal ∙ point.needed; text = point.text; size = point.size }

  -- the record of the one has as many bytes as that of the other
  spells_with : (bytes : List ℕ) → SpellsChange form_in_use bytes (change kept) → HasHalves digest
      → SpellsChange form_in_use (ending_in (digest_bytes digest) bytes) (change digest)
  spells_with bytes spells halves = (digests_are_last form_in_use moment object extent.start extent.length kept digest bytes spells halves).spells

-- ---- what was prepared

-- the answer to bytes with a digest that come for an allocated object
keep_is : (library : Library) (object : List ℕ) (extent : Extent) (moment : ℕ) (digest : Digest) → IsAllocated (object_of object library.objects)
    → answer library (commands.Keep object extent.start extent.length digest) moment ≡ storing object extent moment digest
keep_is library object extent moment digest found =
    ap (λ (o : Option ObjectRow). answer_by (keep_refusal o) (storing object extent moment digest)) found.kept
    ∙ ap (λ (s : ObjectState). answer_by (keep_state s) (storing object extent moment digest)) found.state

module _ (library : Library) (object : List ℕ) (extent : Extent) (moment : ℕ) (p : Prepared) (good : Good library) (at : is_moment moment ≡ true)
    (found : IsAllocated (object_of object library.objects)) (is : IsPreparedStore library object extent moment p) where
  abbrev change_with : Digest → Change
  change_with d = store_change object extent moment d

  change_is : p.change ≡ Some (change_with is.digest)
  change_is = sym (ap (λ (q : Preparation). q.change) is.made)

  past_is : p.past ≡ passes_serials (change_with is.digest) library
  past_is = sym (ap (λ (q : Preparation). q.past) is.made)

  -- the change with a digest applies, unless the serials would end
  within : (digest : Digest) → AppliesWithin library (change_with digest)
  within digest =
      subst (λ (o : Outcome). IfSome o.change (AppliesWithin library)) (keep_is library object extent moment digest found)
      (answers_apply library (commands.Keep object extent.start extent.length digest) moment good is.good at)

  module _ (fresh : p.past ≡ false) where
    core_is : p.core.library ≡ after (change_with is.digest) library
    core_is =
        sym (ap (λ (q : Preparation). q.core) is.made)
        ∙ ap (λ (b : Bool). cond b library (after (change_with is.digest) library)) (sym past_is ∙ fresh)

    held_apart : (is_some p.core.apart ≡ true) × (p.core.apart ≡ serial_in object (media_of library))
    held_apart = is.holds moment object extent.start extent.length (Some is.digest) change_is

    -- the library with a digest is what the change with that digest makes
    applied_with : (digest : Digest) → applied (change_with digest) library ≡ Some (library_digested digest p.core).library
    applied_with digest =
        within digest (sym past_is ∙ fresh)
        ∙ ap Some (sym (with_digest object extent moment is.digest digest library good p.core core_is held_apart.1))

-- ---- the plan

none_fits : (journal : State) (object : List ℕ) (extent : Extent) (moment : ℕ) (kept digest : Digest) → has_place journal (store_change object extent moment kept) ≡ false
    → fits journal (store_change object extent moment digest) ≡ false
none_fits journal object extent moment kept digest none =
    and_right (nat_le (after (store_change object extent moment digest) journal.library).next_serial last_serial)
    (has_place journal (store_change object extent moment digest)) (same_place object extent moment kept digest journal ∙ none)

lt-le-false : (a b : ℕ) → nat_lt a b ≡ true → nat_le b a ≡ false
lt-le-false a b e = lt-leb b a (ltb-true a b e)

-- bytes at the end in place of as many leave the length
pub ending_sized : (tail bytes : List ℕ) → length tail ≤ length bytes → length (ending_in tail bytes) ≡ length bytes
ending_sized tail bytes less =
    omega (arith, length-append (take (length bytes - length tail) bytes) tail, length-take-le (length bytes - length tail) bytes (omega arith), less)

pub digest_length : (digest : Digest) → length (digest_bytes digest) ≡ 32
digest_length digest =
    omega (arith, length-append (u128_bytes digest.high) (u128_bytes digest.low), length-u128_bytes digest.high, length-u128_bytes digest.low)

fits_sized : (position : Position) (rows : Option (List ℕ)) (a b : List ℕ) → length b ≡ length a → FitsJournal position rows a → FitsJournal position rows b
fits_sized position None a b same fits = omega (arith, same, fits)
fits_sized position (Some rows) a b same fits = omega (arith, same, fits)

-- the record of a stored object has room for a digest
no_digest : Digest
no_digest = record { high = 0; low = 0 }

long_enough : (object : List ℕ) (extent : Extent) (moment : ℕ) (kept : Digest) (bytes : List ℕ)
    → SpellsChange form_in_use bytes (store_change object extent moment kept) → 32 ≤ length bytes
unfolding no_digest
long_enough object extent moment kept bytes spells =
    let zeros : HasHalves no_digest = record { high = omega arith; low = omega arith } in
    let last = digests_are_last form_in_use moment object extent.start extent.length kept no_digest bytes spells zeros in
    omega (arith, last.sized, length-append (take (length bytes - length (digest_bytes no_digest)) bytes) (digest_bytes no_digest), digest_length no_digest)

module _ (position : Position) (library : Library) (object : List ℕ) (extent : Extent) (moment : ℕ) (p : Prepared) (good : Good library)
    (at : is_moment moment ≡ true) (found : IsAllocated (object_of object library.objects)) (is : IsPreparedStore library object extent moment p) where
  abbrev journal : State
  journal = journal_in library position

  -- a change that would end the serials doesn't fit, whatever its digest is
  pub none_past : p.past ≡ true → IsStorePlanned position journal object extent moment None
  none_past past digest =
      let over : passes_serials (store_change object extent moment digest) library ≡ true = sym (past_is library object extent moment p good at found is) ∙ past in
      and_left (nat_le (after (store_change object extent moment digest) library).next_serial last_serial)
      (has_place journal (store_change object extent moment digest))
      (lt-le-false last_serial (after (store_change object extent moment digest) library).next_serial over)

  -- nor does one whose record has no place
  pub none_placed : IsRecorded journal (store_change object extent moment is.digest) None → IsStorePlanned position journal object extent moment None
  none_placed none digest = none_fits journal object extent moment is.digest digest none

  module _ (fresh : p.past ≡ false) (recorded : Recorded) (has : IsRecord journal (store_change object extent moment is.digest) recorded)
      (room : RecordFits position recorded) where
    abbrev with : Digest → Change
    with digest = store_change object extent moment digest

    serials_last : (digest : Digest) → nat_le (after (with digest) library).next_serial last_serial ≡ true
    serials_last digest =
        let under : passes_serials (with digest) library ≡ false = sym (past_is library object extent moment p good at found is) ∙ fresh in
        le-leb (after (with digest) library).next_serial last_serial (ltb-false last_serial (after (with digest) library).next_serial under)

    makes_with : (digest : Digest) → HasHalves digest → MakesChange journal (with digest) (planned_with digest (store_plan_of p recorded))
    makes_with digest halves = record {
      payload = ending_in (digest_bytes digest) recorded.frame;
      frame = refl;
      spells = spells_with object extent moment is.digest digest recorded.frame has.spells halves;
      made = applied_with library object extent moment p good at found is fresh digest;
      first = first_with object extent moment is.digest digest journal recorded.rows has.first;
    }

    long : 32 ≤ length recorded.frame
    long = long_enough object extent moment is.digest recorded.frame has.spells

    -- the plan of the change that stores the object
    pub store_planned : IsStorePlanned position journal object extent moment (Some (store_plan_of p recorded))
    store_planned = record {
      fits = λ digest. and_from (nat_le (after (with digest) library).next_serial last_serial) (has_place journal (with digest)) (serials_last digest)
          (same_place object extent moment is.digest digest journal ∙ has.place);
      makes = λ digest halves. record {
        reply = sym (ap (λ (q : Preparation). q.reply) is.made);
        step = makes_with digest halves;
      };
      room = λ digest. fits_sized position recorded.rows recorded.frame (ending_in (digest_bytes digest) recorded.frame)
          (ending_sized (digest_bytes digest) recorded.frame (omega (arith, digest_length digest, long))) room;
      takes = record { long = long; apart = (held_apart library object extent moment p good at found is fresh).0 };
    }

  -- so whatever record was found, it is the plan's
  pub planned_by : (past : Bool) → p.past ≡ past → (recorded : Option Recorded) → IsRecordIn journal past (Some (store_change object extent moment is.digest)) recorded
      → IfSome recorded (RecordFits position) → IsStorePlanned position journal object extent moment (option_map (store_plan_of p) recorded)
  planned_by true e None none room = none_past e
  planned_by true e (Some recorded) none room = absurd (cc)
  planned_by false e None none room = none_placed none
  planned_by false e (Some recorded) has room = store_planned e recorded has room

  pub plans_store : (recorded : Option Recorded) → IsRecordIn journal p.past p.change recorded → IfSome recorded (RecordFits position)
      → IsStorePlanned position journal object extent moment (option_map (store_plan_of p) recorded)
  plans_store recorded has room =
      planned_by p.past refl recorded
      (subst (λ (c : Option Change). IsRecordIn journal p.past c recorded) (change_is library object extent moment p good at found is) has) room

-- ---- the answer to bytes that come

-- those of an allocated object, which have a place, are stored with their digest
put_is : (library : Library) (held : List (List ℕ)) (object bytes : List ℕ) (extent : Extent) (moment : ℕ) → IsAllocated (object_of object library.objects)
    → free_place library.objects library.blocks (blocks_of extent.length) ≡ Some extent.start → length bytes ≡ extent.length
    → put_media_answer library held object bytes moment ≡ storing object extent moment (digest_of bytes)
put_is library held object bytes extent moment found place size =
    let again = stored_put (bytes_eq (bytes_of object library.objects held) bytes) in
    let first = placed_put (free_place library.objects library.blocks (blocks_of (length bytes))) object bytes moment in
    ap (λ (o : Option ObjectRow). put_answer_by o first again) found.kept
    ∙ ap (λ (s : ObjectState). put_by_state s first again) found.state
    ∙ ap (λ (n : ℕ). placed_put (free_place library.objects library.blocks (blocks_of n)) object bytes moment) size
    ∙ ap (λ (o : Option ℕ). placed_put o object bytes moment) place
    ∙ ap (λ (n : ℕ). changed Created (changes.Store moment object extent.start n (Some (digest_of bytes)))) size

module _ (position : Position) (library : Library) (object : List ℕ) (extent : Extent) (moment : ℕ) (plan : StorePlan)
    (place : free_place library.objects library.blocks (blocks_of extent.length) ≡ Some extent.start)
    (is : IsStorePlan position (journal_in library position) object extent moment plan) where
  -- their plan is the one with their digest
  pub write_plan : IsAllocated (object_of object library.objects) → (archive : Archive) (bytes : List ℕ) → archive.library ≡ library
      → length bytes ≡ extent.length
      → IsPlanOf (journal_in library position) (answer_to archive (puts object bytes) moment) (planned_with (digest_of bytes) plan)
  write_plan found archive bytes same size =
      let made : put_media_answer archive.library archive.held object bytes moment ≡ storing object extent moment (digest_of bytes) =
      ap (λ (l : Library). put_media_answer l archive.held object bytes moment) same
      ∙ put_is library archive.held object bytes extent moment found place size in
      subst (λ (o : Outcome). IsPlanOf (journal_in library position) o (planned_with (digest_of bytes) plan)) (sym made)
      (fits_plan (journal_in library position) (storing object extent moment (digest_of bytes)) (planned_with (digest_of bytes) plan)
      (is.fits (digest_of bytes), is.makes (digest_of bytes) (digests_have_halves bytes)))

  -- they take the least free place
  pub takes_extent : PlacesAreLeast → TakesExtent (journal_in library position) object extent.length moment extent plan
  takes_extent least =
      let count = blocks_of extent.length in
      let at : IsLeastPlace library.objects library.blocks count extent.start =
      subst (λ (o : Option ℕ). MatchOption o (HasNoPlace library.objects library.blocks count) (IsLeastPlace library.objects library.blocks count)) place
      (least library.objects library.blocks count) in
      let free = and_parts (nat_le (extent.start + count) library.blocks) (list_all (λ (row : ObjectRow). is_clear_of extent.start count row.state) library.objects)
      at.free in
      record {
        sized = refl;
        least = place;
        clear = free.1;
        within = grind (arith, nat_tests);
        makes = λ digest halves. (is.makes digest halves).step;
        takes = is.takes;
      }
