-- The bytes of objects fit and stay over each change, and a put takes the least place.
use Rattle.std.proofs.Common.{◌≡◌, ◌⊎◌, inl, inr, ℕ, ◌<◌, Bool, true, false, cond, List, [], ◌∷◌, map, length, Option, Some, None, refl, sym, ap, subst, ◌∙◌}
use Rattle.std.specs.Prelude.{◌==◌, ◌||◌, bytes_eq, not, is_none, is_some, IfSome, IsFalse, MatchOption}
use Rattle.std.specs.List.{list_all}
use Rattle.std.proofs.lemmas.Bool.{and_parts, and_from, not-true, false≢true}
use Rattle.media_rows.specs.declared.change.Change.{Change}
use Rattle.media_rows.specs.declared.change.Change.TheVariants as changes
use Rattle.media_rows.specs.declared.object.Digest.{Digest}
use Rattle.media_rows.specs.declared.object.ObjectRow.{ObjectRow}
use Rattle.media_rows.specs.declared.object.ObjectState.{ObjectState}
use Rattle.media_rows.specs.declared.object.ObjectState.TheVariants.{Allocated, Stored}
use Rattle.media_rows.specs.declared.reply.Reply.{Reply}
use Rattle.media_rows.specs.Answer.{unchanged, keep_refusal, keep_state, placed_put, put_by_state, put_answer_by, first_taken, is_kept_object, change_refusal}
use Rattle.media_rows.specs.Apply.{is_allowed, applied, passes_serials}
use Rattle.media_rows.specs.Changes.{after}
use Rattle.media_rows.specs.Digests.{digest_of}
use Rattle.media_rows.specs.Good.{Good, are_object_ids_distinct}
use Rattle.media_rows.specs.Library.{Library}
use Rattle.media_rows.specs.Lists.{has_text}
use Rattle.media_rows.specs.Media.{Archive, asks, puts, gets, answer_to, archive_after, bytes_after, fits_bytes, HasDigests, IsDigestOf, NamesDigest}
use Rattle.media_rows.specs.Moments.{is_moment}
use Rattle.media_rows.specs.Objects.{object_of, digest_in_state, is_stored, is_free, blocks_of, free_place, stored_row, with_object, fits_state, are_bytes_of, bytes_of}
use Rattle.library_laws.specs.Laws.{IsLeastPlace}
use Rattle.library_laws.specs.MediaLaws.{IsGoodArchive, BytesFit, BytesStay, DigestsStay, bytes_in, TakesPlace, PutsApply, QuestionsApply}
use Rattle.library_laws.proofs.AppliesLemmas.{answers_apply, zero_or_more}
use Rattle.library_laws.proofs.ChangesKept.{changes_apply}
use Rattle.library_laws.proofs.FirstBytes.{first_bytes_stay, same_id, allocated_one}
use Rattle.library_laws.proofs.KeptLemmas.{chosen, passed, same_text, text_same}
use Rattle.library_laws.proofs.ListLemmas.{In, In-map, map-In, find-In, list_all-In, In-from_Contains, Contains-from_In}
use Rattle.library_laws.proofs.ObjectsCome.{Came, kept, made, stored, came}
use Rattle.library_laws.proofs.OutboxKept.{Names-from}
use Rattle.library_laws.proofs.PlaceLemmas.{places_are_least}

-- ---- bytes along objects

-- each object has its own bytes, where no two have one id
own_bytes : (objects : List ObjectRow) (held : List (List ℕ)) → are_bytes_of objects held ≡ true → are_object_ids_distinct objects ≡ true → (row : ObjectRow)
    → In row objects
    → fits_state row.state (bytes_of row.id objects held) ≡ true
own_bytes [] held fits distinct row here = absurd here
own_bytes (first ∷ rows) [] fits distinct row here = absurd (false≢true fits)
own_bytes (first ∷ rows) (bytes ∷ more) fits distinct row (inl same) =
    let parts = and_parts (fits_state first.state bytes) (are_bytes_of rows more) fits in
    let own : bytes_of row.id (first ∷ rows) (bytes ∷ more) ≡ bytes =
    ap (λ (r : ObjectRow). bytes_of r.id (first ∷ rows) (bytes ∷ more)) same
    ∙ chosen (bytes_eq first.id first.id) bytes (bytes_of first.id rows more) (text_same first.id) in
    ap (λ (r : ObjectRow). fits_state r.state (bytes_of row.id (first ∷ rows) (bytes ∷ more))) same ∙ ap (fits_state first.state) own ∙ parts.0
own_bytes (first ∷ rows) (bytes ∷ more) fits distinct row (inr there) =
    let parts = and_parts (fits_state first.state bytes) (are_bytes_of rows more) fits in
    let apart = and_parts (list_all (λ id. not (bytes_eq first.id id)) (map (λ row. row.id) rows)) (are_object_ids_distinct rows) distinct in
    let other = not-true (bytes_eq first.id row.id) (list_all-In (λ id. not (bytes_eq first.id id)) (map (λ row. row.id) rows) apart.0 row.id
    (map-In (λ (r : ObjectRow). r.id) rows row there)) in
    ap (fits_state row.state) (passed (bytes_eq first.id row.id) bytes (bytes_of row.id rows more) other) ∙ own_bytes rows more parts.1 apart.1 row there

-- an object that isn't kept has none
none_step : (b : Bool) (r : ObjectRow) (o : Option ObjectRow) (x y : List ℕ) → is_none (cond b (Some r) o) ≡ true → (is_none o ≡ true → y ≡ []) → cond b x y
    ≡ []
none_step true r o x y e h = absurd (false≢true e)
none_step false r o x y e h = h e

no_bytes : (id : List ℕ) (objects : List ObjectRow) (held : List (List ℕ)) → is_none (object_of id objects) ≡ true → bytes_of id objects held ≡ []
no_bytes id [] held none = refl
no_bytes id (first ∷ rows) [] none = refl
no_bytes id (first ∷ rows) (bytes ∷ more) none =
    none_step (bytes_eq first.id id) first (object_of id rows) bytes (bytes_of id rows more) none (λ later. no_bytes id rows more later)

-- bytes that are a function of each object's id
along : (rows : List ObjectRow) (f : List ℕ → List ℕ) → ((row : ObjectRow) → In row rows → fits_state row.state (f row.id) ≡ true)
    → are_bytes_of rows (map (λ row. f row.id) rows) ≡ true
along [] f h = refl
along (row ∷ rows) f h = and_from _ _ (h row (inl refl)) (along rows f (λ other there. h other (inr there)))

along_step : (b : Bool) (first row : ObjectRow) (rows : List ObjectRow) (f : List ℕ → List ℕ) (rest : List ℕ) → bytes_eq first.id row.id ≡ b
    → In row (first ∷ rows) → (In row rows → rest ≡ f row.id)
    → cond b (f first.id) rest ≡ f row.id
along_step true first row rows f rest is here h = ap f (same_text first.id row.id is)
along_step false first row rows f rest is (inl same) h = absurd (false≢true (sym is ∙ ap (λ (r : ObjectRow). bytes_eq first.id r.id) same ∙ text_same first.id))
along_step false first row rows f rest is (inr there) h = h there

pub bytes_along : (rows : List ObjectRow) (f : List ℕ → List ℕ) (row : ObjectRow) → In row rows → bytes_of row.id rows (map (λ row. f row.id) rows) ≡ f row.id
bytes_along [] f row here = absurd here
bytes_along (first ∷ rows) f row here =
    along_step (bytes_eq first.id row.id) first row rows f (bytes_of row.id rows (map (λ row. f row.id) rows)) refl here (λ there. bytes_along rows f row there)

-- ---- bytes that come

-- a change stores the object of an id
record Stores (change : Change) (id : List ℕ) : Type 0 where
  moment : ℕ
  start : ℕ
  size : ℕ
  digest : Option Digest
  is : change ≡ changes.Store moment id start size digest

by_id : (b : Bool) (moment start size : ℕ) (digest : Option Digest) (given : List ℕ) (archive : Archive) (id object : List ℕ) → bytes_eq id object ≡ b
    → (cond b given (bytes_of id archive.library.objects archive.held) ≡ bytes_of id archive.library.objects archive.held) ⊎ Stores
    (changes.Store moment object start size digest) id
by_id true moment start size digest given archive id object is =
    inr (record { moment = moment; start = start; size = size; digest = digest; is = ap (λ o. changes.Store moment o start size digest) (sym (same_text id object is)) })
by_id false moment start size digest given archive id object is = inl refl

-- the bytes of an object after a change are those of before, or the change stores it
cases_of : (change : Change) (given : List ℕ) (archive : Archive) (id : List ℕ)
    → (bytes_after change given archive id ≡ bytes_of id archive.library.objects archive.held) ⊎ Stores change id
cases_of (changes.PutFlow moment flow) given archive id = inl refl
cases_of (changes.SetFlow moment flow part) given archive id = inl refl
cases_of (changes.SetSource moment source part) given archive id = inl refl
cases_of (changes.DropFlow moment flow) given archive id = inl refl
cases_of (changes.Allocate moment flow ids) given archive id = inl refl
cases_of (changes.Store moment object start size digest) given archive id = by_id (bytes_eq id object) moment start size digest given archive id object refl
cases_of (changes.AddSegments moment flow posts) given archive id = inl refl
cases_of (changes.CutSegments moment flow range) given archive id = inl refl
cases_of (changes.AskDelete moment flow range delete_flow) given archive id = inl refl
cases_of (changes.DeleteStep moment) given archive id = inl refl
cases_of (changes.SweepStep moment) given archive id = inl refl
cases_of (changes.PutHook moment hook) given archive id = inl refl
cases_of (changes.DropHook moment url) given archive id = inl refl
cases_of (changes.Delivered moment event) given archive id = inl refl

-- the object of an id is at the place at which its bytes were stored
state_step : (b : Bool) (id : List ℕ) (start size : ℕ) (digest : Option Digest) (moment : ℕ) (row old : ObjectRow) → bytes_eq old.id id ≡ b → row
    ≡ cond b (stored_row start size digest moment old) old → row.id ≡ id → row.state ≡ Stored start size digest
state_step true id start size digest moment row old is e same = ap (λ (r : ObjectRow). r.state) e
state_step false id start size digest moment row old is e same =
    absurd (false≢true (sym is ∙ ap (λ t. bytes_eq t id) (sym (ap (λ (r : ObjectRow). r.id) e) ∙ same) ∙ text_same id))

stored_state : (objects : List ObjectRow) (id : List ℕ) (start size : ℕ) (digest : Option Digest) (moment : ℕ) (row : ObjectRow)
    → In row (with_object id (stored_row start size digest moment) objects) → row.id
    ≡ id → row.state ≡ Stored start size digest
stored_state objects id start size digest moment row here same =
    let old = In-map (λ row. cond (bytes_eq row.id id) (stored_row start size digest moment row) row) objects row here in
    state_step (bytes_eq old.0.id id) id start size digest moment row old.0 refl old.2 same

-- bytes that come have the length of the object that is stored
given_fits : (archive : Archive) (given : List ℕ) (row : ObjectRow) (moment start size : ℕ) (digest : Option Digest)
    → In row (after (changes.Store moment row.id start size digest) archive.library).objects
    → fits_bytes (changes.Store moment row.id start size digest) given ≡ true
    → fits_state row.state (bytes_after (changes.Store moment row.id start size digest) given archive row.id) ≡ true
given_fits archive given row moment start size digest here fits =
    ap (λ s. fits_state s (bytes_after (changes.Store moment row.id start size digest) given archive row.id))
    (stored_state archive.library.objects row.id start size digest moment row here refl)
    ∙ ap (λ b. length b == size) (chosen (bytes_eq row.id row.id) given (bytes_of row.id archive.library.objects archive.held) (text_same row.id)) ∙ fits

stores_fit : (archive : Archive) (change : Change) (given : List ℕ) (row : ObjectRow) → Stores change row.id → In row (after change archive.library).objects
    → fits_bytes change given ≡ true
    → fits_state row.state (bytes_after change given archive row.id) ≡ true
stores_fit archive change given row s here fits =
    subst (λ c. In row (after c archive.library).objects → fits_bytes c given ≡ true → fits_state row.state (bytes_after c given archive row.id) ≡ true)
    (sym s.is)
    (given_fits archive given row s.moment s.start s.size s.digest) here fits

-- ---- bytes that fit

-- an id of an allocation isn't kept
taken_first : (taken known : Bool) (id : List ℕ) (rest : Option (List ℕ)) → is_none (cond (taken || known) (Some id) rest) ≡ true → (taken ≡ false)
    × (is_none rest ≡ true)
taken_first true known id rest e = absurd (false≢true e)
taken_first false true id rest e = absurd (false≢true e)
taken_first false false id rest e = (refl, e)

untaken : (taken : List ℕ → Bool) (earlier ids : List (List ℕ)) → is_none (first_taken taken earlier ids) ≡ true → (id : List ℕ) → In id ids → taken id ≡ false
untaken taken earlier [] e id here = absurd here
untaken taken earlier (first ∷ later) e id (inl same) = ap taken same
    ∙ (taken_first (taken first) (has_text first earlier) first (first_taken taken (first ∷ earlier) later) e).0
untaken taken earlier (first ∷ later) e id (inr there) =
    untaken taken (first ∷ earlier) later (taken_first (taken first) (has_text first earlier) first (first_taken taken (first ∷ earlier) later) e).1 id there

no_such : (o : Option ObjectRow) → is_some o ≡ false → is_none o ≡ true
no_such None e = refl
no_such (Some row) e = absurd (false≢true (sym e))

new_is_new : (library : Library) (change : Change) (moment flow : ℕ) (ids : List (List ℕ)) (id : List ℕ) → change ≡ changes.Allocate moment flow ids
    → is_allowed library change ≡ true → In id ids
    → is_none (object_of id library.objects) ≡ true
new_is_new library change moment flow ids id is allowed among =
    let parts = and_parts (is_none (change_refusal library flow)) (is_none (first_taken (is_kept_object library) [] ids))
    (ap (is_allowed library) (sym is) ∙ allowed) in
    no_such (object_of id library.objects) (untaken (is_kept_object library) [] ids parts.1 id among)

old_fits : (archive : Archive) (change : Change) (given : List ℕ) (row : ObjectRow) → IsGoodArchive archive → is_allowed archive.library change ≡ true
    → fits_bytes change given ≡ true
    → In row (after change archive.library).objects → bytes_after change given archive row.id ≡ bytes_of row.id archive.library.objects archive.held
    → Came archive.library change row
    → fits_state row.state (bytes_after change given archive row.id) ≡ true
old_fits archive change given row good allowed fits here same (kept old there serial id state) =
    ap (fits_state row.state) same ∙ ap (λ s. fits_state s (bytes_of row.id archive.library.objects archive.held)) state
    ∙ ap (λ i. fits_state old.state (bytes_of i archive.library.objects archive.held)) id
    ∙ own_bytes archive.library.objects archive.held good.held (Names-from archive.library good.good.names).objects old there
old_fits archive change given row good allowed fits here same (made moment flow ids is among state) =
    ap (fits_state row.state) (same ∙ no_bytes row.id archive.library.objects archive.held
    (new_is_new archive.library change moment flow ids row.id is allowed among))
    ∙ ap (λ s. fits_state s []) state
old_fits archive change given row good allowed fits here same (stored moment start size digest is state) =
    stores_fit archive change given row (record { moment = moment; start = start; size = size; digest = digest; is = is }) here fits

row_fits : (archive : Archive) (change : Change) (given : List ℕ) → IsGoodArchive archive → is_allowed archive.library change ≡ true → fits_bytes change given
    ≡ true → (row : ObjectRow)
    → In row (after change archive.library).objects → fits_state row.state (bytes_after change given archive row.id) ≡ true
row_fits archive change given good allowed fits row here =
    elim (cases_of change given archive row.id) [
      | inl same ↦ old_fits archive change given row good allowed fits here same (came archive.library change row here)
      | inr s ↦ stores_fit archive change given row s here fits
    ]

pub bytes_fit : BytesFit
bytes_fit archive change given good allowed fits =
    along (after change archive.library).objects (bytes_after change given archive) (row_fits archive change given good allowed fits)

-- ---- bytes that stay

not_again : (archive : Archive) (change : Change) (old : ObjectRow) (id : List ℕ) → IsGoodArchive archive → is_allowed archive.library change ≡ true
    → In old archive.library.objects → id ≡ old.id
    → is_stored old.state ≡ true → Stores change id → ⊥
not_again archive change old id good allowed here same st s =
    let library : Library = archive.library in
    let parts = and_parts (is_none (keep_refusal (object_of id library.objects))) (is_free library.objects library.blocks (blocks_of s.size) s.start)
    (ap (is_allowed library) (sym s.is) ∙ allowed) in
    let one = allocated_one (object_of id library.objects) parts.0 in
    let at = find-In (λ r. bytes_eq r.id id) library.objects one.0 one.1 in
    let e = same_id library.objects (Names-from library good.good.names).objects old one.0 here at.0 (sym same ∙ sym (same_text one.0.id id at.1)) in
    false≢true (sym one.2 ∙ sym (ap (λ (r : ObjectRow). is_stored r.state) e) ∙ st)

pub bytes_stay : BytesStay
bytes_stay archive change given good allowed old new here there serial st =
    let same = first_bytes_stay archive.library change good.good allowed old new here there serial st in
    let own = bytes_along (after change archive.library).objects (bytes_after change given archive) new
    (In-from_Contains (after change archive.library).objects new there) in
    elim (cases_of change given archive new.id) [
      | inl e ↦ own ∙ e ∙ ap (λ i. bytes_of i archive.library.objects archive.held) same.0
      | inr s ↦ absurd (not_again archive change old new.id good allowed (In-from_Contains archive.library.objects old here) same.0 st s)
    ]

-- ---- digests that stay

-- a kept object has the digest and the bytes that it had
digest_kept : (archive : Archive) (change : Change) (given : List ℕ) (row old : ObjectRow) → HasDigests archive → In old archive.library.objects
    → row.state ≡ old.state → is_stored row.state ≡ true
    → bytes_in (archive_after change given archive) row.id ≡ bytes_in archive old.id
    → IsDigestOf (bytes_in (archive_after change given archive) row.id) (digest_in_state row.state)
digest_kept archive change given row old has here state st same =
    let was = has old (Contains-from_In archive.library.objects old here) (sym (ap is_stored state) ∙ st) in
    ap digest_in_state state ∙ was ∙ ap (λ bytes. Some (digest_of bytes)) (sym same)

-- the object that a change stores has the bytes that came
stored_bytes : (archive : Archive) (change : Change) (given id : List ℕ) (s : Stores change id) → bytes_after change given archive id ≡ given
stored_bytes archive change given id s =
    ap (λ c. bytes_after c given archive id) s.is ∙ chosen (bytes_eq id id) given (bytes_of id archive.library.objects archive.held) (text_same id)

digest_after : (archive : Archive) (change : Change) (given : List ℕ) → IsGoodArchive archive → is_allowed archive.library change ≡ true
    → NamesDigest change given → HasDigests archive → (row : ObjectRow)
    → In row (after change archive.library).objects → is_stored row.state ≡ true → Came archive.library change row
    → IsDigestOf (bytes_in (archive_after change given archive) row.id) (digest_in_state row.state)
digest_after archive change given good allowed names has row here st (kept old there serial id state) =
    digest_kept archive change given row old has there state st
    (bytes_stay archive change given good allowed old row (Contains-from_In archive.library.objects old there)
    (Contains-from_In (after change archive.library).objects row here) serial (sym (ap is_stored state) ∙ st))
digest_after archive change given good allowed names has row here st (made moment flow ids is among state) = absurd (false≢true (sym (ap is_stored state) ∙ st))
digest_after archive change given good allowed names has row here st (stored moment start size digest is state) =
    let s : Stores change row.id = record { moment = moment; start = start; size = size; digest = digest; is = is } in
    let own = bytes_along (after change archive.library).objects (bytes_after change given archive) row here ∙ stored_bytes archive change given row.id s in
    let named : digest ≡ Some (digest_of given) = subst (λ c. NamesDigest c given) is names in
    ap digest_in_state state ∙ named ∙ ap (λ bytes. Some (digest_of bytes)) (sym own)

pub digests_stay : DigestsStay
digests_stay archive change given good allowed names has row here st =
    let there = In-from_Contains (after change archive.library).objects row here in
    digest_after archive change given good allowed names has row there st (came archive.library change row there)

-- ---- a put

takes : (library : Library) (object bytes : List ℕ) (moment : ℕ) → Good library → is_moment moment ≡ true → (row : ObjectRow) → object_of object library.objects
    ≡ Some row → row.state ≡ Allocated
    → (start : ℕ) → IsLeastPlace library.objects library.blocks (blocks_of (length bytes)) start
    → TakesPlace library object bytes moment (changes.Store moment object start (length bytes) (Some (digest_of bytes)))
takes library object bytes moment good at row is state start least =
    let refused : is_none (keep_refusal (object_of object library.objects)) ≡ true = ap (λ o. is_none (keep_refusal o)) is
    ∙ ap (λ s. is_none (keep_state s)) state in
    record {
      start = start;
      is = refl;
      least = least;
      applies = changes_apply library (changes.Store moment object start (length bytes) (Some (digest_of bytes))) good (and_from _ _ refused least.free)
          (record { at = at; values = zero_or_more (length bytes) start least.zero; serials = (Names-from library good.names).most });
    }

placed : (library : Library) (object bytes : List ℕ) (moment : ℕ) → Good library → is_moment moment ≡ true → (row : ObjectRow)
    → object_of object library.objects ≡ Some row → row.state ≡ Allocated
    → (p : Option ℕ) → MatchOption p ((place : ℕ) → place < library.blocks → IsFalse (is_free library.objects library.blocks (blocks_of (length bytes)) place))
    (IsLeastPlace library.objects library.blocks (blocks_of (length bytes)))
    → IfSome (placed_put p object bytes moment).change (TakesPlace library object bytes moment)
placed library object bytes moment good at row is state None least = tt
placed library object bytes moment good at row is state (Some start) least = takes library object bytes moment good at row is state start least

by_state : (library : Library) (object bytes : List ℕ) (moment : ℕ) → Good library → is_moment moment ≡ true → (row : ObjectRow)
    → object_of object library.objects ≡ Some row
    → (state : ObjectState) → row.state ≡ state → (again : Reply)
    → IfSome (put_by_state state (placed_put (free_place library.objects library.blocks (blocks_of (length bytes))) object bytes moment)
    (unchanged again)).change (TakesPlace library object bytes moment)
by_state library object bytes moment good at row is Allocated state again =
    placed library object bytes moment good at row is state (free_place library.objects library.blocks (blocks_of (length bytes)))
    (places_are_least library.objects library.blocks (blocks_of (length bytes)))
by_state library object bytes moment good at row is (Stored start size digest) state again = tt

by_object : (library : Library) (object bytes : List ℕ) (moment : ℕ) → Good library → is_moment moment ≡ true → (o : Option ObjectRow)
    → object_of object library.objects ≡ o → (again : Reply)
    → IfSome (put_answer_by o (placed_put (free_place library.objects library.blocks (blocks_of (length bytes))) object bytes moment)
    (unchanged again)).change (TakesPlace library object bytes moment)
by_object library object bytes moment good at None is again = tt
by_object library object bytes moment good at (Some row) is again = by_state library object bytes moment good at row is row.state refl again

pub puts_apply : PutsApply
puts_apply archive object bytes moment good at = by_object archive.library object bytes moment good at (object_of object archive.library.objects) refl _

put_applies : (library : Library) (object bytes : List ℕ) (moment : ℕ) (o : Option Change) → IfSome o (TakesPlace library object bytes moment)
    → IfSome o (λ change. IsFalse (passes_serials change library) → applied change library ≡ Some (after change library))
put_applies library object bytes moment None takes = tt
put_applies library object bytes moment (Some change) takes = λ room. takes.applies

pub questions_apply : QuestionsApply
questions_apply archive (asks command) moment good fine at = answers_apply archive.library command moment good fine at
questions_apply archive (puts object bytes) moment good fine at =
    put_applies archive.library object bytes moment (answer_to archive (puts object bytes) moment).change (puts_apply archive object bytes moment good at)
questions_apply archive (gets object) moment good fine at = tt
