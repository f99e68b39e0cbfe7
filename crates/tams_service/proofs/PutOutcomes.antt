-- What the machine answers to a media PUT, by the plan of its put.
use Rattle.std.proofs.Common.{◌≡◌, ◌≢◌, ◌++◌, ◌==◌, ◌&&◌, ℕ, Bool, true, false, cond, if◌then◌else◌, List, [], ◌∷◌, length, take, Option, Some, None, inl, inr, refl, sym, ap, ◌∙◌, arith}
use Rattle.std.specs.Prelude.{bytes_eq, option_map, option_to_list}
use Rattle.std.proofs.lemmas.Bool.{and_parts, cases_eq, eq-eqb, eqb-true, false≢true}
use Rattle.std.proofs.lemmas.List.{take_all}
use Rattle.std.proofs.lemmas.Slice.Eq.{bytes_eq-Decides}
use Rattle.http_wire.specs.Framing.{method_kind}
use Rattle.http_wire.specs.Response.{body_unless}
use Rattle.media_rows.specs.declared.change.Change.{Change}
use Rattle.media_rows.specs.declared.change.Change.TheVariants as changes
use Rattle.media_rows.specs.declared.object.Digest.{Digest}
use Rattle.media_rows.specs.declared.object.Extent.{Extent}
use Rattle.media_rows.specs.declared.object.ObjectRow.{ObjectRow}
use Rattle.media_rows.specs.declared.object.ObjectState.{ObjectState}
use Rattle.media_rows.specs.declared.object.ObjectState.TheVariants.{Allocated, Stored}
use Rattle.media_rows.specs.declared.refusal.Refusal.TheVariants as refusals
use Rattle.media_rows.specs.declared.reply.Reply.{Reply}
use Rattle.media_rows.specs.declared.reply.Reply.TheVariants as replies
use Rattle.media_rows.specs.Answer.{Outcome, changed, placed_put, put_answer_by, stored_put, unchanged}
use Rattle.library_laws.specs.MediaLaws.{IsGoodArchive, bytes_in}
use Rattle.media_rows.specs.Digests.{digest_of}
use Rattle.media_rows.specs.Media.{Archive}
use Rattle.media_rows.specs.Objects.{are_bytes_of, bytes_of, fits_state, object_of}
use Rattle.change_codec.specs.Fitting.{State, fits}
use Rattle.store_states.specs.Fitting.{fitted}
use Rattle.store_states.specs.States.{held_in, state_bytes}
use Rattle.store_plans.specs.declared.outcome.Planned.{Planned}
use Rattle.store_plans.specs.Plans.{IsStoredAt, MakesStep}
use Rattle.tams_http.specs.Answered.{response_to}
use Rattle.tams_machine.specs.Answers.{asked_in, object_bytes, outcome_of, state_with_change}
use Rattle.tams_machine.specs.Requests.{TamsRequest, context_of, is_head_only}
use Rattle.tams_answers.proofs.Following.{found_bytes}
use Rattle.tams_service.specs.Answering.{IsMachineReply, RunPlace}

-- ---- the change of bytes that are stored

by_fit : (b : Bool) (change : Change) → (cond b (changed replies.Created change) (unchanged (replies.Refused refusals.JournalFull))).change ≢ None
    → (cond b (changed replies.Created change) (unchanged (replies.Refused refusals.JournalFull))).change ≡ Some change
by_fit true change some = refl
by_fit false change some = absurd (some refl)

by_state : (journal : State) (state : ObjectState) (b : Bool) (object bytes : List ℕ) (moment start : ℕ)
    → (fitted journal (Rattle.media_rows.specs.Answer.put_by_state state (placed_put (Some start) object bytes moment) (stored_put b))).change ≢ None
    → (fitted journal (Rattle.media_rows.specs.Answer.put_by_state state (placed_put (Some start) object bytes moment) (stored_put b))).change
    ≡ Some (changes.Store moment object start (length bytes) (Some (digest_of bytes)))
by_state journal Allocated b object bytes moment start some =
    let change = changes.Store moment object start (length bytes) (Some (digest_of bytes)) in
    by_fit (fits journal change) change some
by_state journal (Stored at n digest) b object bytes moment start some = absurd (some refl)

-- Where there is a change, it stores the object at the place that is free.
pub put_change : (journal : State) (row : Option ObjectRow) (b : Bool) (object bytes : List ℕ) (moment start : ℕ)
    → (fitted journal (put_answer_by row (placed_put (Some start) object bytes moment) (stored_put b))).change ≢ None
    → (fitted journal (put_answer_by row (placed_put (Some start) object bytes moment) (stored_put b))).change
    ≡ Some (changes.Store moment object start (length bytes) (Some (digest_of bytes)))
put_change journal None b object bytes moment start some = absurd (some refl)
put_change journal (Some row) b object bytes moment start some = by_state journal row.state b object bytes moment start some

-- a plan with a record makes a change
pub step_there : (journal : State) (change : Option Change) (planned : Planned) → MakesStep journal change planned → planned.frame ≢ None → change ≢ None
step_there journal None planned step some none = some step.frame
step_there journal (Some change) planned step some none = let no : Some change ≡ None = none in cc

-- ---- the bytes of an object that is stored

-- those in an image that has the bytes of all objects
pub stored_bytes : (image : List ℕ) (area : ℕ) (objects : List ObjectRow) (held : List (List ℕ)) (object : List ℕ) (extent : Extent)
    → held_in image area objects ≡ held → IsStoredAt objects object extent
    → bytes_of object objects held ≡ Rattle.object_blobs.specs.Extents.extent_bytes area extent image
stored_bytes image area objects held object extent has at =
    ap (bytes_of object objects) (sym has) ∙ found_bytes image area object objects ∙ ap (by_row) at.kept ∙ ap (state_bytes image area) at.stored
  where
    by_row : Option ObjectRow → List ℕ
    by_row None = []
    by_row (Some row) = state_bytes image area row.state

own_length : (objects : List ObjectRow) (held : List (List ℕ)) (object : List ℕ) (row : ObjectRow) (start size : ℕ) (digest : Option Digest) → are_bytes_of objects held ≡ true
    → object_of object objects ≡ Some row → row.state ≡ Stored start size digest → length (bytes_of object objects held) ≡ size
own_length [] held object row start size digest fits is stored = absurd cc
own_length (first ∷ rows) [] object row start size digest fits is stored = absurd (false≢true fits)
own_length (first ∷ rows) (bytes ∷ more) object row start size digest fits is stored =
    let parts = and_parts (fits_state first.state bytes) (are_bytes_of rows more) fits in
    by_test parts.0 (λ there. own_length rows more object row start size digest parts.1 there stored) (bytes_eq first.id object) is
  where
    by_test : fits_state first.state bytes ≡ true → (object_of object rows ≡ Some row → length (bytes_of object rows more) ≡ size) → (b : Bool)
        → (if b then Some first else object_of object rows) ≡ Some row → length (if b then bytes else bytes_of object rows more) ≡ size
    by_test here later true same =
        let first_is : first ≡ row = cc in
        eqb-true (length bytes) size (ap (λ state. fits_state state bytes) (sym (ap (λ (o : ObjectRow). o.state) first_is ∙ stored)) ∙ here)
    by_test here later false there = later there

-- they have the length of its extent
pub stored_length : (archive : Archive) (object : List ℕ) (extent : Extent) → IsGoodArchive archive → IsStoredAt archive.library.objects object extent
    → length (bytes_in archive object) ≡ extent.length
stored_length archive object extent good at =
    own_length archive.library.objects archive.held object at.row extent.start extent.length at.digest good.held at.kept at.stored

no_test : (test more : Bool) → (test ≡ true → ⊥) → (test && more) ≡ false
no_test true more apart = absurd (apart refl)
no_test false more apart = refl

-- Bytes that were compared as far as they are as many are the same exactly where they are the same.
pub compared : (size : ℕ) (kept body : List ℕ) → size ≡ length body → ((length kept == size) && bytes_eq (take (length body) kept) body) ≡ bytes_eq kept body
compared size kept body is = elim (cases_eq (length kept) size) [
  | inl same ↦
      let whole : take (length body) kept ≡ kept = take_all (length body) kept (omega (arith, same, is)) in
      rw (eq-eqb (length kept) size same, whole) refl
  | inr apart ↦
      let other : bytes_eq kept body ≡ false = grind (arith, bytes_eq-Decides kept body, apart, is) in
      rw other (no_test (length kept == size) (bytes_eq (take (length body) kept) body) (λ same. apart (eqb-true (length kept) size same)))
]

-- ---- the reply

no_body : (head_only : Bool) → body_unless head_only [] ≡ []
no_body true = refl
no_body false = refl

-- An outcome with its response is the machine's reply, behind which no bytes follow.
pub reply_is : (p : RunPlace) (r : TamsRequest) (moment : ℕ) (o : Outcome) (response : List ℕ) → outcome_of p.state r moment ≡ o
    → response ≡ response_to (context_of p.state.archive.library.id p.base r) o.reply
    → ((reply : Reply) → object_bytes p.state.archive (asked_in p.state r) reply ≡ [])
    → IsMachineReply p r moment (response ++ []) (option_to_list (option_map (λ c. state_with_change p.state c r.body) o.change))
reply_is p r moment o response is same none = record {
  bytes_are =
      ap (λ (x : Outcome). response_to (context_of p.state.archive.library.id p.base r) x.reply
      ++ body_unless (is_head_only (method_kind r.head.method)) (object_bytes p.state.archive (asked_in p.state r) x.reply)) is
      ∙ ap (λ text. text ++ body_unless (is_head_only (method_kind r.head.method)) (object_bytes p.state.archive (asked_in p.state r) o.reply)) (sym same)
      ∙ ap (λ bytes. response ++ body_unless (is_head_only (method_kind r.head.method)) bytes) (none o.reply)
      ∙ ap (λ bytes. response ++ bytes) (no_body (is_head_only (method_kind r.head.method)));
  states_are = ap (λ (x : Outcome). option_to_list (option_map (λ c. state_with_change p.state c r.body) x.change)) is;
}
