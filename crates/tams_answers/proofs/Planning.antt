-- What is planned for what a request asks for has the machine's reply, which can be printed, and brings no bytes of an object.
use Rattle.std.proofs.Common.{◌≡◌, ◌∙◌, ℕ, Bool, true, false, List, [], Option, Some, None, Ok, refl, sym, ap, subst, true≢false}
use Rattle.std.specs.Prelude.{Contains, IfSome, cond, unwrap_or, if◌then◌else◌}
use Rattle.std.proofs.lemmas.Bool.{cond_both}
use Rattle.json_replies.specs.Texts.{has_reply_texts}
use Rattle.library_laws.proofs.MediaGiven.{same_digest}
use Rattle.library_laws.proofs.ListLemmas.{Contains-from_In, find-In}
use Rattle.media_rows.specs.declared.command.Command.{Command}
use Rattle.media_rows.specs.declared.command.Command.TheVariants as commands
use Rattle.media_rows.specs.declared.object.Extent.{Extent}
use Rattle.media_rows.specs.declared.object.Digest.{Digest}
use Rattle.media_rows.specs.declared.object.ObjectRow.{ObjectRow}
use Rattle.media_rows.specs.declared.object.ObjectState.{ObjectState}
use Rattle.media_rows.specs.declared.object.ObjectState.TheVariants.{Allocated, Stored}
use Rattle.media_rows.specs.declared.reply.Reply.{Reply}
use Rattle.media_rows.specs.declared.reply.Reply.TheVariants.{Accepted, Created, CreatedObjects, Done, Media, Partly, Refused, Shown}
use Rattle.media_rows.specs.declared.refusal.Refusal.TheVariants.{ObjectDamaged}
use Rattle.media_rows.specs.Answer.{answer, digest_eq, media_answer, media_reply, unchanged, whole_media}
use Rattle.media_rows.specs.Digests.{digest_of}
use Rattle.media_rows.specs.Good.{Good}
use Rattle.media_rows.specs.Library.{Library}
use Rattle.media_rows.specs.Moments.{is_moment}
use Rattle.media_rows.specs.Objects.{bytes_of, object_of}
use Rattle.store_states.specs.Kept.{StoreView}
use Rattle.store_plans.specs.declared.outcome.Planned.{Planned}
use Rattle.store_plans.specs.Plans.{IsPlanOf, IsPlanned}
use Rattle.media_store.specs.Changes.{CanCommit, brings_bytes}
use Rattle.media_store.specs.Pieces.{IsExtent}
use Rattle.media_store.specs.declared.probes.Probe.{Probe}
use Rattle.media_store.specs.Stores.{extent_in, extent_of, journal_of}
use Rattle.media_store.proofs.Commands.{none_fitted, none_stored}
use Rattle.reply_laws.specs.Asks.{IsGoodFor}
use Rattle.reply_laws.specs.Replies.{AnswersHaveTexts, FittedHaveTexts}
use Rattle.tams_http.specs.Good.{is_command_good}
use Rattle.tams_http.specs.declared.ask.Ask.TheVariants.{GetMedia, Run}
use Rattle.tams_machine.specs.Laws.{is_sent}
use Rattle.tams_answers.specs.Within.{PlansAsked, following_at, reply_at}
use Rattle.tams_answers.specs.Answers.{TellsBytes, TellsObject, media_by}

-- ---- commands

pub sent_brings_none : (command : Command) → is_sent (Run command) ≡ true → brings_bytes command ≡ false
sent_brings_none (commands.Keep object start size digest) e = absurd (true≢false (sym e))
sent_brings_none other e = refl

pub command_planned : (kept : StoreView) (command : Command) (moment : ℕ) (head_only : Bool) (probe : Option Probe) (planned : Planned) → AnswersHaveTexts → FittedHaveTexts
    → Good kept.library → is_moment moment ≡ true → IsGoodFor kept.library command → is_command_good command ≡ true → is_sent (Run command) ≡ true
    → IsPlanOf (journal_of kept) (answer kept.library command moment) planned → CanCommit kept planned
    → PlansAsked kept moment head_only (Ok (Run command)) probe planned None
command_planned kept command moment head_only probe planned answers fits good at fine words sent is ready =
    let outcome = answer kept.library command moment in
    let none = none_fitted (journal_of kept) outcome (none_stored kept.library command moment (sent_brings_none command sent)) in
    record {
      step = λ held body. is.step;
      reply = λ held body tells. is.reply;
      bare = λ held body. none;
      texts = ap has_reply_texts is.reply ∙ fits (journal_of kept) outcome (answers kept.library command moment good at words fine.few);
      ready = ready;
      media_is = refl;
      still = tt;
    }

-- ---- the bytes of an object

-- what a probe tells of bytes decides what is replied
replied_whole : (size start : ℕ) (digest : Option Digest) (found : Digest)
    → reply_at (Some (record { start = start; length = size })) (Some (record { kept = unwrap_or digest found; found = found }))
    ≡ whole_media size digest found
replied_whole size start None found =
    ap (λ t. cond t (Media size) (Refused (ObjectDamaged found found))) (same_digest found)
replied_whole size start (Some kept) found = refl

replied_by : (state : ObjectState) (bytes : List ℕ) (probe : Option Probe) → TellsBytes bytes state probe
    → reply_at (extent_in state) probe ≡ media_answer state bytes
replied_by Allocated bytes probe tells = refl
replied_by (Stored start size digest) bytes probe tells =
    ap (reply_at (Some (record { start = start; length = size }))) tells ∙ replied_whole size start digest (digest_of bytes)

-- the reply where the bytes of an object lie
replied : (row : Option ObjectRow) (bytes : List ℕ) (probe : Option Probe) → TellsObject bytes row probe → reply_at (extent_of row) probe ≡ media_reply row bytes
replied None bytes probe tells = refl
replied (Some row) bytes probe tells = replied_by row.state bytes probe tells

stands_by : (library : Library) (row : ObjectRow) (state : ObjectState) → Contains library.objects row → row.state ≡ state
    → IfSome (extent_in state) (IsExtent library)
stands_by library row Allocated there is = tt
stands_by library row (Stored start size digest) there is = record { row = row; kept = there; digest = digest; stored = is }

-- what is found is the extent of a stored object
stands : (library : Library) (object : List ℕ) (row : Option ObjectRow) → object_of object library.objects ≡ row
    → IfSome (extent_of row) (IsExtent library)
stands library object None is = tt
stands library object (Some row) is =
    stands_by library row row.state (Contains-from_In library.objects row (find-In _ library.objects row is).0) refl

unless_none : (P : Extent → Type 0) (head_only : Bool) (extent : Option Extent) → IfSome extent P → IfSome (if head_only then None else extent) P
unless_none P true extent is = tt
unless_none P false extent is = is

following_so : (P : Extent → Type 0) (head_only : Bool) (reply : Reply) (extent : Option Extent) → IfSome extent P → IfSome (following_at head_only reply extent) P
following_so P head_only (Media size) extent is = unless_none P head_only extent is
following_so P head_only Created extent is = tt
following_so P head_only (CreatedObjects ids) extent is = tt
following_so P head_only (Accepted row) extent is = tt
following_so P head_only Done extent is = tt
following_so P head_only (Shown view) extent is = tt
following_so P head_only (Refused why) extent is = tt
following_so P head_only (Partly failed) extent is = tt

-- where nothing is written
still_at : (library : Library) (planned : Planned) (extent : Option Extent) → planned.frame ≡ None → IfSome extent (IsExtent library)
    → IfSome extent (λ e. IsExtent library e × (planned.frame ≡ None))
still_at library planned None none is = tt
still_at library planned (Some extent) none is = (is, none)

following_is : (library : Library) (object : List ℕ) (head_only : Bool) (reply : Reply)
    → following_at head_only reply (extent_of (object_of object library.objects)) ≡ media_by library head_only (Ok (GetMedia object)) reply
following_is library object head_only (Media size) = refl
following_is library object head_only Created = refl
following_is library object head_only (CreatedObjects ids) = refl
following_is library object head_only (Accepted row) = refl
following_is library object head_only Done = refl
following_is library object head_only (Shown view) = refl
following_is library object head_only (Refused why) = refl
following_is library object head_only (Partly failed) = refl

reply_texts : (extent : Option Extent) (probe : Option Probe) → has_reply_texts (reply_at extent probe) ≡ true
reply_texts None probe = refl
reply_texts (Some extent) None = refl
reply_texts (Some extent) (Some probe) =
    cond_both (digest_eq probe.kept probe.found) (Media extent.length) (Refused (ObjectDamaged probe.kept probe.found)) (λ (r : Reply). has_reply_texts r ≡ true)
    (λ same. refl) (λ other. refl)

get_planned : (kept : StoreView) (object : List ℕ) (moment : ℕ) (head_only : Bool) (probe : Option Probe) (planned : Planned)
    → IsPlanned (journal_of kept) (unchanged (reply_at (extent_of (object_of object kept.library.objects)) probe)) planned → CanCommit kept planned
    → PlansAsked kept moment head_only (Ok (GetMedia object)) probe planned
    (following_at head_only planned.reply (extent_of (object_of object kept.library.objects)))
get_planned kept object moment head_only probe planned is ready =
    let row = object_of object kept.library.objects in
    record {
      step = λ held body. is.step;
      reply = λ held body tells. is.reply ∙ replied row (bytes_of object kept.library.objects held) probe tells;
      bare = λ held body. refl;
      texts = ap has_reply_texts is.reply ∙ reply_texts (extent_of row) probe;
      ready = ready;
      media_is = following_is kept.library object head_only planned.reply;
      still = following_so (λ e. IsExtent kept.library e × (planned.frame ≡ None)) head_only planned.reply (extent_of row)
          (still_at kept.library planned (extent_of row) is.step.frame (stands kept.library object row refl));
    }

pub get_is : (kept : StoreView) (object : List ℕ) (moment : ℕ) (head_only : Bool) (probe : Option Probe) (planned : Planned) (reply : Reply)
    (extent media : Option Extent) → extent ≡ extent_of (object_of object kept.library.objects) → reply ≡ reply_at extent probe
    → media ≡ following_at head_only planned.reply extent → IsPlanned (journal_of kept) (unchanged reply) planned → CanCommit kept planned
    → PlansAsked kept moment head_only (Ok (GetMedia object)) probe planned media
get_is kept object moment head_only probe planned reply extent media at replies follows is ready =
    subst (λ (m : Option Extent). PlansAsked kept moment head_only (Ok (GetMedia object)) probe planned m)
    (sym (follows ∙ ap (following_at head_only planned.reply) at))
    (get_planned kept object moment head_only probe planned
    (subst (λ (r : Reply). IsPlanned (journal_of kept) (unchanged r) planned) (replies ∙ ap (λ e. reply_at e probe) at) is) ready)
