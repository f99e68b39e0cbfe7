-- What a library prepares for a command or a turn, and which changes it applies. Our own rules.
use Rattle.std.specs.Prelude.{◌≡◌, ℕ, List, Bool, false, IsTrue, Option, Some, None, is_some, option_map, filter, Result, Ok, Err, if◌then◌else◌}
use Rattle.media_rows.specs.declared.change.Change.{Change}
use Rattle.media_rows.specs.declared.change.Change.TheVariants as changes
use Rattle.media_rows.specs.declared.object.Digest.{Digest}
use Rattle.media_rows.specs.declared.object.ObjectRow.{ObjectRow}
use Rattle.media_rows.specs.declared.refusal.BookFault.{BookFault}
use Rattle.media_rows.specs.declared.refusal.BookFault.TheVariants as books
use Rattle.media_rows.specs.declared.refusal.Refusal.{Refusal}
use Rattle.media_rows.specs.declared.reply.Reply.{Reply}
use Rattle.media_rows.specs.declared.reply.Reply.TheVariants as replies
use Rattle.media_rows.specs.Answer.{Outcome, changed}
use Rattle.media_rows.specs.Apply.{applied, passes_serials, turn}
use Rattle.media_rows.specs.Changes.{after}
use Rattle.media_rows.specs.Good.{Good}
use Rattle.media_rows.specs.Library.{Library}
use Rattle.media_rows.specs.Objects.{is_stored}
use Rattle.media_book.specs.Media.{media_of, serial_in, stored_bytes}
use Rattle.core_parts.specs.Parts.{library_digested}
use Rattle.webhook_outbox.specs.Delivered.{counted}
use Rattle.store_core.specs.declared.library.Counts.{Counts}
use Rattle.store_core.specs.declared.prepare.Prepared.{Prepared}

-- how much a library keeps
abbrev pub counts_of : Library → Counts
counts_of library = record {
  flows = counted library.catalog.flows;
  segments = counted library.segments;
  objects = counted library.objects;
  requests = counted library.requests;
  hooks = counted library.outbox.hooks;
  events = counted library.outbox.events;
  bytes = stored_bytes library.objects;
}

-- the rows of the stored objects
abbrev pub stored_objects : List ObjectRow → List ObjectRow
stored_objects objects = filter (λ row. is_stored row.state) objects

-- ---- prepared

-- What is prepared, with the library alone: it, the change, if there is one, the reply, and whether
-- the change would bring the next serial past its limit. Then the library is the one of before.
pub record Preparation : Type 0 where
  pub core : Library
  pub change : Option Change
  pub reply : Reply
  pub past : Bool

-- what was prepared, with the library alone
abbrev pub preparation : Prepared → Preparation
preparation prepared = record {
  core = prepared.core.library;
  change = prepared.change;
  reply = prepared.reply;
  past = prepared.past;
}

-- the same, or what went wrong
abbrev pub given_preparation : {E : Type 0} → Result Prepared E → Result Preparation E
given_preparation (Ok prepared) = Ok (preparation prepared)
given_preparation (Err fault) = Err fault

-- a change, if there is one, would bring the next serial past its limit
abbrev pub would_pass_serials : Library → Option Change → Bool
would_pass_serials library None = false
would_pass_serials library (Some change) = passes_serials change library

-- the library after a change, if there is one
abbrev pub library_after : Library → Option Change → Library
library_after library None = library
library_after library (Some change) = after change library

-- what an outcome makes of a library, which stays as it was where its serials would end
abbrev pub prepared_by : Library → Outcome → Preparation
prepared_by library outcome = record {
  core =
      if would_pass_serials library outcome.change
      then library else library_after library outcome.change;
  change = outcome.change;
  reply = outcome.reply;
  past = would_pass_serials library outcome.change;
}

-- nothing is prepared of an outcome whose reply is a refusal
abbrev pub unless_refused : Reply → Preparation → Result Preparation Refusal
unless_refused (replies.Refused why) prepared = Err why
unless_refused _ prepared = Ok prepared

-- what is prepared of an outcome, or its refusal
abbrev pub prepared_of : Library → Outcome → Result Preparation Refusal
prepared_of library outcome = unless_refused outcome.reply (prepared_by library outcome)

-- What is given is given, and a refusal is answered as it is. Want of memory may stand at any
-- place.
abbrev pub IsGiven : {T : Type 0} → Result T Refusal → Result T BookFault → Type 0
IsGiven given (Ok value) = given ≡ Ok value
IsGiven given (Err (books.Refused why)) = given ≡ Err why
IsGiven given (Err books.Memory) = Unit {0}

-- what is prepared of a turn, where its change is due
abbrev pub turned : Library → ℕ → Option Preparation
turned library moment =
    option_map (λ change. prepared_by library (changed replies.Done change)) (turn library moment)

-- a change that was prepared applies to the library, and gives what was prepared, unless the
-- serials would end
abbrev pub AppliesTo : Library → Preparation → Type 0
AppliesTo library prepared =
    (change : Change) → prepared.change ≡ Some change → prepared.past ≡ false
    → applied change library ≡ Some prepared.core

-- ---- the object that is stored

-- the library after a change that stores an object holds that object's row apart
abbrev pub HoldsStored : Library → Prepared → Type 0
HoldsStored library prepared = (moment : ℕ) (object : List ℕ) (start size : ℕ)
    (digest : Option Digest)
    → prepared.change ≡ Some (changes.Store moment object start size digest)
    → IsTrue (is_some prepared.core.apart)
    × (prepared.core.apart ≡ serial_in object (media_of library))

-- a change that stores an object with this digest
abbrev pub change_digested : Digest → Change → Change
change_digested digest (changes.Store moment object start size kept) =
    changes.Store moment object start size (Some digest)
change_digested digest change = change

-- the object that the change stores has this digest
abbrev pub prepared_digested : Digest → Prepared → Prepared
prepared_digested digest prepared = record prepared {
  core = library_digested digest prepared.core;
  change = option_map (change_digested digest) prepared.change;
}

-- Where the change stores an object of a good library, the one with the other digest applies too,
-- and gives what is prepared then.
abbrev pub StoresDigested : Prepared → Prepared → Type 0
StoresDigested old new = (library : Library) (moment : ℕ) (object : List ℕ) (start size : ℕ)
    (kept : Option Digest) → old.change ≡ Some (changes.Store moment object start size kept)
    → Good library → old.core.apart ≡ serial_in object (media_of library)
    → AppliesTo library (preparation old) → AppliesTo library (preparation new)
