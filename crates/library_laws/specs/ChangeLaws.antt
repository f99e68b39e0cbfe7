-- Laws of what each change needs and leaves, and of what its reply says.
use Rattle.std.specs.Prelude.{◌≡◌, ◌≤◌, ℕ, ◌&&◌, IsTrue, List, [], ◌∷◌, ◌++◌, Contains, Option, Some, map}
use Rattle.media_rows.specs.declared.change.Change.{Change}
use Rattle.media_rows.specs.declared.change.Change.TheVariants as changes
use Rattle.media_rows.specs.declared.command.Command.{Command}
use Rattle.media_rows.specs.declared.event.Happened.{Happened}
use Rattle.media_rows.specs.declared.object.Digest.{Digest}
use Rattle.media_rows.specs.declared.object.ObjectRow.{ObjectRow}
use Rattle.media_rows.specs.declared.object.ObjectState.TheVariants.{Stored}
use Rattle.media_rows.specs.declared.reply.Reply.TheVariants as replies
use Rattle.media_rows.specs.declared.request.DeleteRow.{DeleteRow}
use Rattle.media_rows.specs.Answer.{Outcome, answer}
use Rattle.media_rows.specs.Apply.{is_allowed, applies, applied}
use Rattle.media_rows.specs.Changes.{after}
use Rattle.media_rows.specs.Good.{Good}
use Rattle.media_rows.specs.Library.{Library, last_serial, with_happened}
use Rattle.media_rows.specs.Objects.{is_stored}
use Rattle.media_rows.specs.Sound.{is_sound}
use Rattle.library_laws.specs.Laws.{IsSound}

-- ---- a change that applies

-- a change was allowed and sound, and the next library is the one that it makes
pub record WasSound (library : Library) (change : Change) (next : Library) : Type 0 where
  pub allowed : IsTrue (is_allowed library change)
  pub sound : IsSound library change
  pub gives : next ≡ after change library

-- a change that applies to any library was allowed and sound
abbrev pub AppliedIsSound : Type 0
AppliedIsSound = (library : Library) (change : Change) (next : Library)
    → applied change library ≡ Some next → WasSound library change next

-- so on a good library three tests are the test of the whole next library
abbrev pub AppliesIsTested : Type 0
AppliesIsTested = (library : Library) (change : Change) → Good library
    → applies library change ≡ (is_allowed library change && is_sound library change)

-- ---- what stays

-- an object that is stored after a change was stored before with its id and place, or the change
-- stores it
pub data WasStored (library : Library) (change : Change) (row : ObjectRow) : Type 0 where
  before : (old : ObjectRow) → Contains library.objects old → row.serial ≡ old.serial
      → row.id ≡ old.id → row.state ≡ old.state → WasStored library change row
  now : (moment start size : ℕ) (digest : Option Digest)
      → change ≡ changes.Store moment row.id start size digest
      → row.state ≡ Stored start size digest → WasStored library change row

-- this holds of each change of any library
abbrev pub StoredStay : Type 0
StoredStay = (library : Library) (change : Change) (row : ObjectRow)
    → Contains (after change library).objects row → IsTrue (is_stored row.state)
    → WasStored library change row

-- the store's id and the number of its media blocks are those of before
pub record IsSameStore (library next : Library) : Type 0 where
  pub id : next.id ≡ library.id
  pub blocks : next.blocks ≡ library.blocks

-- no change changes them
abbrev pub StoreStays : Type 0
StoreStays = (library : Library) (change : Change) → IsSameStore library (after change library)

-- where there are no hooks, what happened leaves a library as it is
abbrev pub NothingPosted : Type 0
NothingPosted = (library : Library) (happened : List Happened) (moment : ℕ)
    → library.outbox.hooks ≡ [] → with_happened happened moment library ≡ library

-- a good library's next serial hasn't passed the last one
abbrev pub SerialsEnd : Type 0
SerialsEnd = (library : Library) → Good library → library.next_serial ≤ last_serial

-- ---- replies

-- an answer has a change, which makes these delete requests
pub record AddsRequest (library : Library) (outcome : Outcome) (row : DeleteRow) : Type 0 where
  pub change : Change
  pub has : outcome.change ≡ Some change
  pub adds : (after change library).requests ≡ library.requests ++ row ∷ []

-- an answer has a change, which makes objects of these ids, in this order
pub record AddsObjects (library : Library) (outcome : Outcome) (ids : List (List ℕ)) : Type 0 where
  pub change : Change
  pub has : outcome.change ≡ Some change
  pub adds : map (λ row. row.id) (after change library).objects
      ≡ map (λ row. row.id) library.objects ++ ids

-- what a reply names is what its change adds
pub record TellsRows (library : Library) (outcome : Outcome) : Type 0 where
  pub request : (row : DeleteRow) → outcome.reply ≡ replies.Accepted row
      → AddsRequest library outcome row
  pub objects : (ids : List (List ℕ)) → outcome.reply ≡ replies.CreatedObjects ids
      → AddsObjects library outcome ids

-- this holds of each answer
abbrev pub RepliesTell : Type 0
RepliesTell = (library : Library) (command : Command) (moment : ℕ)
    → TellsRows library (answer library command moment)
