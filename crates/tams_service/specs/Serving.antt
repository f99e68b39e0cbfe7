-- What a service holds, and what opening one answers.
use Rattle.std.specs.Prelude.{◌≡◌, ℕ, Bool, false, List, IsTrue, None, Result, Ok, Err, if◌then◌else◌}
use Rattle.std.specs.Str.{is_utf8}
use Rattle.http_wire.specs.Feeds.{Fed}
use Rattle.media_journal.specs.declared.fault.JournalFault.{JournalFault}
use Rattle.media_store.specs.Stores.{OpensAs, StoreSeen, size_of}
use Rattle.tams_answers.specs.Wire.{AreResponses}
use Rattle.tams_answers.specs.declared.wire.WireResponses.{WireResponses}

-- What a service is seen as: its store, the feed of the connection under way, and what the store's
-- addresses begin with.
pub record ServiceSeen : Type 0 where
  pub store : StoreSeen
  pub fed : Fed
  pub base : List ℕ

-- Its routes are those of its store, its responses and its room for pieces were made, and between
-- requests no put is under way.
pub record IsService (store : StoreSeen) (routes : ℕ) (base : List ℕ) (refusals : WireResponses)
    (room : ℕ) : Type 0 where
  pub routes_are : store.spent ≡ false → routes ≡ store.kept.library.id
  pub base_is : IsTrue (is_utf8 base)
  pub refusals_are : AreResponses base refusals
  pub room_is : room ≡ 65536
  pub idle : store.put ≡ None

-- the least device that a store works on, in bytes; one that is spent asks for nothing
abbrev pub needs_by : Bool → ℕ → ℕ
needs_by spent size = if spent then 0 else size

-- the same of a store that may be spent
abbrev pub needs_in : StoreSeen → ℕ
needs_in store = needs_by store.spent (size_of store.kept)

-- the same of a service
abbrev pub needs_of : ServiceSeen → ℕ
needs_of s = needs_in s.store

-- what opening a service answers over an image
abbrev pub ServiceOpens : List ℕ → Result ServiceSeen JournalFault → Type 0
ServiceOpens image (Ok service) = OpensAs image (Ok service.store)
ServiceOpens image (Err fault) = OpensAs image (Err fault)
