-- The numbers and names of formats, events, states and refusals, by hand.
use Rattle.std.specs.Prelude.{◌≡◌, ℕ, List, [], ◌∷◌, true, false, None, map, codes}
use Rattle.media_rows.specs.declared.command.Page.{Page}
use Rattle.media_rows.specs.declared.refusal.Refusal.{Refusal}
use Rattle.media_rows.specs.declared.refusal.Refusal.TheVariants as refusals
use Rattle.media_rows.specs.Formats.{all_formats, all_events, all_statuses, format_number, event_number, status_number, format_name, event_name, status_name, hook_status_name}
use Rattle.media_rows.specs.Lists.{is_page}
use Rattle.media_rows.specs.RefusalTable.{refusal_name}
use Rattle.library_examples.specs.Examples.{no_digest}

-- ---- formats, events and states

-- Numbers run from 1, in the order in which the lists of all have them.
pub record NumbersRun : Type 0 where
  pub formats : map format_number all_formats ≡ 1 ∷ 2 ∷ 3 ∷ 4 ∷ 5 ∷ []
  pub events : map event_number all_events ≡ 1 ∷ 2 ∷ 3 ∷ 4 ∷ 5 ∷ 6 ∷ 7 ∷ 8 ∷ []
  pub statuses : map status_number all_statuses ≡ 1 ∷ 2 ∷ 3 ∷ []

-- Formats, events and states are named as clients spell them.
pub record NamesAreSpelled : Type 0 where
  pub formats : map format_name all_formats
      ≡ codes "urn:x-nmos:format:video" ∷ codes "urn:x-nmos:format:audio"
      ∷ codes "urn:x-nmos:format:data" ∷ codes "urn:x-nmos:format:multi"
      ∷ codes "urn:x-tam:format:image" ∷ []
  pub events : map event_name all_events
      ≡ codes "flows/created" ∷ codes "flows/updated" ∷ codes "flows/deleted"
      ∷ codes "flows/segments_added" ∷ codes "flows/segments_deleted"
      ∷ codes "sources/created" ∷ codes "sources/updated" ∷ codes "sources/deleted" ∷ []
  pub statuses : map status_name all_statuses
      ≡ codes "created" ∷ codes "started" ∷ codes "done" ∷ []
  pub hook_started : hook_status_name false ≡ codes "started"
  pub hook_failed : hook_status_name true ≡ codes "error"

-- ---- refusals

-- refusals of the wire and of bodies, with any detail
abbrev pub early_refusals : List Refusal
early_refusals =
    refusals.BadHead ∷ refusals.BadFraming ∷ refusals.LengthRequired ∷ refusals.TooLarge
    ∷ refusals.Coding ∷ refusals.NoRoute ∷ refusals.NoMethod ∷ refusals.NotJson
    ∷ refusals.Fractional ∷ refusals.Missing (codes "id") ∷ refusals.WrongKind (codes "id")
    ∷ refusals.TooLong (codes "id") ∷ refusals.OutOfRange (codes "id")
    ∷ refusals.BadTimerange (codes "timerange") ∷ refusals.BadQuery (codes "limit") ∷ []

-- refusals of the library, with any detail
abbrev pub late_refusals : List Refusal
late_refusals =
    refusals.NoSource ∷ refusals.NoFlow ∷ refusals.UnknownObject ∷ refusals.NoRequest
    ∷ refusals.NotSet (codes "label") ∷ refusals.Deleting ∷ refusals.ReadOnly
    ∷ refusals.SourceFormat ∷ refusals.FlowChanged ∷ refusals.CollectsItself
    ∷ refusals.CollectedMissing 242 ∷ refusals.IdTaken (codes "a") ∷ refusals.OtherBytes
    ∷ refusals.NoObject (codes "a") ∷ refusals.Overlap None ∷ refusals.JournalFull
    ∷ refusals.MediaFull ∷ refusals.ObjectDamaged no_digest no_digest ∷ []

-- Each refusal is named by its own word, whatever its detail.
pub record RefusalsAreNamed : Type 0 where
  pub early : map refusal_name early_refusals
      ≡ codes "BadHead" ∷ codes "BadFraming" ∷ codes "LengthRequired" ∷ codes "TooLarge"
      ∷ codes "Coding" ∷ codes "NoRoute" ∷ codes "NoMethod" ∷ codes "NotJson"
      ∷ codes "Fractional" ∷ codes "Missing" ∷ codes "WrongKind" ∷ codes "TooLong"
      ∷ codes "OutOfRange" ∷ codes "BadTimerange" ∷ codes "BadQuery" ∷ []
  pub late : map refusal_name late_refusals
      ≡ codes "NoSource" ∷ codes "NoFlow" ∷ codes "UnknownObject" ∷ codes "NoRequest"
      ∷ codes "NotSet" ∷ codes "Deleting" ∷ codes "ReadOnly" ∷ codes "SourceFormat"
      ∷ codes "FlowChanged" ∷ codes "CollectsItself" ∷ codes "CollectedMissing"
      ∷ codes "IdTaken" ∷ codes "OtherBytes" ∷ codes "NoObject" ∷ codes "Overlap"
      ∷ codes "JournalFull" ∷ codes "MediaFull" ∷ codes "ObjectDamaged" ∷ []

-- ---- pages

-- a page from the beginning, with this limit
abbrev pub first_page : ℕ → Page
first_page limit = record { after = None; limit = limit; reverse = false }

-- A page has a limit of at least 1.
pub record PagesHaveLimits : Type 0 where
  pub none : is_page (first_page 0) ≡ false
  pub one : is_page (first_page 1) ≡ true
