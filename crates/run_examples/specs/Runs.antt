-- A run over a small store that was made in memory.
use Rattle.std.specs.Prelude.{ℕ, List}
use Rattle.site_edge.specs.ListClock.{Listing, listing_given, listing_tells}
use Rattle.site_edge.specs.MemorySite.{SiteState, site_device}
use Rattle.store_commands.specs.Beginning.{BeginsFrom}
use Rattle.tams_top.specs.Ends.{EndsByWords, NotesSeen}
use Rattle.run_examples.specs.Premises.{small_start}

-- A run of these words that left this site and this status began over a site and a clock that met
-- the premises, and it has its ends.
pub record IsSmallRun (words : List (List ℕ)) (left : SiteState) (status : ℕ) : Type 0 where
  pub site : SiteState
  pub clock : Listing
  pub given : List ℕ
  pub notes : NotesSeen
  pub begins : BeginsFrom small_start (site_device site) (listing_tells clock) (listing_given clock)
  pub ends : EndsByWords words record {
    old = site_device site;
    new = site_device left;
    clock = listing_tells clock;
    begun = listing_given clock;
    given = given;
    notes = notes;
  } status
