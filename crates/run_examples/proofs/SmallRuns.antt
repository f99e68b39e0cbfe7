-- A store that was made in memory, and a run over it.
use Rattle.std.proofs.Common.{◌≡◌, ℕ, true, List, [], refl, arith}
use Rattle.site_edge.specs.MemorySite.{SiteState, site_device}
use Rattle.store_commands.specs.FormatEnds.{FormatMoments, IsMade}
use Rattle.store_commands.specs.Beginning.{BeginsFrom}
use Rattle.tams_outcomes.specs.declared.outcome.RunOutcome.TheVariants.{Formatted}
use Rattle.site_edge.specs.ListClock.{Listing, listing_given, listing_tells}
use Rattle.tams_top.specs.Ends.{EndsByWords, NotesSeen}
use Rattle.run_examples.specs.Premises.{small_header, small_start}
use Rattle.run_examples.specs.Runs.{IsSmallRun}

pub made_small : (old new : SiteState) (blocks half media : ℕ) → IsMade (site_device old) (site_device new) small_header blocks half media
    → FormatMoments (site_device old) (site_device new) small_header (Formatted blocks half media) → BeginsFrom small_start (site_device new) true []
made_small old new blocks half media made moments = record {
  tells = record { honest = refl; shows = refl; tells = refl; clock_tells = refl };
  few = omega arith;
  settled = moments.settled refl refl;
  stands = made.stands refl;
}

pub small_run : (words : List (List ℕ)) (site left : SiteState) (clock : Listing) (given : List ℕ) (notes : NotesSeen) (status : ℕ)
    → BeginsFrom small_start (site_device site) (listing_tells clock) (listing_given clock)
    → EndsByWords words (record {
      old = site_device site;
      new = site_device left;
      clock = listing_tells clock;
      begun = listing_given clock;
      given = given;
      notes = notes;
    }) status
    → IsSmallRun words left status
small_run words site left clock given notes status begins ends =
    record { site = site; clock = clock; given = given; notes = notes; begins = begins; ends = ends }
