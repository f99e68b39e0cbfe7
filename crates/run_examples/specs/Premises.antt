-- A small store in a site in memory, and a clock, that meet each premise of a run over a file.
use Rattle.std.specs.Prelude.{ℕ, List, []}
use Rattle.disk_trait.specs.Device.{Device}
use Rattle.disk_trait.specs.MemoryDisk.{fresh_disk}
use Rattle.media_journal.specs.declared.header.Header.{Header}
use Rattle.site_edge.specs.ListClock.{listing_given, listing_tells, not_begun}
use Rattle.site_edge.specs.MemorySite.{fresh_site, site_device}
use Rattle.store_states.specs.States.{StandsFor, StoreState}
use Rattle.store_commands.specs.Formatting.{formatted_state}
use Rattle.store_commands.specs.Fresh.{fresh_file}
use Rattle.tams_top.specs.Laws.{IsReplayFrom, IsServeFrom, IsWorkFrom}
use Rattle.tams_words.specs.Worked.{replay_line, serve_line, work_line, worked_base}

-- a store of five blocks, one of them for each half of the journal and one for media
abbrev pub small_header : Header
small_header = record { blocks = 5; half = 1; id = 1 }

-- its file, and the state for which it stands
abbrev pub small_file : List ℕ
small_file = fresh_file small_header

abbrev pub small_start : StoreState
small_start = formatted_state small_header

-- a site in memory over this file, with these peers to come
abbrev pub small_site : List (List ℕ) → Device
small_site peers = site_device (fresh_site (fresh_disk small_file []) peers 65536 [])

-- The file stands for its state, and the site and the clock, whoever is to come and whatever
-- moments it gives, meet the premises of `replayed`, `served` and `worked`, with the worked words.
pub record PremisesAreMet : Type 0 where
  pub stands : StandsFor small_file small_start
  pub replay : (peers : List (List ℕ)) (moments : List ℕ)
      → IsReplayFrom worked_base small_start replay_line (small_site peers)
      (listing_tells (not_begun moments)) (listing_given (not_begun moments))
  pub serve : (peers : List (List ℕ)) (moments : List ℕ)
      → IsServeFrom worked_base small_start 2 serve_line (small_site peers)
      (listing_tells (not_begun moments)) (listing_given (not_begun moments))
  pub work : (peers : List (List ℕ)) (moments : List ℕ)
      → IsWorkFrom small_start work_line (small_site peers)
      (listing_tells (not_begun moments)) (listing_given (not_begun moments))
