-- The small store: its file stands for its state, and nothing is pending on its site.
use Rattle.std.proofs.Common.{◌≡◌, ◌<◌, ◌≤◌, ◌+◌, ◌*◌, ◌^◌, ℕ, zero, suc, true, List, [], ◌∷◌, ◌++◌, length, refl, sym, ap, ◌∙◌, subst, arith}
use Rattle.change_codec.specs.Rows.{row_spelling}
use Rattle.field_codec.specs.Leaves.{u32_spelling, u64_spelling}
use Rattle.disk_trait.specs.Device.{Device, Left}
use Rattle.disk_trait.specs.Numbers.{u32_bytes, u64_bytes}
use Rattle.disk_trait.specs.MemoryDisk.{LeavesAt, fresh_disk}
use Rattle.media_journal.specs.Formatting.{FitsStore}
use Rattle.site_edge.specs.ListClock.{listing_given, listing_tells, not_begun}
use Rattle.site_edge.specs.MemorySite.{SiteLeaves, fresh_site}
use Rattle.site_edge.specs.MemorySite.SiteLeaves.{now, earlier, ending}
use Rattle.store_states.specs.States.{StandsFor}
use Rattle.store_commands.specs.Beginning.{BeginsFrom}
use Rattle.tams_outcomes.specs.Touching.{IsSettled}
use Rattle.store_commands.specs.Formatting.{empty_rows}
use Rattle.store_commands.specs.Fresh.{FreshFilesStand}
use Rattle.run_examples.specs.Premises.{PremisesAreMet, small_file, small_header, small_site, small_start}
use Rattle.tams_words.specs.Worked.{WordsAsWorked, worked_path}

length-empty_rows : length empty_rows ≡ 13
unfolding empty_rows row_spelling u32_spelling u64_spelling u32_bytes u64_bytes
length-empty_rows = refl

small_fits : FitsStore small_header 20480 empty_rows
small_fits = record {
  sizes = record {
    some_half = omega arith;
    half = omega arith;
    blocks = omega arith;
    fits = omega arith;
    within = omega arith;
  };
  room = omega (arith, length-empty_rows);
}

-- a crash of a disk that made no call leaves its bytes
fresh_leaves : (bytes : List ℕ) (n : ℕ) (image : List ℕ) → n ≤ 0 → LeavesAt (record { first = bytes; calls = [] }) n image → image ≡ bytes
fresh_leaves bytes zero image few is = is
fresh_leaves bytes (suc n) image few is = absurd (omega (arith, few))

small_left : (peers : List (List ℕ)) (p : Left) → SiteLeaves (fresh_site (fresh_disk small_file []) peers 65536 []) 0 p → p.image ≡ small_file
small_left peers p (now leaves told) = fresh_leaves small_file leaves.moment p.image leaves.within leaves.leaves
small_left peers p (earlier n span few is leaves told) = absurd (omega (arith, few))
small_left peers p (ending n span few is leaves told) = absurd (omega (arith, few))

small_settled : (peers : List (List ℕ)) → IsSettled (small_site peers)
small_settled peers p could = small_left peers p could

module _ (fresh : FreshFilesStand) (words : WordsAsWorked) where
  stands : StandsFor small_file small_start
  stands = fresh small_header small_fits (omega arith)

  begins : (peers : List (List ℕ)) (moments : List ℕ)
      → BeginsFrom small_start (small_site peers) (listing_tells (not_begun moments)) (listing_given (not_begun moments))
  begins peers moments = record {
    tells = record { honest = refl; shows = refl; tells = refl; clock_tells = refl };
    few = omega arith;
    settled = small_settled peers;
    stands = stands;
  }

  pub premises_are_met : PremisesAreMet
  premises_are_met = record {
    stands = stands;
    replay = λ peers moments. record { command = (worked_path, words.replay); begins = begins peers moments };
    serve = λ peers moments. record { command = (worked_path, 8, words.serve); begins = begins peers moments };
    work = λ peers moments. record { command = (worked_path, words.work); begins = begins peers moments };
  }
