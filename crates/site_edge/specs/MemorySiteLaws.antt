-- A site in memory means a device at every moment.
use Rattle.std.proofs.Common.{◌≡◌, ◌≤◌, ◌+◌, ℕ, List, length, refl, arith}
use Rattle.disk_trait.specs.Device.{IsDevice, Left}
use Rattle.disk_trait.specs.History.{Past, seen_of}
use Rattle.disk_trait.specs.MemoryDiskLaws.{itself_at_last, length-leaves_at}
use Rattle.site_edge.specs.MemorySite.{SiteState, SiteLeaves, LeavesIn, now, earlier, ending, site_device, told_of, disk_calls}

since_earlier : (past : Past) (from to before t u : ℕ) (image : List ℕ) → t ≤ u
    → LeavesIn past from to before u image → LeavesIn past from to before t image
since_earlier past from to before t u image le left = record {
  moment = left.moment;
  begun = left.begun;
  not_over = left.not_over;
  within = left.within;
  later = omega (arith, left.later);
  leaves = left.leaves;
}

site_since_earlier : (site : SiteState) (t u : ℕ) (p : Left) → t ≤ u → SiteLeaves site u p
    → SiteLeaves site t p
site_since_earlier site t u p le (now left told) =
    now (since_earlier _ _ _ _ t u p.image le left) told
site_since_earlier site t u p le (earlier n span within at left told) =
    earlier n span within at (since_earlier _ _ _ _ t u p.image le left) told
site_since_earlier site t u p le (ending n span within at left told) =
    ending n span within at (since_earlier _ _ _ _ t u p.image le left) told

-- each image has the length of the disk
length-left : (site : SiteState) (t : ℕ) (p : Left) → SiteLeaves site t p
    → length p.image ≡ length (seen_of site.disk.past)
length-left site t p (now left told) =
    length-leaves_at site.disk.past left.moment p.image left.leaves
length-left site t p (earlier n span within at left told) =
    length-leaves_at site.disk.past left.moment p.image left.leaves
length-left site t p (ending n span within at left told) =
    length-leaves_at site.disk.past left.moment p.image left.leaves

-- at the present moment what was told is what was told
told_now : (site : SiteState) (p : Left) → SiteLeaves site (disk_calls site + length site.spans) p
    → p.told ≡ told_of site
told_now site p (now left told) = told
told_now site p (earlier n span within at left told) =
    absurd (omega (arith, within, left.within, left.later))
told_now site p (ending n span within at left told) =
    absurd (omega (arith, within, left.within, left.later))

-- a site in memory is a device
pub site_device_is_sound : (site : SiteState) → IsDevice (site_device site)
site_device_is_sound site = record {
  length = λ _. refl;
  images = λ _ t p left. length-left site t p left;
  earlier = λ t u p le _ left. site_since_earlier site t u p le left;
  itself = λ _. (
    told_of site,
    now (record {
      moment = disk_calls site;
      begun = omega arith;
      not_over = omega arith;
      within = omega arith;
      later = omega arith;
      leaves = itself_at_last site.disk.past;
    }) refl,
  );
  told = λ _ _ p left. told_now site p left;
}
