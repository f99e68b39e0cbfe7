-- What calls leave of a site, whatever was told or heard in them.
use Rattle.std.specs.Prelude.{◌≡◌, ◌≤◌, Bool}
use Rattle.disk_trait.specs.Calls.{IsCounted, SameDevice}
use Rattle.disk_trait.specs.Device.{Device}
use Rattle.site_edge.specs.Links.{SamePeers}

-- How calls count faults, by whether none of the link failed and none of the disk, and what none of
-- them changes.
pub record SiteCounts (linked held : Bool) (old new : Device) : Type 0 where
  pub same : SameDevice old new
  pub faults : IsCounted held old.faults new.faults
  pub link_faults : IsCounted linked old.link.faults new.link.faults
  pub peers : SamePeers old new
  pub under_way : new.link.under_way ≡ old.link.under_way

-- calls of the link alone, of which the last one may have failed
pub record LinkCalls (old new : Device) : Type 0 where
  pub same : SameDevice old new
  pub faults : new.faults ≡ old.faults
  pub link_faults : old.link.faults ≤ new.link.faults
  pub peer_faults : new.link.peer_faults ≡ old.link.peer_faults
  pub closed : new.link.closed ≡ old.link.closed
  pub dials : new.link.dials ≡ old.link.dials
  pub under_way : new.link.under_way ≡ old.link.under_way
