-- How calls of a site count faults, one after another.
use Rattle.std.proofs.Common.{◌≡◌, ℕ, Bool, true, refl, sym, ap, ◌∙◌, arith}
use Rattle.std.proofs.lemmas.Bool.{false≢true}
use Rattle.disk_trait.specs.Device.{Device, Link}
use Rattle.disk_trait.specs.Calls.{IsCounted, SameDevice}
use Rattle.disk_trait.proofs.Theorems.{counted_twice, same_device_twice}
use Rattle.site_edge.specs.Links.{SamePeers}
use Rattle.tams_service.specs.Sites.{SiteCounts}

-- a count that no call raised
counted_none : (before now : ℕ) → now ≡ before → IsCounted true before now
counted_none before now same = record {
  never_falls = omega (arith, same);
  stays = λ _. same;
  rises = λ no. absurd (false≢true (sym no));
}

-- no call at all
pub counts_none : (d : Device) → SiteCounts true true d d
counts_none d = record {
  same = record { size = refl; honest = refl; shows = refl; tells = refl };
  faults = counted_none d.faults d.faults refl;
  link_faults = counted_none d.link.faults d.link.faults refl;
  peers = record { peer_faults = refl; closed = refl; dials = refl };
  under_way = refl;
}

-- calls of the disk
pub counts_disk : (ok : Bool) (old new : Device) → SameDevice old new → new.link ≡ old.link → IsCounted ok old.faults new.faults → SiteCounts true ok old new
counts_disk ok old new same link counted = record {
  same = same;
  faults = counted;
  link_faults = counted_none old.link.faults new.link.faults (ap (λ (l : Link). l.faults) link);
  peers = record {
    peer_faults = ap (λ (l : Link). l.peer_faults) link;
    closed = ap (λ (l : Link). l.closed) link;
    dials = ap (λ (l : Link). l.dials) link;
  };
  under_way = ap (λ (l : Link). l.under_way) link;
}

-- a call of the link
pub counts_link : (ok : Bool) (old new : Device) → SameDevice old new → new.faults ≡ old.faults → IsCounted ok old.link.faults new.link.faults
    → SamePeers old new → new.link.under_way ≡ old.link.under_way → SiteCounts ok true old new
counts_link ok old new same faults counted peers under_way = record {
  same = same;
  faults = counted_none old.faults new.faults faults;
  link_faults = counted;
  peers = peers;
  under_way = under_way;
}

-- calls that went on, and others behind them
pub counts_twice : (linked held : Bool) (old mid new : Device) → SiteCounts true true old mid → SiteCounts linked held mid new → SiteCounts linked held old new
counts_twice linked held old mid new one two = record {
  same = same_device_twice old mid new one.same two.same;
  faults = counted_twice held old.faults mid.faults new.faults one.faults two.faults;
  link_faults = counted_twice linked old.link.faults mid.link.faults new.link.faults one.link_faults two.link_faults;
  peers = record {
    peer_faults = two.peers.peer_faults ∙ one.peers.peer_faults;
    closed = two.peers.closed ∙ one.peers.closed;
    dials = two.peers.dials ∙ one.peers.dials;
  };
  under_way = two.under_way ∙ one.under_way;
}
