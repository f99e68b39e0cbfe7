-- How the calls of a turn count, in a row.
use Rattle.std.proofs.Common.{Bool, true, false, ℕ, List, Some, None, refl, sym, ap, ◌∙◌, subst, arith}
use Rattle.disk_trait.specs.Calls.{DiskCalls, IsCounted}
use Rattle.disk_trait.specs.Device.{Device, Link}
use Rattle.disk_trait.proofs.Theorems.{same_device_twice}
use Rattle.connection_loop.specs.declared.ending.ConnectionEnd.TheVariants.{Complete, Cut, Unlinked, Starved, Stopped}
use Rattle.connection_loop.specs.Turns.{SiteCalls}
use Rattle.connection_loop.proofs.Turning.{counted_none}
use Rattle.request_hearing.specs.Hearing.{HearPart, HearsAndSays}
use Rattle.tams_service.specs.Sites.{LinkCalls, SiteCounts}

-- calls of which none failed
pub calls_held : (old new : Device) → SiteCounts true true old new → SiteCalls None old new
calls_held old new calls = record {
  same = calls.same;
  faults = calls.faults;
  link_faults = calls.link_faults.stays refl;
  peer_faults = calls.peers.peer_faults;
  closed = calls.peers.closed;
  dials = calls.peers.dials;
  under_way = calls.under_way;
}

-- calls of the disk alone, of which none failed
pub disk_held : (old new : Device) → DiskCalls true old new → SiteCalls None old new
disk_held old new calls = record {
  same = calls.same;
  faults = calls.counted;
  link_faults = ap (λ (l : Link). l.faults) calls.link;
  peer_faults = ap (λ (l : Link). l.peer_faults) calls.link;
  closed = ap (λ (l : Link). l.closed) calls.link;
  dials = ap (λ (l : Link). l.dials) calls.link;
  under_way = ap (λ (l : Link). l.under_way) calls.link;
}

-- a call of the disk failed
pub disk_stopped : (old new : Device) → DiskCalls false old new → SiteCalls (Some Stopped) old new
disk_stopped old new calls = record {
  same = calls.same;
  faults = calls.counted;
  link_faults = omega (arith, ap (λ (l : Link). l.faults) calls.link);
  peer_faults = ap (λ (l : Link). l.peer_faults) calls.link;
  closed = ap (λ (l : Link). l.closed) calls.link;
  dials = ap (λ (l : Link). l.dials) calls.link;
  under_way = ap (λ (l : Link). l.under_way) calls.link;
}

-- it failed, and the link was called behind it
pub stopped_more : (old mid new : Device) → SiteCalls (Some Stopped) old mid → LinkCalls mid new → SiteCalls (Some Stopped) old new
stopped_more old mid new calls link = record {
  same = same_device_twice old mid new calls.same link.same;
  faults = subst (λ k. IsCounted false old.faults k) (sym link.faults) calls.faults;
  link_faults = omega (arith, calls.link_faults, link.link_faults);
  peer_faults = link.peer_faults ∙ calls.peer_faults;
  closed = link.closed ∙ calls.closed;
  dials = link.dials ∙ calls.dials;
  under_way = link.under_way ∙ calls.under_way;
}

-- the link alone was called, for a request for which there was no memory
pub starved_calls : (old new : Device) → LinkCalls old new → SiteCalls (Some Starved) old new
starved_calls old new link = record {
  same = link.same;
  faults = counted_none old.faults new.faults link.faults;
  link_faults = link.link_faults;
  peer_faults = link.peer_faults;
  closed = link.closed;
  dials = link.dials;
  under_way = link.under_way;
}

-- a saying failed, and the disk held
pub unlinked_calls : (old new : Device) → SiteCounts false true old new → SiteCalls (Some Unlinked) old new
unlinked_calls old new calls = record {
  same = calls.same;
  faults = calls.faults;
  link_faults = (calls.link_faults.never_falls, calls.link_faults.rises refl);
  peer_faults = calls.peers.peer_faults;
  closed = calls.peers.closed;
  dials = calls.peers.dials;
  under_way = calls.under_way;
}

-- ---- hearings

-- no call of the link failed in a hearing
pub heard_calls : {parts : List HearPart} (bytes : List ℕ) (said sent ended : Bool) (old new : Device)
    → HearsAndSays parts bytes said sent true ended old new → SiteCalls None old new
heard_calls bytes said sent ended old new h = record {
  same = h.call.same;
  faults = counted_none old.faults new.faults h.call.faults;
  link_faults = h.call.counted.stays refl;
  peer_faults = h.peers.peer_faults;
  closed = h.peers.closed;
  dials = h.peers.dials;
  under_way = h.under_way;
}

-- one did
pub unheard_calls : {parts : List HearPart} (bytes : List ℕ) (said sent ended : Bool) (old new : Device)
    → HearsAndSays parts bytes said sent false ended old new
    → SiteCalls (Some Unlinked) old new
unheard_calls bytes said sent ended old new h = record {
  same = h.call.same;
  faults = counted_none old.faults new.faults h.call.faults;
  link_faults = (h.call.counted.never_falls, h.call.counted.rises refl);
  peer_faults = h.peers.peer_faults;
  closed = h.peers.closed;
  dials = h.peers.dials;
  under_way = h.under_way;
}

-- calls of which none failed, behind which a connection ends
pub complete_calls : (old new : Device) → SiteCalls None old new → SiteCalls (Some Complete) old new
complete_calls old new calls = record {
  same = calls.same;
  faults = calls.faults;
  link_faults = calls.link_faults;
  peer_faults = calls.peer_faults;
  closed = calls.closed;
  dials = calls.dials;
  under_way = calls.under_way;
}

pub cut_calls : (old new : Device) → SiteCalls None old new → SiteCalls (Some Cut) old new
cut_calls old new calls = record {
  same = calls.same;
  faults = calls.faults;
  link_faults = calls.link_faults;
  peer_faults = calls.peer_faults;
  closed = calls.closed;
  dials = calls.dials;
  under_way = calls.under_way;
}
