-- What a real file means, and a site over one. They tell nothing of what the file and its peer hold
-- or take.
use Rattle.std.specs.Prelude.{ℕ, ℤ, pos, ◌≤ℤ◌, ◌<ℤ◌, Bool, true, false, []}
use Rattle.disk_trait.specs.Device.{Device, IsDevice}
use Rattle.disk_trait.specs.Fakes.{no_link, untold_link}
use Rattle.site_edge.specs.declared.file_site.Peer.{Peer}
use Rattle.site_edge.specs.declared.file_site.Peer.TheVariants.{Awaited, UnderWay, Gone}

-- the descriptor of standard input, standard output or standard error, or none of an open file
abbrev pub IsStandard : ℤ → Type 0
IsStandard descriptor = descriptor ≤ℤ pos 2

-- a descriptor that is no standard stream's
abbrev pub IsOwn : ℤ → Type 0
IsOwn descriptor = pos 2 <ℤ descriptor

-- whether the connection to the one peer is under way
abbrev pub is_under_way : Peer → Bool
is_under_way Awaited = false
is_under_way UnderWay = true
is_under_way Gone = false

-- A file: its descriptor, its length in bytes, and the count of its faults.
pub record FileState : Type 0 where
  pub descriptor : ℤ
  pub size : ℕ
  pub faults : ℕ

-- such a file that was asked nothing yet
abbrev pub untouched : ℤ → ℕ → FileState
untouched descriptor size = record { descriptor = descriptor; size = size; faults = 0 }

-- The device that a file is. It isn't honest and shows no bytes.
abbrev pub file_device : FileState → Device
file_device f = record {
  size = f.size;
  faults = f.faults;
  honest = false;
  shows = false;
  tells = false;
  seen = [];
  handed = 0;
  link = no_link;
  moment = 0;
  left_since = λ _ _. ⊥;
}

-- A site over a file: the file, the count of the faults of its peer, and whether a connection is
-- under way.
pub record FileSiteState : Type 0 where
  pub file : FileState
  pub link_faults : ℕ
  pub under_way : Bool

-- The device that such a site is: its file, and its link. Waiting for the peer never fails.
abbrev pub file_site_device : FileSiteState → Device
file_site_device s =
    record (file_device s.file) { link = untold_link s.link_faults 0 s.under_way }

-- A site over a file whose peers come over the network: the file, the counts of the faults of its
-- links and of waiting for peers, and whether a connection is under way.
pub record NetSiteState : Type 0 where
  pub file : FileState
  pub link_faults : ℕ
  pub peer_faults : ℕ
  pub under_way : Bool

-- the device that such a site is: its file, and its link
abbrev pub net_site_device : NetSiteState → Device
net_site_device s =
    record (file_device s.file) { link = untold_link s.link_faults s.peer_faults s.under_way }

-- all are devices, of which nothing is told that a crash leaves
pub file_device_is_sound : (f : FileState) → IsDevice (file_device f)
file_device_is_sound f = record {
  images = λ honest _ _ _. cc;
  length = λ shows. cc;
  earlier = λ t u p _ _ left. left;
  itself = λ shows. cc;
  told = λ honest _ _ _. cc;
}

pub file_site_device_is_sound : (s : FileSiteState) → IsDevice (file_site_device s)
file_site_device_is_sound s = record {
  images = λ honest _ _ _. cc;
  length = λ shows. cc;
  earlier = λ t u p _ _ left. left;
  itself = λ shows. cc;
  told = λ honest _ _ _. cc;
}

pub net_site_device_is_sound : (s : NetSiteState) → IsDevice (net_site_device s)
net_site_device_is_sound s = record {
  images = λ honest _ _ _. cc;
  length = λ shows. cc;
  earlier = λ t u p _ _ left. left;
  itself = λ shows. cc;
  told = λ honest _ _ _. cc;
}
