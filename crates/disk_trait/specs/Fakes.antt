-- What a device in memory means that keeps no calls: it shows its bytes and tells nothing else.
use Rattle.std.specs.Prelude.{◌≡◌, ℕ, Bool, true, false, List, [], length, refl}
use Rattle.disk_trait.specs.Device.{Device, Dials, IsDevice, Link}

-- no call of `dial`, of whose ports nothing is told
abbrev pub no_dials : Dials
no_dials = record { begun = []; missed = [] }

-- a link of which nothing is told but its faults and whether a connection is under way
abbrev pub untold_link : ℕ → ℕ → Bool → Link
untold_link faults peer_faults under_way = record {
  faults = faults;
  peer_faults = peer_faults;
  under_way = under_way;
  connections = [];
  closed = 0;
  dials = no_dials;
}

-- no link, and no fault of one
abbrev pub no_link : Link
no_link = untold_link 0 0 false

-- A device of these bytes that never fails and isn't honest: a crash may leave any bytes of its
-- length.
abbrev pub plain_device : List ℕ → Device
plain_device bytes = record {
  size = length bytes;
  faults = 0;
  honest = false;
  shows = true;
  tells = false;
  seen = bytes;
  handed = 0;
  link = no_link;
  moment = 0;
  left_since = λ _ left. length left.image ≡ length bytes;
}

-- it is a device
pub plain_device_is_sound : (bytes : List ℕ) → IsDevice (plain_device bytes)
plain_device_is_sound bytes = record {
  length = λ _. refl;
  images = λ honest _ _ _. cc;
  earlier = λ t u p _ _ left. left;
  itself = λ _. ([], refl);
  told = λ honest _ _ _. cc;
}
