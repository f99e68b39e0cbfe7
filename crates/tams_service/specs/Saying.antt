-- What it leaves of a site that an answer was said: the response, and behind it the bytes of an
-- object, which are read in pieces between the sayings.
use Rattle.std.specs.Prelude.{◌≡◌, ◌≤◌, Bool, true, false, ℕ, List, ◌++◌, length}
use Rattle.disk_trait.specs.Calls.{Elapses}
use Rattle.disk_trait.specs.Device.{Device}
use Rattle.site_edge.specs.Links.{Sends, Tells, after_say, change_last}
use Rattle.tams_service.specs.declared.saying.AnswerTold.{AnswerTold}
use Rattle.tams_service.specs.declared.saying.AnswerTold.TheVariants.{All, Unlinked, Failed}

-- all was said
abbrev pub is_whole : AnswerTold → Bool
is_whole All = true
is_whole Unlinked = false
is_whole Failed = false

-- no call of the link failed
abbrev pub is_linked : AnswerTold → Bool
is_linked All = true
is_linked Unlinked = false
is_linked Failed = true

-- no call of the disk failed
abbrev pub is_told_unfailed : AnswerTold → Bool
is_told_unfailed All = true
is_told_unfailed Unlinked = true
is_told_unfailed Failed = false

-- The last connection was told these bytes, or a part of them where `whole` is false. A saying on
-- it failed where `linked` is false. Nothing was handed to the device.
pub record Says (whole linked : Bool) (bytes : List ℕ) (old new : Device) : Type 0 where
  pub time : Elapses (Tells false bytes) (Tells whole bytes) old new
  pub connections : old.tells ≡ true → (sent : List ℕ) × Sends whole bytes sent
      × (new.link.connections ≡ change_last (after_say linked sent) old.link.connections)
  pub handed : new.handed ≡ old.handed

-- The last connection was told a response and the bytes behind it, or a part of them. Where no
-- saying failed the whole response was told.
pub record SaysAnswer (whole linked : Bool) (response behind : List ℕ) (old new : Device) : Type 0
  where
    pub says : Says whole linked (response ++ behind) old new
    pub front : (tells : old.tells ≡ true) → linked ≡ true
        → length response ≤ length (says.connections tells).0
