-- What stands at the front of bytes: an interim head, or what decides.
use Rattle.std.specs.Prelude.{◌≡◌, ◌<◌, ◌≤◌, ℕ, Bool, List, length, take}
use Rattle.http_wire.specs.Lines.{looked}
use Rattle.http_wire.specs.declared.lines.LinePlace.TheVariants.{Before}
use Rattle.http_wire.specs.declared.lines.Looked.TheVariants.{Ended}
use Rattle.hook_delivery.specs.Judging.{IsInterim, IsVerdictBy}
use Rattle.hook_delivery.specs.declared.judging.Front.{Front}
use Rattle.hook_delivery.specs.declared.judging.Front.TheVariants.{Passed, Decided}

-- an interim head of so many bytes stands at the front
pub record IsPassed (bytes : List ℕ) (end : ℕ) : Type 0 where
  pub ends : looked Before bytes ≡ Ended end
  pub interim : IsInterim (take end bytes)
  pub some : 0 < end
  pub inside : end ≤ length bytes

-- an interim head stands there, or the head there says this
abbrev pub IsFront : List ℕ → Bool → Front → Type 0
IsFront bytes is_last (Passed end) = IsPassed bytes end
IsFront bytes is_last (Decided verdict) =
    IsVerdictBy (looked Before bytes) bytes is_last verdict
