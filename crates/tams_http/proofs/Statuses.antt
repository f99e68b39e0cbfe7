-- Each refusal's status has a phrase, and lies where statuses of answers do.
use Rattle.std.proofs.Common.{◌≡◌, ◌≤◌, ℕ, true, refl, arith}
use Rattle.std.specs.Prelude.{IsSome, nat_le}
use Rattle.std.proofs.lemmas.Bool.Decides.{nat_tests}
use Rattle.http.specs.StatusCode.{reason_phrase}
use Rattle.media_rows.specs.RefusalTable.{refusal_status}
use Rattle.media_rows.specs.declared.refusal.Refusal.{Refusal}
use Rattle.media_rows.specs.declared.refusal.Refusal.TheVariants as refusals

-- the facts on a status
pub record IsAnswerable (status : ℕ) : Type 0 where
  pub low : 200 ≤ status
  pub high : status ≤ 599
  pub known : IsSome (reason_phrase status)

-- by a status that is named
at : (status : ℕ) → nat_le 200 status ≡ true → nat_le status 599 ≡ true → IsSome (reason_phrase status) → IsAnswerable status
at status low high known = record { low = grind (arith, nat_tests, low); high = grind (arith, nat_tests, high); known = known }

pub known_status : (refusal : Refusal) → IsAnswerable (refusal_status refusal)
known_status refusals.BadHead = at _ refl refl refl
known_status refusals.BadFraming = at _ refl refl refl
known_status refusals.LengthRequired = at _ refl refl refl
known_status refusals.TooLarge = at _ refl refl refl
known_status refusals.Coding = at _ refl refl refl
known_status refusals.NoRoute = at _ refl refl refl
known_status refusals.NoMethod = at _ refl refl refl
known_status refusals.NotJson = at _ refl refl refl
known_status refusals.Fractional = at _ refl refl refl
known_status (refusals.Missing detail) = at _ refl refl refl
known_status (refusals.WrongKind detail) = at _ refl refl refl
known_status (refusals.TooLong detail) = at _ refl refl refl
known_status (refusals.OutOfRange detail) = at _ refl refl refl
known_status (refusals.BadTimerange detail) = at _ refl refl refl
known_status (refusals.BadQuery detail) = at _ refl refl refl
known_status refusals.NoSource = at _ refl refl refl
known_status refusals.NoFlow = at _ refl refl refl
known_status refusals.UnknownObject = at _ refl refl refl
known_status refusals.NoRequest = at _ refl refl refl
known_status (refusals.NotSet detail) = at _ refl refl refl
known_status refusals.Deleting = at _ refl refl refl
known_status refusals.ReadOnly = at _ refl refl refl
known_status refusals.SourceFormat = at _ refl refl refl
known_status refusals.FlowChanged = at _ refl refl refl
known_status refusals.CollectsItself = at _ refl refl refl
known_status (refusals.CollectedMissing detail) = at _ refl refl refl
known_status (refusals.IdTaken detail) = at _ refl refl refl
known_status refusals.OtherBytes = at _ refl refl refl
known_status (refusals.NoObject detail) = at _ refl refl refl
known_status (refusals.Overlap detail) = at _ refl refl refl
known_status refusals.JournalFull = at _ refl refl refl
known_status refusals.MediaFull = at _ refl refl refl
known_status (refusals.ObjectDamaged kept found) = at _ refl refl refl
