-- What follows where nothing was touched, or no call failed.
use Rattle.std.proofs.Common.{◌≡◌, ◌≢◌, ◌∙◌, false, refl, ap}
use Rattle.disk_trait.specs.Device.{Device, Link}
use Rattle.disk_trait.specs.Calls.{IsCounted}
use Rattle.tams_outcomes.specs.Statuses.{no_disk_fault}
use Rattle.tams_outcomes.specs.Touching.{NoneRose}
use Rattle.tams_outcomes.specs.declared.outcome.RunOutcome.{RunOutcome}
use Rattle.tams_outcomes.specs.declared.outcome.RunOutcome.TheVariants.{DiskFault}

-- where no count rose the disk didn't fail
pub no_disk : (old new : Device) (o : RunOutcome) → IsCounted (no_disk_fault o) old.faults new.faults → NoneRose old new → o ≢ DiskFault
no_disk old new o counts none is = none.disk (counts.rises (rw is refl))

-- a link that is as it was
pub stays_idle : (old new : Device) → new.link ≡ old.link → old.link.under_way ≡ false → new.link.under_way ≡ false
stays_idle old new same idle = ap (λ (l : Link). l.under_way) same ∙ idle

pub none_dialled : (old new : Device) → new.link ≡ old.link → new.link.dials ≡ old.link.dials
none_dialled old new same = ap (λ (l : Link). l.dials) same
