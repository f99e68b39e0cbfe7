-- Which outcome a number of the program is that of.
use Rattle.std.proofs.Common.{◌≡◌, ◌≤◌, ◌∙◌, ℕ, zero, suc, refl, sym, ap, arith}
use Rattle.tams_outcomes.specs.Statuses.{exit_of, number_of}
use Rattle.tams_outcomes.specs.declared.status.Status.{Status}
use Rattle.tams_outcomes.specs.declared.status.Status.TheVariants as status
use Rattle.tams_outcomes.specs.declared.outcome.PlaylistRefusal.{PlaylistRefusal}
use Rattle.tams_outcomes.specs.declared.outcome.RunOutcome.{RunOutcome}
use Rattle.tams_outcomes.specs.declared.outcome.RunOutcome.TheVariants.{Formatted, Checked, Migrated, AlreadyMigrated, Worked, Delivered, Served, Playlist, NoPlaylist, Generated, Cut, BadWords, NotStore, AlreadyStore, TooSmall, Damaged, DamagedObject, OldForm, DiskFault, NoMemory, LinkFault}

pub bad_words_by : (o : RunOutcome) → exit_of o ≡ 1 → o ≡ BadWords
bad_words_by BadWords e = refl
bad_words_by _ e = absurd (omega (arith, e))

pub disk_fault_by : (o : RunOutcome) → exit_of o ≡ 3 → o ≡ DiskFault
disk_fault_by DiskFault e = refl
disk_fault_by _ e = absurd (omega (arith, e))

pub no_memory_by : (o : RunOutcome) → exit_of o ≡ 4 → o ≡ NoMemory
no_memory_by NoMemory e = refl
no_memory_by _ e = absurd (omega (arith, e))

pub link_fault_by : (o : RunOutcome) → exit_of o ≡ 5 → o ≡ LinkFault
link_fault_by LinkFault e = refl
link_fault_by _ e = absurd (omega (arith, e))

pub cut_by : (o : RunOutcome) → exit_of o ≡ 6 → o ≡ Cut
cut_by Cut e = refl
cut_by _ e = absurd (omega (arith, e))

pub exit_at_most : (o : RunOutcome) → exit_of o ≤ 7
exit_at_most (Formatted blocks half media) = omega arith
exit_at_most (Checked counts) = omega arith
exit_at_most (Migrated objects rows) = omega arith
exit_at_most AlreadyMigrated = omega arith
exit_at_most (Worked turns) = omega arith
exit_at_most (Delivered delivered waiting full) = omega arith
exit_at_most (Served requests changes skipped) = omega arith
exit_at_most (Playlist objects) = omega arith
exit_at_most (NoPlaylist refusal) = omega arith
exit_at_most (Generated run) = omega arith
exit_at_most BadWords = omega arith
exit_at_most NotStore = omega arith
exit_at_most AlreadyStore = omega arith
exit_at_most TooSmall = omega arith
exit_at_most (Damaged at) = omega arith
exit_at_most (DamagedObject damaged) = omega arith
exit_at_most OldForm = omega arith
exit_at_most DiskFault = omega arith
exit_at_most NoMemory = omega arith
exit_at_most LinkFault = omega arith
exit_at_most Cut = omega arith

pub named_by : (o : RunOutcome) → exit_of o ≡ 7 → (refusal : PlaylistRefusal) × (o ≡ NoPlaylist refusal)
named_by (NoPlaylist refusal) e = (refusal, refl)
named_by _ e = absurd (omega (arith, e))

-- a status by its number
abbrev status_at : ℕ → Status
status_at zero = status.Done
status_at (suc zero) = status.BadWords
status_at (suc (suc zero)) = status.Refused
status_at (suc (suc (suc zero))) = status.DiskFault
status_at (suc (suc (suc (suc zero)))) = status.NoMemory
status_at (suc (suc (suc (suc (suc zero))))) = status.LinkFault
status_at (suc (suc (suc (suc (suc (suc zero)))))) = status.Cut
status_at _ = status.NamedRefusal

by_number : (s : Status) → status_at (number_of s) ≡ s
by_number status.Done = refl
by_number status.BadWords = refl
by_number status.Refused = refl
by_number status.DiskFault = refl
by_number status.NoMemory = refl
by_number status.LinkFault = refl
by_number status.Cut = refl
by_number status.NamedRefusal = refl

pub statuses_differ : (s other : Status) → number_of s ≡ number_of other → s ≡ other
statuses_differ s other e = sym (by_number s) ∙ (ap status_at e ∙ by_number other)
