-- How a call of a store fails.
use Rattle.std.specs.Prelude.{Bool, true, false, not, Result, Ok, Err}
use Rattle.media_store.specs.declared.fault.StoreFault.{StoreFault}
use Rattle.media_store.specs.declared.fault.StoreFault.TheVariants.{Disk, Memory}

-- a call of the disk failed
abbrev pub is_disk : {X : Type 0} → Result X StoreFault → Bool
is_disk (Ok x) = false
is_disk (Err Disk) = true
is_disk (Err Memory) = false

-- none did
abbrev pub not_disk_fault : {X : Type 0} → Result X StoreFault → Bool
not_disk_fault result = not (is_disk result)

-- what holds where there was no memory
abbrev pub OnMemory : {X : Type 0} → Result X StoreFault → Type 0 → Type 0
OnMemory (Ok x) Holds = Unit {0}
OnMemory (Err Disk) Holds = Unit {0}
OnMemory (Err Memory) Holds = Holds

-- what holds of the calls of the disk, by whether none failed, where there was memory
abbrev pub OnCalls : {X : Type 0} → Result X StoreFault → (Bool → Type 0) → Type 0
OnCalls (Ok x) Holds = Holds true
OnCalls (Err Disk) Holds = Holds false
OnCalls (Err Memory) Holds = Unit {0}

-- what holds where a call of the disk failed
abbrev pub OnDisk : {X : Type 0} → Result X StoreFault → Type 0 → Type 0
OnDisk (Ok x) Holds = Unit {0}
OnDisk (Err Disk) Holds = Holds
OnDisk (Err Memory) Holds = Unit {0}

-- what holds unless one did
abbrev pub UnlessDisk : {X : Type 0} → Result X StoreFault → Type 0 → Type 0
UnlessDisk (Ok x) Holds = Holds
UnlessDisk (Err Disk) Holds = Unit {0}
UnlessDisk (Err Memory) Holds = Holds
