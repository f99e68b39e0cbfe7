-- What is asked of the serials of new hooks and events, and how many there are. Our own profile of
-- the Time-addressable Media Store.
use Rattle.std.specs.Prelude.{◌<◌, ℕ, ◌-◌, ◌^◌, List, length, min}
use Rattle.std.specs.List.{AllByRecursion}
use Rattle.media_rows.specs.declared.event.EventRow.{EventRow}
use Rattle.media_rows.specs.declared.hook.HookRow.{HookRow}

-- a serial is above those of all hooks
abbrev pub IsBehindHooks : ℕ → List HookRow → Type 0
IsBehindHooks serial hooks = AllByRecursion (λ row. row.serial < serial) hooks

-- a serial is above those of all events
abbrev pub IsBehind : ℕ → List EventRow → Type 0
IsBehind serial events = AllByRecursion (λ row. row.serial < serial) events

-- how many rows there are, cut at the last value of 64 bits
abbrev pub counted : {X : Type 0} → List X → ℕ
counted rows = min (length rows) (2 ^ 64 - 1)
