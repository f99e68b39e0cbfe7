-- Refusals in order, and what a book's call answers.
use Rattle.std.specs.Prelude.{◌≡◌, Bool, IsTrue, IsFalse, List, [], ◌∷◌, Option, Some, None, Result, Ok, Err, if◌then◌else◌}
use Rattle.media_rows.specs.declared.refusal.Refusal.{Refusal}
use Rattle.media_rows.specs.declared.refusal.BookFault.{BookFault}
use Rattle.media_rows.specs.declared.refusal.BookFault.TheVariants as books
use Rattle.media_rows.specs.declared.refusal.ApplyFault.{ApplyFault}
use Rattle.media_rows.specs.declared.refusal.ApplyFault.TheVariants as faults
use Rattle.media_rows.specs.Lists.{or_else}

-- the refusal, where the test holds
abbrev pub when : Bool → Refusal → Option Refusal
when test refusal = if test then Some refusal else None

-- the first refusal that is there
abbrev pub first_refusal : List (Option Refusal) → Option Refusal
first_refusal [] = None
first_refusal (refusal ∷ later) = or_else refusal (first_refusal later)

-- A change of a book gives the next value exactly where nothing is refused, and otherwise that
-- refusal. Want of memory may stand at any place.
abbrev pub IsChange : {T : Type 0} → Option Refusal → T → Result T BookFault → Type 0
IsChange refusal next (Ok value) = (refusal ≡ None) × (value ≡ next)
IsChange refusal next (Err (books.Refused why)) = refusal ≡ Some why
IsChange refusal next (Err books.Memory) = Unit {0}

-- A book that is made from rows has just these where they are good, and is refused exactly where
-- they aren't.
abbrev pub Restores : {T : Type 0} → Bool → T → Result T ApplyFault → Type 0
Restores good rows (Ok value) = IsTrue good × (value ≡ rows)
Restores good rows (Err faults.Refused) = IsFalse good
Restores good rows (Err faults.Memory) = Unit {0}
