-- What a call answers that shows a part of the library. Our own profile of the Time-addressable
-- Media Store.
use Rattle.std.specs.Prelude.{◌≡◌, Result, Ok, Err}
use Rattle.media_rows.specs.declared.refusal.BookFault.{BookFault}
use Rattle.media_rows.specs.declared.refusal.BookFault.TheVariants as books
use Rattle.media_rows.specs.declared.refusal.Refusal.{Refusal}
use Rattle.media_rows.specs.declared.reply.View.{View}

-- What is to be shown is shown, and a refusal is answered as it is. Want of memory may stand at any
-- place.
abbrev pub IsShown : Result View Refusal → Result View BookFault → Type 0
IsShown shown (Ok view) = shown ≡ Ok view
IsShown shown (Err (books.Refused why)) = shown ≡ Err why
IsShown shown (Err books.Memory) = Unit {0}
