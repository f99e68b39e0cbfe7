-- The reply to a question. Our own profile of the Time-addressable Media Store.
use Rattle.std.specs.Prelude.{◌≡◌, Result, Ok, Err}
use Rattle.media_rows.specs.declared.refusal.BookFault.{BookFault}
use Rattle.media_rows.specs.declared.refusal.BookFault.TheVariants as books
use Rattle.media_rows.specs.declared.refusal.Refusal.{Refusal}
use Rattle.media_rows.specs.declared.reply.Reply.{Reply}
use Rattle.media_rows.specs.declared.reply.Reply.TheVariants as replies
use Rattle.media_rows.specs.declared.reply.View.{View}

-- what is shown is the reply, and a refusal stays
abbrev pub replied : Result View Refusal → Result Reply Refusal
replied (Ok view) = Ok (replies.Shown view)
replied (Err refusal) = Err refusal

-- A question is answered by what it shows, and a refusal as it is. Want of memory may stand at any
-- place.
abbrev pub IsReply : Result View Refusal → Result Reply BookFault → Type 0
IsReply shown (Ok reply) = replied shown ≡ Ok reply
IsReply shown (Err (books.Refused why)) = replied shown ≡ Err why
IsReply shown (Err books.Memory) = Unit {0}
