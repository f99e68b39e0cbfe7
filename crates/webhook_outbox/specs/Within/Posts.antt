-- Posting as far as it has come.
use Rattle.std.specs.Prelude.{◌==◌, nat_le, List, Option, Some, None, IsTrue, if◌then◌else◌}
use Rattle.std.specs.List.{AllByRecursion, list_any}
use Rattle.media_rows.specs.declared.hook.HookRow.{HookRow}
use Rattle.media_rows.specs.Library.{last_serial}
use Rattle.media_rows.specs.Outbox.{Posted as Made}
use Rattle.webhook_outbox.specs.declared.posts.PostsReached.{PostsReached}

-- what posting has come to, or nothing where serials would end
abbrev pub reached_within : Made → Option PostsReached
reached_within made =
    if nat_le made.next last_serial
    then Some (record { outbox = made.outbox; next = made.next }) else None

-- each of these hooks is among the others, by its serial
abbrev pub AreKept : List HookRow → List HookRow → Type 0
AreKept rows hooks =
    AllByRecursion (λ row. IsTrue (list_any (λ hook. hook.serial == row.serial) hooks)) rows
