-- Events that are posted, and hooks as they are shown. Our own profile of the Time-addressable
-- Media Store.
use Rattle.std.specs.Prelude.{nat_le, Some, None, if◌then◌else◌}
use Rattle.media_rows.specs.declared.hook.HookRow.{HookRow}
use Rattle.media_rows.specs.declared.reply.HookShown.{HookShown}
use Rattle.media_rows.specs.Library.{last_serial}
use Rattle.media_rows.specs.Outbox.{Outbox, waiting_count}
use Rattle.media_rows.specs.Outbox.{Posted as Made}
use Rattle.webhook_outbox.specs.declared.outbox.Posted.{Posted}

-- What posting gives: the outbox then, and the next serial. Where that would pass its limit, there
-- is none, and the outbox is as it was.
abbrev pub posted_within : Outbox → Made → Posted
posted_within old made =
    if nat_le made.next last_serial
    then record { outbox = made.outbox; next = Some made.next }
    else record { outbox = old; next = None }

-- a hook with the number of the events that wait for it
abbrev pub shown_in : Outbox → HookRow → HookShown
shown_in outbox row =
    record { row = row; waiting = waiting_count row.serial outbox.events }
