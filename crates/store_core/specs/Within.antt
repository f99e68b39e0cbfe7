-- Words that the calls within this crate cite, and no other crate.
use Rattle.std.specs.Prelude.{◌≡◌, ℕ, false, IfOk, Option, Some, None, is_none, option_and_then, option_map, unwrap_or, Result, Ok, Err}
use Rattle.media_rows.specs.declared.change.Change.{Change}
use Rattle.media_rows.specs.declared.command.Command.{Command}
use Rattle.media_rows.specs.declared.command.Command.TheVariants as commands
use Rattle.media_rows.specs.declared.refusal.ApplyFault.{ApplyFault}
use Rattle.media_rows.specs.declared.refusal.ApplyFault.TheVariants as faults
use Rattle.media_rows.specs.declared.refusal.BookFault.{BookFault}
use Rattle.media_rows.specs.declared.refusal.BookFault.TheVariants as books
use Rattle.media_rows.specs.declared.reply.Reply.{Reply}
use Rattle.media_rows.specs.Answer.{Outcome, accepted, refusal_of}
use Rattle.media_rows.specs.Changes.{after}
use Rattle.media_rows.specs.Library.{Library}
use Rattle.media_rows.specs.Refusals.{IsChange}
use Rattle.media_book.specs.Media.{media_of, serial_in}
use Rattle.core_parts.specs.Parts.{HeldLibrary, apart_in, only_library, within_serials}
use Rattle.store_core.specs.declared.made.Made.{Made}
use Rattle.store_core.specs.Prepared.{Preparation}

-- a change, and the library after it, unless its serials would end
pub record Step : Type 0 where
  pub change : Change
  pub next : Option Library

-- a reply, and what is changed, where something is
pub record Making : Type 0 where
  pub reply : Reply
  pub step : Option Step

-- what was made, with the library alone
abbrev pub making : Made → Making
making made = record {
  reply = made.reply;
  step = option_map
      (λ step. record { change = step.change; next = only_library step.next }) made.step;
}

-- the same, or what went wrong
abbrev pub given_making : {E : Type 0} → Result Made E → Result Making E
given_making (Ok made) = Ok (making made)
given_making (Err fault) = Err fault

-- a reply, with a change and the library after it
abbrev pub made_change : Reply → Change → Option HeldLibrary → Made
made_change reply change next =
    record { reply = reply; step = Some (record { change = change; next = next }) }

-- a reply alone
abbrev pub made_none : Reply → Made
made_none reply = record { reply = reply; step = None }

-- the same, with the library alone
abbrev pub making_none : Reply → Making
making_none reply = record { reply = reply; step = None }

-- a change of a library, and the library after it, unless its serials would end
abbrev pub step_by : Library → Change → Step
step_by library change =
    record { change = change; next = within_serials (after change library) }

-- what an outcome makes of a library
abbrev pub made_by : Library → Outcome → Making
made_by library outcome =
    record { reply = outcome.reply; step = option_map (step_by library) outcome.change }

-- a command makes this of a library that doesn't refuse it
abbrev pub MakesAnswer : Library → Command → ℕ → Result Made BookFault → Type 0
MakesAnswer library command moment result =
    IsChange (refusal_of library command)
    (made_by library (accepted library command moment)) (given_making result)

-- what is prepared of a library by what was made of it
abbrev pub prepared_step : Library → Reply → Option Step → Preparation
prepared_step library reply None =
    record { core = library; change = None; reply = reply; past = false }
prepared_step library reply (Some step) = record {
  core = unwrap_or step.next library;
  change = Some step.change;
  reply = reply;
  past = is_none step.next;
}

-- what a change gives, without the reason why it is refused
abbrev pub without_reason : {T : Type 0} → Result T BookFault → Result T ApplyFault
without_reason (Ok value) = Ok value
without_reason (Err (books.Refused why)) = Err faults.Refused
without_reason (Err books.Memory) = Err faults.Memory

-- ---- the row that is held apart

-- the serial of the object whose row the library after a change holds apart
abbrev pub next_apart : Made → Option ℕ
next_apart made = option_and_then (λ step. apart_in step.next) made.step

-- the library after a command that keeps an object holds that object's row apart
abbrev pub KeepsApart : Library → Command → Result Made BookFault → Type 0
KeepsApart library (commands.Keep object start size digest) result =
    IfOk result (λ made. next_apart made ≡ serial_in object (media_of library))
KeepsApart library _ result = Unit {0}
