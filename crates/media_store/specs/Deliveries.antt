-- What the delivery of an event makes of a store. Our own rules.
use Rattle.std.specs.Prelude.{ℕ, Option, Some}
use Rattle.media_rows.specs.declared.change.Change.{Change}
use Rattle.media_rows.specs.declared.change.Change.TheVariants.{Delivered}
use Rattle.change_codec.specs.Fitting.{State}
use Rattle.media_store.specs.Turns.{turn_change}

-- the change by which an event goes that was delivered, where it fits
abbrev pub delivery_of : State → ℕ → ℕ → Option Change
delivery_of journal event moment = turn_change journal (Some (Delivered moment event))
