-- The law on what requests ask for: it is good for every library, and asks for few objects at once.
use Rattle.std.specs.Prelude.{◌≡◌, ℕ, Bool, true, IsTrue, nat_le, List, Ok}
use Rattle.http_wire.specs.declared.head.MethodKind.{MethodKind}
use Rattle.json_bodies.specs.Storage.{most_objects}
use Rattle.media_rows.specs.declared.command.Command.{Command}
use Rattle.media_rows.specs.declared.command.Command.TheVariants as commands
use Rattle.media_rows.specs.declared.command.Want.{Want}
use Rattle.media_rows.specs.declared.command.Want.TheVariants.{Count, Named}
use Rattle.media_rows.specs.Library.{Library}
use Rattle.media_rows.specs.Sound.{is_good_command}
use Rattle.tams_http.specs.Asked.{ask_of}
use Rattle.tams_http.specs.Good.{is_ask_good}
use Rattle.tams_http.specs.declared.ask.Ask.{Ask}
use Rattle.tams_http.specs.declared.ask.Ask.TheVariants.{Run, PutMedia, GetMedia}

-- at most as many objects as a request may ask for, where they aren't named by their ids
abbrev pub is_few : Want → Bool
is_few (Count n) = nat_le n most_objects
is_few (Named ids) = true

-- a command that asks for objects asks for few
abbrev pub asks_few : Command → Bool
asks_few (commands.Allocate flow want) = is_few want
asks_few other = true

-- a command that the library takes: it is good for this one, and asks for few objects
pub record IsGoodFor (library : Library) (command : Command) : Type 0 where
  pub good : IsTrue (is_good_command library command)
  pub few : IsTrue (asks_few command)

-- so is the command of a request; nothing is asked of what asks for the bytes of an object
abbrev pub IsGoodAsk : Library → Ask → Type 0
IsGoodAsk library (Run command) = IsGoodFor library command
IsGoodAsk library (PutMedia object) = Unit {0}
IsGoodAsk library (GetMedia object) = Unit {0}

-- What a request asks for, where its texts are good, is good for each library: no request asks for
-- the storing of an object's bytes by `Keep`, whose place only the library knows.
abbrev pub AsksAreGood : Type 0
AsksAreGood = (library : Library) (store : ℕ) (method : MethodKind) (target body : List ℕ)
    (ask : Ask) → ask_of store method target body ≡ Ok ask → IsTrue (is_ask_good ask)
    → IsGoodAsk library ask
