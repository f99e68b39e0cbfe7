-- Laws on replies: what a good library answers has its texts, and so can be printed.
use Rattle.std.specs.Prelude.{ℕ, IsTrue, List}
use Rattle.change_codec.specs.Fitting.{State}
use Rattle.json_replies.specs.Texts.{has_reply_texts}
use Rattle.media_rows.specs.declared.command.Command.{Command}
use Rattle.media_rows.specs.Answer.{Outcome, answer}
use Rattle.media_rows.specs.Good.{Good}
use Rattle.media_rows.specs.Library.{Library}
use Rattle.media_rows.specs.Media.{Archive, answer_to, gets, puts}
use Rattle.media_rows.specs.Moments.{is_moment}
use Rattle.store_states.specs.Fitting.{fitted}
use Rattle.tams_http.specs.Good.{is_command_good}
use Rattle.reply_laws.specs.Asks.{asks_few}

-- the reply of an outcome has its texts
abbrev pub HasTexts : Outcome → Type 0
HasTexts outcome = IsTrue (has_reply_texts outcome.reply)

-- what a good library answers to a command with good texts that asks for few objects has its texts
abbrev pub AnswersHaveTexts : Type 0
AnswersHaveTexts = (library : Library) (command : Command) (moment : ℕ) → Good library
    → IsTrue (is_moment moment) → IsTrue (is_command_good command) → IsTrue (asks_few command)
    → HasTexts (answer library command moment)

-- what is answered to the bytes of an object and to a question of them has its texts, in each
-- archive and for each text as the object's id
pub record MediaAnswersHaveTexts : Type 0 where
  pub put : (archive : Archive) (object bytes : List ℕ) (moment : ℕ)
      → HasTexts (answer_to archive (puts object bytes) moment)
  pub get : (archive : Archive) (object : List ℕ) (moment : ℕ)
      → HasTexts (answer_to archive (gets object) moment)

-- an outcome that has its texts has them where its change doesn't fit the journal, too
abbrev pub FittedHaveTexts : Type 0
FittedHaveTexts = (journal : State) (outcome : Outcome) → HasTexts outcome
    → HasTexts (fitted journal outcome)
