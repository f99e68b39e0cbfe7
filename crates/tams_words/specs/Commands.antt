-- The command line as `clap` reads it: the commands, and the names of each one's words.
use Rattle.std.specs.Prelude.{◌≡◌, true, false, List, [], ◌∷◌, map, codes, unwrap_or}
use Rattle.clap.specs.Words.{App, Row, Rule, Shape, Text, first_of, new_rule}
use Rattle.clap.specs.Simple.{new_shape}
use Rattle.tams_words.specs.declared.commands.CommandName.{CommandName}
use Rattle.tams_words.specs.declared.commands.CommandName.TheVariants as name

-- a word that has to be there
abbrev pub word_rule : Text → Rule
word_rule id = record (new_rule id) { required = true }

-- a command of this name, whose words have these names
abbrev pub command_with : Text → List Text → Shape
command_with name ids = record (new_shape name) { rules = map word_rule ids }

-- the names of the words of each command
abbrev pub format_words : List Text
format_words = codes "PATH" ∷ codes "BLOCKS" ∷ codes "HALF" ∷ codes "STORE_ID" ∷ []

abbrev pub check_words : List Text
check_words = codes "PATH" ∷ []

abbrev pub migrate_words : List Text
migrate_words = codes "PATH" ∷ []

abbrev pub work_words : List Text
work_words = codes "PATH" ∷ []

abbrev pub deliver_words : List Text
deliver_words = codes "PATH" ∷ []

abbrev pub replay_words : List Text
replay_words = codes "PATH" ∷ codes "BASE" ∷ []

abbrev pub serve_words : List Text
serve_words = codes "PATH" ∷ codes "PORT" ∷ codes "BASE" ∷ codes "CONNECTIONS" ∷ []

abbrev pub manifest_words : List Text
manifest_words = codes "PATH" ∷ codes "BASE" ∷ codes "FLOW" ∷ codes "RANGE" ∷ []

abbrev pub workload_words : List Text
workload_words = codes "NUMBER" ∷ codes "COUNT" ∷ []

-- the program: one of the commands has to be named, and `help` is none
abbrev pub tams_app : App
tams_app = record {
  top = record (new_shape (codes "tams")) {
    is_leaf = false;
    has_version = true;
    no_binary_name = true;
    disable_help_subcommand = true;
    subcommand_required = true;
  };
  subs = command_with (codes "format") format_words
      ∷ command_with (codes "check") check_words
      ∷ command_with (codes "migrate") migrate_words
      ∷ command_with (codes "work") work_words
      ∷ command_with (codes "deliver") deliver_words
      ∷ command_with (codes "replay") replay_words
      ∷ command_with (codes "serve") serve_words
      ∷ command_with (codes "manifest") manifest_words
      ∷ command_with (codes "workload") workload_words ∷ [];
}

-- the word that names a command
abbrev pub command_word : CommandName → Text
command_word name.Format = codes "format"
command_word name.Check = codes "check"
command_word name.Migrate = codes "migrate"
command_word name.Work = codes "work"
command_word name.Deliver = codes "deliver"
command_word name.Replay = codes "replay"
command_word name.Serve = codes "serve"
command_word name.Manifest = codes "manifest"
command_word name.Workload = codes "workload"

-- the names of its other words
abbrev pub words_of : CommandName → List Text
words_of name.Format = format_words
words_of name.Check = check_words
words_of name.Migrate = migrate_words
words_of name.Work = work_words
words_of name.Deliver = deliver_words
words_of name.Replay = replay_words
words_of name.Serve = serve_words
words_of name.Manifest = manifest_words
words_of name.Workload = workload_words

-- the words begin with the command's name
pub record IsNamed (words : List Text) (name : CommandName) : Type 0 where
  pub rest : List Text
  pub words_are : words ≡ command_word name ∷ rest

-- what `clap` found for a word of a command, and no byte where it found nothing
abbrev pub word_value : List Row → Text → Text
word_value rows id = unwrap_or (first_of id rows) []
