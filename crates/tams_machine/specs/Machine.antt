-- The machine of the media store, for the histories of its runs: the library with the bytes of its
-- objects and its journal, and what it answers to each request of a connection.
use Rattle.std.specs.Prelude.{ℕ, List}
use Rattle.library_laws.specs.MediaLaws.{IsGoodArchive}
use Rattle.store_commits.specs.Carrying.{HasArchive}
use Rattle.store_states.specs.States.{StoreState}
use Rattle.run_history.specs.Machine.{Machine}
use Rattle.tams_http.specs.Constants.{failure}
use Rattle.tams_machine.specs.Requests.{Heads, IsCut, IsRefused, SpellsRequest, TamsRequest, interim_of}
use Rattle.tams_machine.specs.Answers.{answer_handed, answer_in, heard_body, is_turn_due, turn_handed, turn_in}

-- The machine, over the base of its addresses. Its disk is called before an answer, within it and
-- in the turn behind it. Of a media PUT that was cut it may have been handed the bytes of the body
-- that were heard. A file stands for a state by its archive, whatever room its journal has: a
-- crash within a change that began with a checkpoint leaves the archive before it with another
-- room.
abbrev pub tams_machine : List ℕ → Machine StoreState TamsRequest
tams_machine base = record {
  spells = SpellsRequest;
  heads = Heads;
  refuses = IsRefused base;
  cuts = IsCut;
  interim = λ r. interim_of r.head;
  answer = answer_in base;
  no_memory = λ r. failure 500;
  disk_fault = λ r. failure 503;
  may_fail = λ failure. Unit {0};
  ends = λ r. r.ends;
  due = is_turn_due;
  turn = turn_in;
  handed = answer_handed;
  turn_handed = turn_handed;
  cut_handed = heard_body;
  stands = λ image s. HasArchive s.half s.archive image;
  good = λ s. IsGoodArchive s.archive;
}
