-- Worked values of the machine, computed by hand: an interim, the last request of a connection, the
-- put of a flow into an empty library, the bytes of an object, and when a turn is due.
use Rattle.std.specs.Prelude.{◌≡◌, ◌+◌, ℕ, true, false, List, [], ◌∷◌, Some, None, Ok, Err, codes}
use Rattle.httparse.specs.Grammar.{RequestHead, crlf}
use Rattle.media_rows.specs.declared.command.Command.TheVariants as commands
use Rattle.media_rows.specs.declared.change.Change.{Change}
use Rattle.media_rows.specs.declared.change.Change.TheVariants as changes
use Rattle.media_rows.specs.declared.object.ObjectRow.{ObjectRow}
use Rattle.media_rows.specs.declared.object.ObjectState.TheVariants.{Stored}
use Rattle.media_rows.specs.declared.refusal.Refusal.TheVariants.{JournalFull}
use Rattle.media_rows.specs.declared.reply.Reply.TheVariants as replies
use Rattle.media_rows.specs.Answer.{changed, unchanged}
use Rattle.media_rows.specs.Digests.{digest_of}
use Rattle.media_rows.specs.Library.{empty_library}
use Rattle.media_rows.specs.Media.{Archive}
use Rattle.change_codec.specs.Fitting.{snapshot_size}
use Rattle.change_codec.specs.WorkedFitting.{fitting_flow}
use Rattle.store_states.specs.States.{StoreState}
use Rattle.tams_http.specs.declared.ask.Ask.{Ask}
use Rattle.tams_http.specs.declared.ask.Ask.TheVariants.{GetMedia, Run}
use Rattle.tams_machine.specs.Requests.{ends_behind, interim_text}
use Rattle.tams_machine.specs.Answers.{change_handed, checkpoint_handed, handed_if, heard_body, is_turn_due, object_bytes, object_handed, outcome_by, state_with_change, turn_in}

-- a head that asks for the root and says nothing of its connection
abbrev pub plain_head : RequestHead
plain_head = record {
  blank = [];
  method = codes "GET";
  target = codes "/";
  minor = 1;
  line_end = crlf;
  fields = [];
  last = crlf;
}

-- an archive that keeps nothing, in a half of so many bytes, of which so many are left
abbrev pub empty_in : ℕ → ℕ → StoreState
empty_in half room = record {
  archive = record { library = empty_library 1 1; held = [] };
  room = room;
  half = half;
}

-- what asks for the put of a flow that isn't kept
abbrev pub put_ask : Ask
put_ask = Run (commands.PutFlow fitting_flow)

-- three bytes
abbrev pub three_bytes : List ℕ
three_bytes = 7 ∷ 8 ∷ 9 ∷ []

-- an object of three bytes that no segment names, idle since the moment 100
abbrev pub idle_object : ObjectRow
idle_object = record {
  id = codes "a";
  serial = 1;
  state = Stored 0 3 (Some (digest_of three_bytes));
  idle_since = 100;
}

-- the archive that keeps it alone
abbrev pub idle_archive : Archive
idle_archive = record {
  library = record (empty_library 1 1) { objects = idle_object ∷ [] };
  held = three_bytes ∷ [];
}

-- the same in a half of a block
abbrev pub idle_state : StoreState
idle_state = record { archive = idle_archive; room = 4075; half = 4096 }

-- the storing of three bytes for it
abbrev pub storing_change : Change
storing_change = changes.Store 0 (codes "a") 0 3 (Some (digest_of three_bytes))

-- a head of 19 bytes, and three bytes behind it
abbrev pub cut_put : List ℕ
cut_put = codes "PUT /a HTTP/1.1\r\n\r\nabc"

-- The interim's bytes. The millionth request of a connection ends it. The put of a flow takes 63
-- bytes of the room, and is refused where neither the room nor a half has them. It hands 64 bytes
-- to the device; where the room is a byte too small, the rows of the library and 10 more come
-- first. An object of three bytes is handed on beside its change. Of a request that was cut three
-- bytes of the body were heard, and none of one whose head isn't whole. An object gives its bytes,
-- and what is refused none. A turn is due once an object was idle for a day, and not before; with
-- nothing kept none is.
pub record MachineAsWorked : Type 0 where
  pub interim : interim_text ≡ codes "HTTP/1.1 100 Continue\r\n\r\n"
  pub last_request : ends_behind 999999 plain_head ≡ true
  pub one_before : ends_behind 999998 plain_head ≡ false
  pub made : outcome_by (empty_in 4096 4075) [] 0 (Ok put_ask)
      ≡ changed replies.Created (changes.PutFlow 0 fitting_flow)
  pub full : outcome_by (empty_in 1 1) [] 0 (Ok put_ask) ≡ unchanged (replies.Refused JournalFull)
  pub room_left : (state_with_change (empty_in 4096 4075) (changes.PutFlow 0 fitting_flow) []).room
      ≡ 4012
  pub put_handed : change_handed (empty_in 4096 64) (changes.PutFlow 0 fitting_flow) ≡ 64
  pub rows_handed : checkpoint_handed (empty_in 4096 63) (changes.PutFlow 0 fitting_flow)
      ≡ snapshot_size (empty_library 1 1) + 10
  pub stored_handed : object_handed storing_change ≡ 3
  pub none_handed : handed_if (empty_in 4096 4075) None ≡ 0
  pub body_heard : heard_body cut_put ≡ 3
  pub head_heard : heard_body (codes "PUT /a HTTP/1.1\r\n") ≡ 0
  pub given : object_bytes idle_archive (Ok (GetMedia (codes "a"))) (replies.Media 3)
      ≡ three_bytes
  pub refused : object_bytes idle_archive (Err JournalFull) (replies.Refused JournalFull) ≡ []
  pub not_due : is_turn_due 86499 idle_state ≡ false
  pub due : is_turn_due 86500 idle_state ≡ true
  pub no_turn : turn_in 86500 (empty_in 4096 4075) ≡ None
