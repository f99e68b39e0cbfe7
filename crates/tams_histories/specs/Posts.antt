-- What a post of segments is answered. Our own profile of the Time-addressable Media Store.
use Rattle.std.specs.Prelude.{◌≡◌, ℕ, List, [], Some, None, Ok, IsTrue}
use Rattle.change_codec.specs.Fitting.{fits}
use Rattle.media_rows.specs.declared.change.Change.{Change}
use Rattle.media_rows.specs.declared.change.Change.TheVariants as changes
use Rattle.media_rows.specs.declared.command.Command.TheVariants as commands
use Rattle.media_rows.specs.declared.reply.Reply.{Reply}
use Rattle.media_rows.specs.declared.reply.Reply.TheVariants.{Created}
use Rattle.media_rows.specs.declared.reply.SortedPosts.{SortedPosts}
use Rattle.media_rows.specs.declared.segment.PostList.{PostList}
use Rattle.media_rows.specs.declared.segment.Segment.{Segment}
use Rattle.media_rows.specs.Answer.{list_reply, posting_refusal, refusal_of}
use Rattle.media_rows.specs.Posts.{sorted}
use Rattle.media_rows.specs.Segments.{list_post}
use Rattle.run_history.specs.Machine.{MachineReply}
use Rattle.store_states.specs.States.{StoreState}
use Rattle.tams_http.specs.Answered.{response_to}
use Rattle.tams_http.specs.declared.ask.Ask.TheVariants.{Run}
use Rattle.tams_machine.specs.Answers.{answer_in, asked_in, journal_of_state, state_with_change}
use Rattle.tams_machine.specs.Requests.{TamsRequest, context_of}

-- the change that adds these segments
abbrev pub adds : ℕ → ℕ → List Segment → Change
adds moment flow posts = changes.AddSegments moment flow (list_post posts)

-- the answer to a request with this reply, whose change this is
abbrev pub replied_with :
    List ℕ → TamsRequest → StoreState → Reply → Change → MachineReply StoreState
replied_with base r s reply change = record {
  bytes = response_to (context_of s.archive.library.id base r) reply;
  change = Some (state_with_change s change r.body);
}

-- what is told of each segment of a post in a state
abbrev pub told_in : StoreState → ℕ → PostList → SortedPosts
told_in s flow posts = sorted s.archive.library flow [] posts.segments

-- Where a request asks for a post of segments that isn't refused as a whole, and the change with
-- those that are kept fits the journal, the answer names those that failed, if any did, and the
-- state after it has exactly those that are kept.
abbrev pub ListsAreAnswered : Type 0
ListsAreAnswered = (base : List ℕ) (r : TamsRequest) (moment : ℕ) (s : StoreState) (flow : ℕ)
    (posts : PostList) → asked_in s r ≡ Ok (Run (commands.AddSegments flow posts))
    → refusal_of s.archive.library (commands.AddSegments flow posts) ≡ None
    → IsTrue (fits (journal_of_state s) (adds moment flow (told_in s flow posts).kept))
    → answer_in base r moment s
    ≡ replied_with base r s (list_reply (told_in s flow posts).failed)
    (adds moment flow (told_in s flow posts).kept)

-- Where a request asks for a post of segments of which the library refuses none, and whose change
-- fits the journal, the answer is that they were created, and the state after it has them.
abbrev pub PostsSucceed : Type 0
PostsSucceed = (base : List ℕ) (r : TamsRequest) (moment : ℕ) (s : StoreState) (flow : ℕ)
    (posts : PostList) → asked_in s r ≡ Ok (Run (commands.AddSegments flow posts))
    → posting_refusal s.archive.library flow posts.segments ≡ None
    → IsTrue (fits (journal_of_state s) (adds moment flow posts.segments))
    → answer_in base r moment s ≡ replied_with base r s Created (adds moment flow posts.segments)
