-- What a post of segments is answered, by what is told of each.
use Rattle.std.proofs.Common.{◌≡◌, ◌++◌, ℕ, Bool, true, false, List, [], Option, None, Some, refl, sym, ap, subst}
use Rattle.std.specs.Prelude.{IsTrue}
use Rattle.std.proofs.lemmas.List.{append-nil}
use Rattle.change_codec.specs.Fitting as journals
use Rattle.http_wire.specs.Framing.{method_kind}
use Rattle.http_wire.specs.Response.{body_unless}
use Rattle.media_rows.specs.declared.command.Command.TheVariants as commands
use Rattle.media_rows.specs.declared.reply.SortedPosts.{SortedPosts}
use Rattle.media_rows.specs.Answer.{change_refusal, list_reply, refusal_of}
use Rattle.media_rows.specs.Lists.{or_else}
use Rattle.media_rows.specs.Posts.{posts_refusal}
use Rattle.library_laws.proofs.SortedLemmas.{whole_is_kept}
use Rattle.run_history.specs.Machine.{MachineReply}
use Rattle.store_states.specs.States.{StoreState}
use Rattle.tams_http.specs.Answered.{response_to}
use Rattle.tams_machine.specs.Answers.{answer_in, journal_of_state, state_with_change}
use Rattle.tams_machine.specs.Requests.{context_of, is_head_only}
use Rattle.tams_histories.specs.Posts.{ListsAreAnswered, PostsSucceed, adds, replied_with, told_in}

nothing_behind : (xs : List ℕ) (head_only : Bool) → xs ++ body_unless head_only [] ≡ xs
nothing_behind xs true = append-nil xs
nothing_behind xs false = append-nil xs

-- of two refusals neither stands
neither : {X : Type 0} (a b : Option X) → or_else a b ≡ None → (a ≡ None) × (b ≡ None)
neither None b e = (refl, e)
neither (Some x) b e = absurd (cc)

abbrev reply_with : StoreState → List ℕ → MachineReply StoreState
reply_with next bytes = record { bytes = bytes; change = Some next }

pub lists_are_answered : ListsAreAnswered
lists_are_answered base r moment s flow posts asked fine fits =
    let told = told_in s flow posts in
    let behind = nothing_behind (response_to (context_of s.archive.library.id base r) (list_reply told.failed)) (is_head_only (method_kind r.head.method)) in
    rw (asked, fine, fits) (ap (reply_with (state_with_change s (adds moment flow told.kept) r.body)) behind)

pub posts_succeed : PostsSucceed
posts_succeed base r moment s flow posts asked fine fits =
    let library = s.archive.library in
    let parts = neither (change_refusal library flow) (posts_refusal library flow posts.segments) fine in
    let whole : SortedPosts = record { kept = posts.segments; failed = [] } in
    let told : told_in s flow posts ≡ whole = whole_is_kept library flow [] posts.segments parts.1 in
    let free : refusal_of library (commands.AddSegments flow posts) ≡ None = rw (parts.0, told) refl in
    subst (λ (t : SortedPosts). answer_in base r moment s ≡ replied_with base r s (list_reply t.failed) (adds moment flow t.kept)) told
    (lists_are_answered base r moment s flow posts asked free
    (subst (λ (t : SortedPosts). IsTrue (journals.fits (journal_of_state s) (adds moment flow t.kept))) (sym told) fits))
