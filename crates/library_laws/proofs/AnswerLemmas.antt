-- The change with which a command is answered is one that the library allows.
use Rattle.std.proofs.Common.{◌≡◌, ℕ, Bool, true, false, ◌||◌, cond, List, [], ◌∷◌, length, Option, Some, None, refl, ap, ◌∙◌, arith}
use Rattle.std.specs.Prelude.{IfSome, is_none, is_some, nat_le, ◌==◌}
use Rattle.std.proofs.lemmas.Bool.{and_from, cond_both, or_parts, leb-false, le-leb, lt-ltb, eqb-false, true≢false}
use Rattle.time_range.specs.declared.ranges.Span.{Span}
use Rattle.media_rows.specs.declared.change.Change.{Change}
use Rattle.media_rows.specs.declared.command.Command.{Command}
use Rattle.media_rows.specs.declared.command.Command.TheVariants as commands
use Rattle.media_rows.specs.declared.command.Want.{Want}
use Rattle.media_rows.specs.declared.command.Want.TheVariants.{Count, Named}
use Rattle.media_rows.specs.declared.refusal.Refusal.{Refusal}
use Rattle.media_rows.specs.declared.segment.SegmentRow.{SegmentRow}
use Rattle.media_rows.specs.declared.change.Change.TheVariants as changes
use Rattle.media_rows.specs.declared.reply.Reply.TheVariants as replies
use Rattle.media_rows.specs.Outbox.{hook_of}
use Rattle.media_rows.specs.Answer.{Outcome, changed, unchanged, refusal_of, answer_by, accepted_drop, accepted_cut, change_refusal, first_taken, is_taken, is_kept_object, taken_refusal, wanted_ids, shown_reply}
use Rattle.media_rows.specs.Views.{asked}
use Rattle.media_rows.specs.Library.{Library}
use Rattle.media_rows.specs.Lists.{has_text}
use Rattle.media_rows.specs.Ranges.{covers, eternity}
use Rattle.media_rows.specs.Segments.{covered, segments_of, starts_before}
use Rattle.library_laws.specs.Laws.{IsAllowedAt, AnswersAreAllowed}
use Rattle.library_laws.proofs.Neither.{neither}
use Rattle.library_laws.proofs.SortedLemmas.{list_is_allowed}
use Rattle.library_laws.proofs.ListLemmas.{length-in_order, length-filter_passing}

-- an answer has a change only where nothing is refused
pub by_refusal : (P : Change → Type 0) (refusal : Option Refusal) (outcome : Outcome) → (refusal ≡ None → IfSome outcome.change P)
    → IfSome (answer_by refusal outcome).change P
by_refusal P None outcome h = h refl
by_refusal P (Some why) outcome h = tt

none_is : {X : Type 0} (o : Option X) → o ≡ None → is_none o ≡ true
none_is o e = ap is_none e

-- ---- a flow that goes, and segments that go

covers_all : (range : Option Span) → covers eternity range ≡ true
covers_all None = refl
covers_all (Some s) = refl

-- all segments of a flow are covered by the whole line
length-covered_all : (segments : List SegmentRow) (flow : ℕ) → length (covered segments flow eternity) ≡ length (segments_of flow segments)
length-covered_all segments flow =
    length-in_order starts_before _ ∙ length-filter_passing (λ row. covers eternity row.segment.range) (segments_of flow segments)
    (λ row. covers_all row.segment.range)

drop_allowed : (library : Library) (flow moment : ℕ) → change_refusal library flow ≡ None
    → IfSome (accepted_drop library flow moment).change (IsAllowedAt library moment)
drop_allowed library flow moment none =
    cond_both (nat_le (length (segments_of flow library.segments)) 32) _ _ (λ (o : Outcome). IfSome o.change (IsAllowedAt library moment))
    (λ e. record { allowed = and_from _ _ (none_is _ none) e; at = refl })
    (λ e. record {
      allowed = and_from _ _ (none_is _ none) (lt-ltb 32 (length (covered library.segments flow eternity))
          (omega (arith, leb-false _ _ e, length-covered_all library.segments flow)));
      at = refl;
    })

cut_allowed : (library : Library) (flow : ℕ) (range : Option Span) (moment : ℕ) → change_refusal library flow ≡ None
    → IfSome (accepted_cut library flow range moment).change (IsAllowedAt library moment)
cut_allowed library flow range moment none =
    let count : ℕ = length (covered library.segments flow range) in
    cond_both (count == 0) _ _ (λ (o : Outcome). IfSome o.change (IsAllowedAt library moment)) (λ e. tt)
    (λ some. cond_both (nat_le count 32) _ _ (λ (o : Outcome). IfSome o.change (IsAllowedAt library moment))
    (λ few. record {
      allowed = and_from _ _ (and_from _ _ (none_is _ none) (le-leb 1 count (let more : count ≡ 0 → ⊥ = eqb-false count 0 some in omega arith))) few;
      at = refl;
    })
    (λ many. record { allowed = and_from _ _ (none_is _ none) (lt-ltb 32 count (leb-false count 32 many)); at = refl }))

-- ---- an allocation

taken_step : (a b c : Bool) (id : List ℕ) (rest other : Option (List ℕ)) → (a ≡ false → b ≡ false) → cond (a || c) (Some id) rest ≡ None
    → (rest ≡ None → other ≡ None) → cond (b || c) (Some id) other ≡ None
taken_step true b c id rest other less none later = absurd (cc)
taken_step false b true id rest other less none later = absurd (cc)
taken_step false true false id rest other less none later = absurd (true≢false (less refl))
taken_step false false false id rest other less none later = later none

-- a list that has none taken by a test has none by one that takes fewer
first_taken_less : (p q : List ℕ → Bool) → ((id : List ℕ) → p id ≡ false → q id ≡ false) → (earlier ids : List (List ℕ))
    → first_taken p earlier ids ≡ None → first_taken q earlier ids ≡ None
first_taken_less p q less earlier [] e = refl
first_taken_less p q less earlier (id ∷ later) e =
    taken_step (p id) (q id) (has_text id earlier) id (first_taken p (id ∷ earlier) later) (first_taken q (id ∷ earlier) later) (less id) e
    (first_taken_less p q less (id ∷ earlier) later)

taken_none : (o : Option (List ℕ)) → taken_refusal o ≡ None → o ≡ None
taken_none None e = refl
taken_none (Some id) e = absurd (cc)

kept_is_taken : (library : Library) (want : Want) (id : List ℕ) → is_taken library want id ≡ false → is_kept_object library id ≡ false
kept_is_taken library (Count n) id e = e
kept_is_taken library (Named ids) id e = (or_parts _ _ e).0

-- ---- a hook that goes

drop_hook_allowed : (library : Library) (url : List ℕ) (moment : ℕ) (there : Bool) → is_some (hook_of url library.outbox.hooks) ≡ there
    → IfSome (cond there (changed replies.Done (changes.DropHook moment url)) (unchanged replies.Done)).change (IsAllowedAt library moment)
drop_hook_allowed library url moment true e = record { allowed = e; at = refl }
drop_hook_allowed library url moment false e = tt

-- ---- all commands

by_answer : (library : Library) (command : Command) (moment : ℕ) (outcome : Outcome)
    → (refusal_of library command ≡ None → IfSome outcome.change (IsAllowedAt library moment))
    → IfSome (answer_by (refusal_of library command) outcome).change (IsAllowedAt library moment)
by_answer library command moment outcome h = by_refusal (IsAllowedAt library moment) (refusal_of library command) outcome h

pub answers_allowed : AnswersAreAllowed
answers_allowed library (commands.PutFlow body) moment place = by_answer library (commands.PutFlow body) moment _
    (λ none. record { allowed = none_is _ none; at = refl })
answers_allowed library (commands.SetFlow flow part) moment place = by_answer library (commands.SetFlow flow part) moment _
    (λ none. record { allowed = none_is _ none; at = refl })
answers_allowed library (commands.SetSource source part) moment place = by_answer library (commands.SetSource source part) moment _
    (λ none. record { allowed = none_is _ none; at = refl })
answers_allowed library (commands.DropFlow flow) moment place = by_answer library (commands.DropFlow flow) moment _ (drop_allowed library flow moment)
answers_allowed library (commands.Allocate flow want) moment place = by_answer library (commands.Allocate flow want) moment _ (λ none.
    let parts = neither _ _ none in
    let untaken = first_taken_less (is_taken library want) (is_kept_object library) (kept_is_taken library want) [] (wanted_ids library want)
    (taken_none _ parts.1) in
    record { allowed = and_from _ _ (none_is _ parts.0) (none_is _ untaken); at = refl })
answers_allowed library (commands.Keep object start size digest) moment place =
    by_answer library (commands.Keep object start size digest) moment _ (λ none. record { allowed = and_from _ _ (none_is _ none) (place none); at = refl })
answers_allowed library (commands.AddSegments flow posts) moment place = by_answer library (commands.AddSegments flow posts) moment _
    (λ none. record { allowed = none_is _ (list_is_allowed library flow posts.segments none); at = refl })
answers_allowed library (commands.CutSegments flow range) moment place = by_answer library (commands.CutSegments flow range) moment _
    (cut_allowed library flow range moment)
answers_allowed library (commands.PutHook hook) moment place = record { allowed = refl; at = refl }
answers_allowed library (commands.DropHook url) moment place = drop_hook_allowed library url moment (is_some (hook_of url library.outbox.hooks)) refl
answers_allowed library (commands.Ask query) moment place =
    by_answer library (commands.Ask query) moment (unchanged (shown_reply (asked library query))) (λ none. tt)
