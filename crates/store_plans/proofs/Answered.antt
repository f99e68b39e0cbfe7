-- Answers that leave a library as it is.
use Rattle.std.proofs.Common.{◌≡◌, refl, sym, ap, subst, ◌∙◌}
use Rattle.std.specs.Prelude.{Result, Ok, Err}
use Rattle.media_rows.specs.declared.refusal.Refusal.{Refusal}
use Rattle.media_rows.specs.declared.reply.Reply.{Reply}
use Rattle.media_rows.specs.declared.reply.Reply.TheVariants as replies
use Rattle.media_rows.specs.declared.reply.View.{View}
use Rattle.media_rows.specs.Answer.{answer_by, shown_refusal, shown_reply, unchanged}
use Rattle.core_queries.specs.Replies.{replied}
use Rattle.change_codec.specs.Fitting.{State}
use Rattle.core_parts.specs.Parts.{HeldLibrary}
use Rattle.store_plans.specs.declared.outcome.Planned.{Planned}
use Rattle.store_plans.specs.Plans.{IsPlanOf, IsPlanned}
use Rattle.store_plans.specs.Within.{still}

-- such a plan is that of its reply
pub still_plan : (journal : State) (held : HeldLibrary) (reply : Reply) (planned : Planned) → held.library ≡ journal.library → planned ≡ still held reply
    → IsPlanned journal (unchanged reply) planned
still_plan journal held reply planned same is =
    subst (IsPlanned journal (unchanged reply)) (sym is) (record { reply = refl; step = record { frame = refl; rows = refl; same = same } })

-- ---- questions

-- what is shown is the answer
pub shown_plan : (journal : State) (held : HeldLibrary) (shown : Result View Refusal) (planned : Planned) → held.library ≡ journal.library
    → planned ≡ still held (shown_reply shown)
    → IsPlanOf journal (answer_by (shown_refusal shown) (unchanged (shown_reply shown))) planned
shown_plan journal held (Ok view) planned same is = still_plan journal held (replies.Shown view) planned same is
shown_plan journal held (Err why) planned same is = still_plan journal held (replies.Refused why) planned same is

-- a reply is what is shown
pub shown_ok : (held : HeldLibrary) (shown : Result View Refusal) (reply : Reply) (planned : Planned) → replied shown ≡ Ok reply → planned ≡ still held reply
    → planned ≡ still held (shown_reply shown)
shown_ok held (Ok view) reply planned e is =
    let same : reply ≡ replies.Shown view = cc in
    is ∙ ap (still held) same
shown_ok held (Err why) reply planned e is = absurd (cc)
