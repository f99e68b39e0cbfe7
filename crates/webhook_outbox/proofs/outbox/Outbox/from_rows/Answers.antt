use Rattle.std.proofs.Common.{◌≡◌, Err, true, ap, sym, subst, ◌∙◌}
use Rattle.media_rows.specs.Good.{are_urls_distinct}
use Rattle.media_rows.specs.Refusals.{Restores}
use Rattle.media_rows.specs.Restoring.{can_restore_outbox, outbox_of}
use Rattle.webhook_outbox.specs.Within.Restored.{all_fit, folded, with_hook_joined, may_join, may_wait, no_rows, waits}
use Rattle.media_rows.proofs.RestoringLemmas.{handed_on}
use Rattle.webhook_outbox.proofs.Restoring.{both_restore, hooks_refuse}
use Rattle.webhook_outbox.proofs.outbox.Outbox.from_rows.Goals as goal

-- the events come to the hooks
pub returns-in-Ok : goal.returns-in-Ok
returns-in-Ok c =
    let hooks = c.args.hooks.now in
    let events = c.args.events.now in
    let bare = c.in-Ok.bare in
    let urls : are_urls_distinct hooks ≡ true = sym (c.in_ok-are_urls_distinct.ensures ∙ ap are_urls_distinct c.items.ensures) ∙ c.if-not-branch.false in
    let made : (all_fit may_join with_hook_joined hooks no_rows ≡ true) × (bare ≡ folded with_hook_joined hooks no_rows) =
    subst (λ l. (all_fit may_join with_hook_joined l no_rows ≡ true) × (bare ≡ folded with_hook_joined l no_rows)) c.items-2.ensures c.in-Ok.ensures in
    both_restore hooks events bare c.events_gathered.result urls made
    (subst (λ l. Restores (all_fit may_wait waits l bare) (folded waits l bare) c.events_gathered.result) c.items-in-Ok.ensures c.events_gathered.ensures)

-- serials of hooks that repeat refuse all
pub returns-in-Err : goal.returns-in-Err
returns-in-Err c =
    let hooks = c.args.hooks.now in
    let events = c.args.events.now in
    handed_on c.in-Err.fault (all_fit may_join with_hook_joined hooks no_rows) (can_restore_outbox hooks events) (folded with_hook_joined hooks no_rows)
    (outbox_of hooks events)
    (hooks_refuse hooks events)
    (subst (λ l. Restores (all_fit may_join with_hook_joined l no_rows) (folded with_hook_joined l no_rows)
    (Err c.in-Err.fault)) c.items-2.ensures c.in-Err.ensures)
