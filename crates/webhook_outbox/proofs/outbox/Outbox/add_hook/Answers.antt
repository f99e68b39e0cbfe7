use Rattle.std.proofs.Common.{◌<◌, not, subst, sym}
use Rattle.media_rows.specs.Outbox.{Outbox, has_url}
use Rattle.shared_tree.proofs.Counted.{all_kept}
use Rattle.webhook_outbox.specs.Delivered.{IsBehindHooks}
use Rattle.webhook_outbox.proofs.outbox.Outbox.add_hook.Goals as goal

-- the hooks that are left have lower serials too
pub with_hook-requires : goal.with_hook-requires
with_hook-requires c = record {
  last = subst (λ (o : Outbox). IsBehindHooks c.args.serial o.hooks) (sym c.in_ok-drop_hook.ensures)
      (all_kept (λ row. row.serial < c.args.serial) (λ row. not (has_url c.args.hook.now.url row)) c.args.self.now.hooks c.requires.last);
}
