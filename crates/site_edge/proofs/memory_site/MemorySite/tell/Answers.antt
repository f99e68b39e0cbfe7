use Rattle.std.proofs.Common.{◌++◌, refl}
use Rattle.site_edge.specs.declared.span.Added.TheVariants.{Bytes}
use Rattle.site_edge.specs.Lines.{told_more}
use Rattle.site_edge.proofs.ConnectionLemmas.{length-change_last, told_changed}
use Rattle.site_edge.proofs.KeptLemmas.{kept_ended}
use Rattle.site_edge.proofs.memory_site.MemorySite.tell.Goals as goal

pub invariant_of-self-2 : goal.invariant_of-self-2
invariant_of-self-2 c = kept_ended (Bytes c.args.bytes.now) _ _ c.self.invariant refl
    (rw (c.in_ok-tell_last.ensures.ok, length-change_last) (rw (← c.self.view_is) at c.requires))
    refl c.calls-self-inside.ensures.made (rw (c.in_ok-push.ensures.items, c.in_ok-reserve.ensures.items, c.calls.ensures.made, c.in_ok-from_bytes.ensures)
    refl)
    (rw c.in_ok-tell_last.ensures.ok (told_changed (told_more c.args.bytes.now) (λ t. t ++ c.args.bytes.now) c.self.inside.lines.items (λ k. refl)))
