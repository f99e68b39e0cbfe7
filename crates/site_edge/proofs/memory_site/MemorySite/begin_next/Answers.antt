use Rattle.std.proofs.Common.{refl, arith}
use Rattle.std.proofs.lemmas.List.{length_push, map-append}
use Rattle.site_edge.specs.declared.span.Added.TheVariants.{Peer}
use Rattle.site_edge.proofs.KeptLemmas.{kept_ended}
use Rattle.site_edge.proofs.memory_site.MemorySite.begin_next.Goals as goal

pub invariant_of-self-2 : goal.invariant_of-self-2
invariant_of-self-2 c = kept_ended Peer _ _ c.self.invariant refl
    (rw c.in_ok-push-2.ensures.items (omega (arith, length_push c.reserve.new.self.items c.new.result)))
    refl c.calls-self-inside.ensures.made (rw (c.in_ok-push.ensures.items, c.calls.ensures.made) refl)
    (rw (c.in_ok-push-2.ensures.items, c.in_ok-reserve.ensures.items, c.new.ensures) (simp map-append))
