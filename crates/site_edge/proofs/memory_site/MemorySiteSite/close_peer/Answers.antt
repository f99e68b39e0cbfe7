use Rattle.std.proofs.Common.{refl, rules}
use Rattle.site_edge.proofs.MomentLemmas.{quiet_time}
use Rattle.disk_trait.specs.Calls.{Unchanged}
use Rattle.site_edge.proofs.memory_site.MemorySiteSite.close_peer.Goals as goal

pub returns-clause-call : goal.returns-clause-call
returns-clause-call c = rw (← c.self.view_is) (record {
  same = record { size = refl; honest = refl; shows = refl; tells = refl };
  faults = refl;
  seen = refl;
  handed = refl;
  counted = search rules;
  time = quiet_time Unchanged _ _ (λ p. refl) (record { past = refl; spans = refl; since = refl; told = refl });
})
