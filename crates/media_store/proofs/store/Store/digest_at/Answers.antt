use Rattle.std.proofs.Common.{ap, subst, ◌∙◌}
use Rattle.media_rows.specs.Good.{Good}
use Rattle.store_states.proofs.Agreeing.{quiet_calls_keep}
use Rattle.media_store.specs.Stores.{IsSoundStore, StoreSeen}
use Rattle.media_store.proofs.Places.{extent_within, on_device}
use Rattle.media_store.proofs.Probing.{reads_stand}
use Rattle.media_store.proofs.store.Store.digest_at.Goals as goal

pub extent_digest-requires : goal.extent_digest-requires
extent_digest-requires g c =
    let good = subst (λ (s : StoreSeen). Good s.kept.library) c.self.view_is c.keeps_good.ensures in
    let store = subst (λ (s : StoreSeen). IsSoundStore s.kept) c.self.view_is
    (c.self.invariant (ap (λ (s : StoreSeen). s.spent) c.self.view_is ∙ c.requires.unspent)).sound in
    record {
      device = rw c.area-area.ensures
          (on_device c.args.self.now.kept c.args.extent _ store c.requires.device (extent_within c.args.self.now.kept.library c.args.extent good c.requires.stored));
    }

-- reads leave all as it is
pub returns-in-Ok-clause-keeps : goal.returns-in-Ok-clause-keeps
returns-in-Ok-clause-keeps g c = λ held agrees. quiet_calls_keep _ _ _ held c.in-Ok.ensures.reads.time agrees

pub returns-in-Err-clause-keeps : goal.returns-in-Err-clause-keeps
returns-in-Err-clause-keeps g c = λ held agrees. quiet_calls_keep _ _ _ held c.in-Err.ensures.reads.time agrees

pub returns-in-Ok-clause-stands : goal.returns-in-Ok-clause-stands
returns-in-Ok-clause-stands g c = reads_stand _ _ _ _ c.in-Ok.ensures.reads

pub returns-in-Err-clause-stands : goal.returns-in-Err-clause-stands
returns-in-Err-clause-stands g c = reads_stand _ _ _ _ c.in-Err.ensures.reads
