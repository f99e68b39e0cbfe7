use Rattle.std.proofs.Common.{ap, subst, ◌∙◌}
use Rattle.media_rows.specs.Good.{Good}
use Rattle.media_store.specs.Stores.{IsSoundStore, StoreSeen}
use Rattle.media_store.proofs.Places.{extent_within, on_device}
use Rattle.media_store.proofs.store.Store.get_piece.Goals as goal

pub read_kept-requires-clause-device : goal.read_kept-requires-clause-device
read_kept-requires-clause-device g c =
    let good = subst (λ (s : StoreSeen). Good s.kept.library) c.self.view_is c.keeps_good.ensures in
    let store = subst (λ (s : StoreSeen). IsSoundStore s.kept) c.self.view_is
    (c.self.invariant (ap (λ (s : StoreSeen). s.spent) c.self.view_is ∙ c.requires.unspent)).sound in
    rw c.area-area.ensures
    (on_device c.args.self.now.kept c.args.extent _ store c.requires.device (extent_within c.args.self.now.kept.library c.args.extent good c.requires.stored))

pub returns-in-Ok-clause-keeps : goal.returns-in-Ok-clause-keeps
returns-in-Ok-clause-keeps g c = λ held agrees. c.in-Ok.ensures.keeps c.args.self.now.kept held agrees

pub returns-in-Err-clause-keeps : goal.returns-in-Err-clause-keeps
returns-in-Err-clause-keeps g c = λ held agrees. c.in-Err.ensures.keeps c.args.self.now.kept held agrees
