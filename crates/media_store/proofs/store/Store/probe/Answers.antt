use Rattle.std.proofs.Common.{◌∙◌, sym, refl}
use Rattle.media_store.proofs.Probing.{extent_found}
use Rattle.media_store.proofs.store.Store.probe.Goals as goal

-- the object is a stored one
pub digest_at-requires-clause-stored : goal.digest_at-requires-clause-stored
digest_at-requires-clause-stored g c = extent_found c.args.self.now.kept.library c.args.object.now _ _ _ _ refl (sym c.state_of.ensures ∙ c.in-Stored.is)
