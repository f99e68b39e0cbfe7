use Rattle.std.proofs.Common.{◌≡◌, Option, Some, refl, sym, ap, ap₂, subst, ◌∙◌}
use Rattle.std.specs.Prelude.{option_map}
use Rattle.media_rows.specs.declared.change.Change.{Change}
use Rattle.core_parts.specs.Parts.{HeldLibrary}
use Rattle.store_core.specs.declared.prepare.Prepared.{Prepared}
use Rattle.store_core.specs.Prepared.{StoresDigested, change_digested, prepared_digested}
use Rattle.store_core.proofs.Stored.{stores_digested}
use Rattle.store_core.proofs.prepare.Prepared.set_digest.Goals as goal

-- the change with the digest applies
pub returns-in-Some-Store-clause-applies : goal.returns-in-Some-Store-clause-applies
returns-in-Some-Store-clause-applies c =
    let old = c.args.self.now in
    let change = ap (option_map (change_digested c.args.digest)) (c.in-Some-Store.is ∙ ap Some c.in-Some-Store.field-0-is) in
    subst (λ (new : Prepared). StoresDigested old new)
    (ap₂ (λ (core : HeldLibrary) (change : Option Change). record { core = core; change = change; reply = old.reply; past = old.past }) (sym c.set_digest.ensures) change)
    (stores_digested c.good_is_tested.ensures c.args.digest old)
