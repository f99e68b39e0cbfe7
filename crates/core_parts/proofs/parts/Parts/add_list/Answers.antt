use Rattle.std.proofs.lemmas.Result.{err_from_is_err_and}
use Rattle.core_parts.proofs.parts.Parts.add_list.Goals as goal

-- there was no memory for the registry
pub returns-in_err-registry-in-Ok : goal.returns-in_err-registry-in-Ok
returns-in_err-registry-in-Ok c =
    let p = err_from_is_err_and c.from_residual-in_err-registry-in-Ok.result c.from_residual-in_err-registry-in-Ok.ensures.1 in rw (p.1, p.2) tt
