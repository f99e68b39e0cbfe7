use Rattle.std.proofs.Common.{false, true, sym, ◌∙◌}
use Rattle.media_rows.specs.Digests.{digest_of}
use Rattle.tams_service.proofs.Putting.{come_if, ends_if}
use Rattle.tams_service.proofs.media.end_put.Goals as goal

pub returns-in-Ok-clause-makes : goal.returns-in-Ok-clause-makes
returns-in-Ok-clause-makes g c = λ honest shows held came agrees hashed.
    let some = sym c.has_put.ensures ∙ c.if-not-has_put.false in
    ends_if true c.args.store.now.put (digest_of came) _ held _ _
    (c.in-Ok.ensures.makes honest shows held came agrees (come_if c.args.store.now.put came some hashed))

pub returns-in-Err-clause-makes : goal.returns-in-Err-clause-makes
returns-in-Err-clause-makes g c = λ honest shows held came agrees hashed.
    let some = sym c.has_put.ensures ∙ c.if-not-has_put.false in
    ends_if false c.args.store.now.put (digest_of came) _ held _ _
    (c.in-Err.ensures.makes honest shows held came agrees (come_if c.args.store.now.put came some hashed))

pub returns-in-Ok-clause-kept : goal.returns-in-Ok-clause-kept
returns-in-Ok-clause-kept g c = λ came hashed.
    let some = sym c.has_put.ensures ∙ c.if-not-has_put.false in
    c.in-Ok.ensures.kept came (come_if c.args.store.now.put came some hashed)
