-- What is prepared has the reply of the library's answer.
use Rattle.std.proofs.Common.{◌≡◌, sym, ap}
use Rattle.std.specs.Prelude.{Ok, Err}
use Rattle.media_rows.specs.declared.refusal.Refusal.{Refusal}
use Rattle.media_rows.specs.declared.reply.Reply.{Reply}
use Rattle.media_rows.specs.declared.reply.Reply.TheVariants as replies
use Rattle.media_rows.specs.Answer.{Outcome}
use Rattle.media_rows.specs.Library.{Library}
use Rattle.store_core.specs.Prepared.{Preparation, prepared_by, prepared_of, unless_refused}
use Rattle.store_core.proofs.Prepares.{passed}

refused : (reply : Reply) (q : Preparation) (why : Refusal) → unless_refused reply q ≡ Err why → replies.Refused why ≡ reply
refused (replies.Refused other) q why e = cc
refused replies.Created q why e = absurd (cc)
refused replies.Done q why e = absurd (cc)
refused (replies.CreatedObjects ids) q why e = absurd (cc)
refused (replies.Accepted row) q why e = absurd (cc)
refused (replies.Shown view) q why e = absurd (cc)
refused (replies.Media size) q why e = absurd (cc)
refused (replies.Partly failed) q why e = absurd (cc)

-- what was prepared of an outcome has its reply
pub prepared_reply : (library : Library) (outcome : Outcome) (p : Preparation) → prepared_of library outcome ≡ Ok p → p.reply ≡ outcome.reply
prepared_reply library outcome p e = sym (ap (λ (q : Preparation). q.reply) (passed outcome.reply (prepared_by library outcome) p e))

-- and so has its refusal
pub refused_reply : (library : Library) (outcome : Outcome) (why : Refusal) → prepared_of library outcome ≡ Err why
    → replies.Refused why ≡ outcome.reply
refused_reply library outcome why e = refused outcome.reply (prepared_by library outcome) why e
