use Rattle.std.proofs.Common.{sym, ◌∙◌}
use Rattle.std.proofs.lemmas.Bool.{false≢true}
use Rattle.request_hearing.proofs.BodyLemmas.{takes_unread}
use Rattle.request_hearing.proofs.listener.Hearing.take_body.Goals as goal

-- Bytes were unread.
pub returns-else-is_read : goal.returns-else-is_read
returns-else-is_read g c =
    let view = c.self.view_is in
    takes_unread c.args.self.now c.take_body.new.self (g.X.Disk.device c.args.site.now) c.args.out.now c.take_body.new.out c.take_body.result
    (λ none. false≢true (sym c.if-is_read.false ∙ (rw view at c.is_read.ensures).1 none)) c.requires.left c.requires.some
    (rw view at c.take_body.ensures.count) (rw view at c.take_body.ensures.out) (rw view at c.take_body.ensures.rest)
