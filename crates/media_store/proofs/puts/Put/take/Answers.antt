use Rattle.std.proofs.Common.{subst, sym}
use Rattle.media_store.specs.Stores.{PutSeen}
use Rattle.media_store.specs.Within.{LeavesObjects}
use Rattle.media_store.proofs.puts.Put.take.Goals as goal

pub returns-in_err-self-inside-clause-keeps : goal.returns-in_err-self-inside-clause-keeps
returns-in_err-self-inside-clause-keeps g c = λ kept held agrees place free.
    c.take_piece.ensures.keeps kept held agrees place (subst (λ (s : PutSeen). LeavesObjects kept.library s.plan) (sym c.self.view_is) free)

pub returns-clause-keeps : goal.returns-clause-keeps
returns-clause-keeps g c = λ kept held agrees place free.
    c.take_piece.ensures.keeps kept held agrees place (subst (λ (s : PutSeen). LeavesObjects kept.library s.plan) (sym c.self.view_is) free)
