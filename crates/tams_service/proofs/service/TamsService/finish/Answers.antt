use Rattle.std.proofs.Common.{◌≡◌, ◌≤◌, ◌<◌, ℕ, List, length, Option, None, Some, true, false, not, refl, sym, ap, ◌∙◌, arith}
use Rattle.std.specs.Prelude.{IfSome}
use Rattle.std.proofs.lemmas.Bool.{false≢true}
use Rattle.tams_service.specs.Saying.{is_told_unfailed}
use Rattle.tams_service.specs.declared.saying.AnswerTold.{AnswerTold}
use Rattle.tams_service.proofs.Finished.{read_failed, turn_failed, turn_made, turn_skipped}
use Rattle.tams_service.proofs.service.TamsService.finish.Goals as goal
use Rattle.tams_service.proofs.service.TamsService.finish.Goals.{in-Ok, in-Err-Memory, in-Err-Disk}

-- a read fails only of an answer with an object's bytes, behind a response of a byte at least
begun_by : {A : Type 0} (media : Option A) (response sent : List ℕ) (t : AnswerTold) → not (is_told_unfailed t) ≡ true
    → (media ≡ None → is_told_unfailed t ≡ true) → IfSome media (λ extent. 0 < length response) → length response ≤ length sent → 1 ≤ length sent
begun_by None response sent t lost bare some front = absurd (false≢true (ap not (sym (bare refl)) ∙ lost))
begun_by (Some extent) response sent t lost bare some front = omega (arith, some, front)

-- A read of the object's bytes failed.
pub returns-then-is_failed-clause-leads : goal.returns-then-is_failed-clause-leads
returns-then-is_failed-clause-leads g c = λ all some.
    let mid = g.X.Disk.device c.say_answer-told.new.site in
    let lost = sym c.is_failed.ensures ∙ c.if-is_failed.true in
    rw (← c.self.view_is, c.count.ensures)
    (read_failed (g.X.Disk.device c.args.site.now) mid mid c.self.inside.store c.say_answer-told.new.store c.say_answer-told.new.store c.args.tally.now _
    c.args.reply.now.changes c.args.reply.now.moment c.args.reply.now.ends c.say_answer-told.result all (c.say_answer-told.ensures.says all.shows).says
    lost
    (λ on. begun_by c.args.reply.now.media _ _ c.say_answer-told.result lost c.say_answer-told.ensures.bare some ((c.say_answer-told.ensures.says all.shows).front all.tells on)))

-- The turn was made, if one was due; or it was skipped; or the disk failed in it.
pub returns-clause-leads : goal.returns-clause-leads
returns-clause-leads g c = λ all some.
    let old = g.X.Disk.device c.args.site.now in
    let mid = g.X.Disk.device c.say_answer-told.new.site in
    let new = g.X.Disk.device c.turn.new.disk in
    let store = c.self.inside.store in
    let told = c.say_answer-told.new.store in
    let next = c.turn.new.self in
    let reply = c.args.reply.now in
    let said = c.say_answer-told.ensures in
    let whole : not (is_told_unfailed c.say_answer-told.result) ≡ false = sym c.is_failed.ensures ∙ c.if-is_failed.false in
    rw (← c.self.view_is)
    (elim c.match-turn.branch [
      | in-Ok w ↦
          let made = w.in-Ok.ensures in
          rw (w.result-is, w.tally-is, w.ending_behind.ensures, w.count-in-Ok.ensures, w.changes_of.ensures)
          (turn_made old mid new store told next c.args.tally.now _ reply.changes reply.moment reply.ends c.say_answer-told.result all (said.says all.shows).says
          whole said.kept (said.spent ∙ whole) said.keeps made.calls.link c.requires.moment c.turns_keep.ensures.good w.in-Ok.made made.made made.spent
          (made.makes (said.calls.same.honest ∙ all.honest) (said.calls.same.shows ∙ all.shows)) made.next (made.handed (said.calls.same.tells ∙ all.tells)))
      | in-Err-Memory w ↦
          let starved = rw w.in-Err-Memory.field-0-is at w.in-Err-Memory.ensures.memory in
          rw (w.result-is, w.tally-is, w.ending_behind-in-Err-Memory.ensures, w.count_skipped.ensures)
          (turn_skipped old mid new store told next c.args.tally.now _ reply.changes reply.moment reply.ends c.say_answer-told.result all (said.says all.shows).says
          whole said.kept (said.spent ∙ whole) said.keeps (ap (λ d. (g.X.Disk.device d).link) starved.1) c.requires.moment c.turns_keep.ensures.good starved.2
          (ap (λ d. g.X.Disk.device d) starved.1) starved.0)
      | in-Err-Disk w ↦
          let failed = w.in-Err-Disk.ensures in
          rw (w.result-is, w.tally-is, w.count-in-Err-Disk.ensures)
          (turn_failed old mid new store told next c.args.tally.now _ reply.changes reply.moment reply.ends c.say_answer-told.result all (said.says all.shows).says
          whole said.kept (said.spent ∙ whole) said.keeps failed.calls.link c.requires.moment c.turns_keep.ensures.good
          (rw w.in-Err-Disk.field-0-is at failed.failing)
          (rw w.in-Err-Disk.field-0-is at failed.makes (said.calls.same.honest ∙ all.honest) (said.calls.same.shows ∙ all.shows)))
    ])
