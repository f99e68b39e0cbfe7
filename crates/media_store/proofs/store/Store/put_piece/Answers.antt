use Rattle.std.proofs.Common.{ap, refl, subst, sym, ◌∙◌}
use Rattle.media_rows.specs.Good.{Good}
use Rattle.media_store.specs.Changes.{FileStands}
use Rattle.media_store.specs.Puts.{IsStore}
use Rattle.media_store.specs.Stores.{StoreSeen}
use Rattle.media_store.proofs.PutFacts.{hands_on, keeps_stand, leaves, may_take, moves_on, placed, put_of}
use Rattle.media_store.proofs.store.Store.put_piece.Goals as goal

pub take-requires-clause-place : goal.take-requires-clause-place
take-requires-clause-place g c =
    let good = subst (λ (s : StoreSeen). Good s.kept.library) c.self.view_is c.keeps_good.ensures in
    let store = subst (λ (s : StoreSeen). IsStore s.kept s.put) c.self.view_is
    (c.self.invariant (ap (λ (s : StoreSeen). s.spent) c.self.view_is ∙ c.requires.unspent)) in
    let there = ap (λ (s : StoreSeen). s.put) (sym c.self.view_is) ∙ c.in-Some.is in
    rw c.area-area.ensures
    (placed c.args.self.now.kept _ _ c.in-Some.put good store.sound c.requires.device
    (may_take c.args.self.now.put c.in-Some.put _ c.requires.under_way there) (put_of c.args.self.now.kept c.args.self.now.put c.in-Some.put store there))

pub invariant_of-self : goal.invariant_of-self
invariant_of-self g c = λ unspent.
    let store = c.self.invariant unspent in
    let there = ap (λ (s : StoreSeen). s.put) (sym c.self.view_is) ∙ c.in-Some.is in
    record {
      sound = store.sound;
      of_store = moves_on _ c.in-Some.put c.take.new.self c.args.piece.now (put_of _ c.self.inside.put c.in-Some.put store c.in-Some.is) c.in-Ok.ensures.put
          (may_take c.args.self.now.put c.in-Some.put _ c.requires.under_way there) c.in-Ok.ensures.same;
    }

pub returns-in-Ok-clause-keeps : goal.returns-in-Ok-clause-keeps
returns-in-Ok-clause-keeps g c = λ held agrees.
    let store = subst (λ (s : StoreSeen). IsStore s.kept s.put) c.self.view_is
    (c.self.invariant (ap (λ (s : StoreSeen). s.spent) c.self.view_is ∙ c.requires.unspent)) in
    let there = ap (λ (s : StoreSeen). s.put) (sym c.self.view_is) ∙ c.in-Some.is in
    c.take.ensures.keeps c.args.self.now.kept held agrees c.area-area.ensures
    (leaves c.args.self.now.kept c.in-Some.put (put_of c.args.self.now.kept c.args.self.now.put c.in-Some.put store there))

pub returns-in-Ok-clause-stands : goal.returns-in-Ok-clause-stands
returns-in-Ok-clause-stands g c = λ stands.
    let store = subst (λ (s : StoreSeen). IsStore s.kept s.put) c.self.view_is
    (c.self.invariant (ap (λ (s : StoreSeen). s.spent) c.self.view_is ∙ c.requires.unspent)) in
    let there = ap (λ (s : StoreSeen). s.put) (sym c.self.view_is) ∙ c.in-Some.is in
    let old = g.D.Disk.device c.args.disk.now in
    let new = g.D.Disk.device c.take.new.disk in
    subst (λ (s : StoreSeen). FileStands new s.kept) (sym c.self.view_is)
    (keeps_stand c.args.self.now.kept old new
    (λ held agrees. c.take.ensures.keeps c.args.self.now.kept held agrees c.area-area.ensures
    (leaves c.args.self.now.kept c.in-Some.put (put_of c.args.self.now.kept c.args.self.now.put c.in-Some.put store there))) stands)

pub returns-in-Ok-clause-hands : goal.returns-in-Ok-clause-hands
returns-in-Ok-clause-hands g c =
    let store = subst (λ (s : StoreSeen). IsStore s.kept s.put) c.self.view_is
    (c.self.invariant (ap (λ (s : StoreSeen). s.spent) c.self.view_is ∙ c.requires.unspent)) in
    let there = ap (λ (s : StoreSeen). s.put) (sym c.self.view_is) ∙ c.in-Some.is in
    hands_on c.args.self.now.kept c.area-area.result c.args.piece.now c.in-Some.put c.take.new.self c.args.self.now.put _
    (g.D.Disk.device c.args.disk.now) (g.D.Disk.device c.take.new.disk) there refl
    (put_of c.args.self.now.kept c.args.self.now.put c.in-Some.put store there) c.area-area.ensures c.in-Ok.ensures.put
    (may_take c.args.self.now.put c.in-Some.put _ c.requires.under_way there) c.in-Ok.ensures.same c.in-Ok.ensures.piece

pub returns-in-Err-clause-keeps : goal.returns-in-Err-clause-keeps
returns-in-Err-clause-keeps g c = λ held agrees.
    let store = subst (λ (s : StoreSeen). IsStore s.kept s.put) c.self.view_is
    (c.self.invariant (ap (λ (s : StoreSeen). s.spent) c.self.view_is ∙ c.requires.unspent)) in
    let there = ap (λ (s : StoreSeen). s.put) (sym c.self.view_is) ∙ c.in-Some.is in
    c.take.ensures.keeps c.args.self.now.kept held agrees c.area-area.ensures
    (leaves c.args.self.now.kept c.in-Some.put (put_of c.args.self.now.kept c.args.self.now.put c.in-Some.put store there))

pub returns-in-Err-clause-stands : goal.returns-in-Err-clause-stands
returns-in-Err-clause-stands g c = λ stands.
    let store = subst (λ (s : StoreSeen). IsStore s.kept s.put) c.self.view_is
    (c.self.invariant (ap (λ (s : StoreSeen). s.spent) c.self.view_is ∙ c.requires.unspent)) in
    let there = ap (λ (s : StoreSeen). s.put) (sym c.self.view_is) ∙ c.in-Some.is in
    let old = g.D.Disk.device c.args.disk.now in
    let new = g.D.Disk.device c.take.new.disk in
    subst (λ (s : StoreSeen). FileStands new s.kept) (sym c.self.view_is)
    (keeps_stand c.args.self.now.kept old new
    (λ held agrees. c.take.ensures.keeps c.args.self.now.kept held agrees c.area-area.ensures
    (leaves c.args.self.now.kept c.in-Some.put (put_of c.args.self.now.kept c.args.self.now.put c.in-Some.put store there))) stands)
