use Rattle.std.proofs.Common.{rules, ap, subst}
use Rattle.field_codec.specs.Answers.{Unread}
use Rattle.field_codec.proofs.FieldLaws.{IsShorter, StartsAt, shorter, field_taken, field_within, field_bad}
use Rattle.field_codec.proofs.fields.Fields.next_field.Goals as goal

pub invariant_of-self : goal.invariant_of-self
invariant_of-self g c =
    let started : StartsAt c.args.self.now c.unread-rest.result.now c.new-cursor.result = record {
      bytes = λ i. search rules;
      unread = c.unread-rest.ensures;
      cursor_is = c.new-cursor.ensures;
    } in
    rw (ap (λ (u : Unread). u.bytes) c.self.view_is) (shorter g.T.Plain.spelling c.requires c.args.self.now c.unread-rest.result.now c.new-cursor.result
    c.take.new.cursor c.rest-self-inside.result.now c.in-Ok.value started c.in-Ok.ensures c.rest-self-inside.ensures
    (subst IsShorter c.self.view_is c.self.invariant))

pub overflow_sub-result : goal.overflow_sub-result
overflow_sub-result g c =
    let started : StartsAt c.args.self.now c.unread-rest.result.now c.new-cursor.result = record {
      bytes = λ i. search rules;
      unread = c.unread-rest.ensures;
      cursor_is = c.new-cursor.ensures;
    } in
    (rw (ap (λ (u : Unread). u.bytes) c.self.view_is) (field_within g.T.Plain.spelling c.requires c.args.self.now c.unread-rest.result.now c.new-cursor.result
    c.in-Err.field.left started c.in-Err.ensures (subst IsShorter c.self.view_is c.self.invariant)))

pub returns-in-Ok-clause-ok : goal.returns-in-Ok-clause-ok
returns-in-Ok-clause-ok g c =
    let started : StartsAt c.args.self.now c.unread-rest.result.now c.new-cursor.result = record {
      bytes = λ i. search rules;
      unread = c.unread-rest.ensures;
      cursor_is = c.new-cursor.ensures;
    } in
    field_taken g.T.Plain.spelling c.requires c.args.self.now _ c.unread-rest.result.now c.new-cursor.result c.take.new.cursor c.in-Ok.value started
    c.in-Ok.ensures c.rest-self-inside.ensures
    (ap (λ (u : Unread). u.bytes) c.self.view_is)

pub returns-in-Err-clause-bad : goal.returns-in-Err-clause-bad
returns-in-Err-clause-bad g c =
    let started : StartsAt c.args.self.now c.unread-rest.result.now c.new-cursor.result = record {
      bytes = λ i. search rules;
      unread = c.unread-rest.ensures;
      cursor_is = c.new-cursor.ensures;
    } in
    (rw (ap (λ (u : Unread). u.bytes) c.self.view_is) (field_bad g.T.Plain.spelling c.requires c.args.self.now c.unread-rest.result.now c.new-cursor.result
    c.in-Err.field.left started c.in-Err.ensures (subst IsShorter c.self.view_is c.self.invariant)))
