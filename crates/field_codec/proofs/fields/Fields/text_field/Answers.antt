use Rattle.std.proofs.Common.{rules, ap, subst}
use Rattle.field_codec.specs.Answers.{Unread}
use Rattle.field_codec.specs.Leaves.{text_spelling}
use Rattle.field_codec.proofs.FieldLaws.{IsShorter, StartsAt, shorter, field_taken, field_within, field_bad}
use Rattle.field_codec.proofs.LeafLaws.{text_lawful}
use Rattle.field_codec.proofs.fields.Fields.text_field.Goals as goal

pub invariant_of-self : goal.invariant_of-self
invariant_of-self c =
    let started : StartsAt c.args.self.now c.unread-rest.result.now c.new-cursor.result = record {
      bytes = λ i. search rules;
      unread = c.unread-rest.ensures;
      cursor_is = c.new-cursor.ensures;
    } in
    rw (ap (λ (u : Unread). u.bytes) c.self.view_is) (shorter text_spelling text_lawful c.args.self.now c.unread-rest.result.now c.new-cursor.result
    c.text_field.new.self c.rest-self-inside.result.now c.in-Ok.value started c.in-Ok.ensures.field c.rest-self-inside.ensures
    (subst IsShorter c.self.view_is c.self.invariant))

pub overflow_sub-result : goal.overflow_sub-result
overflow_sub-result c =
    let started : StartsAt c.args.self.now c.unread-rest.result.now c.new-cursor.result = record {
      bytes = λ i. search rules;
      unread = c.unread-rest.ensures;
      cursor_is = c.new-cursor.ensures;
    } in
    rw c.in-Err-Bad.field-0-is (rw (ap (λ (u : Unread). u.bytes) c.self.view_is)
    (field_within text_spelling text_lawful c.args.self.now c.unread-rest.result.now c.new-cursor.result c.in-Err-Bad.field.left started
    (rw c.in-Err-Bad.field-0-is at c.in-Err-Bad.ensures.field) (subst IsShorter c.self.view_is c.self.invariant)))

pub returns-in-Ok-clause-ok : goal.returns-in-Ok-clause-ok
returns-in-Ok-clause-ok c =
    let started : StartsAt c.args.self.now c.unread-rest.result.now c.new-cursor.result = record {
      bytes = λ i. search rules;
      unread = c.unread-rest.ensures;
      cursor_is = c.new-cursor.ensures;
    } in
    field_taken text_spelling text_lawful c.args.self.now _ c.unread-rest.result.now c.new-cursor.result c.text_field.new.self c.in-Ok.value started
    c.in-Ok.ensures.field c.rest-self-inside.ensures
    (ap (λ (u : Unread). u.bytes) c.self.view_is)

pub returns-in-Err-Bad-clause-bad : goal.returns-in-Err-Bad-clause-bad
returns-in-Err-Bad-clause-bad c =
    let started : StartsAt c.args.self.now c.unread-rest.result.now c.new-cursor.result = record {
      bytes = λ i. search rules;
      unread = c.unread-rest.ensures;
      cursor_is = c.new-cursor.ensures;
    } in
    rw c.in-Err-Bad.field-0-is (rw (ap (λ (u : Unread). u.bytes) c.self.view_is) (field_bad text_spelling text_lawful c.args.self.now c.unread-rest.result.now
    c.new-cursor.result c.in-Err-Bad.field.left started (rw c.in-Err-Bad.field-0-is at c.in-Err-Bad.ensures.field)
    (subst IsShorter c.self.view_is c.self.invariant)))
