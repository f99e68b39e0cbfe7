use Rattle.std.proofs.Common.{◌∙◌, sym, ap, Err, []}
use Rattle.json_bodies.specs.declared.fault.BodyFault.{BodyFault}
use Rattle.http_wire.specs.declared.head.MethodKind.TheVariants.{Put}
use Rattle.tams_http.specs.Asked.{ask_of}
use Rattle.tams_answers.specs.Media.{MediaSent}
use Rattle.tams_answers.proofs.Putting.{as_planned, as_refused, object_found, refusal_found, refusal_texts}
use Rattle.tams_answers.proofs.media.plan_media.Goals as goal

pub refuse-requires-clause-texts : goal.refuse-requires-clause-texts
refuse-requires-clause-texts c =
    refusal_texts (ask_of c.args.routes.now Put c.args.head.now.target.now []) c.command_of.result c.in-Err-Refused.why
    (λ other is. c.ask_refusals_have_texts.ensures.asks c.args.routes.now Put c.args.head.now.target.now [] other is) c.command_of.ensures.answer
    (sym c.object_asked.ensures ∙ c.in-Err-Refused.is ∙ ap (λ (fault : BodyFault). Err fault) c.in-Err-Refused.field-0-is)

pub returns-in-Ok : goal.returns-in-Ok
returns-in-Ok c =
    let sent : MediaSent = record { target = c.args.head.now.target.now; size = c.args.head.now.length; ends = c.args.head.now.ends } in
    as_planned c.media_puts_agree.ensures.puts c.args.base.now c.args.store.now.kept c.args.now sent c.in-Ok.object c.args.routes.now c.requires.routes
    c.plan_put.result
    (object_found (ask_of c.args.routes.now Put sent.target []) c.command_of.result c.in-Ok.object c.command_of.ensures.answer
    (sym c.object_asked.ensures ∙ c.in-Ok.is))
    c.plan_put.ensures

pub returns-in-Err-Refused : goal.returns-in-Err-Refused
returns-in-Err-Refused c =
    let sent : MediaSent = record { target = c.args.head.now.target.now; size = c.args.head.now.length; ends = c.args.head.now.ends } in
    as_refused c.media_puts_agree.ensures.puts c.args.base.now c.args.store.now.kept c.args.now sent c.in-Err-Refused.why c.args.routes.now
    c.requires.routes c.refuse.result
    (refusal_found (ask_of c.args.routes.now Put sent.target []) c.command_of.result c.in-Err-Refused.why c.command_of.ensures.answer
    (sym c.object_asked.ensures ∙ c.in-Err-Refused.is ∙ ap (λ (fault : BodyFault). Err fault) c.in-Err-Refused.field-0-is))
    c.refuse.ensures
