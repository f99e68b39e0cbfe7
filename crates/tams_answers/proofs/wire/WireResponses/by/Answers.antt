use Rattle.http_wire.specs.declared.framing.WireFault.TheVariants.{BadFraming, BadHead, Coding, LengthRequired, TooLarge}
use Rattle.tams_answers.proofs.Saying.{made_is}
use Rattle.tams_answers.proofs.wire.WireResponses.by.Goals as goal

pub returns : goal.returns
returns c = record {
  bad_head = made_is c.args.base.now BadHead c.args.routes.now c.in_ok-response_of.field-0 c.requires.store c.in_ok-response_of.ensures;
  bad_framing = made_is c.args.base.now BadFraming c.args.routes.now c.in_ok-response_of-2.field-0 c.requires.store c.in_ok-response_of-2.ensures;
  length_required = made_is c.args.base.now LengthRequired c.args.routes.now c.in_ok-response_of-3.field-0 c.requires.store c.in_ok-response_of-3.ensures;
  too_large = made_is c.args.base.now TooLarge c.args.routes.now c.in_ok-response_of-4.field-0 c.requires.store c.in_ok-response_of-4.ensures;
  coding = made_is c.args.base.now Coding c.args.routes.now c.in_ok-response_of-5.field-0 c.requires.store c.in_ok-response_of-5.ensures;
}
