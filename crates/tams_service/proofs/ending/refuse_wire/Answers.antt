use Rattle.tams_service.proofs.ending.refuse_wire.Goals as goal

-- The response was made for what is refused.
pub returns-clause-leads : goal.returns-clause-leads
returns-clause-leads g c = λ all base store made. c.refuse.ensures.leads all base store c.args.fault (c.of.ensures base made)
