use Rattle.generated_workload.proofs.workload.append_segment.Goals as goal

-- the target and the body are those that were made
pub returns : goal.returns
returns c =
    rw (c.bytes.ensures, c.in_ok-target.ensures, c.bytes-2.ensures, c.in_ok-body.ensures) at c.append_request.ensures
