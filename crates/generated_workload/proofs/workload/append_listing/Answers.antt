use Rattle.generated_workload.proofs.workload.append_listing.Goals as goal

-- the target is the one that was made
pub returns : goal.returns
returns c = rw (c.bytes.ensures, c.in_ok-target.ensures) at c.append_bare.ensures
