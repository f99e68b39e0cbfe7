use Rattle.tams_outcomes.proofs.ExitLemmas.{bad_words_by, cut_by, disk_fault_by, exit_at_most, link_fault_by, named_by, no_memory_by, statuses_differ}
use Rattle.tams_outcomes.proofs.laws.statuses_tell_outcomes.Goals as goal

pub returns : goal.returns
returns c = record {
  named = record { most = exit_at_most; named = named_by };
  differ = statuses_differ;
  faults = record { bad_words = bad_words_by; disk = disk_fault_by; memory = no_memory_by; link = link_fault_by; cut = cut_by };
}
