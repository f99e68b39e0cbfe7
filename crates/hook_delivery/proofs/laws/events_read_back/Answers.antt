use Rattle.hook_delivery.proofs.EventTexts.{event_keys_rise, events_read_back}
use Rattle.hook_delivery.proofs.laws.events_read_back.Goals as goal

-- each of its tokens can be printed
pub returns-clause-reads_back : goal.returns-clause-reads_back
returns-clause-reads_back c = events_read_back

-- the names are compared one with another
pub returns-clause-keys : goal.returns-clause-keys
returns-clause-keys c = event_keys_rise
