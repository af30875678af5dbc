-- Both are laws on goodbyes.
use Rattle.network_safety.proofs.Gone as gone
use Rattle.network_safety.proofs.clients_of_ended_keys_are_gone.Goals as goal

pub returns-clause-gone : goal.returns-clause-gone
returns-clause-gone c = gone.clients_of_ended_keys_are_gone

pub returns-clause-free : goal.returns-clause-free
returns-clause-free c = gone.names_stay_free
