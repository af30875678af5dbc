use Rattle.name_server.proofs.AskedLaws.{stays, first}
use Rattle.name_server.proofs.asked.first_asker_stays.Goals as goal

pub returns-clause-first : goal.returns-clause-first
returns-clause-first c g a table new room = first g a table new room

pub returns-clause-stays : goal.returns-clause-stays
returns-clause-stays c g a b n asked table e = stays g a b n asked table e
