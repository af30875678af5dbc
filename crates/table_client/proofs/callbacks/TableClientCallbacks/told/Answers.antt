use Rattle.table_client.proofs.ClientLaws.{informed_more}
use Rattle.table_client.proofs.callbacks.TableClientCallbacks.told.Goals as goal

pub returns-clause-stands : goal.returns-clause-stands
returns-clause-stands c h stood = informed_more c.args.self.now c.hear.new.self h c.args.told.now stood c.hear.ensures
