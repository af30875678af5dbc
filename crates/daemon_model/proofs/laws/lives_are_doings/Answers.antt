use Rattle.daemon_model.proofs.DoingLaws as doing
use Rattle.daemon_model.proofs.laws.lives_are_doings.Goals as goal

pub returns-clause-lives : goal.returns-clause-lives
returns-clause-lives c = doing.lives_are_doings

pub returns-clause-fronts : goal.returns-clause-fronts
returns-clause-fronts c = doing.fronts_exchange

pub returns-clause-places : goal.returns-clause-places
returns-clause-places c = doing.placings_are_places
