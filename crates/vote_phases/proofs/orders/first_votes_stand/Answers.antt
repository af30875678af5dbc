use Rattle.std.proofs.Common.{ap, None, Some, if◌then◌else◌}
use Rattle.std.specs.List.{list_any}
use Rattle.vote_phases.specs.Tally.{is_open, tally_of, rows_of}
use Rattle.vote_phases.proofs.OrderLaws.{first_rows_stand}
use Rattle.vote_phases.proofs.orders.first_votes_stand.Goals as goal

pub returns-clause-rows : goal.returns-clause-rows
returns-clause-rows c ps d limit cs = first_rows_stand ps d limit cs

pub returns-clause-outcome : goal.returns-clause-outcome
returns-clause-outcome c ps d limit cs = ap (λ voters. if list_any is_open voters then None else Some (tally_of (rows_of voters))) (first_rows_stand ps d limit cs)
