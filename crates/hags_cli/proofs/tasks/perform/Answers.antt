-- A run of the kinds that are named, and one with tables.
use Rattle.std.proofs.Common.{◌≡◌, ap, length, rules}
use Rattle.std.specs.Prelude.{Some}
use Rattle.hags_words.specs.declared.command.Command.TheVariants as command
use Rattle.hags_cli.specs.declared.output.Output.{Output}
use Rattle.hags_cli.proofs.TaskLaws.{run_ends, tables_end}
use Rattle.hags_cli.proofs.tasks.perform.Goals as goal

pub returns-in-Some-Run : goal.returns-in-Some-Run
returns-in-Some-Run g c =
    let is : c.args.command ≡ Some (command.Run c.in-Some-Run.kinds) = search rules in
    run_ends (length c.args.clients.items) c.args.command c.in-Some-Run.kinds c.in-Some.kinds c.run.result _ _ is c.in-Some.ensures.shown c.in-Some.ensures.played (λ same. ap (λ (o : Output _). g.O.Outside.told o.outside) same) c.run.ensures

pub returns-in-Some-Table : goal.returns-in-Some-Table
returns-in-Some-Table g c =
    let is : c.args.command ≡ Some (command.Table c.in-Some-Table.group) = search rules in
    tables_end (length c.args.clients.items) c.args.command c.in-Some-Table.group c.run_tables.result _ _ is (λ same. ap (λ (o : Output _). g.O.Outside.told o.outside) same) c.run_tables.ensures
