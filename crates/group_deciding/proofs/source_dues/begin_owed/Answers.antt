-- What is owed begins.
use Rattle.std.proofs.Common.{None, ◌≡◌, Some}
use Rattle.source_target.specs.declared.owed.Due.TheVariants as due
use Rattle.source_target.specs.Due as target
use Rattle.node_state.specs.Deciding.{known_state}
use Rattle.entry_delivery.proofs.DoingLaws.{receive_nothing}
use Rattle.group_deciding.proofs.EndingLaws.{none_owed, cast_out, reflected}
use Rattle.group_deciding.proofs.source_dues.begin_owed.Goals as goal

pub returns-in_ok-begin-in-Some-CastOut-clause-does : goal.returns-in_ok-begin-in-Some-CastOut-clause-does
returns-in_ok-begin-in-Some-CastOut-clause-does g c =
    let owed : target.due c.args.state.now (known_state c.args.core.now c.args.source.now) ≡ Some (due.CastOut c.in-Some-CastOut.out) = cc (c.in_ok-due.ensures, c.known_state.ensures, c.bytes.ensures.value) in
    cast_out _ _ _ _ _ c.args.source.now c.args.state.now _ _ owed c.in_ok-out-in-Some-CastOut.ensures c.in_ok-begin-in-Some-CastOut.ensures.does

pub returns-in_ok-begin-in-Some-Reflect-clause-does : goal.returns-in_ok-begin-in-Some-Reflect-clause-does
returns-in_ok-begin-in-Some-Reflect-clause-does g c =
    let owed : target.due c.args.state.now (known_state c.args.core.now c.args.source.now) ≡ Some (due.Reflect c.in-Some-Reflect.view c.in-Some-Reflect.place) = cc (c.in_ok-due.ensures, c.known_state.ensures, c.bytes.ensures.value) in
    reflected _ _ _ _ _ c.args.source.now c.args.state.now _ _ _ owed (rw c.bytes-in-Some-Reflect.ensures.value at c.in_ok-value-in-Some-Reflect.ensures) c.in_ok-begin-in-Some-Reflect.ensures.does

pub returns-in-None-clause-does : goal.returns-in-None-clause-does
returns-in-None-clause-does g c =
    let none : target.due c.args.state.now (known_state c.args.core.now c.args.source.now) ≡ None = cc (c.in_ok-due.ensures, c.known_state.ensures, c.bytes.ensures.value) in
    none_owed _ _ (receive_nothing _ _) c.args.core.now c.args.group.now c.args.source.now c.args.state.now none
