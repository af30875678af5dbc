use Rattle.std.proofs.Common.{◌≡◌, Some, None, sym, ap, ◌∙◌}
use Rattle.std.specs.Prelude.{map}
use Rattle.client_callbacks.specs.Ballots.{BallotView, new_ballot}
use Rattle.session_state.specs.State.{place_of}
use Rattle.session_state.specs.HandOn.{asks}
use Rattle.session_clients.proofs.Standing.{cast_one, cast_has_filled}
use Rattle.session_clients.proofs.clients.notify_one.Goals as goal

pub returns-in-None-clause-cast : goal.returns-in-None-clause-cast
returns-in-None-clause-cast g c =
    let made : c.new-ballot.result ≡ new_ballot (asks c.args.entry.now.entry.now c.args.entry.now.after.now c.args.provider) c.args.state.now.level = rw (← c.asks-votes.ensures) c.new-ballot.ensures in
    let nowhere : place_of c.args.state.now c.args.provider ≡ None = sym c.in-None.ensures.value in
    cast_one (map g.C.Callbacks.script c.args.clients.now.items) c.args.state.now c.args.entry.now.entry.now c.args.entry.now.after.now c.args.provider
    c.new-ballot.result.votes c.new-ballot.result.level c.new-ballot.result.filled _
    (ap (λ (b : BallotView). b.votes) made) (ap (λ (b : BallotView). b.level) made) c.cast_from.ensures.holds (rw nowhere made) c.cast_from.ensures.cast

pub returns-in_ok-ballot-in-Some-clause-cast : goal.returns-in_ok-ballot-in-Some-clause-cast
returns-in_ok-ballot-in-Some-clause-cast g c =
    let place : place_of c.args.state.now c.args.provider ≡ Some c.in-Some.i = sym c.in-Some.ensures.value in
    let b : BallotView = c.in_ok-ballot-in-Some.ballot in
    cast_one (map g.C.Callbacks.script c.args.clients.now.items) c.args.state.now c.args.entry.now.entry.now c.args.entry.now.after.now c.args.provider
    b.votes b.level b.filled _
    (c.in_ok-ballot-in-Some.ensures.ballot.0 ∙ c.asks-votes.ensures) c.in_ok-ballot-in-Some.ensures.ballot.1 c.cast_from-in-Some.ensures.holds
    (rw place (rw (← c.asks-votes.ensures) c.in_ok-ballot-in-Some.ensures.fills)) c.cast_from-in-Some.ensures.cast

pub returns-in_ok-ballot-in-Some-clause-stand : goal.returns-in_ok-ballot-in-Some-clause-stand
returns-in_ok-ballot-in-Some-clause-stand g c hs s =
    let place : place_of c.args.state.now c.args.provider ≡ Some c.in-Some.i = sym c.in-Some.ensures.value in
    let b : BallotView = c.in_ok-ballot-in-Some.ballot in
    let filled = cast_has_filled c.args.entry.now.entry.now c.args.entry.now.after.now c.args.provider b.votes b.level b.filled c.cast_from-in-Some.result
    (c.in_ok-ballot-in-Some.ensures.ballot.0 ∙ c.asks-votes.ensures) c.cast_from-in-Some.ensures.holds c.cast_from-in-Some.ensures.cast in
    rw (place, filled) (rw (c.asks-votes.ensures, c.bytes.ensures.value) at c.in_ok-ballot-in-Some.ensures.stand hs s)
