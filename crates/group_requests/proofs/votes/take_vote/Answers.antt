-- By whether the phase runs in a group that the node leads.
use Rattle.std.proofs.Common.{refl, sym}
use Rattle.std.proofs.lemmas.Result.{on_ok_weaker}
use Rattle.node_groups.proofs.KeepLaws.{keeps_itself}
use Rattle.entry_delivery.proofs.DoingLaws.{receive_nothing}
use Rattle.group_leading.proofs.RowLaws.{does_row}
use Rattle.group_requests.proofs.VoteLaws.{vote_unused, vote_does}
use Rattle.group_requests.proofs.votes.take_vote.Goals as goal

pub returns-then-not-takes_votes-clause-does : goal.returns-then-not-takes_votes-clause-does
returns-then-not-takes_votes-clause-does g c =
    does_row _ _ (receive_nothing _ _) c.args.core.now c.args.core.now c.args.core.now _ (keeps_itself c.args.core.now)
    (λ f. vote_unused f c.args.core.now c.args.ballot.now.group.now c.args.ballot.now.proto c.args.ballot.now.phase c.args.ballot.now.provider c.args.ballot.now.filled.now.vote _ _ (sym (rw c.bytes.ensures.value at c.if-not-takes_votes.ensures))) refl

pub returns-clause-does : goal.returns-clause-does
returns-clause-does g c =
    on_ok_weaker c.close.result
    (vote_does _ _ c.args.core.now c.cast_vote.new.core c.close.new.core c.args.ballot.now.group.now c.args.ballot.now.proto c.args.ballot.now.phase c.args.ballot.now.provider c.args.ballot.now.filled.now.vote _ _ (sym (rw c.bytes.ensures.value at c.if-not-takes_votes.ensures))
    (rw c.in_ok-filled.ensures at c.in_ok-cast_vote.ensures.rule))
    c.close.ensures.does
