-- What a vote does.
use Rattle.std.proofs.Common.{◌≡◌, ℕ, ◌&&◌, true, false, List, Option, refl}
use Rattle.rsct_packet.specs.declared.ids.ProviderId.{ProviderId}
use Rattle.rsct_packet.specs.declared.ids.ProtoId.{ProtoId}
use Rattle.proposal_core.specs.declared.entry.Vote.{Vote}
use Rattle.proposal_core.specs.Fold.{runs}
use Rattle.client_callbacks.specs.declared.votes.VoteItem.{VoteItem}
use Rattle.node_state.specs.declared.state.Core.{Core}
use Rattle.node_state.specs.State.{leads, state_of, with_led}
use Rattle.node_state.specs.HandOn.{Answering}
use Rattle.node_state.specs.Leading.{closes}
use Rattle.node_state.specs.Following.{vote_cast, take_vote}
use Rattle.node_groups.proofs.KeepLaws.{led_keeps}
use Rattle.entry_delivery.specs.Received.{Handing}
use Rattle.entry_delivery.specs.Doing.{Does}
use Rattle.entry_delivery.proofs.DoingLaws.{does_as}
use Rattle.group_leading.proofs.RowLaws.{does_behind}

pub vote_unused : (f : Answering) (s : Core) (g : List ℕ) (proto : ProtoId) (phase : ℕ) (p : ProviderId) (v : Vote) (value message : Option (List ℕ)) → (leads s g && runs proto phase (state_of s g).running) ≡ false
    → s ≡ take_vote f s g proto phase p v value message
unfolding take_vote
vote_unused f s g proto phase p v value message e = rw (e, take_vote) refl

vote_used : (f : Answering) (s : Core) (g : List ℕ) (proto : ProtoId) (phase : ℕ) (p : ProviderId) (v : Vote) (value message : Option (List ℕ)) → (leads s g && runs proto phase (state_of s g).running) ≡ true
    → closes f (with_led s g (λ l. vote_cast l p v value message l.tally)) g ≡ take_vote f s g proto phase p v value message
unfolding take_vote
vote_used f s g proto phase p v value message e = rw (e, take_vote) refl

pub vote_does : (scripts : List (Option (List (Option VoteItem)))) (P : List Handing → Type 0) (s t u : Core) (g : List ℕ) (proto : ProtoId) (phase : ℕ) (p : ProviderId) (v : Vote) (value message : Option (List ℕ)) → (leads s g && runs proto phase (state_of s g).running) ≡ true
    → t ≡ with_led s g (λ l. vote_cast l p v value message l.tally) → Does scripts P t u (λ f. closes f t g) → Does scripts P s u (λ f. take_vote f s g proto phase p v value message)
vote_does scripts P s t u g proto phase p v value message e casting closing =
    let k : Core = with_led s g (λ l. vote_cast l p v value message l.tally) in
    does_as scripts P s u (λ f. closes f k g) (λ f. take_vote f s g proto phase p v value message) (λ f. vote_used f s g proto phase p v value message e)
    (does_behind scripts P s t u k (λ f x. closes f x g) (led_keeps s g (λ l. vote_cast l p v value message l.tally)) casting closing)
