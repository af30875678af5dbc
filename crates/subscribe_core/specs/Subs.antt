-- The subscriptions of a node, and which of them a change of a group is noted to.
use Rattle.std.specs.Prelude.{ℕ, Bool, not, ◌==◌, ◌&&◌, ◌+◌, ◌++◌, List, [], ◌∷◌, map, filter, nat_lt, nat_le, if◌then◌else◌}
use Rattle.std.specs.List.{list_any}
use Rattle.std.specs.Str.{bytes_eq}
use Rattle.std.specs.Cmp.Lexicographic.{pointwise}
use Rattle.rsct_packet.specs.Providers.{same_provider}
use Rattle.group_attr.specs.Attrs.{host_membership}
use Rattle.proposal_core.specs.declared.group_state.GroupState.{GroupState}
use Rattle.subscribe_core.specs.declared.subs.ClientToken.{ClientToken}
use Rattle.subscribe_core.specs.declared.subs.SubToken.{SubToken}
use Rattle.subscribe_core.specs.declared.subs.Subscription.{Subscription}

-- the number of the newest token, and the live subscriptions, oldest first
pub record SubsView : Type 0 where
  pub last : ℕ
  pub live : List Subscription

-- their tokens rise from above low, and none is greater than last
abbrev pub rise : ℕ → ℕ → List Subscription → Bool
rise low last [] = nat_le low last
rise low last (x ∷ xs) = nat_lt low x.token.number && rise x.token.number last xs

abbrev pub no_subs : SubsView
no_subs = record { last = 0; live = [] }

abbrev pub has_token : SubToken → Subscription → Bool
has_token t x = x.token.number == t.number

abbrev pub is_of_client : ClientToken → Subscription → Bool
is_of_client c x = x.client.number == c.number

abbrev pub is_of_group : List ℕ → Subscription → Bool
is_of_group g x = bytes_eq x.group g

-- the client's subscription to the group
abbrev pub is_of : ClientToken → List ℕ → Subscription → Bool
is_of c g x = is_of_client c x && is_of_group g x

abbrev pub is_live : SubToken → SubsView → Bool
is_live t s = list_any (has_token t) s.live

-- the client has a live subscription to the group
abbrev pub is_subscribed : ClientToken → List ℕ → SubsView → Bool
is_subscribed c g s = list_any (is_of c g) s.live

-- tokens count from 1
abbrev pub next_token : SubsView → SubToken
next_token s = record { number = s.last + 1 }

abbrev pub subs_add : ClientToken → List ℕ → SubsView → SubsView
subs_add c g s = record { last = s.last + 1; live = s.live ++ record { token = next_token s; client = c; group = g } ∷ [] }

abbrev pub subs_remove : SubToken → SubsView → SubsView
subs_remove t s = record s { live = filter (λ x. not (has_token t x)) s.live }

-- without the subscriptions of a client that ended
abbrev pub subs_remove_client : ClientToken → SubsView → SubsView
subs_remove_client c s = record s { live = filter (λ x. not (is_of_client c x)) s.live }

-- no group of this name is known, and it does not stand for the hosts
abbrev pub is_unknown : List ℕ → Bool → Bool
is_unknown g known = not known && not (bytes_eq g host_membership)

abbrev pub token_of : Subscription → SubToken
token_of x = x.token

abbrev pub tokens_among : List ℕ → List Subscription → List SubToken
tokens_among g xs = map token_of (filter (is_of_group g) xs)

-- the live tokens of a group, oldest first
abbrev pub tokens_of : List ℕ → SubsView → List SubToken
tokens_of g s = tokens_among g s.live

-- members or value differ
abbrev pub differs : GroupState → GroupState → Bool
differs before after = not (pointwise same_provider before.members after.members && bytes_eq before.value after.value)

abbrev pub notes_of : List ℕ → GroupState → GroupState → SubsView → List SubToken
notes_of g before after s = if differs before after then tokens_of g s else []
