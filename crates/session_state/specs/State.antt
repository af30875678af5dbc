-- What a node has of its clients.
use Rattle.std.specs.Prelude.{ℕ, Bool, not, ◌==◌, ◌&&◌, List, [], Option, Some, None, filter, find}
use Rattle.std.specs.Str.{bytes_eq}
use Rattle.rsct_packet.specs.declared.ids.ProviderId.{ProviderId}
use Rattle.rsct_packet.specs.declared.ids.ProtoId.{ProtoId}
use Rattle.rsct_packet.specs.Ids.{same_proto}
use Rattle.rsct_packet.specs.Providers.{same_provider, among}
use Rattle.rsct_packet.specs.Search.{edit_where, place_where}
use Rattle.subscribe_core.specs.declared.subs.ClientToken.{ClientToken}
use Rattle.subscribe_core.specs.declared.subs.SubToken.{SubToken}
use Rattle.subscribe_core.specs.declared.subs.Subscription.{Subscription}
use Rattle.subscribe_core.specs.Subs.{no_subs, is_of}
use Rattle.session_state.specs.declared.state.MemberToken.{MemberToken}
use Rattle.session_state.specs.declared.state.Session.{Session}
use Rattle.session_state.specs.declared.state.Provider.{Provider}
use Rattle.session_state.specs.declared.state.Request.{Request}
use Rattle.session_state.specs.declared.state.KeptBallot.{KeptBallot}
use Rattle.session_state.specs.declared.state.SessionState.{SessionState}

abbrev pub no_sessions : ℕ → ℕ → SessionState
no_sessions me inc =
    record { me = me; inc = inc; level = 1; last_request = 0; last_client = 0; sessions = []; providers = []; requests = []; subs = no_subs; kept = [] }

abbrev pub is_session : ClientToken → Session → Bool
is_session t x = x.token.number == t.number

abbrev pub is_named : List ℕ → Session → Bool
is_named name x = bytes_eq x.name name

abbrev pub is_provider : ProviderId → Provider → Bool
is_provider p x = same_provider x.provider p

-- a member token is the number of the join's request
abbrev pub is_member_of : MemberToken → Provider → Bool
is_member_of m x = x.provider.join == m.number

abbrev pub is_client_of : ClientToken → Provider → Bool
is_client_of t x = x.client.number == t.number

abbrev pub is_in_group : ClientToken → List ℕ → Provider → Bool
is_in_group t g x = is_client_of t x && bytes_eq x.group g

abbrev pub is_asked_by : ProviderId → Request → Bool
is_asked_by p q = same_provider q.provider p

abbrev pub is_request : ProviderId → ℕ → Request → Bool
is_request p r q = same_provider q.provider p && q.request == r

abbrev pub is_kept_for : ProviderId → ProtoId → ℕ → KeptBallot → Bool
is_kept_for p proto phase k = same_provider k.provider p && same_proto k.proto proto && k.phase == phase

abbrev pub is_kept_in : List ℕ → ProtoId → ℕ → KeptBallot → Bool
is_kept_in g proto phase k = bytes_eq k.group g && same_proto k.proto proto && k.phase == phase

unfoldable pub provider_of : SessionState → ProviderId → Option Provider
provider_of s p = find (is_provider p) s.providers

-- the place of a client among the sessions
abbrev pub client_place : SessionState → ClientToken → Option ℕ
client_place s t = place_where (is_session t) s.sessions

abbrev pub place_for : SessionState → Option Provider → Option ℕ
place_for s None = None
place_for s (Some x) = client_place s x.client

-- the place of the client that has the provider
unfoldable pub place_of : SessionState → ProviderId → Option ℕ
place_of s p = place_for s (provider_of s p)

-- the outstanding request of a provider
unfoldable pub outstanding : SessionState → ProviderId → Option Request
outstanding s p = find (is_asked_by p) s.requests

abbrev pub token_in : Option Session → ClientToken
token_in None = record { number = 0 }
token_in (Some x) = x.token

-- the token of the live session of a name, 0 where there is none
unfoldable pub client_token : SessionState → List ℕ → ClientToken
client_token s name = token_in (find (is_named name) s.sessions)

abbrev pub member_in : Option Provider → MemberToken
member_in None = record { number = 0 }
member_in (Some x) = record { number = x.provider.join }

-- the token of a client's provider of a group, 0 where there is none
unfoldable pub member_token : SessionState → ClientToken → List ℕ → MemberToken
member_token s t g = member_in (find (is_in_group t g) s.providers)

abbrev pub sub_in : Option Subscription → SubToken
sub_in None = record { number = 0 }
sub_in (Some x) = x.token

-- the token of a client's subscription to a group, 0 where there is none
unfoldable pub sub_token : SessionState → ClientToken → List ℕ → SubToken
sub_token s t g = sub_in (find (is_of t g) s.subs.live)

abbrev pub name_in : Option Session → Option (List ℕ)
name_in None = None
name_in (Some x) = Some x.name

-- the name of a live client
unfoldable pub client_name : SessionState → ClientToken → Option (List ℕ)
client_name s t = name_in (find (is_session t) s.sessions)

-- with a provider changed
unfoldable pub with_provider : SessionState → ProviderId → (Provider → Provider) → SessionState
with_provider s p f = record s { providers = edit_where (is_provider p) f s.providers }

-- without a request
unfoldable pub end_request : SessionState → ProviderId → ℕ → SessionState
end_request s p r = record s { requests = filter (λ q. not (is_request p r q)) s.requests }

-- without these providers, their requests and their kept ballots
unfoldable pub without_providers : SessionState → List ProviderId → SessionState
without_providers s ps =
    record s {
      providers = filter (λ x. not (among ps x.provider)) s.providers;
      requests = filter (λ q. not (among ps q.provider)) s.requests;
      kept = filter (λ k. not (among ps k.provider)) s.kept;
    }

-- opens each word of this file, for a computation
unfoldable pub state_opens : Unit {0}
unfolding provider_of place_of outstanding client_token member_token sub_token client_name with_provider end_request without_providers
state_opens = tt
