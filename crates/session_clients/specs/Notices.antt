-- What the clients of a node are handed and told, and what they fill.
use Rattle.std.specs.Prelude.{◌≡◌, ℕ, Bool, List, [], ◌∷◌, All, map, Option, Some, None, IsTrue, IsSome, slice_get, if◌then◌else◌}
use Rattle.std.specs.List.{fold, list_any}
use Rattle.rsct_packet.specs.declared.ids.ProviderId.{ProviderId}
use Rattle.rsct_packet.specs.declared.ids.ProtoId.{ProtoId}
use Rattle.rsct_packet.specs.declared.ids.ViewId.{ViewId}
use Rattle.proposal_core.specs.declared.entry.Entry.{Entry}
use Rattle.proposal_core.specs.declared.group_state.GroupState.{GroupState}
use Rattle.subscribe_core.specs.declared.subs.SubToken.{SubToken}
use Rattle.subscribe_core.specs.Subs.{is_live}
use Rattle.client_callbacks.specs.declared.ballot.Filled.{Filled}
use Rattle.client_callbacks.specs.declared.votes.VoteItem.{VoteItem}
use Rattle.client_callbacks.specs.declared.told.Told.{Told}
use Rattle.client_callbacks.specs.declared.told.Told.TheVariants as told
use Rattle.client_callbacks.specs.declared.told.Why.{Why}
use Rattle.client_callbacks.specs.Ballots.{BallotView, new_ballot, may_hold}
use Rattle.client_callbacks.specs.Handed.{Handed, Notified, Informed, NoticeView, Fills, voted_by}
use Rattle.session_state.specs.declared.casts.Cast.{Cast}
use Rattle.session_state.specs.declared.state.SessionState.{SessionState}
use Rattle.session_state.specs.State.{place_of}
use Rattle.session_state.specs.HandOn.{asks, takes_telling, subscriber_of}
use Rattle.session_clients.specs.Clients.{add_for, is_at}

abbrev pub notice_to : ViewId → List ℕ → ℕ → Entry → GroupState → ProviderId → NoticeView
notice_to v g i e after p = record { provider = p; view = v; group = g; place = i; entry = e; after = after; votes = asks e after p }

abbrev pub ballot_in : Option (ProtoId × ℕ × BallotView) → Option Filled
ballot_in None = None
ballot_in (Some c) = (c.2).filled

-- what was filled into the ballot of what a provider casts
abbrev pub ballot_of : Cast → Option Filled
ballot_of c = ballot_in c.cast

-- the lists of clients after those of the providers of cs were handed the notice and cast cs
unfoldable pub notified : SessionState → ViewId → List ℕ → ℕ → Entry → GroupState → List Cast → List (List Handed) → List (List Handed)
notified s v g i e after cs hs = fold (λ t c. add_for (place_of s c.provider) (Notified (notice_to v g i e after c.provider) (ballot_of c)) t) hs cs

-- whether the client at a place has one of ps
unfoldable pub hears_at : SessionState → List ProviderId → ℕ → Bool
hears_at s ps i = list_any (λ p. is_at i (place_of s p)) ps

-- what clients fill that vote by items

abbrev pub script_for : List (Option (List (Option VoteItem))) → Option ℕ → Option (Option (List (Option VoteItem)))
script_for scripts None = None
script_for scripts (Some i) = slice_get scripts i

abbrev pub filled_in : Option (Option (List (Option VoteItem))) → GroupState → BallotView → Option Filled
filled_in None after b = None
filled_in (Some None) after b = None
filled_in (Some (Some items)) after b = (voted_by items after b).filled

-- each client votes by items
abbrev pub AreScripted : List (Option (List (Option VoteItem))) → Type 0
AreScripted scripts = All IsSome scripts

-- what the clients of ps fill, where each has the items of its place
unfoldable pub scripted : List (Option (List (Option VoteItem))) → SessionState → Entry → GroupState → List ProviderId → List (Option Filled)
scripted scripts s e after ps = map (λ p. filled_in (script_for scripts (place_of s p)) after (new_ballot (asks e after p) s.level)) ps

abbrev pub FillsAs : Option (Option (List (Option VoteItem))) → GroupState → BallotView → BallotView → Type 0
FillsAs None after b c = c ≡ b
FillsAs (Some script) after b c = Fills script after b c

-- what the client of a provider may fill: nothing where no vote is asked for, or over the limits, and what its
-- items say where it votes by items
pub record Filling (scripts : List (Option (List (Option VoteItem)))) (s : SessionState) (e : Entry) (after : GroupState) (p : ProviderId) (b : Option Filled) : Type 0 where
  pub holds : IsTrue (may_hold (asks e after p) s.level b)
  pub fills : FillsAs (script_for scripts (place_of s p)) after (new_ballot (asks e after p) s.level) (record { votes = asks e after p; level = s.level; filled = b })

-- each of ps may fill its own
abbrev pub Fillings : List (Option (List (Option VoteItem))) → SessionState → Entry → GroupState → List ProviderId → List (Option Filled) → Type 0
Fillings scripts s e after [] [] = Unit {0}
Fillings scripts s e after [] (b ∷ bs) = ⊥
Fillings scripts s e after (p ∷ ps) [] = ⊥
Fillings scripts s e after (p ∷ ps) (b ∷ bs) = Filling scripts s e after p b × Fillings scripts s e after ps bs

-- clients that vote by items fill just what these say
abbrev pub FillTheirScripts : Type 0
FillTheirScripts =
    (scripts : List (Option (List (Option VoteItem)))) (s : SessionState) (e : Entry) (after : GroupState) (ps : List ProviderId) (bs : List (Option Filled))
    → AreScripted scripts → Fillings scripts s e after ps bs → bs ≡ scripted scripts s e after ps

-- the lists of clients after a telling
unfoldable pub told_lists : SessionState → ProviderId → ℕ → Why → List (List Handed) → List (List Handed)
told_lists s p r y hs = if takes_telling s p r y then add_for (place_of s p) (Informed (told.Refused p r y)) hs else hs

-- the lists of clients after a subscription was noted
unfoldable pub noted_lists : SessionState → SubToken → Told → List (List Handed) → List (List Handed)
noted_lists s t x hs = if is_live t s.subs then add_for (subscriber_of s t) (Informed x) hs else hs
