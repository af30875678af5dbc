-- The requests that entries begin.
use Rattle.std.specs.Prelude.{ℕ, ◌≡◌, ◌⊎◌, List, [], ◌∷◌, map, Option, Some, None, IsTrue}
use Rattle.rsct_packet.specs.declared.ids.ProviderId.{ProviderId}
use Rattle.rsct_packet.specs.Providers.{among}
use Rattle.proposal_core.specs.declared.entry.Entry.{Entry}
use Rattle.proposal_core.specs.declared.entry.Entry.TheVariants.{Once, Begin}
use Rattle.proposal_core.specs.declared.proposal.Proposal.{Proposal}
use Rattle.proposal_core.specs.declared.proposal.Proposal.TheVariants.{Join, Leave, Expel, State, Message, Attributes}
use Rattle.proposal_core.specs.Fold.{joins_of}

-- the requests that a proposal carries: a join those of each provider that it names
abbrev pub requests_of : Proposal → List (ProviderId × ℕ)
requests_of (Join ps attrs n) = map (λ (p : ProviderId). (p, p.join)) ps
requests_of (Leave p r) = (p, r) ∷ []
requests_of (Expel p r out) = (p, r) ∷ []
requests_of (State p r value) = (p, r) ∷ []
requests_of (Message p r bytes) = (p, r) ∷ []
requests_of (Attributes p r attrs) = (p, r) ∷ []
requests_of _ = []

abbrev pub proposal_of : Entry → Option Proposal
proposal_of (Once x) = Some x
proposal_of (Begin x) = Some x
proposal_of _ = None

abbrev pub carried_by : Option Proposal → List (ProviderId × ℕ)
carried_by None = []
carried_by (Some x) = requests_of x

abbrev pub carried : Entry → List (ProviderId × ℕ)
carried e = carried_by (proposal_of e)

-- the entry begins what the provider asked for: a batch of joins that names it, or just that proposal
abbrev pub IsJoin : ProviderId → Proposal → Type 0
IsJoin p x = IsTrue (among (joins_of x) p)

abbrev pub Meets : ProviderId → Proposal → Entry → Type 0
Meets p x e = (y : Proposal) × (proposal_of e ≡ Some y) × ((y ≡ x) ⊎ (IsJoin p x × IsJoin p y))
