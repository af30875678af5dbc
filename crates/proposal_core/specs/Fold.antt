-- What entries make of a group's state.
use Rattle.std.specs.Prelude.{ℕ, Bool, true, false, ◌==◌, ◌&&◌, ◌+◌, ◌++◌, List, [], ◌∷◌, length, map, Option, Some, None, nat_lt, nat_le, is_none, if◌then◌else◌}
use Rattle.rsct_packet.specs.declared.ids.ProviderId.{ProviderId}
use Rattle.rsct_packet.specs.declared.ids.ViewId.{ViewId}
use Rattle.rsct_packet.specs.declared.ids.ProtoId.{ProtoId}
use Rattle.rsct_packet.specs.Ids.{same_proto}
use Rattle.rsct_packet.specs.Providers.{none_among, without_all}
use Rattle.group_attr.specs.declared.attrs.Attrs.{Attrs}
use Rattle.group_attr.specs.Attrs.{empty_attrs}
use Rattle.proposal_core.specs.declared.proposal.Failure.{Failure}
use Rattle.proposal_core.specs.declared.proposal.Proposal.{Proposal}
use Rattle.proposal_core.specs.declared.proposal.Proposal.TheVariants.{Join, Leave, Fail, Expel, State, Message, Attributes, Reflect}
use Rattle.proposal_core.specs.declared.entry.Entry.{Entry}
use Rattle.proposal_core.specs.declared.entry.Entry.TheVariants.{Once, Begin, Phase, Approve, Reject, Late}
use Rattle.proposal_core.specs.declared.group_state.GroupState.{GroupState}
use Rattle.proposal_core.specs.declared.group_state.Running.{Running}

abbrev pub max_providers : ℕ
max_providers = 64

abbrev pub max_phases : ℕ
max_phases = 200

abbrev pub empty_state : GroupState
empty_state = record { members = []; value = []; attrs = empty_attrs; failed = []; value_at = None; reflected_at = None; running = None }

-- the providers of a join
abbrev pub joins_of : Proposal → List ProviderId
joins_of (Join ps attrs n) = ps
joins_of _ = []

abbrev pub joiners_in : Option Running → List ProviderId
joiners_in None = []
joiners_in (Some run) = joins_of run.proposal

-- the members, then the running joiners
abbrev pub present : GroupState → List ProviderId
present s = s.members ++ joiners_in s.running

abbrev pub fallen_of : List Failure → List ProviderId
fallen_of out = map (λ f. f.provider) out

-- whether a proposal can begin where nothing runs
unfoldable pub can_begin : GroupState → Proposal → Bool
can_begin s (Join ps attrs n) = none_among s.members ps && nat_le (length s.members + length ps) max_providers
can_begin s _ = true

-- whether this protocol and phase run
unfoldable pub runs : ProtoId → ℕ → Option Running → Bool
runs proto phase None = false
runs proto phase (Some run) = phase == run.phase && same_proto proto run.proto

unfoldable pub fits : GroupState → Entry → Bool
fits s (Once x) = is_none s.running && can_begin s x
fits s (Begin x) = is_none s.running && can_begin s x
fits s (Phase c) = runs c.proto c.phase s.running && nat_lt c.phase max_phases
fits s (Approve c) = runs c.proto c.phase s.running
fits s (Reject c) = runs c.proto c.phase s.running
fits s (Late proto phase ps) = runs proto phase s.running

unfoldable pub without : GroupState → List ProviderId → GroupState
without s ps = record s { members = without_all s.members ps; failed = without_all s.failed ps }

unfoldable pub effect : GroupState → Proposal → GroupState
effect s (Join ps attrs n) = record s { members = s.members ++ ps }
effect s (Leave p r) = without s (p ∷ [])
effect s (Fail out) = without s (fallen_of out)
effect s (Expel p r out) = without s out
effect s (State p r value) = s
effect s (Message p r bytes) = s
effect s (Attributes p r attrs) = record s { attrs = attrs }
effect s (Reflect view place value) = record s { reflected_at = Some (record { view = view; place = place }) }

-- what a protocol proposes from its beginning
unfoldable pub first_value : Proposal → Option (List ℕ)
first_value (State p r value) = Some value
first_value _ = None

-- the attributes that the first join brings
unfoldable pub first_attrs : GroupState → Proposal → Option Attrs
first_attrs s (Join ps attrs n) = if length s.members == 0 then Some attrs else None
first_attrs s _ = None

unfoldable pub take_attrs : GroupState → Option Attrs → GroupState
take_attrs s None = s
take_attrs s (Some attrs) = record s { attrs = attrs }

unfoldable pub begun : GroupState → ViewId → ℕ → Proposal → GroupState
begun s v i x =
    record (take_attrs s (first_attrs s x)) {
      running = Some (record { proto = record { view = v; place = i }; proposal = x; phase = 1; proposed = first_value x });
    }

-- a value of an entry replaces the proposed one
unfoldable pub replace_proposed : Option (List ℕ) → Option (List ℕ) → Option (List ℕ)
replace_proposed None old = old
replace_proposed (Some value) old = Some value

unfoldable pub take_value : GroupState → ViewId → ℕ → Option (List ℕ) → GroupState
take_value s v i None = s
take_value s v i (Some value) = record s { value = value; value_at = Some (record { view = v; place = i }) }

unfoldable pub approve : GroupState → ViewId → ℕ → Option (List ℕ) → Option Running → GroupState
approve s v i value None = s
approve s v i value (Some run) = take_value (effect (record s { running = None }) run.proposal) v i (replace_proposed value run.proposed)

unfoldable pub take_rejection : GroupState → Proposal → GroupState
take_rejection s (Join ps attrs n) = record s { failed = without_all s.failed ps }
take_rejection s (Fail out) = without s (fallen_of out)
take_rejection s (Reflect view place value) = record s { reflected_at = Some (record { view = view; place = place }) }
take_rejection s _ = s

unfoldable pub reject : GroupState → Option Running → GroupState
reject s None = s
reject s (Some run) = take_rejection (record s { running = None }) run.proposal

unfoldable pub advance : Option (List ℕ) → Running → Running
advance value run = record run { phase = run.phase + 1; proposed = replace_proposed value run.proposed }

unfoldable pub next_phase : GroupState → Option (List ℕ) → Option Running → GroupState
next_phase s value None = s
next_phase s value (Some run) = record s { running = Some (advance value run) }

-- what a one-phase protocol does, which never runs
unfoldable pub apply_once : GroupState → ViewId → ℕ → Proposal → GroupState
apply_once s v i x = take_value (take_attrs (effect s x) (first_attrs s x)) v i (first_value x)

-- the state after an entry that fits: a one-phase protocol begins and is approve at apply_once
unfoldable pub apply : GroupState → ViewId → ℕ → Entry → GroupState
apply s v i (Once x) = let t : GroupState = begun s v i x in approve t v i None t.running
apply s v i (Begin x) = begun s v i x
apply s v i (Phase c) = next_phase s c.value s.running
apply s v i (Approve c) = approve s v i c.value s.running
apply s v i (Reject c) = reject s s.running
apply s v i (Late proto phase ps) = s

unfoldable pub after_if : GroupState → ViewId → ℕ → Entry → Bool → GroupState
after_if s v i e true = apply s v i e
after_if s v i e false = s

-- the state after any entry; one that does not fit leaves it
unfoldable pub after : GroupState → ViewId → ℕ → Entry → GroupState
after s v i e = after_if s v i e (fits s e)

-- whether the running joiners are no members, and with the members at most 64
unfoldable pub joiners_fit_at : GroupState → Option Running → Bool
joiners_fit_at s None = true
joiners_fit_at s (Some run) = can_begin s run.proposal

unfoldable pub joiners_fit : GroupState → Bool
joiners_fit s = joiners_fit_at s s.running

-- who votes on a proposal: the members that it does not take off, then its joiners
unfoldable pub voters_on : GroupState → Proposal → List ProviderId
voters_on s (Join ps attrs n) = s.members ++ ps
voters_on s (Leave p r) = without_all s.members (p ∷ [])
voters_on s (Fail out) = without_all s.members (fallen_of out)
voters_on s (Expel p r out) = without_all s.members out
voters_on s _ = s.members

unfoldable pub voters_at : GroupState → Option Running → List ProviderId
voters_at s None = []
voters_at s (Some run) = voters_on s run.proposal

-- empty where nothing runs
unfoldable pub voters : GroupState → List ProviderId
voters s = voters_at s s.running

-- opens each word of this file, for a computation
unfoldable pub fold_opens : Unit {0}
unfolding can_begin runs fits without effect first_value first_attrs take_attrs begun replace_proposed take_value approve take_rejection reject advance next_phase apply_once apply after_if after joiners_fit_at joiners_fit voters_on voters_at voters
fold_opens = tt
