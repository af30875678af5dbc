-- What each kind of entry makes of a group's state, in plain words.
use Rattle.std.specs.Prelude.{◌≡◌, ℕ, ◌+◌, IsTrue, IsFalse, List, [], ◌++◌, Option, Some, None, unwrap_or, option_map, option_and_then}
use Rattle.std.specs.Option.{option_or}
use Rattle.rsct_packet.specs.declared.ids.ProviderId.{ProviderId}
use Rattle.rsct_packet.specs.declared.ids.ViewId.{ViewId}
use Rattle.rsct_packet.specs.declared.ids.ProtoId.{ProtoId}
use Rattle.rsct_packet.specs.Providers.{without_all}
use Rattle.group_attr.specs.declared.attrs.Attrs.{Attrs}
use Rattle.proposal_core.specs.declared.proposal.Proposal.{Proposal}
use Rattle.proposal_core.specs.declared.proposal.Proposal.TheVariants.{Join, Fail, State, Attributes, Reflect}
use Rattle.proposal_core.specs.declared.entry.Entry.{Entry}
use Rattle.proposal_core.specs.declared.entry.Entry.TheVariants.{Once, Begin, Phase, Approve, Reject, Late}
use Rattle.proposal_core.specs.declared.group_state.GroupState.{GroupState}
use Rattle.proposal_core.specs.declared.group_state.Running.{Running}
use Rattle.proposal_core.specs.Fold.{joins_of, fallen_of, fits, after}
use Rattle.fold_laws.specs.Voters.{leavers_of}

abbrev pub proposal_in : Option Running → Option Proposal
proposal_in o = option_map (λ (run : Running). run.proposal) o

-- what takes effect by an entry: what is proposed in one phase, and what runs, where it is approved
abbrev pub enacted : GroupState → Entry → Option Proposal
enacted s (Once x) = Some x
enacted s (Approve c) = proposal_in s.running
enacted s _ = None

-- what is given up by an entry: what runs, where it is rejected
abbrev pub given_up : GroupState → Entry → Option Proposal
given_up s (Reject c) = proposal_in s.running
given_up s _ = None

-- whom a list of a proposal names, where there is one
abbrev pub named : (Proposal → List ProviderId) → Option Proposal → List ProviderId
named who None = []
named who (Some x) = who x

-- ---- members

-- who failed is no member any more, also where its leave is rejected
abbrev pub fallen_in : Proposal → List ProviderId
fallen_in (Fail out) = fallen_of out
fallen_in _ = []

-- marks of who failed go with those who go, and with joiners that were rejected
abbrev pub unmarked_in : Proposal → List ProviderId
unmarked_in (Join ps attrs n) = ps
unmarked_in x = fallen_in x

-- ---- the value

-- what an approval sets: the value that it carries, else the last that was proposed
abbrev pub approved_value : Option (List ℕ) → Option Running → Option (List ℕ)
approved_value carried None = None
approved_value carried (Some run) = option_or carried run.proposed

-- the value that a proposal brings by itself: that of a State alone
abbrev pub value_in : Proposal → Option (List ℕ)
value_in (State p r value) = Some value
value_in _ = None

-- the value that an entry sets
abbrev pub value_by : GroupState → Entry → Option (List ℕ)
value_by s (Once x) = value_in x
value_by s (Approve c) = approved_value c.value s.running
value_by s _ = None

-- ---- attributes

-- where nobody is a member, those of the join
abbrev pub first_in : Proposal → List ProviderId → Option Attrs
first_in (Join ps attrs n) [] = Some attrs
first_in _ _ = None

abbrev pub attrs_in : Proposal → Option Attrs
attrs_in (Attributes p r attrs) = Some attrs
attrs_in _ = None

-- a first join brings its attributes as it begins, and Attributes theirs once it takes effect
abbrev pub attrs_by : GroupState → Entry → Option Attrs
attrs_by s (Once x) = option_or (first_in x s.members) (attrs_in x)
attrs_by s (Begin x) = first_in x s.members
attrs_by s e = option_and_then attrs_in (enacted s e)

-- ---- reflections

abbrev pub reflected_in : Proposal → Option ProtoId
reflected_in (Reflect view place value) = Some (record { view = view; place = place })
reflected_in _ = None

-- ---- what runs

-- a protocol begins in phase 1, each closed phase opens the next and may carry another value, and an approval or a rejection ends it
abbrev pub runs_after : GroupState → ProtoId → Entry → Option Running
runs_after s at (Begin x) = Some (record { proto = at; proposal = x; phase = 1; proposed = value_in x })
runs_after s at (Phase c) = option_map (λ (run : Running). record run { phase = run.phase + 1; proposed = option_or c.value run.proposed }) s.running
runs_after s at (Late proto phase ps) = s.running
runs_after s at _ = None

-- What an entry that stands at `at` makes of the state s: nothing else changes.
pub record Changes (s : GroupState) (at : ProtoId) (e : Entry) (t : GroupState) : Type 0 where
  -- who leaves, failed or is expelled by what takes effect goes, and so does who failed where that is rejected; who joins by what
  -- takes effect comes behind the others
  pub members : t.members ≡ without_all s.members (named leavers_of (enacted s e) ++ named fallen_in (given_up s e)) ++ named joins_of (enacted s e)
  pub value : t.value ≡ unwrap_or (value_by s e) s.value
  -- the place of the entry that set it
  pub value_at : t.value_at ≡ option_or (option_map (λ (value : List ℕ). at) (value_by s e)) s.value_at
  pub attrs : t.attrs ≡ unwrap_or (attrs_by s e) s.attrs
  pub failed : t.failed ≡ without_all s.failed (named leavers_of (enacted s e) ++ named unmarked_in (given_up s e))
  -- up to where the source is reflected, whether that was approved or rejected
  pub reflected : t.reflected_at ≡ option_or (option_and_then reflected_in (option_or (enacted s e) (given_up s e))) s.reflected_at
  pub running : t.running ≡ runs_after s at e

-- an entry that fits changes a state so, and one that does not changes nothing
pub record ChangesAsSaid (s : GroupState) (v : ViewId) (i : ℕ) (e : Entry) : Type 0 where
  pub fitting : IsTrue (fits s e) → Changes s (record { view = v; place = i }) e (after s v i e)
  pub other : IsFalse (fits s e) → after s v i e ≡ s

abbrev pub EntriesChangeAsSaid : Type 0
EntriesChangeAsSaid = (s : GroupState) (v : ViewId) (i : ℕ) (e : Entry) → ChangesAsSaid s v i e
