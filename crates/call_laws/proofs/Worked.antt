-- What is said of calls, computed on a short run: what it accepts, and what it refuses.
use Rattle.std.proofs.Common.{◌≡◌, ◌⊎◌, ℕ, List, [], ◌∷◌, Option, Some, None, refl, sym, subst, inl, inr}
use Rattle.rsct_packet.specs.declared.ids.ProviderId.{ProviderId}
use Rattle.rsct_packet.specs.declared.ids.ViewId.{ViewId}
use Rattle.rsct_packet.specs.Search.{Has}
use Rattle.group_attr.specs.Attrs.{empty_attrs}
use Rattle.proposal_core.specs.declared.entry.Entry.{Entry}
use Rattle.node_state.specs.declared.happened.Happened.TheVariants.{Heard}
use Rattle.std.specs.Prelude.{codes}
use Rattle.group_attr.specs.declared.attrs.Phases.TheVariants.{One}
use Rattle.proposal_core.specs.declared.entry.Vote.{Vote}
use Rattle.proposal_core.specs.declared.entry.Vote.TheVariants.{Approve, Reject}
use Rattle.proposal_core.specs.declared.proposal.Proposal.TheVariants.{Join, State}
use Rattle.node_state.specs.declared.call.CallLine.{CallLine}
use Rattle.node_state.specs.declared.call.CallLine.TheVariants as call
use Rattle.world_model.specs.declared.event.Event.TheVariants.{Call}
use Rattle.call_laws.specs.Calls.{IsClients, AsksFor, AskedByCall, CastByCall, HeardAmong, CallsAreSaid}
use Rattle.call_laws.specs.Samples.{provider, a_client, db, joined, asks_for, proto, casts}

abbrev asking : CallLine
asking = call.ChangeState a_client db One (codes "red")

abbrev voting : Vote → CallLine
voting b = call.Vote a_client db b None

empty_is_not : (x : ℕ) (xs : List ℕ) → [] ≡ x ∷ xs → ⊥
empty_is_not x xs e = cc

value_is : (a b : List ℕ) → State provider 2 a ≡ State provider 2 b → a ≡ b
value_is a b e = cc

same_call : (c d : CallLine) → Some (Call 1 c) ≡ Some (Call provider.node d) → c ≡ d
same_call c d e = cc

pub other_value_is_refused : CallsAreSaid (asks_for []) joined → ⊥
other_value_is_refused h =
    let a : AskedByCall (Some (Call 1 asking)) joined provider 2 db (State provider 2 []) = h.asked provider 2 db (State provider 2 []) (inl refl) in
    let same : asking ≡ a.line = same_call asking a.line a.is in
    let k : AsksFor asking joined provider 2 db (State provider 2 []) = subst (λ (z : CallLine). AsksFor z joined provider 2 db (State provider 2 [])) (sym same) a.asks in
    not_red k.2
  where
    not_red : State provider 2 [] ≡ State provider 2 (codes "red") → ⊥
    not_red e = empty_is_not _ _ (value_is [] (codes "red") e)

not_heard : (v : ViewId) (g : List ℕ) (i : ℕ) (e : Entry) (members : List ProviderId) (value : List ℕ) → Has (Heard provider v g i e members value) (casts Approve).records → ⊥
not_heard v g i e members value (inl q) = cc
not_heard v g i e members value (inr z) = z

vote_is : (client group : List ℕ) (b : Vote) (u : Option (List ℕ)) → Some (Call 1 (voting Reject)) ≡ Some (Call provider.node (call.Vote client group b u)) → Reject ≡ b
vote_is client group b u e = cc

apart : Reject ≡ Approve → ⊥
apart e = cc

pub turned_vote_is_refused : CallsAreSaid (casts Approve) joined → ⊥
turned_vote_is_refused h = by (h.cast provider proto 1 Approve None None (inl refl))
  where
    by : CastByCall (Some (Call 1 (voting Reject))) joined provider Approve None None ⊎ HeardAmong (casts Approve).records provider → ⊥
    by (inl a) = apart (vote_is a.client a.group Approve None a.is)
    by (inr k) = not_heard k.view k.group k.place k.entry k.members k.value k.there

-- and what was asked for is accepted
own : IsClients a_client db provider joined
own = record { caller = refl; join = Join (provider ∷ []) empty_attrs None; joined = inl refl }

pub same_value_is_accepted : AskedByCall (asks_for (codes "red")).event joined provider 2 db (State provider 2 (codes "red"))
same_value_is_accepted = record { line = asking; is = refl; asks = (own, refl, refl) }

pub same_vote_is_accepted : CastByCall (casts Reject).event joined provider Reject None None
same_vote_is_accepted = record { client = a_client; group = db; is = refl; own = own; bare = refl }
