-- What calls of clients leave in the records of a run: each request and each ballot is that of a call, or of a client that was handed
-- a notice.
use Rattle.std.specs.Prelude.{◌≡◌, ◌⊎◌, ℕ, true, List, [], ◌∷◌, Option, Some, None}
use Rattle.rsct_packet.specs.declared.ids.ProviderId.{ProviderId}
use Rattle.rsct_packet.specs.declared.ids.ProtoId.{ProtoId}
use Rattle.rsct_packet.specs.declared.ids.ViewId.{ViewId}
use Rattle.rsct_packet.specs.Search.{Has}
use Rattle.proposal_core.specs.declared.entry.Entry.{Entry}
use Rattle.proposal_core.specs.declared.entry.Vote.{Vote}
use Rattle.proposal_core.specs.declared.proposal.Proposal.{Proposal}
use Rattle.proposal_core.specs.declared.proposal.Proposal.TheVariants as proposal
use Rattle.node_state.specs.declared.call.CallLine.{CallLine}
use Rattle.node_state.specs.declared.call.CallLine.TheVariants as call
use Rattle.node_state.specs.declared.config.Config.{Config}
use Rattle.node_state.specs.declared.happened.Happened.{Happened}
use Rattle.node_state.specs.declared.happened.Happened.TheVariants.{Asked, Cast, Heard}
use Rattle.world_model.specs.Run.{Happening}
use Rattle.world_model.specs.declared.event.Event.{Event}
use Rattle.world_model.specs.declared.event.Event.TheVariants.{Call}
use Rattle.run_safety.specs.Past.{History, EachEvent, records_of}
use Rattle.run_safety.specs.Stays.{client_of, is_named}
use Rattle.step_refinement.specs.Tied.{Scene}
use Rattle.row_laws.specs.failed_rows.Scenes.{Played}

-- the provider is the client's, in this group: a call of a client of that name joined it, and it asked for its join there
pub record IsClients (client g : List ℕ) (p : ProviderId) (before : History) : Type 0 where
  pub caller : is_named client (client_of p before) ≡ true
  pub join : Proposal
  pub joined : Has (Asked p p.join g join) (records_of before)

-- the call asks in this group for just this, under this number, for this provider: a join for a new one
abbrev pub AsksFor : CallLine → History → ProviderId → ℕ → List ℕ → Proposal → Type 0
AsksFor (call.Join client k instance attrs) before p r g x = (g ≡ k) × (p.instance ≡ instance) × (r ≡ p.join) × (x ≡ proposal.Join (p ∷ []) attrs None)
AsksFor (call.Leave client k phases) before p r g x = IsClients client k p before × (g ≡ k) × (x ≡ proposal.Leave p r)
AsksFor (call.Expel client k phases out) before p r g x = IsClients client k p before × (g ≡ k) × (x ≡ proposal.Expel p r out)
AsksFor (call.ChangeState client k phases value) before p r g x = IsClients client k p before × (g ≡ k) × (x ≡ proposal.State p r value)
AsksFor (call.SendMessage client k phases bytes) before p r g x = IsClients client k p before × (g ≡ k) × (x ≡ proposal.Message p r bytes)
AsksFor (call.ChangeAttributes client k phases attrs) before p r g x = IsClients client k p before × (g ≡ k) × (x ≡ proposal.Attributes p r attrs)
AsksFor _ before p r g x = ⊥

-- the event is the call, at the provider's own node, that asks for just this
pub record AskedByCall (event : Option Event) (before : History) (p : ProviderId) (r : ℕ) (g : List ℕ) (x : Proposal) : Type 0 where
  pub line : CallLine
  pub is : event ≡ Some (Call p.node line)
  pub asks : AsksFor line before p r g x

-- the event is the `vote` call, at the provider's own node, of its client in its group, with just this vote and value; no message goes
-- with it
pub record CastByCall (event : Option Event) (before : History) (p : ProviderId) (vote : Vote) (value message : Option (List ℕ)) : Type 0 where
  pub client : List ℕ
  pub group : List ℕ
  pub is : event ≡ Some (Call p.node (call.Vote client group vote value))
  pub own : IsClients client group p before
  pub bare : message ≡ None

-- the provider's client was handed an entry among these records
pub record HeardAmong (rs : List Happened) (p : ProviderId) : Type 0 where
  pub view : ViewId
  pub group : List ℕ
  pub place : ℕ
  pub entry : Entry
  pub members : List ProviderId
  pub value : List ℕ
  pub there : Has (Heard p view group place entry members value) rs

-- of one event: each request is the one that its call asks for; and each ballot is the one that its call gives, or the provider's
-- client was handed an entry in this event
pub record CallsAreSaid (e : Happening) (before : History) : Type 0 where
  pub asked : (p : ProviderId) (r : ℕ) (g : List ℕ) (x : Proposal) → Has (Asked p r g x) e.records → AskedByCall e.event before p r g x
  pub cast : (p : ProviderId) (proto : ProtoId) (phase : ℕ) (vote : Vote) (value message : Option (List ℕ)) → Has (Cast p proto phase vote value message) e.records → CastByCall e.event before p vote value message ⊎ HeardAmong e.records p

abbrev pub EachCallIsSaid : History → Type 0
EachCallIsSaid h = EachEvent CallsAreSaid h

-- whatever starts, stops and steps, where each call is noted as such
abbrev pub CallsOfScenesAreSaid : Type 0
CallsOfScenesAreSaid = (c : Config) (w : Scene) → Played c w → EachCallIsSaid w.before
