-- What a node does in a step, change by change: what it records of puts and of what is heard, and what it makes of its clients.
use Rattle.std.specs.Prelude.{◌≡◌, ◌≤◌, ℕ, Bool, false, List, [], filter, flat_map, Option, Some}
use Rattle.std.specs.List.{list_any}
use Rattle.rsct_packet.specs.declared.ids.ProviderId.{ProviderId}
use Rattle.rsct_packet.specs.Search.{Has}
use Rattle.group_attr.specs.declared.attrs.Attrs.{Attrs}
use Rattle.proposal_core.specs.declared.entry.Entry.{Entry}
use Rattle.proposal_core.specs.declared.group_state.GroupState.{GroupState}
use Rattle.subscribe_core.specs.declared.subs.ClientToken.{ClientToken}
use Rattle.client_callbacks.specs.declared.ballot.Filled.{Filled}
use Rattle.session_state.specs.declared.state.OpenPhase.{OpenPhase}
use Rattle.session_state.specs.declared.state.Provider.{Provider}
use Rattle.session_state.specs.declared.state.KeptBallot.{KeptBallot}
use Rattle.session_state.specs.declared.state.SessionState.{SessionState}
use Rattle.session_state.specs.State.{is_kept_for, provider_of}
use Rattle.session_state.specs.Calls.{join_asked, keeps}
use Rattle.session_state.specs.HandOn.{casts_out}
use Rattle.session_state.specs.HandOn as session
use Rattle.view_state.specs.declared.install.Install.{Install}
use Rattle.view_state.specs.Bases.{bases_of}
use Rattle.node_state.specs.declared.happened.Happened.{Happened}
use Rattle.node_state.specs.declared.happened.Happened.TheVariants as happened
use Rattle.node_state.specs.declared.state.Core.{Core}
use Rattle.node_state.specs.State.{InNameOrder, state_of, len_of, held_rows, recorded, recorded_all, with_sessions}
use Rattle.node_state.specs.HandOn.{Answering, heard}
use Rattle.node_state.specs.Leading.{put}
use Rattle.node_state.specs.Applying.{view_entered, sides_dissolved}
use Rattle.node_state.specs.Step.{NodeEvent, at_work, stepped}
use Rattle.run_safety.specs.ViewOrder.{Lt}
use Rattle.step_refinement.specs.Tied.{Scene}
use Rattle.step_refinement.specs.Runs.{Reached}
use Rattle.node_state.specs.declared.config.Config.{Config}

-- what a provider's hearing depends on stays
pub record Same (s t : Core) : Type 0 where
  pub me : t.views.me ≡ s.views.me
  pub inc : t.views.inc ≡ s.views.inc
  pub view : t.views.view ≡ s.views.view
  pub sessions : t.sessions ≡ s.sessions
  pub records : t.records ≡ s.records
  pub lens : (h : List ℕ) → len_of t h ≡ len_of s h
  pub states : (h : List ℕ) → state_of t h ≡ state_of s h

-- nothing is put or heard
abbrev pub Aside : Happened → Type 0
Aside (happened.Put n v g i e) = ⊥
Aside (happened.Heard p v g i e ms value) = ⊥
Aside _ = Unit {0}

-- nor is anything cast, and no node starts, stops, enters a view or takes a base
abbrev pub Inner : Happened → Type 0
Inner (happened.Up n j) = ⊥
Inner (happened.Down n) = ⊥
Inner (happened.In n v ms) = ⊥
Inner (happened.Base n v g u len s) = ⊥
Inner (happened.Put n v g i e) = ⊥
Inner (happened.Heard p v g i e ms value) = ⊥
Inner (happened.Cast p proto phase vote value message) = ⊥
Inner _ = Unit {0}

-- no provider comes in or changes, and numbers that were given are not given again; no ballot comes in, and of whoever is
-- still there none goes
pub record Fewer (s t : SessionState) : Type 0 where
  pub me : t.me ≡ s.me
  pub inc : t.inc ≡ s.inc
  pub last : s.last_request ≤ t.last_request
  pub providers : (p : ProviderId) (x : Provider) → provider_of t p ≡ Some x → provider_of s p ≡ Some x
  pub rest : (keep : KeptBallot → Bool) × (t.kept ≡ filter keep s.kept)
  pub still : (x : Provider) (k : KeptBallot) → provider_of t k.provider ≡ Some x → Has k s.kept → Has k t.kept

-- no view is entered
abbrev pub Unentered : Happened → Type 0
Unentered (happened.In n v ms) = ⊥
Unentered _ = Unit {0}

-- an entry that was put is handed on, where clients fill bs
abbrev pub handing : Core → List ℕ → ℕ → GroupState → GroupState → Entry → List (Option Filled) → Core
handing c h i before after e bs =
    with_sessions (recorded_all c (flat_map (heard c h i e after) (casts_out c.sessions h before after e bs))) (session.handed_on c.sessions h before after e bs)

-- a view is entered, and those who do not live in the new bases are dissolved
abbrev pub entering : Core → Install → Core
entering s i = sides_dissolved (view_entered s i (bases_of i)) (held_rows s) s.views.view (bases_of i)

-- a provider votes by a call: its ballot is kept, and recorded
abbrev pub voting : Core → Provider → OpenPhase → Filled → Core
voting c x o b = recorded (with_sessions c (keeps c.sessions x o b)) (happened.Cast x.provider o.proto o.phase b.vote b.value b.message)

-- what a step makes of a node, change by change
pub data Does : Core → Core → Type 0 where
  Stays : (s t : Core) → Same s t → Does s t
  Then : (s t u : Core) → Does s t → Does t u → Does s u
  Records : (s : Core) (r : Happened) → Inner r → Does s (recorded s r)
  Hands : (s c : Core) (h : List ℕ) (e : Entry) (bs : List (Option Filled)) → InNameOrder s.groups → Same (put s h e) c → Does s (handing c h (len_of s h) (state_of s h) (state_of (put s h e) h) e bs)
  Loses : (s : Core) (t : SessionState) → Fewer s.sessions t → Does s (with_sessions s t)
  Joins : (s : Core) (t : ClientToken) (g : List ℕ) (instance : ℕ) (attrs : Attrs) → s.records ≡ [] → Does s (with_sessions s (join_asked s.sessions t g instance attrs))
  Votes : (s : Core) (x : Provider) (o : OpenPhase) (b : Filled) → provider_of s.sessions x.provider ≡ Some x → x.opened ≡ Some o → list_any (is_kept_for x.provider o.proto o.phase) s.sessions.kept ≡ false → Does s (voting s x o b)
  Enters : (s : Core) (i : Install) → Lt s.views.view i.view → ((r : Happened) → Has r s.records → Unentered r) → Does s (entering s i)

-- so is each step of a node in each scene that events lead to: at each put of it just those hear, each in its turn and directly
-- after it, whom the sessions of that moment name for the entry
abbrev pub StepsAreChanges : Type 0
StepsAreChanges =
    (c : Config) (w : Scene) → Reached c w → (n : ℕ) (s : Core) → w.cores n ≡ Some s → (f : Answering) (e : NodeEvent) → Does (at_work s) (stepped f s e)
