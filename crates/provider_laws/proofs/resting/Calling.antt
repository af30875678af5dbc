-- A goodbye changes no group and no view, and puts nothing.
use Rattle.std.proofs.Common.{◌≡◌, ℕ, List, [], ◌∷◌, ◌++◌, fold, Option, Some, None, Bool, true, false, refl, sym, subst, inl, inr}
use Rattle.std.specs.Prelude.{filter, Result, Ok, Err}
use Rattle.rsct_packet.specs.Search.{Has}
use Rattle.session_state.specs.declared.fault.GsFault.{GsFault}
use Rattle.session_state.specs.declared.state.Provider.{Provider}
use Rattle.session_state.specs.declared.state.SessionState.{SessionState}
use Rattle.session_state.specs.State.{is_client_of, client_token}
use Rattle.session_state.specs.Calls.{goodbye_taken}
use Rattle.node_state.specs.declared.call.CallLine.TheVariants as call
use Rattle.node_state.specs.declared.happened.Happened.{Happened}
use Rattle.node_state.specs.declared.happened.Happened.TheVariants as happened
use Rattle.node_state.specs.declared.packet.Body.{Body}
use Rattle.node_state.specs.declared.packet.Body.TheVariants as body
use Rattle.node_state.specs.declared.state.Core.{Core}
use Rattle.node_state.specs.State.{frozen, leader_of, recorded, with_sessions}
use Rattle.node_state.specs.Sending.{send_on, sent, send_if_known}
use Rattle.node_state.specs.Calls.{refuse_call, send_gone, send_all_gone, goodbye_said, take_call}

abbrev pub NoPut : Happened → Type 0
NoPut (happened.Put n v g i e) = ⊥
NoPut _ = Unit {0}

-- groups, view and config stay, and nothing is put
pub record Parts (s u : Core) : Type 0 where
  pub groups : u.groups ≡ s.groups
  pub views : u.views ≡ s.views
  pub config : u.config ≡ s.config
  pub none : (r : Happened) → Has r u.records → NoPut r

parts_sent : (s u : Core) (to : Option ℕ) (b : Body) → Parts s u → Parts s (send_if_known u to b)
unfolding send_if_known sent send_on
parts_sent s u None b k = k
parts_sent s u (Some n) b k = record { groups = k.groups; views = k.views; config = k.config; none = k.none }

parts_gone : (s u : Core) (ended : List Provider) → Parts s u → Parts s (fold send_gone u ended)
unfolding send_gone
parts_gone s u [] k = k
parts_gone s u (x ∷ xs) k = parts_gone s (send_gone u x) xs (parts_sent s u (leader_of u x.group) (body.Gone u.views.view x.group x.provider) k)

parts_all : (s u : Core) (ended : List Provider) → Parts s u → Parts s (send_all_gone u ended)
unfolding send_all_gone
parts_all s u ended k = by (frozen u)
  where
    by : (b : Bool) → Parts s (elim b as (λ _. Core) [ true ↦ u | false ↦ fold send_gone u ended ])
    by true = k
    by false = parts_gone s u ended k

parts_said : (s : Core) (client : List ℕ) (ended : List Provider) (r : Result SessionState GsFault) → s.records ≡ [] → Parts s (goodbye_said s client ended r)
unfolding goodbye_said with_sessions refuse_call recorded
parts_said s client ended (Ok t) none = parts_all s (record s { sessions = t }) ended (record { groups = refl; views = refl; config = refl; none = λ r i. absurd (subst (Has r) none i) })
parts_said s client ended (Err fault) none =
    record { groups = refl; views = refl; config = refl; none = λ r i. one r (subst (λ rs. Has r (rs ++ happened.Refused s.views.me client fault ∷ [])) none i) }
  where
    one : (r : Happened) → Has r (happened.Refused s.views.me client fault ∷ []) → NoPut r
    one r (inl e) = subst NoPut (sym e) tt
    one r (inr z) = absurd z

pub goodbye_parts : (s : Core) (client : List ℕ) → s.records ≡ [] → Parts s (take_call s (call.Goodbye client))
unfolding take_call
goodbye_parts s client none =
    parts_said s client (filter (is_client_of (client_token s.sessions client)) s.sessions.providers) (goodbye_taken s.sessions (client_token s.sessions client)) none
