-- What is kept between events: providers of a node that is up were not let go, nor whoever is to come.
use Rattle.std.proofs.Common.{◌≡◌, ◌≤◌, ◌<◌, ◌⊎◌, ℕ, List, ◌∷◌, Option, Some, None, Bool, true, false, refl, sym, ◌∙◌, subst, inl, inr, arith}
use Rattle.std.specs.Prelude.{◌==◌, ◌&&◌}
use Rattle.std.specs.List.{list_any}
use Rattle.std.proofs.lemmas.Bool.{eqb-true}
use Rattle.rsct_packet.specs.declared.ids.ProviderId.{ProviderId}
use Rattle.rsct_packet.specs.Providers.{same_provider}
use Rattle.rsct_packet.specs.Search.{Has}
use Rattle.proposal_core.specs.declared.proposal.Proposal.{Proposal}
use Rattle.session_state.specs.declared.state.Provider.{Provider}
use Rattle.node_state.specs.declared.happened.Happened.{Happened}
use Rattle.node_state.specs.declared.happened.Happened.TheVariants as happened
use Rattle.node_state.specs.declared.state.Core.{Core}
use Rattle.world_model.specs.declared.event.Event.{Event}
use Rattle.run_safety.specs.Past.{History, EachRecord, records_of}
use Rattle.run_safety.specs.SafeHeard.{NotLetGo}
use Rattle.run_safety.specs.Stays.{asks_join, client_of, was_let_go}
use Rattle.run_safety.specs.Group.{Noted}
use Rattle.run_safety.specs.Group as group
use Rattle.step_refinement.specs.Ghost.{Ghost, asking}
use Rattle.step_refinement.specs.Tied.{Scene, NodeIsIf, Rests}
use Rattle.step_refinement.proofs.SessionLaws.{provider_same}
use Rattle.run_induction.proofs.Laws.{IfUp}
use Rattle.row_laws.proofs.failed_rows.Fitting.{asked_seen}
use Rattle.row_laws.proofs.failed_rows.Living.{slim_same}
use Rattle.row_laws.proofs.failed_rows.Owners.{Owned, owned_slim}
use Rattle.provider_laws.proofs.leaving.Calling.{Apart}
use Rattle.provider_laws.proofs.leaving.Events.{client_on, client_none}

-- of this incarnation, and its number was not given
abbrev pub Late : ProviderId → ℕ → Option Core → Type 0
Late p inc None = ⊥
Late p inc (Some s) = (p.inc ≡ inc) × (s.sessions.last_request < p.join)

-- nobody is it yet
abbrev pub Unused : Scene → ProviderId → Type 0
Unused w p = (w.incs p.node < p.inc) ⊎ Late p (w.incs p.node) (w.cores p.node)

pub record Kept (h : History) (s : Core) : Type 0 where
  pub owners : Owned (λ p. client_of p h) s.sessions
  pub apart : Apart s.sessions.sessions
  pub unlet : (x : Provider) → Has x s.sessions.providers → was_let_go x.provider h ≡ false

abbrev pub KeptIf : History → Option Core → Type 0
KeptIf h = IfUp (Kept h)

pub record Clean (w : Scene) : Type 0 where
  pub nodes : (m : ℕ) → KeptIf w.before (w.cores m)
  pub unused : (p : ProviderId) → Unused w p → was_let_go p w.before ≡ false
  pub law : EachRecord NotLetGo w.before

-- an event by which the node does not change
pub kept_on : (h : History) (s : Core) (o : Option Event) (rs : List Happened) → ((x : Provider) → Has x s.sessions.providers → list_any (asks_join x.provider) rs ≡ false) → ((x : Provider) → Has x s.sessions.providers → was_let_go x.provider (record { event = o; records = rs } ∷ h) ≡ false) → Kept h s → Kept (record { event = o; records = rs } ∷ h) s
kept_on h s o rs unasked unlet k =
    record {
      owners = owned_slim (λ p. client_of p h) (λ p. client_of p (record { event = o; records = rs } ∷ h)) s.sessions s.sessions (λ x i. client_on x.provider o rs h (unasked x i)) (slim_same s.sessions s.sessions refl refl refl) k.owners;
      apart = k.apart;
      unlet = unlet;
    }

-- ---- nobody asked for the join of who is to come

module _ (w : Scene) (rests : (g : List ℕ) → Rests g w) (p : ProviderId) where
  inc_is : (x : Ghost) (g : List ℕ) (n inc : ℕ) (o : Option Core) → NodeIsIf w.config x g n inc o → (x.nodes n).inc ≡ inc
  inc_is x g n inc None k = k
  inc_is x g n inc (Some s) k = k.0.stands.inc ∙ k.2

  not_late : (x : Ghost) (g : List ℕ) (inc r : ℕ) (o : Option Core) → NodeIsIf w.config x g p.node inc o → Late p inc o → Has (asking p r g) x.asked → r ≡ p.join → ⊥
  not_late x g inc r None k late i e = late
  not_late x g inc r (Some s) k late i e =
      let a : r ≤ s.sessions.last_request = k.0.owes.given (asking p r g) i refl (late.0 ∙ sym k.2) in let b = late.1 in omega (arith, a, b, e)

  unasked_of : Unused w p → (q : ProviderId) (r : ℕ) (g : List ℕ) (x : Proposal) → Has (happened.Asked q r g x) (records_of w.before) → q ≡ p → r ≡ p.join → ⊥
  unasked_of un q r g x i same e = by un
    where
      k : Rests g w
      k = rests g

      there : Has (asking p r g) (k.ghost).asked
      there =
          subst (λ z. Has (asking z r g) (k.ghost).asked) same (k.sound.asked q r x (subst (Has (Noted (group.Asked q r x))) (sym k.lines) (asked_seen q r g x w.before i)))

      by : (w.incs p.node < p.inc) ⊎ Late p (w.incs p.node) (w.cores p.node) → ⊥
      by (inl lt) =
          let a : p.inc ≤ ((k.ghost).nodes p.node).inc = k.sound.started (asking p r g) there in
          let b : ((k.ghost).nodes p.node).inc ≡ w.incs p.node = inc_is k.ghost g p.node (w.incs p.node) (w.cores p.node) (k.nodes p.node) in
          omega (arith, a, b, lt)
      by (inr late) = not_late k.ghost g (w.incs p.node) r (w.cores p.node) (k.nodes p.node) late there e

  unasked : Unused w p → (r : Happened) → Has r (records_of w.before) → asks_join p r ≡ false
  unasked un (happened.Asked q r g x) i = by (same_provider q p) (r == p.join) refl refl
    where
      by : (a b : Bool) → same_provider q p ≡ a → (r == p.join) ≡ b → (a && b) ≡ false
      by false b e d = refl
      by true false e d = refl
      by true true e d = absurd (unasked_of un q r g x i (provider_same q p e) (eqb-true r p.join d))
  unasked un _ i = refl

  pub unused_client : Unused w p → client_of p w.before ≡ None
  unused_client un = client_none p w.before (unasked un)
