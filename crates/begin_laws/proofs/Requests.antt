-- A step from its call on: what is outstanding was outstanding after the call, and so was each request that is sent.
use Rattle.std.proofs.Common.{◌≡◌, ◌⊎◌, ℕ, List, [], ◌∷◌, Option, Some, None, refl, sym, ap, ◌∙◌, subst, inl, inr}
use Rattle.rsct_packet.specs.declared.ids.ProviderId.{ProviderId}
use Rattle.rsct_packet.specs.Search.{Has}
use Rattle.rsct_packet.proofs.HasLaws.{has_append}
use Rattle.proposal_core.specs.declared.entry.Entry.{Entry}
use Rattle.proposal_core.specs.declared.group_state.GroupState.{GroupState}
use Rattle.client_callbacks.specs.declared.ballot.Filled.{Filled}
use Rattle.client_callbacks.specs.declared.told.Why.{Why}
use Rattle.client_callbacks.specs.declared.told.Why.TheVariants.{Dissolved}
use Rattle.session_state.specs.declared.state.Request.{Request}
use Rattle.session_state.specs.declared.state.SessionState.{SessionState}
use Rattle.session_state.specs.State.{outstanding}
use Rattle.session_state.specs.HandOn.{take_telling, handed_on}
use Rattle.view_state.specs.declared.install.Install.{Install}
use Rattle.node_state.specs.declared.happened.Happened.{Happened}
use Rattle.node_state.specs.declared.happened.Happened.TheVariants as happened
use Rattle.node_state.specs.declared.packet.Body.{Body}
use Rattle.node_state.specs.declared.packet.Body.TheVariants as body
use Rattle.node_state.specs.declared.packet.Packet.{Packet}
use Rattle.node_state.specs.declared.state.Core.{Core}
use Rattle.node_state.specs.State.{with_row, with_led, set_leader, state_of, recorded, with_sessions}
use Rattle.node_state.specs.Sending.{packet_on, send_on}
use Rattle.node_state.specs.HandOn.{Answering}
use Rattle.node_state.specs.Leading.{put}
use Rattle.node_state.specs.Deciding.{keep_decision, is_idle_empty, wait_join}
use Rattle.node_state.specs.Applying.{level_set, number_of, dissolved}
use Rattle.node_state.specs.Step.{NodeEvent, stepped, at_work}
use Rattle.step_walk.proofs.Changes.{Any, Asking, Spoken, Whatever, viewing, KeepsParts, KeepsRing, KeepsRules, KeepsViews}
use Rattle.step_walk.proofs.Parts.{IsEntering, entering, on_hands, on_enters}
use Rattle.step_walk.proofs.Ringing.{by_ring}
use Rattle.step_walk.proofs.Walking.{whatever, on_stepped}
use Rattle.step_refinement.proofs.SessionLaws.{handed_later}
use Rattle.row_laws.proofs.failed_rows.Origin.{root_of}
use Rattle.provider_laws.proofs.leaving.Left.{told_kept}

-- the request that a packet carries
abbrev pub asked_by : Body → Option Request
asked_by (body.Request v g p r phases x) = Some (record { provider = p; request = r; group = g; phases = phases; proposal = x })
asked_by _ = None

-- it is one of these
abbrev pub Carries : SessionState → Body → Type 0
Carries t b = (q : Request) → asked_by b ≡ Some q → Has q t.requests

request_is : (a b : Request) → Some a ≡ Some b → a ≡ b
request_is a b e = cc

none_is : (q : Request) → None ≡ Some q → ⊥
none_is q e = cc

asking_carries : (s : Core) (b : Body) → Asking s b → Carries s.sessions b
asking_carries s b a q is =
    subst (λ z. Has z s.sessions.requests) (request_is a.0 q (sym (ap asked_by a.2) ∙ is)) a.1

pub spoken_carries : (s : Core) (b : Body) → Spoken s b → Carries s.sessions b
spoken_carries s (body.Request v g p r phases x) spoken = asking_carries s (body.Request v g p r phases x) spoken
spoken_carries s (body.Ring x) spoken = absurd spoken
spoken_carries s _ spoken = λ q e. absurd (none_is q e)

-- ---- a step

pub record Asks (root s : Core) : Type 0 where
  pub requests : (q : Request) → Has q s.sessions.requests → Has q root.sessions.requests
  pub sends : (p : Packet) → Has p s.sends → Carries root.sessions p.body

module _ (root : Core) where
  less_on : (s : Core) (u : SessionState) → ((q : Request) → Has q u.requests → Has q s.sessions.requests) → Asks root s → Asks root (record s { sessions = u })
  less_on s u l k = record { requests = λ q i. k.requests q (l q i); sends = k.sends }

  same : (s t : Core) → t.sessions ≡ s.sessions → t.sends ≡ s.sends → Asks root s → Asks root t
  same s t e f k =
      record {
        requests = λ q i. k.requests q (subst (λ (z : SessionState). Has q z.requests) e i);
        sends = λ p i. k.sends p (subst (Has p) f i);
      }

  said : (s : Core) (network to : ℕ) (b : Body) → Carries s.sessions b → Asks root s → Asks root (send_on s network to b)
  unfolding send_on packet_on
  said s network to b carries k = record { requests = k.requests; sends = λ p i. by p (has_append p s.sends _ i) }
    where
      by : (p : Packet) → Has p s.sends ⊎ Has p (packet_on s network to b ∷ []) → Carries root.sessions p.body
      by p (inl i) = k.sends p i
      by p (inr (inl e)) = λ q is. k.requests q (carries q (ap (λ (z : Packet). asked_by z.body) (sym e) ∙ is))
      by p (inr (inr z)) = absurd z

  told : (s : Core) (p : ProviderId) (r : ℕ) (y : Why) → Asks root s → Asks root (recorded (with_sessions s (take_telling s.sessions p r y)) (happened.Told p r y))
  unfolding recorded with_sessions
  told s p r y k =
      let d : Core = record s { sessions = take_telling s.sessions p r y } in
      same d (recorded d (happened.Told p r y)) refl refl (less_on s (take_telling s.sessions p r y) (told_kept s.sessions p r y).1 k)

  handed : (s : Core) (g : List ℕ) (before after : GroupState) (e : Entry) (bs : List (Option Filled)) → Asks root s → Asks root (with_sessions s (handed_on s.sessions g before after e bs))
  unfolding with_sessions
  handed s g before after e bs k =
      let l = handed_later s.sessions g before after e bs in less_on s (handed_on s.sessions g before after e bs) l.requests k

  parts : KeepsParts (Asks root) Any
  unfolding put with_row recorded
  parts =
      record {
        sends = λ s network to b spoken k. said s network to b (spoken_carries s b spoken) k;
        puts = λ s g e ok k. same s (put s g e) refl refl k;
        hears = λ s g before after e bs c i h k. same s (recorded s (happened.Heard c.provider s.views.view g i e after.members after.value)) refl refl k;
        casts = λ s p proto phase vote value message k. same s (recorded s (happened.Cast p proto phase vote value message)) refl refl k;
        handed = handed;
      }

  keeps : KeepsRules (Asks root) Whatever
  unfolding with_row with_led keep_decision wait_join set_leader recorded
  keeps =
      record {
        keeps = record {
          row = λ s g f ok mild k. same s (with_row s g f) refl refl k;
          decides = λ s g q r y ok fair k. same s (keep_decision s g q r y) refl refl k;
          sends = parts.sends;
          notes = λ s n c v place t k. same s (recorded s (happened.Noted n c v place t)) refl refl k;
          hands = on_hands (Asks root) Any parts;
        };
        names = λ s ns k. same s (record s { names = ns }) refl refl k;
        reach = λ s x k. same s (record s { reach = x }) refl refl k;
        leads = λ s g n k. same s (set_leader s g n) refl refl k;
        joins = λ s g q r a e k. same s (wait_join s g q r a (is_idle_empty (state_of s g))) refl refl k;
        tells = λ s q r y telling e k. told s q r y k;
      }

  ring : KeepsRing (Asks root)
  unfolding recorded
  ring =
      record {
        rings = λ s rs k. same s (record s { rings = rs }) refl refl k;
        sends = λ s network to x k. said s network to (body.Ring x) (λ q e. absurd (none_is q e)) k;
        records = λ s n network id ms b k. same s (recorded s (happened.Ring n network id ms b)) refl refl k;
      }

  entering_recorded : (s : Core) (r : Happened) → IsEntering r → Asks root s → Asks root (recorded s r)
  unfolding recorded
  entering_recorded s r is k = same s (recorded s r) refl refl k

  entered : (s : Core) (i : Install) → Asks root s → Asks root (entering s i)
  unfolding level_set
  entered s i k =
      let t : SessionState = level_set s i.members in
      same (record s { sessions = t }) (entering s i) refl refl (less_on s t (λ q h. h) k)

  views : KeepsViews (Asks root)
  unfolding dissolved
  views =
      record {
        views = λ s v k. same s (record s { views = (viewing s v).views }) refl refl k;
        enters = λ s i k. on_enters (Asks root) entering_recorded s i (entered s i k);
        dissolves = λ s q x e k. told s x.provider (number_of (outstanding s.sessions x.provider)) Dissolved k;
      }

-- from the call of a step on, or from the beginning of any other step
pub asks_stepped : (f : Answering) (s : Core) (e : NodeEvent) → ((p : Packet) → Has p (root_of (at_work s) e).sends → Carries (root_of (at_work s) e).sessions p.body) → Asks (root_of (at_work s) e) (stepped f s e)
asks_stepped f s e sends =
    let root : Core = root_of (at_work s) e in
    on_stepped (Asks root) Whatever (keeps root) (by_ring (Asks root) Whatever (keeps root) (ring root)) (views root) f s e (whatever e) (record { requests = λ q i. i; sends = sends })
