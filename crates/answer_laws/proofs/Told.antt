-- A step from its call on: no request comes in, and what is told is of one that was outstanding after the call.
use Rattle.std.proofs.Common.{◌≡◌, ◌⊎◌, ℕ, List, [], ◌∷◌, ◌++◌, Option, Some, None, true, refl, sym, subst, inl, inr}
use Rattle.std.specs.Prelude.{find}
use Rattle.std.proofs.lemmas.Bool.{eqb-true}
use Rattle.rsct_packet.specs.declared.ids.ProviderId.{ProviderId}
use Rattle.rsct_packet.specs.Search.{Has}
use Rattle.rsct_packet.proofs.HasLaws.{has_append, append_has_left, find_has}
use Rattle.proposal_core.specs.declared.entry.Entry.{Entry}
use Rattle.proposal_core.specs.declared.group_state.GroupState.{GroupState}
use Rattle.client_callbacks.specs.declared.ballot.Filled.{Filled}
use Rattle.client_callbacks.specs.declared.told.Why.{Why}
use Rattle.client_callbacks.specs.declared.told.Why.TheVariants.{Dissolved}
use Rattle.session_state.specs.declared.state.Request.{Request}
use Rattle.session_state.specs.declared.state.SessionState.{SessionState}
use Rattle.session_state.specs.State.{is_asked_by, outstanding}
use Rattle.session_state.specs.HandOn.{is_numbered, take_telling, handed_on}
use Rattle.view_state.specs.declared.install.Install.{Install}
use Rattle.node_state.specs.declared.happened.Happened.{Happened}
use Rattle.node_state.specs.declared.happened.Happened.TheVariants as happened
use Rattle.node_state.specs.declared.packet.Body.TheVariants as body
use Rattle.node_state.specs.declared.state.Core.{Core}
use Rattle.node_state.specs.State.{with_row, with_led, set_leader, state_of, len_of, recorded, with_sessions}
use Rattle.node_state.specs.Sending.{send_on}
use Rattle.node_state.specs.HandOn.{Answering}
use Rattle.node_state.specs.Leading.{put}
use Rattle.node_state.specs.Deciding.{keep_decision, is_idle_empty, wait_join}
use Rattle.node_state.specs.Applying.{level_set, number_of, dissolved}
use Rattle.node_state.specs.Step.{NodeEvent, stepped, at_work}
use Rattle.step_walk.proofs.Changes.{Any, Whatever, viewing, KeepsParts, KeepsRing, KeepsRules, KeepsViews}
use Rattle.step_walk.proofs.Parts.{IsEntering, entering, on_hands, on_enters}
use Rattle.step_walk.proofs.Ringing.{by_ring}
use Rattle.step_walk.proofs.Walking.{whatever, on_stepped}
use Rattle.step_refinement.proofs.SessionLaws.{provider_same, handed_later}
use Rattle.row_laws.proofs.failed_rows.Origin.{root_of}
use Rattle.provider_laws.proofs.leaving.Left.{told_kept}

-- a request of the provider under the number is outstanding
pub record Outstanding (t : SessionState) (p : ProviderId) (r : ℕ) : Type 0 where
  pub request : Request
  pub there : Has request t.requests
  pub of : request.provider ≡ p
  pub number : request.request ≡ r

-- what is told is of it; without a request it is that the group was dissolved
abbrev pub Due : SessionState → ProviderId → ℕ → Why → Type 0
Due t p r y = ((r ≡ 0) × (y ≡ Dissolved)) ⊎ Outstanding t p r

-- what a record of a step says of the node after its call
abbrev pub Says : SessionState → Happened → Type 0
Says t (happened.Told p r y) = Due t p r y
Says t _ = Unit {0}

-- ---- what is outstanding

pub asked_out : (t : SessionState) (p : ProviderId) (r : ℕ) → is_numbered r (outstanding t p) ≡ true → Outstanding t p r
unfolding outstanding
asked_out t p r e = by (find (is_asked_by p) t.requests) refl e
  where
    by : (o : Option Request) → find (is_asked_by p) t.requests ≡ o → is_numbered r o ≡ true → Outstanding t p r
    by None f n = absurd cc
    by (Some q) f n =
        let h = find_has (is_asked_by p) t.requests q f in
        record { request = q; there = h.0; of = provider_same q.provider p h.1; number = eqb-true q.request r n }

pub dissolved_out : (t : SessionState) (p : ProviderId) → Due t p (number_of (outstanding t p)) Dissolved
unfolding outstanding
dissolved_out t p = by (find (is_asked_by p) t.requests) refl
  where
    by : (o : Option Request) → find (is_asked_by p) t.requests ≡ o → Due t p (number_of o) Dissolved
    by None f = inl (refl, refl)
    by (Some q) f =
        let h = find_has (is_asked_by p) t.requests q f in
        inr (record { request = q; there = h.0; of = provider_same q.provider p h.1; number = refl })

-- ---- a step

pub record Tells (root s : Core) : Type 0 where
  pub asked : (q : Request) → Has q s.sessions.requests → Has q root.sessions.requests
  pub grown : (r : Happened) → Has r root.records → Has r s.records
  pub fresh : (r : Happened) → Has r s.records → Has r root.records ⊎ Says root.sessions r

tells_self : (s : Core) → Tells s s
tells_self s = record { asked = λ q i. i; grown = λ r i. i; fresh = λ r i. inl i }

module _ (root : Core) where
  less_on : (s : Core) (u : SessionState) → ((q : Request) → Has q u.requests → Has q s.sessions.requests) → Tells root s → Tells root (record s { sessions = u })
  less_on s u l k = record { asked = λ q i. k.asked q (l q i); grown = k.grown; fresh = k.fresh }

  pushed : (s : Core) (r : Happened) → Says root.sessions r → Tells root s → Tells root (record s { records = s.records ++ r ∷ [] })
  pushed s r says k =
      record { asked = k.asked; grown = λ x i. append_has_left x s.records (r ∷ []) (k.grown x i); fresh = λ x i. by x (has_append x s.records (r ∷ []) i) }
    where
      by : (x : Happened) → Has x s.records ⊎ Has x (r ∷ []) → Has x root.records ⊎ Says root.sessions x
      by x (inl i) = k.fresh x i
      by x (inr (inl e)) = inr (subst (Says root.sessions) (sym e) says)
      by x (inr (inr z)) = absurd z

  due_then : (s : Core) (p : ProviderId) (r : ℕ) (y : Why) → Tells root s → Due s.sessions p r y → Due root.sessions p r y
  due_then s p r y k (inl a) = inl a
  due_then s p r y k (inr a) = inr (record { request = a.request; there = k.asked a.request a.there; of = a.of; number = a.number })

  told : (s : Core) (p : ProviderId) (r : ℕ) (y : Why) → Due s.sessions p r y → Tells root s → Tells root (recorded (with_sessions s (take_telling s.sessions p r y)) (happened.Told p r y))
  unfolding recorded with_sessions
  told s p r y due k =
      pushed (record s { sessions = take_telling s.sessions p r y }) (happened.Told p r y) (due_then s p r y k due) (less_on s (take_telling s.sessions p r y) (told_kept s.sessions p r y).1 k)

  -- ---- each change of a step

  same : (s t : Core) → t.sessions ≡ s.sessions → t.records ≡ s.records → Tells root s → Tells root t
  same s t e f k =
      record {
        asked = λ q i. k.asked q (subst (λ (z : SessionState). Has q z.requests) e i);
        grown = λ r i. subst (Has r) (sym f) (k.grown r i);
        fresh = λ r i. k.fresh r (subst (Has r) f i);
      }

  handed : (s : Core) (g : List ℕ) (before after : GroupState) (e : Entry) (bs : List (Option Filled)) → Tells root s → Tells root (with_sessions s (handed_on s.sessions g before after e bs))
  unfolding with_sessions
  handed s g before after e bs k =
      let l = handed_later s.sessions g before after e bs in less_on s (handed_on s.sessions g before after e bs) l.requests k

  parts : KeepsParts (Tells root) Any
  unfolding send_on put with_row recorded
  parts =
      record {
        sends = λ s network to b spoken k. same s (send_on s network to b) refl refl k;
        puts = λ s g e ok k. pushed (with_row s g _) (happened.Put s.views.me s.views.view g (len_of s g) e) tt (same s (with_row s g _) refl refl k);
        hears = λ s g before after e bs c i h k. pushed s (happened.Heard c.provider s.views.view g i e after.members after.value) tt k;
        casts = λ s p proto phase vote value message k. pushed s (happened.Cast p proto phase vote value message) tt k;
        handed = handed;
      }

  tells_keeps : KeepsRules (Tells root) Whatever
  unfolding with_row with_led keep_decision wait_join set_leader recorded
  tells_keeps =
      record {
        keeps = record {
          row = λ s g f ok mild k. same s (with_row s g f) refl refl k;
          decides = λ s g q r y ok fair k. same s (keep_decision s g q r y) refl refl k;
          sends = parts.sends;
          notes = λ s n c v place t k. pushed s (happened.Noted n c v place t) tt k;
          hands = on_hands (Tells root) Any parts;
        };
        names = λ s ns k. same s (record s { names = ns }) refl refl k;
        reach = λ s x k. same s (record s { reach = x }) refl refl k;
        leads = λ s g n k. same s (set_leader s g n) refl refl k;
        joins = λ s g q r a e k. same s (wait_join s g q r a (is_idle_empty (state_of s g))) refl refl k;
        tells = λ s q r y telling e k. told s q r y (inr (asked_out s.sessions q r e)) k;
      }

  tells_ring : KeepsRing (Tells root)
  unfolding send_on recorded
  tells_ring =
      record {
        rings = λ s rs k. same s (record s { rings = rs }) refl refl k;
        sends = λ s network to x k. same s (send_on s network to (body.Ring x)) refl refl k;
        records = λ s n network id ms b k. pushed s (happened.Ring n network id ms b) tt k;
      }

  entering_pushed : (s : Core) (r : Happened) → IsEntering r → Tells root s → Tells root (recorded s r)
  unfolding recorded
  entering_pushed s (happened.In n v ms) a k = pushed s (happened.In n v ms) tt k
  entering_pushed s (happened.Base n v g u len st) a k = pushed s (happened.Base n v g u len st) tt k
  entering_pushed s _ a k = absurd a

  entered : (s : Core) (i : Install) → Tells root s → Tells root (entering s i)
  unfolding level_set
  entered s i k =
      let t : SessionState = level_set s i.members in
      same (record s { sessions = t }) (entering s i) refl refl (less_on s t (λ q h. h) k)

  tells_views : KeepsViews (Tells root)
  unfolding dissolved
  tells_views =
      record {
        views = λ s v k. same s (record s { views = (viewing s v).views }) refl refl k;
        enters = λ s i k. on_enters (Tells root) entering_pushed s i (entered s i k);
        dissolves = λ s q x e k. told s x.provider (number_of (outstanding s.sessions x.provider)) Dissolved (dissolved_out s.sessions x.provider) k;
      }

-- from the call of a step on, or from the beginning of any other step
pub tells_stepped : (f : Answering) (s : Core) (e : NodeEvent) → Tells (root_of (at_work s) e) (stepped f s e)
tells_stepped f s e =
    let root : Core = root_of (at_work s) e in
    on_stepped (Tells root) Whatever (tells_keeps root) (by_ring (Tells root) Whatever (tells_keeps root) (tells_ring root)) (tells_views root) f s e (whatever e) (tells_self root)
