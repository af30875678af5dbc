-- A step lets go whom it should, and who hears was not let go.
use Rattle.std.proofs.Common.{◌≡◌, ◌≢◌, ◌≤◌, ◌<◌, ◌⊎◌, ℕ, List, [], ◌∷◌, Option, Some, None, Bool, true, false, refl, sym, ap, ◌∙◌, subst, inl, inr, arith}
use Rattle.std.specs.Prelude.{◌==◌, ◌&&◌, reverse, if◌then◌else◌}
use Rattle.std.specs.List.{list_any}
use Rattle.rsct_packet.specs.declared.ids.ProviderId.{ProviderId}
use Rattle.rsct_packet.specs.Providers.{same_provider}
use Rattle.rsct_packet.specs.Search.{Has}
use Rattle.rsct_packet.proofs.HasLaws.{has_reverse, reverse_has}
use Rattle.session_state.specs.declared.fault.GsFault.{GsFault}
use Rattle.session_state.specs.declared.state.Session.{Session}
use Rattle.session_state.specs.declared.state.Provider.{Provider}
use Rattle.session_state.specs.declared.state.SessionState.{SessionState}
use Rattle.node_state.specs.declared.call.CallLine.TheVariants as call
use Rattle.node_state.specs.declared.config.Config.{Config}
use Rattle.node_state.specs.declared.happened.Happened.{Happened}
use Rattle.node_state.specs.declared.happened.Happened.TheVariants as happened
use Rattle.node_state.specs.declared.state.Core.{Core}
use Rattle.node_state.specs.HandOn.{Answering}
use Rattle.node_state.specs.Calls.{take_call}
use Rattle.node_state.specs.Step.{NodeEvent, Calls, at_work, stepped}
use Rattle.world_model.specs.declared.event.Event.{Event}
use Rattle.world_model.specs.declared.event.Event.TheVariants as event
use Rattle.run_safety.specs.Past.{History, Within, records_of, inc_now}
use Rattle.run_safety.specs.SafeHeard.{NotLetGo}
use Rattle.run_safety.specs.Stays.{asks_join, joining_client, client_of, is_named, is_refused, ends, was_let_go}
use Rattle.node_state.proofs.NameOrder.{text_same}
use Rattle.step_refinement.specs.Tied.{Scene, NodeIsIf, Rests, Tied}
use Rattle.step_refinement.specs.Rules.{at_node, over, ended}
use Rattle.step_refinement.specs.Runs.{Reached}
use Rattle.step_refinement.proofs.Begins.{begin_tied}
use Rattle.step_refinement.proofs.Calls.{call_is_tied}
use Rattle.step_refinement.proofs.Changed.{each_set, set_here}
use Rattle.step_refinement.proofs.RunLaw.{reached_rests}
use Rattle.step_refinement.proofs.SessionLaws.{provider_same}
use Rattle.row_laws.proofs.hearing.Rules.{call_onward}
use Rattle.row_laws.specs.failed_rows.Scenes.{Names}
use Rattle.row_laws.proofs.failed_rows.Joining.{call_now}
use Rattle.row_laws.proofs.failed_rows.Living.{IsLive}
use Rattle.row_laws.proofs.failed_rows.Origin.{root_of}
use Rattle.row_laws.proofs.failed_rows.Owners.{Owned, owned_slim}
use Rattle.provider_laws.specs.leaving.Scenes.{IsCall}
use Rattle.provider_laws.proofs.leaving.Left.{Known, Left, Says, left_stepped, live_slim}
use Rattle.provider_laws.proofs.leaving.Calling.{Apart, Fit, CallSays, call_fits, goodbye_ends}
use Rattle.provider_laws.proofs.leaving.Comes.{Comes, comes_does, comes_same}
use Rattle.provider_laws.proofs.leaving.Events.{any_none, says_spares, spared}
use Rattle.provider_laws.proofs.leaving.Keeping.{Late, Unused, Kept, KeptIf, Clean, kept_on, unused_client}
use Rattle.run_safety.proofs.Tests.{has_any}

-- ---- records

call_spares : (a : SessionState) (p : ProviderId) (inc : ℕ) (r : Happened) → CallSays a r → ends p inc r ≡ false
call_spares a p inc (happened.Down n) s = absurd s
call_spares a p inc (happened.Told q r y) s = absurd s
call_spares a p inc _ s = refl

-- who asks has something outstanding
call_asks : (a : SessionState) (p : ProviderId) (r : Happened) → (Known a p → ⊥) → CallSays a r → asks_join p r ≡ false
call_asks a p (happened.Asked q r g x) k s = by (same_provider q p) refl
  where
    by : (b : Bool) → same_provider q p ≡ b → (b && (r == p.join)) ≡ false
    by false e = refl
    by true e = absurd (k (inl (s.0, s.1, s.2 ∙ provider_same q p e)))
call_asks a p _ k s = refl

-- who hears was there
heard_law : (a t : SessionState) (now : List Happened) (h : History) (r : Happened) → ((p : ProviderId) → IsLive a p → was_let_go p h ≡ false) → CallSays a r ⊎ Says a t r → NotLetGo now h r
heard_law a t now h (happened.Heard p v g i e ms value) k (inl z) = absurd z
heard_law a t now h (happened.Heard p v g i e ms value) k (inr l) = k p l
heard_law a t now h _ k s = tt

pub within_all : (P : List Happened → History → Happened → Type 0) (rs : List Happened) (h : History) → ((now : List Happened) (r : Happened) → Has r rs → P now h r) → Within P rs h
within_all P [] h all = tt
within_all P (r ∷ rs) h all = (all rs r (inl refl), within_all P rs h (λ now x i. all now x (inr i)))

-- ---- a step

module _ (c : Config) (w : Scene) (n : ℕ) (f : Answering) (s : Core) (e : NodeEvent) (v : Event) (reached : Reached c w) (up : w.cores n ≡ Some s) (says : Names n e v) (is : IsCall n e v) (k : Clean w) where
  abbrev rests : (g : List ℕ) → Rests g w
  rests g = reached_rests c w reached g

  abbrev root : Core
  root = root_of (at_work s) e

  abbrev t : Core
  t = stepped f s e

  here : NodeIsIf w.config (rests []).ghost [] n (w.incs n) (Some s)
  here = subst (NodeIsIf w.config (rests []).ghost [] n (w.incs n)) up ((rests []).nodes n)

  were : Kept w.before s
  were = subst (KeptIf w.before) up (k.nodes n)

  begun : Fit (at_work s)
  begun = record { says = λ r i. absurd i; apart = were.apart }

  fit_of : (e : NodeEvent) → Fit (root_of (at_work s) e)
  fit_of (Calls d) = call_fits d (at_work s) refl begun
  fit_of _ = begun

  tied_of : (e : NodeEvent) → Tied [] w n (root_of (at_work s) e)
  tied_of (Calls d) = call_is_tied d [] w n (at_work s) (begin_tied [] w n s up (rests []))
  tied_of _ = begin_tied [] w n s up (rests [])

  comes_of : (e : NodeEvent) → Comes s.sessions (root_of (at_work s) e).sessions
  comes_of (Calls d) = comes_does (at_work s) (take_call (at_work s) d) (call_onward (at_work s) d ((rests []).turns n s up).owner refl here.0.order).does
  comes_of _ = comes_same s.sessions s.sessions refl refl

  fit : Fit root
  fit = fit_of e

  tied : Tied [] w n root
  tied = tied_of e

  comes : Comes s.sessions root.sessions
  comes = comes_of e

  left : Left root t
  left = left_stepped f s e

  -- whoever is known after the call is of this node and incarnation, under a number that was given
  known : (p : ProviderId) → Known root.sessions p → (p.node ≡ n) × (p.inc ≡ w.incs n) × (p.join ≤ root.sessions.last_request)
  known p (inr l) =
      let o = tied.own.0.owes.providers l.0 l.1 in
      subst (λ (q : ProviderId). (q.node ≡ n) × (q.inc ≡ w.incs n) × (q.join ≤ root.sessions.last_request)) l.2 (o.0, o.1 ∙ tied.own.2, tied.turns.own.numbered l.0 l.1)
  known p (inl q) =
      let y = tied.own.0.owes.attended q.0 q.1 in
      let o = tied.own.0.owes.providers y.0 y.1 in
      subst (λ (q : ProviderId). (q.node ≡ n) × (q.inc ≡ w.incs n) × (q.join ≤ root.sessions.last_request)) (y.2 ∙ q.2) (o.0, o.1 ∙ tied.own.2, tied.turns.own.numbered y.0 y.1)

  -- whoever is there after the call was not let go
  unlet_live : (p : ProviderId) → IsLive root.sessions p → was_let_go p w.before ≡ false
  unlet_live p l = by (comes.back p l)
    where
      by : IsLive s.sessions p ⊎ (s.sessions.last_request < p.join) → was_let_go p w.before ≡ false
      by (inl x) = subst (λ q. was_let_go q w.before ≡ false) x.2 (were.unlet x.0 x.1)
      by (inr lt) =
          let o = known p (inr l) in
          k.unused p (inr (subst (λ m. Late p (w.incs m) (w.cores m)) (sym o.0) (subst (Late p (w.incs n)) (sym up) (o.1, lt))))

  spares : (p : ProviderId) (inc : ℕ) → (Known root.sessions p → IsLive t.sessions p) → (r : Happened) → Has r (reverse t.records) → ends p inc r ≡ false
  spares p inc live r i = by (left.fresh r (has_reverse r t.records i))
    where
      by : Has r root.records ⊎ Says root.sessions t.sessions r → ends p inc r ≡ false
      by (inl j) = call_spares root.sessions p inc r (fit.says r j)
      by (inr z) = says_spares root.sessions t.sessions p inc r live z

  none_asks : (p : ProviderId) → (Known root.sessions p → ⊥) → list_any (asks_join p) (reverse t.records) ≡ false
  none_asks p un = left.slim.asks p ∙ any_none (asks_join p) (reverse root.records) (λ r i. call_asks root.sessions p r un (fit.says r (has_reverse r root.records i)))

  rooted : (e : NodeEvent) → Names n e v → Owned (λ p. if list_any (asks_join p) (reverse (root_of (at_work s) e).records) then joining_client (Some v) else client_of p w.before) (root_of (at_work s) e).sessions
  rooted (Calls c) says =
      subst (λ (z : Event). Owned (λ p. if list_any (asks_join p) (reverse (take_call (at_work s) c).records) then joining_client (Some z) else client_of p w.before) (take_call (at_work s) c).sessions) (sym (says c refl)) (call_now (λ p. client_of p w.before) c (at_work s) refl ((rests []).turns n s up).numbered were.owners)
  rooted _ says = were.owners

  owners : Owned (λ p. client_of p (over v t ∷ w.before)) t.sessions
  owners =
      owned_slim (λ p. if list_any (asks_join p) (reverse root.records) then joining_client (Some v) else client_of p w.before) (λ p. client_of p (over v t ∷ w.before)) root.sessions t.sessions (λ x i. ap (λ b. if b then joining_client (Some v) else client_of x.provider w.before) (left.slim.asks x.provider)) left.slim.sessions (rooted e says)

  -- a goodbye that is taken leaves nobody of its client
  no_goodbye : (x : Provider) → Has x t.sessions.providers → (m : ℕ) (d : List ℕ) → v ≡ event.Call m (call.Goodbye d) → is_named d (client_of x.provider w.before) ≡ true → list_any is_refused (reverse t.records) ≡ false → ⊥
  no_goodbye x i m d q named taken = by (subst (λ z. ((f : GsFault) × Has (happened.Refused s.views.me d f) (root_of (at_work s) z).records) ⊎ ((y : Session) → Has y (root_of (at_work s) z).sessions.sessions → y.name ≡ d → ⊥)) (sym (is m (call.Goodbye d) q).1) (goodbye_ends (λ p. client_of p w.before) (at_work s) d begun were.owners))
    where
      o : (y : Session) × Has y t.sessions.sessions × (y.token.number ≡ x.client.number) × (client_of x.provider (over v t ∷ w.before) ≡ Some y.name)
      o = owners.owner x i

      name : (b : Bool) → (if b then joining_client (Some v) else client_of x.provider w.before) ≡ Some (o.0).name → (o.0).name ≡ d
      name true z = absurd (let y : None ≡ Some (o.0).name = sym (ap (λ u. joining_client (Some u)) q) ∙ z in cc)
      name false z = sym (text_same d (o.0).name (ap (is_named d) (sym z) ∙ named))

      by : ((f : GsFault) × Has (happened.Refused s.views.me d f) root.records) ⊎ ((y : Session) → Has y root.sessions.sessions → y.name ≡ d → ⊥) → ⊥
      by (inl r) = let z : false ≡ true = sym taken ∙ has_any is_refused (reverse t.records) (happened.Refused s.views.me d r.0) (reverse_has (happened.Refused s.views.me d r.0) t.records (left.grown (happened.Refused s.views.me d r.0) r.1)) refl in cc
      by (inr un) = un o.0 (subst (Has o.0) left.slim.sessions.names o.1) (name (list_any (asks_join x.provider) (reverse t.records)) o.3)

  own : Kept (over v t ∷ w.before) t
  own =
      record {
        owners = owners;
        apart = subst Apart (sym left.slim.sessions.names) fit.apart;
        unlet = λ x i. spared x.provider v (reverse t.records) w.before (spares x.provider (inc_now x.provider.node (records_of w.before)) (λ z. (x, i, refl))) (λ m d q at named taken. no_goodbye x i m d q named taken) (unlet_live x.provider (live_slim root.sessions t.sessions x.provider left.slim.sessions (x, i, refl)));
      }

  others : (m : ℕ) → m ≢ n → (o : Option Core) → NodeIsIf w.config (rests []).ghost [] m (w.incs m) o → KeptIf w.before o → KeptIf (over v t ∷ w.before) o
  others m ne None z kept = tt
  others m ne (Some d) z kept =
      kept_on w.before d (Some v) (reverse t.records) (λ x i. none_asks x.provider (λ a. away x i a)) (λ x i. spared x.provider v (reverse t.records) w.before (spares x.provider (inc_now x.provider.node (records_of w.before)) (λ a. absurd (away x i a))) (λ j g q at named taken. ne (sym (z.0.owes.providers x i).0 ∙ sym at ∙ (is j (call.Goodbye g) q).0)) (kept.unlet x i)) kept
    where
      away : (x : Provider) → Has x d.sessions.providers → Known root.sessions x.provider → ⊥
      away x i a = ne (sym (z.0.owes.providers x i).0 ∙ (known x.provider a).0)

  -- whoever is to come was to come
  was_unused : (p : ProviderId) → Unused (ended w n v t) p → Unused w p
  was_unused p (inl lt) = inl lt
  was_unused p (inr late) = inr (each_set (λ m o. Late p (w.incs m) o → Late p (w.incs m) (w.cores m)) w.cores n (Some t) (λ z. subst (Late p (w.incs n)) (sym up) (z.0, lower z.1)) (λ m ne z. z) p.node late)
    where
      lower : t.sessions.last_request < p.join → s.sessions.last_request < p.join
      lower lt = let a = comes.last in let b = left.last in omega (arith, a, b, lt)

  not_known : (p : ProviderId) → Unused (ended w n v t) p → Known root.sessions p → ⊥
  not_known p (inl lt) a =
      let o = known p a in
      let b : w.incs p.node ≡ w.incs n = ap w.incs o.0 in let d = o.1 in omega (arith, lt, b, d)
  not_known p (inr late) a =
      let o = known p a in
      let z = subst (Late p (w.incs p.node)) (ap (at_node w.cores n (Some t)) o.0 ∙ set_here w.cores n (Some t)) late in
      let lt = z.1 in
      let b = left.last in let d = o.2 in omega (arith, lt, b, d)

  not_named : (p : ProviderId) → Unused w p → (d : List ℕ) → is_named d (client_of p w.before) ≡ true → ⊥
  not_named p un d e = let z : is_named d None ≡ true = ap (is_named d) (sym (unused_client w rests p un)) ∙ e in cc

  pub step_clean : Clean (ended w n v t)
  step_clean =
      record {
        nodes = each_set (λ m o. KeptIf (over v t ∷ w.before) o) w.cores n (Some t) own (λ m ne. others m ne (w.cores m) ((rests []).nodes m) (k.nodes m));
        unused = λ p un. spared p v (reverse t.records) w.before (spares p (inc_now p.node (records_of w.before)) (λ a. absurd (not_known p un a))) (λ m d q at named taken. not_named p (was_unused p un) d named) (k.unused p (was_unused p un));
        law = (within_all NotLetGo (reverse t.records) w.before (λ now r i. heard_law root.sessions t.sessions now w.before r unlet_live (said r (left.fresh r (has_reverse r t.records i)))), k.law);
      }
    where
      said : (r : Happened) → Has r root.records ⊎ Says root.sessions t.sessions r → CallSays root.sessions r ⊎ Says root.sessions t.sessions r
      said r (inl i) = inl (fit.says r i)
      said r (inr z) = inr z
