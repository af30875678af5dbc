-- A step from its call on: each request that was outstanding is so still, or an entry was put that carries it, or its provider was told of
-- it, or has gone.
use Rattle.std.proofs.Common.{◌≡◌, ◌⊎◌, ℕ, List, [], ◌∷◌, ◌++◌, Option, Some, true, refl, sym, ap, ◌∙◌, subst, inl, inr}
use Rattle.std.specs.Prelude.{flat_map}
use Rattle.std.proofs.lemmas.Bool.{eqb-true}
use Rattle.rsct_packet.specs.declared.ids.ProviderId.{ProviderId}
use Rattle.rsct_packet.specs.declared.ids.ViewId.{ViewId}
use Rattle.rsct_packet.specs.Search.{Has}
use Rattle.rsct_packet.proofs.HasLaws.{append_has_left, append_has_right}
use Rattle.proposal_core.specs.declared.entry.Entry.{Entry}
use Rattle.proposal_core.specs.declared.group_state.GroupState.{GroupState}
use Rattle.client_callbacks.specs.declared.ballot.Filled.{Filled}
use Rattle.client_callbacks.specs.declared.told.Why.{Why}
use Rattle.client_callbacks.specs.declared.told.Why.TheVariants.{Dissolved}
use Rattle.session_state.specs.declared.state.Request.{Request}
use Rattle.session_state.specs.declared.state.SessionState.{SessionState}
use Rattle.session_state.specs.State.{outstanding}
use Rattle.session_state.specs.HandOn.{casts_out, is_numbered, take_telling, handed_on}
use Rattle.view_state.specs.declared.install.Install.{Install}
use Rattle.node_state.specs.declared.happened.Happened.{Happened}
use Rattle.node_state.specs.declared.happened.Happened.TheVariants as happened
use Rattle.node_state.specs.declared.packet.Body.TheVariants as body
use Rattle.node_state.specs.declared.state.Core.{Core}
use Rattle.node_state.specs.State.{with_row, with_led, set_leader, state_of, len_of, recorded, recorded_all, with_sessions}
use Rattle.node_state.specs.Sending.{send_on}
use Rattle.node_state.specs.HandOn.{Answering, heard}
use Rattle.node_state.specs.Leading.{put}
use Rattle.node_state.specs.Deciding.{keep_decision, is_idle_empty, wait_join}
use Rattle.node_state.specs.Applying.{level_set, number_of, dissolved}
use Rattle.node_state.specs.Step.{NodeEvent, stepped, at_work}
use Rattle.run_safety.specs.Requests.{carried}
use Rattle.step_walk.proofs.Changes.{Whatever, put_sent, handing, viewing, KeepsRing, KeepsRules, KeepsViews}
use Rattle.step_walk.proofs.Parts.{IsEntering, entering, on_enters}
use Rattle.step_walk.proofs.Ringing.{by_ring}
use Rattle.step_walk.proofs.Walking.{whatever, on_stepped}
use Rattle.step_refinement.proofs.SessionLaws.{handed_later}
use Rattle.row_laws.proofs.hearing.Changes.{Sends, sends_all}
use Rattle.row_laws.proofs.failed_rows.Living.{IsLive, Slimmer, slim_same, told_slim, handed_slim}
use Rattle.row_laws.proofs.failed_rows.Origin.{root_of}
use Rattle.provider_laws.proofs.leaving.Left.{live_slim, told_kept}
use Rattle.request_laws.specs.Requests.{HasBegun, HasHeard}
use Rattle.request_laws.proofs.Sessions.{IsSingle, outstanding_is, told_keeps, handed_keeps}

-- what became of a request
abbrev pub Fate : Core → Request → Type 0
Fate s q =
    Has q s.sessions.requests ⊎ (((n : ℕ) × HasBegun n q.provider q.request s.records) ⊎ (HasHeard q.provider q.request s.records ⊎ (IsLive s.sessions q.provider → ⊥)))

pub record Fates (root s : Core) : Type 0 where
  pub asked : (q : Request) → Has q s.sessions.requests → Has q root.sessions.requests
  pub fate : (q : Request) → Has q root.sessions.requests → Fate s q

fates_self : (s : Core) → Fates s s
fates_self s = record { asked = λ q i. i; fate = λ q i. inl i }

-- with more records
pub begun_more : (n : ℕ) (p : ProviderId) (r : ℕ) (rs ts : List Happened) → ((x : Happened) → Has x rs → Has x ts) → HasBegun n p r rs → HasBegun n p r ts
begun_more n p r rs ts more k =
    record { view = k.view; group = k.group; place = k.place; entry = k.entry; there = more (happened.Put n k.view k.group k.place k.entry) k.there; carries = k.carries }

pub heard_more : (p : ProviderId) (r : ℕ) (rs ts : List Happened) → ((x : Happened) → Has x rs → Has x ts) → HasHeard p r rs → HasHeard p r ts
heard_more p r rs ts more k = record { why = k.why; there = more (happened.Told p r k.why) k.there }

slim_as : (s t : SessionState) → t ≡ s → Slimmer s t
slim_as s t e = subst (Slimmer s) (sym e) (slim_same s s refl refl refl)

module _ (root : Core) (single : IsSingle root.sessions) where
  abbrev All : Core → Type 0
  All s = Fates root s

  single_in : (s : Core) → All s → IsSingle s.sessions
  single_in s k a b i j e = single a b (k.asked a i) (k.asked b j) e

  -- a change after which each request that was outstanding has its fate
  moved : (s t : Core) → Slimmer s.sessions t.sessions → ((x : Happened) → Has x s.records → Has x t.records) → ((q : Request) → Has q t.sessions.requests → Has q s.sessions.requests) → ((q : Request) → Has q s.sessions.requests → Fate t q) → All s → All t
  moved s t slim more back fate k = record { asked = λ q i. k.asked q (back q i); fate = λ q i. by q (k.fate q i) }
    where
      by : (q : Request) → Fate s q → Fate t q
      by q (inl i) = fate q i
      by q (inr (inl a)) = inr (inl (a.0, begun_more a.0 q.provider q.request s.records t.records more a.1))
      by q (inr (inr (inl a))) = inr (inr (inl (heard_more q.provider q.request s.records t.records more a)))
      by q (inr (inr (inr a))) = inr (inr (inr (λ l. a (live_slim s.sessions t.sessions q.provider slim l))))

  same : (s t : Core) → t.sessions ≡ s.sessions → t.records ≡ s.records → All s → All t
  same s t e f k =
      moved s t (slim_as s.sessions t.sessions e) (λ x. subst (Has x) (sym f)) (λ q. subst (λ (z : SessionState). Has q z.requests) e) (λ q i. inl (subst (λ (z : SessionState). Has q z.requests) (sym e) i)) k

  added : (s : Core) (new : List Happened) → All s → All (record s { records = s.records ++ new })
  added s new k =
      moved s (record s { records = s.records ++ new }) (slim_as s.sessions s.sessions refl) (λ x i. append_has_left x s.records new i) (λ q i. i) (λ q i. inl i) k

  -- who is told is told of its request
  told : (s : Core) (p : ProviderId) (r : ℕ) (y : Why) → ((q : Request) → outstanding s.sessions p ≡ Some q → q.request ≡ r) → All s → All (recorded (with_sessions s (take_telling s.sessions p r y)) (happened.Told p r y))
  unfolding recorded with_sessions
  told s p r y number k =
      moved s t (told_slim s.sessions p r y) (λ x i. append_has_left x s.records (happened.Told p r y ∷ []) i) (told_kept s.sessions p r y).1 (λ q i. by q i (told_keeps s.sessions p r y q i)) k
    where
      t : Core
      t = record s { sessions = take_telling s.sessions p r y; records = s.records ++ happened.Told p r y ∷ [] }

      by : (q : Request) → Has q s.sessions.requests → Has q (take_telling s.sessions p r y).requests ⊎ (q.provider ≡ p) → Fate t q
      by q i (inl j) = inl j
      by q i (inr e) =
          let of : outstanding s.sessions p ≡ Some q = subst (λ z. outstanding s.sessions z ≡ Some q) e (outstanding_is s.sessions q (single_in s k) i) in
          let n : q.request ≡ r = number q of in
          let here : Has (happened.Told p r y) (s.records ++ happened.Told p r y ∷ []) = append_has_right (happened.Told p r y) s.records (happened.Told p r y ∷ []) (inl refl) in
          inr (inr (inl (record { why = y; there = subst (λ (z : ProviderId × ℕ). Has (happened.Told z.0 z.1 y) (s.records ++ happened.Told p r y ∷ [])) (λ j. (sym e j, sym n j)) here })))

  puts : (s : Core) (g : List ℕ) (e : Entry) → All s → All (put s g e)
  unfolding put with_row recorded
  puts s g e k = added (with_row s g _) (happened.Put s.views.me s.views.view g (len_of s g) e ∷ []) (same s (with_row s g _) refl refl k)

  put_there : (s : Core) (g : List ℕ) (e : Entry) → Has (happened.Put s.views.me s.views.view g (len_of s g) e) (put s g e).records
  unfolding put with_row recorded
  put_there s g e =
      append_has_right (happened.Put s.views.me s.views.view g (len_of s g) e) s.records (happened.Put s.views.me s.views.view g (len_of s g) e ∷ []) (inl refl)

  -- an entry that was put is handed on
  handed : (c : Core) (m : ℕ) (v : ViewId) (g : List ℕ) (place : ℕ) (before after : GroupState) (e : Entry) (bs : List (Option Filled)) → Has (happened.Put m v g place e) c.records → All c → All (handing c g place before after e bs)
  unfolding with_sessions recorded_all
  handed c m v g place before after e bs there k =
      moved d t (handed_slim c.sessions g before after e bs) (λ x i. i) (handed_later c.sessions g before after e bs).requests (λ q i. by q (handed_keeps c.sessions g before after e bs q i)) (added c new k)
    where
      new : List Happened
      new = flat_map (heard c g place e after) (casts_out c.sessions g before after e bs)

      d : Core
      d = record c { records = c.records ++ new }

      t : Core
      t = record d { sessions = handed_on c.sessions g before after e bs }

      put_here : Has (happened.Put m v g place e) (c.records ++ new)
      put_here = append_has_left (happened.Put m v g place e) c.records new there

      by : (q : Request) → Has q (handed_on c.sessions g before after e bs).requests ⊎ (Has (q.provider, q.request) (carried e) ⊎ (IsLive (handed_on c.sessions g before after e bs) q.provider → ⊥)) → Fate t q
      by q (inl i) = inl i
      by q (inr (inl names)) =
          inr (inl (m, record { view = v; group = g; place = place; entry = e; there = put_here; carries = names }))
      by q (inr (inr off)) = inr (inr (inr off))

  hands : (s : Core) (g : List ℕ) (e : Entry) (ns : List ℕ) (stable : ℕ) (bs : List (Option Filled)) → All s → All (handing (put_sent s g e ns stable) g (len_of s g) (state_of s g) (state_of (put s g e) g) e bs)
  hands s g e ns stable bs k =
      let t : Core = put s g e in
      let n : Sends t (put_sent s g e ns stable) = sends_all t ns _ in
      let x : Happened = happened.Put s.views.me s.views.view g (len_of s g) e in
      handed (put_sent s g e ns stable) s.views.me s.views.view g (len_of s g) (state_of s g) (state_of t g) e bs (subst (Has x) (sym n.records) (put_there s g e)) (same t (put_sent s g e ns stable) n.sessions n.records (puts s g e k))

  -- ---- each change of a step

  numbered : (s : Core) (p : ProviderId) (r : ℕ) → is_numbered r (outstanding s.sessions p) ≡ true → (q : Request) → outstanding s.sessions p ≡ Some q → q.request ≡ r
  numbered s p r e q is = eqb-true q.request r (ap (is_numbered r) (sym is) ∙ e)

  fates_keeps : KeepsRules All Whatever
  unfolding with_row with_led keep_decision wait_join set_leader recorded send_on
  fates_keeps =
      record {
        keeps = record {
          row = λ s g f ok mild k. same s (with_row s g f) refl refl k;
          decides = λ s g q r y ok fair k. same s (keep_decision s g q r y) refl refl k;
          sends = λ s network to b spoken k. same s (send_on s network to b) refl refl k;
          notes = λ s n c v place t k. added s (happened.Noted n c v place t ∷ []) k;
          hands = λ s g e ns stable bs ok k. hands s g e ns stable bs k;
        };
        names = λ s ns k. same s (record s { names = ns }) refl refl k;
        reach = λ s x k. same s (record s { reach = x }) refl refl k;
        leads = λ s g n k. same s (set_leader s g n) refl refl k;
        joins = λ s g q r a e k. same s (wait_join s g q r a (is_idle_empty (state_of s g))) refl refl k;
        tells = λ s q r y telling e k. told s q r y (numbered s q r e) k;
      }

  fates_ring : KeepsRing All
  unfolding send_on recorded
  fates_ring =
      record {
        rings = λ s rs k. same s (record s { rings = rs }) refl refl k;
        sends = λ s network to x k. same s (send_on s network to (body.Ring x)) refl refl k;
        records = λ s n network id ms b k. added s (happened.Ring n network id ms b ∷ []) k;
      }

  entering_pushed : (s : Core) (r : Happened) → IsEntering r → All s → All (recorded s r)
  unfolding recorded
  entering_pushed s r a k = added s (r ∷ []) k

  entered : (s : Core) (i : Install) → All s → All (entering s i)
  unfolding level_set
  entered s i k =
      moved s (entering s i) (slim_same s.sessions (level_set s i.members) refl refl refl) (λ x h. h) (λ q h. h) (λ q h. inl h) k

  fates_views : KeepsViews All
  unfolding dissolved
  fates_views =
      record {
        views = λ s v k. same s (record s { views = (viewing s v).views }) refl refl k;
        enters = λ s i k. on_enters All entering_pushed s i (entered s i k);
        dissolves = λ s q x e k. told s x.provider (number_of (outstanding s.sessions x.provider)) Dissolved (λ z is. sym (ap number_of is)) k;
      }

-- from the call of a step on, or from the beginning of any other step
pub fates_stepped : (f : Answering) (s : Core) (e : NodeEvent) → IsSingle (root_of (at_work s) e).sessions → Fates (root_of (at_work s) e) (stepped f s e)
fates_stepped f s e single =
    let root : Core = root_of (at_work s) e in
    on_stepped (Fates root) Whatever (fates_keeps root single) (by_ring (Fates root) Whatever (fates_keeps root single) (fates_ring root single)) (fates_views root single) f s e (whatever e) (fates_self root)
