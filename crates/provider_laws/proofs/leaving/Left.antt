-- Since the call of a step providers only leave: who hears was there, and who is told DISSOLVED is there no longer.
use Rattle.std.proofs.Common.{◌≡◌, ◌⊎◌, ℕ, List, [], ◌∷◌, ◌++◌, Option, Some, None, Bool, true, false, refl, sym, ap, ◌∙◌, subst, inl, inr}
use Rattle.std.specs.Prelude.{◌&&◌, ◌||◌, not, find, filter, is_some, is_none, if◌then◌else◌}
use Rattle.rsct_packet.specs.declared.ids.ProviderId.{ProviderId}
use Rattle.rsct_packet.specs.Providers.{among, same_provider}
use Rattle.rsct_packet.specs.Search.{Has}
use Rattle.rsct_packet.proofs.HasLaws.{has_append, append_has_left, has_filter, find_has, find_none}
use Rattle.proposal_core.specs.declared.entry.Entry.{Entry}
use Rattle.proposal_core.specs.declared.group_state.GroupState.{GroupState}
use Rattle.client_callbacks.specs.declared.ballot.Filled.{Filled}
use Rattle.client_callbacks.specs.declared.told.Why.{Why}
use Rattle.client_callbacks.specs.declared.told.Why.TheVariants.{Dissolved}
use Rattle.session_state.specs.declared.casts.Cast.{Cast}
use Rattle.session_state.specs.declared.state.Provider.{Provider}
use Rattle.session_state.specs.declared.state.Request.{Request}
use Rattle.session_state.specs.declared.state.SessionState.{SessionState}
use Rattle.session_state.specs.State.{provider_of, is_provider, is_asked_by, outstanding, without_providers}
use Rattle.session_state.specs.HandOn.{hearers, casts_out, is_numbered, is_join_request, is_dissolved, takes_telling, told_of, take_telling, handed_on}
use Rattle.node_state.specs.declared.happened.Happened.{Happened}
use Rattle.node_state.specs.declared.happened.Happened.TheVariants as happened
use Rattle.node_state.specs.declared.state.Core.{Core}
use Rattle.view_state.specs.declared.install.Install.{Install}
use Rattle.node_state.specs.declared.packet.Body.TheVariants as body
use Rattle.node_state.specs.State.{with_row, with_led, set_leader, state_of, len_of, recorded, with_sessions}
use Rattle.node_state.specs.Sending.{send_on}
use Rattle.node_state.specs.HandOn.{Answering}
use Rattle.node_state.specs.Leading.{put}
use Rattle.node_state.specs.Deciding.{keep_decision, is_idle_empty, wait_join}
use Rattle.node_state.specs.Applying.{level_set, number_of, dissolved}
use Rattle.node_state.specs.Step.{NodeEvent, stepped, at_work}
use Rattle.step_refinement.proofs.SessionLaws.{provider_self, provider_same, hearer_has, cast_has, handed_later}
use Rattle.row_laws.proofs.failed_rows.Living.{IsLive, Slimmer, slim_same, told_slim, handed_slim}
use Rattle.row_laws.proofs.failed_rows.Facts.{Unasked}
use Rattle.row_laws.proofs.failed_rows.Origin.{Slim, slim_self, slim_more, slim_on, root_of}
use Rattle.step_walk.proofs.Changes.{Any, Whatever, viewing, KeepsParts, KeepsRing, KeepsRules, KeepsViews}
use Rattle.step_walk.proofs.Parts.{IsEntering, entering, on_hands, on_enters}
use Rattle.step_walk.proofs.Ringing.{by_ring}
use Rattle.step_walk.proofs.Walking.{whatever, on_stepped}

-- ---- sessions

-- no request comes in, and no number is given
record Less (s t : SessionState) : Type 0 where
  slim : Slimmer s t
  last : t.last_request ≡ s.last_request
  asked : (q : Request) → Has q t.requests → Has q s.requests

pub told_kept : (s : SessionState) (p : ProviderId) (r : ℕ) (y : Why) → ((take_telling s p r y).last_request ≡ s.last_request) × ((q : Request) → Has q (take_telling s p r y).requests → Has q s.requests)
unfolding take_telling told_of without_providers
told_kept s p r y = by (takes_telling s p r y) (is_join_request (outstanding s p) || is_dissolved y)
  where
    fewer : (q : Request) → Has q (filter (λ (q : Request). not (among (p ∷ []) q.provider)) s.requests) → Has q s.requests
    fewer q i = (has_filter (λ (q : Request). not (among (p ∷ []) q.provider)) q s.requests i).0

    by : (a b : Bool) → ((if a then (if b then without_providers s (p ∷ []) else record s { requests = filter (λ (q : Request). not (among (p ∷ []) q.provider)) s.requests }) else s).last_request ≡ s.last_request) × ((q : Request) → Has q (if a then (if b then without_providers s (p ∷ []) else record s { requests = filter (λ (q : Request). not (among (p ∷ []) q.provider)) s.requests }) else s).requests → Has q s.requests)
    by false b = (refl, λ q i. i)
    by true true = (refl, fewer)
    by true false = (refl, fewer)

told_less : (s : SessionState) (p : ProviderId) (r : ℕ) (y : Why) → Less s (take_telling s p r y)
told_less s p r y = record { slim = told_slim s p r y; last = (told_kept s p r y).0; asked = (told_kept s p r y).1 }

-- who is told DISSOLVED is not there then
gone_told : (s : SessionState) (p : ProviderId) (r : ℕ) (y : Why) → is_dissolved y ≡ true → IsLive (take_telling s p r y) p → ⊥
unfolding take_telling told_of takes_telling without_providers provider_of
gone_told s p r y d live = by (find (is_provider p) s.providers) refl (is_numbered r (outstanding s p)) (is_join_request (outstanding s p)) (is_dissolved y) d live
  where
    dropped : (x : Provider) → Has x (filter (λ (x : Provider). not (among (p ∷ []) x.provider)) s.providers) → x.provider ≡ p → ⊥
    dropped x i e =
        let k = (has_filter (λ (x : Provider). not (among (p ∷ []) x.provider)) x s.providers i).1 in
        let a : not (among (p ∷ []) x.provider) ≡ false = ap (λ z. not (among (p ∷ []) z)) e ∙ ap (λ b. not (b || false)) (provider_self p) in cc

    lacks : (x : Provider) → Has x s.providers → x.provider ≡ p → find (is_provider p) s.providers ≡ None → ⊥
    lacks x i e none =
        find_none (is_provider p) s.providers x (ap is_none none) i (ap (λ z. same_provider z p) e ∙ provider_self p)

    by : (o : Option Provider) → find (is_provider p) s.providers ≡ o → (a b c : Bool) → c ≡ true → IsLive (if is_some o && (a || c) then (if b || c then without_providers s (p ∷ []) else record s { requests = filter (λ (q : Request). not (among (p ∷ []) q.provider)) s.requests }) else s) p → ⊥
    by None f a b c t k = lacks k.0 k.1 k.2 f
    by (Some x) f true true true t k = dropped k.0 k.1 k.2
    by (Some x) f true false true t k = dropped k.0 k.1 k.2
    by (Some x) f false true true t k = dropped k.0 k.1 k.2
    by (Some x) f false false true t k = dropped k.0 k.1 k.2
    by (Some x) f a b false t k = absurd (cc)

pub live_slim : (s t : SessionState) (p : ProviderId) → Slimmer s t → IsLive t p → IsLive s p
live_slim s t p a k = let z = a.provs k.0 k.1 in (z.0, z.1, z.2 ∙ k.2)

-- ---- who is known

-- it asked for what is told of, or is a provider of the node
abbrev pub Known : SessionState → ProviderId → Type 0
Known t p = ((q : Request) × Has q t.requests × (q.provider ≡ p)) ⊎ IsLive t p

-- who has something outstanding asked for it
asked_known : (t : SessionState) (p : ProviderId) (r : ℕ) → is_numbered r (outstanding t p) ≡ true → (q : Request) × Has q t.requests × (q.provider ≡ p)
unfolding outstanding
asked_known t p r e = by (find (is_asked_by p) t.requests) refl e
  where
    by : (o : Option Request) → find (is_asked_by p) t.requests ≡ o → is_numbered r o ≡ true → (q : Request) × Has q t.requests × (q.provider ≡ p)
    by None f n = absurd (cc)
    by (Some q) f n = let h = find_has (is_asked_by p) t.requests q f in (q, h.0, provider_same q.provider p h.1)

found_live : (t : SessionState) (p : ProviderId) (x : Provider) → provider_of t p ≡ Some x → IsLive t x.provider
unfolding provider_of
found_live t p x e = (x, (find_has (is_provider p) t.providers x e).0, refl)

heard_live : (t : SessionState) (g : List ℕ) (before after : GroupState) (e : Entry) (bs : List (Option Filled)) (c : Cast) → Has c (casts_out t g before after e bs) → IsLive t c.provider
unfolding casts_out
heard_live t g before after e bs c h = hearer_has t g before e c.provider (cast_has e after t.level (hearers t g before e) bs c h)

-- ---- records

-- what a record of a step says, of the node after its call and as it is
abbrev pub Says : SessionState → SessionState → Happened → Type 0
Says a t (happened.Up n j) = ⊥
Says a t (happened.Down n) = ⊥
Says a t (happened.Heard p v g i e ms value) = IsLive a p
Says a t (happened.Told p r y) = Known a p × (is_dissolved y ≡ true → IsLive t p → ⊥)
Says a t _ = Unit {0}

says_on : (a t u : SessionState) (r : Happened) → Slimmer t u → Says a t r → Says a u r
says_on a t u (happened.Up n j) s k = k
says_on a t u (happened.Down n) s k = k
says_on a t u (happened.Heard p v g i e ms value) s k = k
says_on a t u (happened.Told p r y) s k = (k.0, λ d l. k.1 d (live_slim t u p s l))
says_on a t u _ s k = tt

-- ---- a step

pub record Left (root s : Core) : Type 0 where
  pub slim : Slim root s.sessions s.records
  pub last : s.sessions.last_request ≡ root.sessions.last_request
  pub asked : (q : Request) → Has q s.sessions.requests → Has q root.sessions.requests
  pub grown : (r : Happened) → Has r root.records → Has r s.records
  pub fresh : (r : Happened) → Has r s.records → Has r root.records ⊎ Says root.sessions s.sessions r

pub left_self : (s : Core) → Left s s
left_self s = record { slim = slim_self s; last = refl; asked = λ q i. i; grown = λ r i. i; fresh = λ r i. inl i }

module _ (root : Core) where
  less_on : (s : Core) (u : SessionState) → Less s.sessions u → Left root s → Left root (record s { sessions = u })
  less_on s u l k =
      record { slim = slim_on (Some root) s.sessions u s.records l.slim k.slim; last = l.last ∙ k.last; asked = λ q i. k.asked q (l.asked q i); grown = k.grown; fresh = λ r i. by r (k.fresh r i) }
    where
      by : (r : Happened) → Has r root.records ⊎ Says root.sessions s.sessions r → Has r root.records ⊎ Says root.sessions u r
      by r (inl i) = inl i
      by r (inr j) = inr (says_on root.sessions s.sessions u r l.slim j)

  pushed : (s : Core) (r : Happened) → Unasked r → Says root.sessions s.sessions r → Left root s → Left root (record s { records = s.records ++ r ∷ [] })
  pushed s r none says k =
      record { slim = slim_more (Some root) s.sessions s.records (r ∷ []) one k.slim; last = k.last; asked = k.asked; grown = λ x i. append_has_left x s.records (r ∷ []) (k.grown x i); fresh = λ x i. by x (has_append x s.records (r ∷ []) i) }
    where
      one : (x : Happened) → Has x (r ∷ []) → Unasked x
      one x (inl e) = subst Unasked (sym e) none
      one x (inr z) = absurd z

      by : (x : Happened) → Has x s.records ⊎ Has x (r ∷ []) → Has x root.records ⊎ Says root.sessions s.sessions x
      by x (inl i) = k.fresh x i
      by x (inr (inl e)) = inr (subst (Says root.sessions s.sessions) (sym e) says)
      by x (inr (inr z)) = absurd z

  known_then : (s : Core) (p : ProviderId) → Left root s → Known s.sessions p → Known root.sessions p
  known_then s p k (inl a) = inl (a.0, k.asked a.0 a.1, a.2)
  known_then s p k (inr l) = inr (live_slim root.sessions s.sessions p k.slim.sessions l)

  told : (s : Core) (p : ProviderId) (r : ℕ) (y : Why) → Known s.sessions p → Left root s → Left root (recorded (with_sessions s (take_telling s.sessions p r y)) (happened.Told p r y))
  unfolding recorded with_sessions
  told s p r y known k =
      pushed (record s { sessions = take_telling s.sessions p r y }) (happened.Told p r y) tt (known_then s p k known, gone_told s.sessions p r y) (less_on s (take_telling s.sessions p r y) (told_less s.sessions p r y) k)

  -- ---- each change of a step

  same : (s t : Core) → t.sessions ≡ s.sessions → t.records ≡ s.records → Left root s → Left root t
  same s t e f k =
      record {
        slim = subst (λ (z : SessionState × List Happened). Slim root z.0 z.1) (λ i. (sym e i, sym f i)) k.slim;
        last = ap (λ z. z.last_request) e ∙ k.last;
        asked = λ q i. k.asked q (subst (λ z. Has q z.requests) e i);
        grown = λ r i. subst (Has r) (sym f) (k.grown r i);
        fresh = λ r i. subst (λ z. Has r root.records ⊎ Says root.sessions z r) (sym e) (k.fresh r (subst (Has r) f i));
      }

  handed : (s : Core) (g : List ℕ) (before after : GroupState) (e : Entry) (bs : List (Option Filled)) → Left root s → Left root (with_sessions s (handed_on s.sessions g before after e bs))
  unfolding with_sessions
  handed s g before after e bs k =
      let l = handed_later s.sessions g before after e bs in
      less_on s (handed_on s.sessions g before after e bs) (record { slim = handed_slim s.sessions g before after e bs; last = l.last; asked = l.requests }) k

  parts : KeepsParts (Left root) Any
  unfolding send_on put with_row recorded
  parts =
      record {
        sends = λ s network to b spoken k. same s (send_on s network to b) refl refl k;
        puts = λ s g e ok k. pushed (with_row s g _) (happened.Put s.views.me s.views.view g (len_of s g) e) tt tt (same s (with_row s g _) refl refl k);
        hears = λ s g before after e bs c i h k. pushed s (happened.Heard c.provider s.views.view g i e after.members after.value) tt (live_slim root.sessions s.sessions c.provider k.slim.sessions (heard_live s.sessions g before after e bs c h)) k;
        casts = λ s p proto phase vote value message k. pushed s (happened.Cast p proto phase vote value message) tt tt k;
        handed = handed;
      }

  left_keeps : KeepsRules (Left root) Whatever
  unfolding with_row with_led keep_decision wait_join set_leader recorded
  left_keeps =
      record {
        keeps = record {
          row = λ s g f ok mild k. same s (with_row s g f) refl refl k;
          decides = λ s g q r y ok fair k. same s (keep_decision s g q r y) refl refl k;
          sends = parts.sends;
          notes = λ s n c v place t k. pushed s (happened.Noted n c v place t) tt tt k;
          hands = on_hands (Left root) Any parts;
        };
        names = λ s ns k. same s (record s { names = ns }) refl refl k;
        reach = λ s x k. same s (record s { reach = x }) refl refl k;
        leads = λ s g n k. same s (set_leader s g n) refl refl k;
        joins = λ s g q r a e k. same s (wait_join s g q r a (is_idle_empty (state_of s g))) refl refl k;
        tells = λ s q r y telling e k. told s q r y (inl (asked_known s.sessions q r e)) k;
      }

  left_ring : KeepsRing (Left root)
  unfolding send_on recorded
  left_ring =
      record {
        rings = λ s rs k. same s (record s { rings = rs }) refl refl k;
        sends = λ s network to x k. same s (send_on s network to (body.Ring x)) refl refl k;
        records = λ s n network id ms b k. pushed s (happened.Ring n network id ms b) tt tt k;
      }

  entering_pushed : (s : Core) (r : Happened) → IsEntering r → Left root s → Left root (recorded s r)
  unfolding recorded
  entering_pushed s (happened.In n v ms) a k = pushed s (happened.In n v ms) tt tt k
  entering_pushed s (happened.Base n v g u len st) a k = pushed s (happened.Base n v g u len st) tt tt k
  entering_pushed s _ a k = absurd a

  entered : (s : Core) (i : Install) → Left root s → Left root (entering s i)
  unfolding level_set
  entered s i k =
      let t : SessionState = level_set s i.members in
      same (record s { sessions = t }) (entering s i) refl refl (less_on s t (record { slim = slim_same s.sessions t refl refl refl; last = refl; asked = λ q h. h }) k)

  left_views : KeepsViews (Left root)
  unfolding dissolved
  left_views =
      record {
        views = λ s v k. same s (record s { views = (viewing s v).views }) refl refl k;
        enters = λ s i k. on_enters (Left root) entering_pushed s i (entered s i k);
        dissolves = λ s q x e k. told s x.provider (number_of (outstanding s.sessions x.provider)) Dissolved (inr (found_live s.sessions q x e)) k;
      }

-- after the call of a step, or before any other step, providers only leave
pub left_stepped : (f : Answering) (s : Core) (e : NodeEvent) → Left (root_of (at_work s) e) (stepped f s e)
left_stepped f s e =
    let root : Core = root_of (at_work s) e in
    on_stepped (Left root) Whatever (left_keeps root) (by_ring (Left root) Whatever (left_keeps root) (left_ring root)) (left_views root) f s e (whatever e) (left_self root)
