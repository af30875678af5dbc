-- A step from its call on: a request that is outstanding was neither told nor put since the call; so nothing is told behind either.
use Rattle.std.proofs.Common.{◌≡◌, ◌⊎◌, ℕ, Bool, true, false, ◌||◌, List, [], ◌∷◌, ◌++◌, Option, Some, None, refl, sym, ◌∙◌, ap, subst, append_assoc, append-nil, inl, inr}
use Rattle.std.specs.Prelude.{reverse, flat_map, find, is_some}
use Rattle.std.proofs.lemmas.List.{reverse-append}
use Rattle.rsct_packet.specs.declared.ids.ProviderId.{ProviderId}
use Rattle.rsct_packet.specs.declared.ids.ProtoId.{ProtoId}
use Rattle.rsct_packet.specs.declared.ids.ViewId.{ViewId}
use Rattle.rsct_packet.specs.Search.{Has}
use Rattle.rsct_packet.proofs.HasLaws.{has_append, find_has}
use Rattle.proposal_core.specs.declared.entry.Entry.{Entry}
use Rattle.proposal_core.specs.declared.group_state.GroupState.{GroupState}
use Rattle.client_callbacks.specs.declared.ballot.Filled.{Filled}
use Rattle.client_callbacks.specs.declared.told.Why.{Why}
use Rattle.client_callbacks.specs.declared.told.Why.TheVariants.{Dissolved}
use Rattle.client_callbacks.specs.Ballots.{BallotView}
use Rattle.session_state.specs.declared.casts.Cast.{Cast}
use Rattle.session_state.specs.declared.state.Provider.{Provider}
use Rattle.session_state.specs.declared.state.Request.{Request}
use Rattle.session_state.specs.declared.state.SessionState.{SessionState}
use Rattle.session_state.specs.State.{is_provider, outstanding, provider_of}
use Rattle.session_state.specs.HandOn.{casts_out, is_dissolved, is_numbered, take_telling, handed_on}
use Rattle.view_state.specs.declared.install.Install.{Install}
use Rattle.node_state.specs.declared.happened.Happened.{Happened}
use Rattle.node_state.specs.declared.happened.Happened.TheVariants as happened
use Rattle.node_state.specs.declared.packet.Body.TheVariants as body
use Rattle.node_state.specs.declared.state.Core.{Core}
use Rattle.node_state.specs.State.{with_row, with_led, set_leader, state_of, len_of, recorded, recorded_all, with_sessions}
use Rattle.node_state.specs.Sending.{send_on}
use Rattle.node_state.specs.HandOn.{Answering, cast_record, cast_records, heard}
use Rattle.node_state.specs.Leading.{put}
use Rattle.node_state.specs.Deciding.{keep_decision, is_idle_empty, wait_join}
use Rattle.node_state.specs.Applying.{level_set, number_of, dissolved}
use Rattle.node_state.specs.Step.{NodeEvent, stepped, at_work}
use Rattle.run_safety.specs.Requests.{carried}
use Rattle.step_walk.proofs.Changes.{Whatever, put_sent, handing, viewing, KeepsRing, KeepsRules, KeepsViews}
use Rattle.step_walk.proofs.Parts.{IsEntering, entering, on_enters}
use Rattle.step_walk.proofs.Ringing.{by_ring}
use Rattle.step_walk.proofs.Walking.{whatever, on_stepped}
use Rattle.step_refinement.proofs.SessionLaws.{Attended, Later, handed_later, handed_gone}
use Rattle.step_refinement.proofs.Tellings.{provider_found, later_telling}
use Rattle.row_laws.proofs.hearing.Changes.{Sends, sends_all}
use Rattle.row_laws.proofs.failed_rows.Origin.{root_of}
use Rattle.answer_laws.proofs.Told.{Due, Outstanding, asked_out, dissolved_out}

-- neither told nor put
abbrev pub Plain : Happened → Type 0
Plain (happened.Told p r y) = ⊥
Plain (happened.Put n u g i e) = ⊥
Plain _ = Unit {0}

-- of the request nothing was told among these records, and no entry put that carries it
pub record Open (rs : List Happened) (p : ProviderId) (r : ℕ) : Type 0 where
  pub untold : (y : Why) → Has (happened.Told p r y) rs → ⊥
  pub unput : (n : ℕ) (u : ViewId) (g : List ℕ) (i : ℕ) (e : Entry) → Has (happened.Put n u g i e) rs → Has (p, r) (carried e) → ⊥

-- what is told behind these records is of such a request; or it is told, without one, that the group was dissolved
abbrev pub Follows : List Happened → Happened → Type 0
Follows older (happened.Told p r y) = ((r ≡ 0) × (y ≡ Dissolved)) ⊎ Open older p r
Follows older _ = Unit {0}

abbrev pub AllFollow : List Happened → Type 0
AllFollow [] = Unit {0}
AllFollow (x ∷ older) = Follows older x × AllFollow older

pub record Orders (root s : Core) : Type 0 where
  pub since : List Happened
  pub is : reverse s.records ≡ since ++ reverse root.records
  pub attended : Attended s.sessions
  pub untouched : (p : ProviderId) (r : ℕ) → Outstanding s.sessions p r → Open since p r
  pub each : AllFollow since

plain_follows : (older : List Happened) (x : Happened) → Plain x → Follows older x
plain_follows older (happened.Told p r y) a = absurd a
plain_follows older _ a = tt

open_more : (older : List Happened) (x : Happened) (p : ProviderId) (r : ℕ) → Plain x → Open older p r → Open (x ∷ older) p r
open_more older x p r plain o = record { untold = told; unput = puts }
  where
    told : (y : Why) → Has (happened.Told p r y) (x ∷ older) → ⊥
    told y (inl e) = subst Plain (sym e) plain
    told y (inr i) = o.untold y i

    puts : (n : ℕ) (u : ViewId) (g : List ℕ) (i : ℕ) (e : Entry) → Has (happened.Put n u g i e) (x ∷ older) → Has (p, r) (carried e) → ⊥
    puts n u g i e (inl q) names = subst Plain (sym q) plain
    puts n u g i e (inr j) names = o.unput n u g i e j names

-- ---- what an entry that is handed on records

heard_plain : (c : Core) (h : List ℕ) (i : ℕ) (e : Entry) (after : GroupState) (x : Cast) (r : Happened) → Has r (heard c h i e after x) → Plain r
unfolding heard cast_records cast_record
heard_plain c h i e after x r (inl eq) = subst Plain (sym eq) tt
heard_plain c h i e after x r (inr j) = by x.cast j
  where
    filled : (proto : ProtoId) (phase : ℕ) (b : Option Filled) → Has r (cast_record x.provider proto phase b) → Plain r
    filled proto phase None k = absurd k
    filled proto phase (Some b) (inl eq) = subst Plain (sym eq) tt
    filled proto phase (Some b) (inr z) = absurd z

    by : (o : Option (ProtoId × ℕ × BallotView)) → Has r (cast_records x.provider o) → Plain r
    by None k = absurd k
    by (Some k) l = filled k.0 k.1 (k.2).filled l

all_plain : (c : Core) (h : List ℕ) (i : ℕ) (e : Entry) (after : GroupState) (xs : List Cast) (r : Happened) → Has r (flat_map (heard c h i e after) xs) → Plain r
all_plain c h i e after [] r j = absurd j
all_plain c h i e after (x ∷ xs) r j =
    by (has_append r (heard c h i e after x) (flat_map (heard c h i e after) xs) j) (all_plain c h i e after xs r)
  where
    by : Has r (heard c h i e after x) ⊎ Has r (flat_map (heard c h i e after) xs) → (Has r (flat_map (heard c h i e after) xs) → Plain r) → Plain r
    by (inl k) rest = heard_plain c h i e after x r k
    by (inr k) rest = rest k

-- ---- who is told is there

attends : (t : SessionState) (p : ProviderId) (r : ℕ) → Attended t → Outstanding t p r → is_some (provider_of t p) ≡ true
attends t p r a o =
    let y = a o.request o.there in subst (λ z. is_some (provider_of t z) ≡ true) (y.2 ∙ o.of) (provider_found t y.0 y.1)

provider_has : (t : SessionState) (q : ProviderId) (x : Provider) → provider_of t q ≡ Some x → Has x t.providers
unfolding provider_of
provider_has t q x e = (find_has (is_provider q) t.providers x e).0

or_true : (b : Bool) → (b || true) ≡ true
or_true true = refl
or_true false = refl

-- ---- a step

module _ (root : Core) where
  orders_self : Attended root.sessions → Orders root root
  orders_self a =
      record { since = []; is = refl; attended = a; untouched = λ p r o. record { untold = λ y i. i; unput = λ n u g i e j names. j }; each = tt }

  less_on : (s : Core) (u : SessionState) → (Attended s.sessions → Attended u) → ((q : Request) → Has q u.requests → Has q s.sessions.requests) → Orders root s → Orders root (record s { sessions = u })
  less_on s u a l k =
      record {
        since = k.since;
        is = k.is;
        attended = a k.attended;
        untouched = λ p r o. k.untouched p r (record { request = o.request; there = l o.request o.there; of = o.of; number = o.number });
        each = k.each;
      }

  pushed : (s : Core) (x : Happened) → Plain x → Orders root s → Orders root (record s { records = s.records ++ x ∷ [] })
  pushed s x plain k =
      record {
        since = x ∷ k.since;
        is = reverse-append s.records (x ∷ []) ∙ ap (λ z. x ∷ z) k.is;
        attended = k.attended;
        untouched = λ p r o. open_more k.since x p r plain (k.untouched p r o);
        each = (plain_follows k.since x plain, k.each);
      }

  added : (s : Core) (new : List Happened) → ((x : Happened) → Has x new → Plain x) → Orders root s → Orders root (record s { records = s.records ++ new })
  added s [] all k = subst (λ z. Orders root (record s { records = z })) (sym (append-nil s.records)) k
  added s (x ∷ new) all k =
      subst (λ z. Orders root (record s { records = z })) (append_assoc s.records (x ∷ []) new) (added (record s { records = s.records ++ x ∷ [] }) new (λ q i. all q (inr i)) (pushed s x (all x (inl refl)) k))

  same : (s t : Core) → t.sessions ≡ s.sessions → t.records ≡ s.records → Orders root s → Orders root t
  same s t e f k =
      record {
        since = k.since;
        is = subst (λ z. reverse z ≡ k.since ++ reverse root.records) (sym f) k.is;
        attended = subst Attended (sym e) k.attended;
        untouched = λ p r o. k.untouched p r (subst (λ z. Outstanding z p r) e o);
        each = k.each;
      }

  told : (s : Core) (p : ProviderId) (r : ℕ) (y : Why) → Due s.sessions p r y → is_some (provider_of s.sessions p) ≡ true → (is_numbered r (outstanding s.sessions p) || is_dissolved y) ≡ true → Orders root s → Orders root (recorded (with_sessions s (take_telling s.sessions p r y)) (happened.Told p r y))
  unfolding recorded with_sessions
  told s p r y due there taken k =
      record {
        since = happened.Told p r y ∷ k.since;
        is = reverse-append s.records (happened.Told p r y ∷ []) ∙ ap (λ z. happened.Told p r y ∷ z) k.is;
        attended = later.attended k.attended;
        untouched = opens;
        each = (follows due, k.each);
      }
    where
      u : SessionState
      u = take_telling s.sessions p r y

      taking : Later s.sessions u × ((q : Request) → Has q u.requests → q.provider ≡ p → ⊥)
      taking = later_telling s.sessions p r y there taken

      later : Later s.sessions u
      later = taking.0

      follows : Due s.sessions p r y → Follows k.since (happened.Told p r y)
      follows (inl d) = inl d
      follows (inr o) = inr (k.untouched p r o)

      opens : (a : ProviderId) (b : ℕ) → Outstanding u a b → Open (happened.Told p r y ∷ k.since) a b
      opens a b o = record { untold = untold; unput = unput }
        where
          old : Open k.since a b
          old = k.untouched a b (record { request = o.request; there = later.requests o.request o.there; of = o.of; number = o.number })

          told_of : (z : Why) → happened.Told a b z ≡ happened.Told p r y → a ≡ p
          told_of z e = cc

          untold : (z : Why) → Has (happened.Told a b z) (happened.Told p r y ∷ k.since) → ⊥
          untold z (inl e) = taking.1 o.request o.there (o.of ∙ told_of z e)
          untold z (inr i) = old.untold z i

          unput : (n : ℕ) (v : ViewId) (g : List ℕ) (i : ℕ) (e : Entry) → Has (happened.Put n v g i e) (happened.Told p r y ∷ k.since) → Has (a, b) (carried e) → ⊥
          unput n v g i e (inl q) names = absurd cc
          unput n v g i e (inr j) names = old.unput n v g i e j names

  -- an entry is put, and handed on at once
  put_handed : (s t : Core) (u : SessionState) (m : ℕ) (v : ViewId) (g : List ℕ) (i : ℕ) (e : Entry) → Later s.sessions u → ((q : Request) → Has q u.requests → Has (q.provider, q.request) (carried e) → ⊥) → t.sessions ≡ u → t.records ≡ s.records ++ happened.Put m v g i e ∷ [] → Orders root s → Orders root t
  put_handed s t u m v g i e later gone is_u grown k =
      record {
        since = happened.Put m v g i e ∷ k.since;
        is = ap (λ z. reverse z) grown ∙ (reverse-append s.records (happened.Put m v g i e ∷ []) ∙ ap (λ z. happened.Put m v g i e ∷ z) k.is);
        attended = subst Attended (sym is_u) (later.attended k.attended);
        untouched = λ a b o. opens a b (subst (λ z. Outstanding z a b) is_u o);
        each = (tt, k.each);
      }
    where
      opens : (a : ProviderId) (b : ℕ) → Outstanding u a b → Open (happened.Put m v g i e ∷ k.since) a b
      opens a b o = record { untold = untold; unput = unput }
        where
          old : Open k.since a b
          old = k.untouched a b (record { request = o.request; there = later.requests o.request o.there; of = o.of; number = o.number })

          untold : (z : Why) → Has (happened.Told a b z) (happened.Put m v g i e ∷ k.since) → ⊥
          untold z (inl q) = absurd cc
          untold z (inr j) = old.untold z j

          put_of : (n : ℕ) (w : ViewId) (h : List ℕ) (j : ℕ) (f : Entry) → happened.Put n w h j f ≡ happened.Put m v g i e → f ≡ e
          put_of n w h j f q = cc

          unput : (n : ℕ) (w : ViewId) (h : List ℕ) (j : ℕ) (f : Entry) → Has (happened.Put n w h j f) (happened.Put m v g i e ∷ k.since) → Has (a, b) (carried f) → ⊥
          unput n w h j f (inl q) names =
              let in_e : Has (a, b) (carried e) = subst (λ z. Has (a, b) (carried z)) (put_of n w h j f q) names in
              gone o.request o.there (subst (λ (z : ProviderId × ℕ). Has z (carried e)) (λ l. (sym o.of l, sym o.number l)) in_e)
          unput n w h j f (inr l) names = old.unput n w h j f l names

  hands : (s : Core) (g : List ℕ) (e : Entry) (ns : List ℕ) (stable : ℕ) (bs : List (Option Filled)) → Orders root s → Orders root (handing (put_sent s g e ns stable) g (len_of s g) (state_of s g) (state_of (put s g e) g) e bs)
  unfolding with_sessions recorded_all put with_row recorded
  hands s g e ns stable bs k =
      let t : Core = put s g e in
      let c : Core = put_sent s g e ns stable in
      let n : Sends t c = sends_all t ns _ in
      let u : SessionState = handed_on c.sessions g (state_of s g) (state_of t g) e bs in
      let later : Later s.sessions u = subst (λ z. Later z u) n.sessions (handed_later c.sessions g (state_of s g) (state_of t g) e bs) in
      let d : Core = record c { sessions = u } in
      let new : List Happened = flat_map (heard c g (len_of s g) e (state_of t g)) (casts_out c.sessions g (state_of s g) (state_of t g) e bs) in
      added d new (all_plain c g (len_of s g) e (state_of t g) (casts_out c.sessions g (state_of s g) (state_of t g) e bs)) (put_handed s d u s.views.me s.views.view g (len_of s g) e later (handed_gone c.sessions g (state_of s g) (state_of t g) e bs) refl n.records k)

  orders_keeps : KeepsRules (Orders root) Whatever
  unfolding with_row with_led keep_decision wait_join set_leader recorded send_on
  orders_keeps =
      record {
        keeps = record {
          row = λ s g f ok mild k. same s (with_row s g f) refl refl k;
          decides = λ s g q r y ok fair k. same s (keep_decision s g q r y) refl refl k;
          sends = λ s network to b spoken k. same s (send_on s network to b) refl refl k;
          notes = λ s n c v place t k. pushed s (happened.Noted n c v place t) tt k;
          hands = λ s g e ns stable bs ok k. hands s g e ns stable bs k;
        };
        names = λ s ns k. same s (record s { names = ns }) refl refl k;
        reach = λ s x k. same s (record s { reach = x }) refl refl k;
        leads = λ s g n k. same s (set_leader s g n) refl refl k;
        joins = λ s g q r a e k. same s (wait_join s g q r a (is_idle_empty (state_of s g))) refl refl k;
        tells = λ s q r y telling e k. told s q r y (inr (asked_out s.sessions q r e)) (attends s.sessions q r k.attended (asked_out s.sessions q r e)) (ap (λ b. b || is_dissolved y) e) k;
      }

  orders_ring : KeepsRing (Orders root)
  unfolding send_on recorded
  orders_ring =
      record {
        rings = λ s rs k. same s (record s { rings = rs }) refl refl k;
        sends = λ s network to x k. same s (send_on s network to (body.Ring x)) refl refl k;
        records = λ s n network id ms b k. pushed s (happened.Ring n network id ms b) tt k;
      }

  entering_pushed : (s : Core) (r : Happened) → IsEntering r → Orders root s → Orders root (recorded s r)
  unfolding recorded
  entering_pushed s (happened.In n v ms) a k = pushed s (happened.In n v ms) tt k
  entering_pushed s (happened.Base n v g u len st) a k = pushed s (happened.Base n v g u len st) tt k
  entering_pushed s _ a k = absurd a

  entered : (s : Core) (i : Install) → Orders root s → Orders root (entering s i)
  unfolding level_set
  entered s i k =
      let t : SessionState = level_set s i.members in
      same (record s { sessions = t }) (entering s i) refl refl (less_on s t (λ a. a) (λ q h. h) k)

  orders_views : KeepsViews (Orders root)
  unfolding dissolved
  orders_views =
      record {
        views = λ s v k. same s (record s { views = (viewing s v).views }) refl refl k;
        enters = λ s i k. on_enters (Orders root) entering_pushed s i (entered s i k);
        dissolves = λ s q x e k. told s x.provider (number_of (outstanding s.sessions x.provider)) Dissolved (dissolved_out s.sessions x.provider) (provider_found s.sessions x (provider_has s.sessions q x e)) (or_true (is_numbered (number_of (outstanding s.sessions x.provider)) (outstanding s.sessions x.provider))) k;
      }

-- from the call of a step on, or from the beginning of any other step
pub orders_stepped : (f : Answering) (s : Core) (e : NodeEvent) → Attended (root_of (at_work s) e).sessions → Orders (root_of (at_work s) e) (stepped f s e)
orders_stepped f s e attended =
    let root : Core = root_of (at_work s) e in
    on_stepped (Orders root) Whatever (orders_keeps root) (by_ring (Orders root) Whatever (orders_keeps root) (orders_ring root)) (orders_views root) f s e (whatever e) (orders_self root attended)
