-- What an event says of a provider: whom it lets go, and whose join it asks for.
use Rattle.std.proofs.Common.{◌≡◌, ℕ, List, [], ◌∷◌, Option, Some, None, Bool, true, false, refl, sym, ap, ◌∙◌, subst, inl, inr}
use Rattle.std.specs.Prelude.{◌==◌, ◌&&◌, ◌||◌, not, if◌then◌else◌}
use Rattle.std.specs.List.{list_any}
use Rattle.std.proofs.lemmas.Bool.{eqb-true}
use Rattle.rsct_packet.specs.declared.ids.ProviderId.{ProviderId}
use Rattle.rsct_packet.specs.Providers.{same_provider}
use Rattle.rsct_packet.specs.Search.{Has}
use Rattle.rsct_packet.proofs.HasLaws.{append_has_left, append_has_right}
use Rattle.client_callbacks.specs.declared.told.Why.{Why}
use Rattle.client_callbacks.specs.declared.told.Why.TheVariants as why
use Rattle.session_state.specs.declared.state.SessionState.{SessionState}
use Rattle.session_state.specs.HandOn as session
use Rattle.node_state.specs.declared.call.CallLine.TheVariants as call
use Rattle.node_state.specs.declared.happened.Happened.{Happened}
use Rattle.node_state.specs.declared.happened.Happened.TheVariants as happened
use Rattle.world_model.specs.declared.event.Event.{Event}
use Rattle.world_model.specs.declared.event.Event.TheVariants as event
use Rattle.world_model.specs.Run.{Happening}
use Rattle.run_safety.specs.Past.{History, records_of, inc_now}
use Rattle.run_safety.specs.Stays.{asks_join, joining_client, client_of, is_named, goodbye_of, is_refused, is_dissolved, ends, was_let_go}
use Rattle.step_refinement.proofs.SessionLaws.{provider_same}
use Rattle.run_induction.proofs.Idle.{Idle}
use Rattle.row_laws.proofs.failed_rows.Living.{IsLive}
use Rattle.provider_laws.proofs.leaving.Left.{Known, Says}

pub any_none : {A : Type 0} (test : A → Bool) (xs : List A) → ((x : A) → Has x xs → test x ≡ false) → list_any test xs ≡ false
any_none test [] all = refl
any_none test (x ∷ xs) all = λ i. all x (inl refl) i || any_none test xs (λ y j. all y (inr j)) i

-- ---- whom an event lets go

pub same_dissolved : (y : Why) → is_dissolved y ≡ true → session.is_dissolved y ≡ true
same_dissolved why.Dissolved e = refl
same_dissolved _ e = absurd (cc)

-- a record of a step ends nobody who is not known, or who is still there
pub says_spares : (a t : SessionState) (p : ProviderId) (inc : ℕ) (r : Happened) → (Known a p → IsLive t p) → Says a t r → ends p inc r ≡ false
says_spares a t p inc (happened.Down n) k s = absurd s
says_spares a t p inc (happened.Told q r y) k s = by (same_provider q p) (is_dissolved y) refl refl
  where
    by : (b c : Bool) → same_provider q p ≡ b → is_dissolved y ≡ c → (b && c) ≡ false
    by false c e d = refl
    by true false e d = refl
    by true true e d =
        let same : q ≡ p = provider_same q p e in
        absurd (s.1 (same_dissolved y d) (subst (IsLive t) (sym same) (k (subst (Known a) same s.0))))
says_spares a t p inc _ k s = refl

-- one of no step ends nobody, unless this node stops
pub idle_ends : (p : ProviderId) (inc : ℕ) (r : Happened) → Idle r → ((m : ℕ) → r ≡ happened.Down m → (m == p.node && inc == p.inc) ≡ false) → ends p inc r ≡ false
idle_ends p inc (happened.Down m) a stays = stays m refl
idle_ends p inc (happened.Told q r y) a stays = absurd a
idle_ends p inc _ a stays = refl

-- what a goodbye is
pub goodbye_is : (n : ℕ) (o : Option (List ℕ)) (v : Event) → goodbye_of n o (Some v) ≡ true → (m : ℕ) × (c : List ℕ) × (v ≡ event.Call m (call.Goodbye c)) × (m ≡ n) × (is_named c o ≡ true)
goodbye_is n o (event.Call m (call.Goodbye c)) e = (m, c, refl, eqb-true m n (first (m == n) (is_named c o) e), second (m == n) (is_named c o) e)
  where
    first : (a b : Bool) → (a && b) ≡ true → a ≡ true
    first true b e = refl
    first false b e = absurd (cc)

    second : (a b : Bool) → (a && b) ≡ true → b ≡ true
    second true b e = e
    second false b e = absurd (cc)
goodbye_is n o _ e = absurd (cc)

-- whoever is not let go
pub spared : (p : ProviderId) (v : Event) (rs : List Happened) (h : History) → ((r : Happened) → Has r rs → ends p (inc_now p.node (records_of h)) r ≡ false) → ((m : ℕ) (c : List ℕ) → v ≡ event.Call m (call.Goodbye c) → m ≡ p.node → is_named c (client_of p h) ≡ true → list_any is_refused rs ≡ false → ⊥) → was_let_go p h ≡ false → was_let_go p (record { event = Some v; records = rs } ∷ h) ≡ false
spared p v rs h none stays old = λ i. (any_none (ends p (inc_now p.node (records_of h))) rs none i || bye (goodbye_of p.node (client_of p h) (Some v)) (list_any is_refused rs) refl refl i) || old i
  where
    bye : (a b : Bool) → goodbye_of p.node (client_of p h) (Some v) ≡ a → list_any is_refused rs ≡ b → (goodbye_of p.node (client_of p h) (Some v) && not (list_any is_refused rs)) ≡ false
    bye false b e f = ap (λ z. z && not (list_any is_refused rs)) e
    bye true true e f = (λ i. e i && not (f i))
    bye true false e f = let z = goodbye_is p.node (client_of p h) v e in absurd (stays z.0 z.1 z.2 z.3 z.4 f)

pub spared_in : (p : ProviderId) (e : Happening) (h : History) → ((r : Happened) → Has r e.records → ends p (inc_now p.node (records_of h)) r ≡ false) → ((v : Event) → e.event ≡ Some v → (m : ℕ) (c : List ℕ) → v ≡ event.Call m (call.Goodbye c) → m ≡ p.node → is_named c (client_of p h) ≡ true → ⊥) → was_let_go p h ≡ false → was_let_go p (e ∷ h) ≡ false
spared_in p e h none stays old = by e.event refl
  where
    by : (o : Option Event) → e.event ≡ o → was_let_go p (record { event = o; records = e.records } ∷ h) ≡ false
    by None q = λ i. (any_none (ends p (inc_now p.node (records_of h))) e.records none i || false) || old i
    by (Some v) q = spared p v e.records h none (λ m c at node named taken. stays v q m c at node named) old

-- ---- whose join is asked for

-- nobody asked
pub client_none : (p : ProviderId) (h : History) → ((r : Happened) → Has r (records_of h) → asks_join p r ≡ false) → client_of p h ≡ None
client_none p [] none = refl
client_none p (e ∷ h) none =
    ap (λ b. if b then joining_client e.event else client_of p h) (any_none (asks_join p) e.records (λ r i. none r (append_has_left r e.records (records_of h) i))) ∙ client_none p h (λ r i. none r (append_has_right r e.records (records_of h) i))

pub client_on : (p : ProviderId) (o : Option Event) (rs : List Happened) (h : History) → list_any (asks_join p) rs ≡ false → client_of p (record { event = o; records = rs } ∷ h) ≡ client_of p h
client_on p o rs h none = ap (λ b. if b then joining_client o else client_of p h) none
