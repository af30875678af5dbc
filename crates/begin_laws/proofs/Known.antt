-- What is known of a packet that a node is given as a step begins: an entry of it was put, and a change that it asks for begins as is
-- meant, where the leader does not refuse it.
use Rattle.std.proofs.Common.{◌≡◌, ℕ, List, [], ◌∷◌, Option, Some, None, Bool, true, false, refl, sym, ap, ◌∙◌, subst, inl, inr}
use Rattle.std.specs.Prelude.{◌||◌, not, reverse}
use Rattle.std.specs.List.{list_any}
use Rattle.rsct_packet.specs.declared.ids.ProviderId.{ProviderId}
use Rattle.rsct_packet.specs.declared.ids.ViewId.{ViewId}
use Rattle.rsct_packet.specs.Providers.{among}
use Rattle.rsct_packet.specs.Search.{Has}
use Rattle.rsct_packet.proofs.HasLaws.{has_map}
use Rattle.group_attr.specs.declared.attrs.Phases.{Phases}
use Rattle.proposal_core.specs.declared.group_state.GroupState.{GroupState}
use Rattle.proposal_core.specs.declared.proposal.Proposal.{Proposal}
use Rattle.proposal_core.specs.declared.proposal.Proposal.TheVariants.{Join, Leave, Fail, Expel, State, Message, Attributes, Reflect}
use Rattle.proposal_core.specs.Fold.{joins_of}
use Rattle.client_callbacks.specs.declared.told.Why.{Why}
use Rattle.client_callbacks.specs.declared.told.Why.TheVariants as why
use Rattle.session_state.specs.declared.state.Request.{Request}
use Rattle.node_state.specs.declared.packet.Body.TheVariants as body
use Rattle.node_state.specs.declared.packet.Packet.{Packet}
use Rattle.node_state.specs.declared.state.Core.{Core}
use Rattle.node_state.specs.State.{with_row, with_led, row_of, list_of, led_of, state_of, set_leader}
use Rattle.node_state.specs.Deciding.{keep_decision, expelled_by, has_other_source, is_no_member, collide_refusal, other_refusal}
use Rattle.node_state.specs.Step.{NodeEvent, Ticks, Asks, Given, Calls, Garbage, at_work}
use Rattle.world_model.specs.declared.event.Event.{Event}
use Rattle.run_safety.specs.Past.{History, earlier, state_now}
use Rattle.run_safety.specs.Requests.{requests_of}
use Rattle.step_refinement.specs.Tied.{Scene, Tied}
use Rattle.step_refinement.specs.Rules.{Arises}
use Rattle.step_walk.proofs.Stepping.{GivenTo}
use Rattle.entry_laws.proofs.closing_rows.Steps.{entry_had_put}
use Rattle.entry_laws.proofs.source_order.Following.{led_state}
use Rattle.entry_laws.proofs.source_order.Tied.{states_tied, request_carries}
use Rattle.begin_laws.specs.Begins.{AskedIn, expels, ChangeBegins, IsBegun}
use Rattle.begin_laws.proofs.At.{Course, so_far}
use Rattle.begin_laws.proofs.Changes.{Begun, Known}
use Rattle.begin_laws.proofs.Requests.{asked_by}

-- a request for a change was asked for by a call, in as many phases as it has
abbrev pub IsAsked : History → Request → Type 0
IsAsked h q = joins_of q.proposal ≡ [] → AskedIn h q.provider q.request q.group q.proposal q.phases

-- ---- what the leader has tested

-- the requester is a member, and those whom it expels are
pub record Tested (st : GroupState) (p : ProviderId) (out : List ProviderId) : Type 0 where
  pub member : among st.members p ≡ true
  pub living : among st.failed p ≡ false
  pub expelled : (q : ProviderId) → Has q out → among st.members q ≡ true

all_members : (ms out : List ProviderId) → list_any (λ q. not (among ms q)) out ≡ false → (q : ProviderId) → Has q out → among ms q ≡ true
all_members ms [] e q i = absurd i
all_members ms (x ∷ out) e q i = by (among ms x) refl (list_any (λ q. not (among ms q)) out) refl e i (all_members ms out)
  where
    by : (a : Bool) → among ms x ≡ a → (b : Bool) → list_any (λ q. not (among ms q)) out ≡ b → (not a || b) ≡ false → Has q (x ∷ out) → (list_any (λ q. not (among ms q)) out ≡ false → (q : ProviderId) → Has q out → among ms q ≡ true) → among ms q ≡ true
    by false f b g e i rest = absurd (cc)
    by true f true g e i rest = absurd (cc)
    by true f false g e (inl same) rest = ap (among ms) same ∙ f
    by true f false g e (inr j) rest = rest g q j

tested : (st : GroupState) (gone : List ProviderId) (p : ProviderId) (x : Proposal) → is_no_member st gone p x ≡ false → Tested st p (expelled_by x)
unfolding is_no_member
tested st gone p x e = by (among st.members p) refl (among st.failed p) refl (among gone p) (list_any (λ q. not (among st.members q)) (expelled_by x)) refl e
  where
    by : (a : Bool) → among st.members p ≡ a → (b : Bool) → among st.failed p ≡ b → (c d : Bool) → list_any (λ q. not (among st.members q)) (expelled_by x) ≡ d → (not a || b || c || d) ≡ false → Tested st p (expelled_by x)
    by true f false k false false g e = record { member = f; living = k; expelled = λ q i. all_members st.members (expelled_by x) g q i }
    by true f false k false true g e = absurd (cc)
    by true f false k true d g e = absurd (cc)
    by true f true k c d g e = absurd (cc)
    by false f b k c d g e = absurd (cc)

-- a change that is not refused
not_refused : (s : Core) (g : List ℕ) (p : ProviderId) (x : Proposal) → other_refusal s g p x ≡ None → Tested (state_of s g) p (expelled_by x)
unfolding other_refusal
not_refused s g p x e = by (is_no_member (state_of s g) (led_of s g).gone p x) refl (has_other_source (state_of s g).attrs x) e
  where
    by : (a : Bool) → is_no_member (state_of s g) (led_of s g).gone p x ≡ a → (b : Bool) → elim a as (λ _. Option Why) [ true ↦ Some why.NotAMember | false ↦ elim b as (λ _. Option Why) [ true ↦ Some why.BadAttributes | false ↦ collide_refusal s g (state_of s g).running ] ] ≡ None → Tested (state_of s g) p (expelled_by x)
    by true f b e = absurd (cc)
    by false f b e = tested (state_of s g) (led_of s g).gone p x f

expelled_same : (x : Proposal) → expelled_by x ≡ expels x
unfolding expelled_by
expelled_same (Join ps attrs len) = refl
expelled_same (Leave p r) = refl
expelled_same (Fail out) = refl
expelled_same (Expel p r out) = refl
expelled_same (State p r value) = refl
expelled_same (Message p r bytes) = refl
expelled_same (Attributes p r attrs) = refl
expelled_same (Reflect v i value) = refl

-- whoever asks for a change is the one that it names
change_is : (h : History) (st : GroupState) (g : List ℕ) (phases : Phases) (p : ProviderId) (r : ℕ) (x : Proposal) → joins_of x ≡ [] → Has {A = ProviderId × ℕ} (p, r) (requests_of x) → ChangeBegins h st g phases p r x → IsBegun h st g phases x
change_is h st g phases p r x none i k = by x none i k
  where
    named : (y : Proposal) (q : ProviderId) (n : ℕ) → Has {A = ProviderId × ℕ} (p, r) ((q, n) ∷ []) → ChangeBegins h st g phases p r y → ChangeBegins h st g phases q n y
    named y q n (inl e) k = subst (λ (z : ProviderId × ℕ). ChangeBegins h st g phases z.0 z.1 y) e k
    named y q n (inr z) k = absurd z

    no_join : (ps : List ProviderId) → ps ≡ [] → Has {A = ProviderId × ℕ} (p, r) (requests_of (Join ps (st.attrs) None)) → ⊥
    no_join ps e j = let m = has_map (λ (z : ProviderId). (z, z.join)) (p, r) ps j in subst (Has m.0) e m.1

    by : (x : Proposal) → joins_of x ≡ [] → Has {A = ProviderId × ℕ} (p, r) (requests_of x) → ChangeBegins h st g phases p r x → IsBegun h st g phases x
    by (Join ps attrs len) none j k = absurd (no_join ps none j)
    by (Fail out) none j k = absurd j
    by (Reflect v i value) none j k = absurd j
    by (Leave q n) none j k = named (Leave q n) q n j k
    by (Expel q n out) none j k = named (Expel q n out) q n j k
    by (State q n value) none j k = named (State q n value) q n j k
    by (Message q n bytes) none j k = named (Message q n bytes) q n j k
    by (Attributes q n attrs) none j k = named (Attributes q n attrs) q n j k

-- ---- as a step begins

module _ (o : Option Event) (w : Scene) (n : ℕ) (s : Core) (were : (p : Packet) → Has p w.sent → (q : Request) → asked_by p.body ≡ Some q → IsAsked w.before q) (all : (h : List ℕ) → Tied h w n (at_work s)) where
  abbrev pub course : Course
  course = record { what = o; before = w.before; counts = true }

  abbrev c : Core
  c = at_work s

  state_is : (g : List ℕ) → state_of (set_leader c g c.views.me) g ≡ state_now c.views.me c.views.view g (earlier (reverse c.records) w.before)
  unfolding state_of list_of row_of
  state_is g = led_state c g c.views.me (all g).own.0.order ∙ (states_tied g w n c (all g)).state

  changes : (q : Packet) → Has q w.sent → (v : ViewId) (g : List ℕ) (p : ProviderId) (r : ℕ) (phases : Phases) (x : Proposal) → q.body ≡ body.Request v g p r phases x → joins_of x ≡ [] → other_refusal (set_leader c g c.views.me) g p x ≡ None → Begun course (keep_decision (set_leader c g c.views.me) g p r None) g phases x
  unfolding keep_decision set_leader with_led with_row
  changes q sent v g p r phases x is none fair =
      change_is (so_far o (reverse c.records) w.before) now g phases p r x none (request_carries v g p r phases x w n c q is sent (all g)) (record { asked = inr asked; member = t.member; living = t.living; expelled = λ q i. t.expelled q (subst (Has q) (sym (expelled_same x)) i) })
    where
      now : GroupState
      now = state_now c.views.me c.views.view g (earlier (reverse c.records) w.before)

      t : Tested now p (expelled_by x)
      t = subst (λ st. Tested st p (expelled_by x)) (state_is g) (not_refused (set_leader c g c.views.me) g p x fair)

      asked : AskedIn w.before p r g x phases
      asked = were q sent (record { provider = p; request = r; group = g; phases = phases; proposal = x }) (ap asked_by is) none

  known : (q : Packet) → Has q w.sent → Known course c q
  known q sent =
      record {
        entry = λ v g place stable e is used at. entry_had_put v g place stable e w n c q is sent (all g) used at;
        changes = λ v g p r phases x is used none fair. changes q sent v g p r phases x is none fair;
      }

  pub given : (e : NodeEvent) → Arises w e → GivenTo (Known course) c e
  given Ticks arises = tt
  given (Asks mask) arises = tt
  given (Given q) arises = known q arises
  given (Calls d) arises = tt
  given Garbage arises = tt
