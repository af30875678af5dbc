-- What a leader decides, and what begins at the end of a step.
use Rattle.std.proofs.Common.{◌≡◌, ℕ, List, Option, Some, None, true, refl, ◌∙◌, inl}
use Rattle.std.specs.Prelude.{fold}
use Rattle.rsct_packet.specs.declared.ids.ProviderId.{ProviderId}
use Rattle.rsct_packet.specs.Search.{Has}
use Rattle.node_state.proofs.NameOrder.{led_are_led}
use Rattle.group_attr.specs.declared.attrs.Attrs.{Attrs}
use Rattle.group_attr.specs.declared.attrs.Phases.{Phases}
use Rattle.proposal_core.specs.declared.proposal.Proposal.{Proposal}
use Rattle.proposal_core.specs.declared.proposal.Proposal.TheVariants.{Join, Leave, Fail, Expel, State, Message, Attributes, Reflect}
use Rattle.batch_rules.specs.Waiting.{failures_left, joins_left, waits_join}
use Rattle.client_callbacks.specs.declared.told.Why.{Why}
use Rattle.node_state.specs.declared.packet.Body.TheVariants as body
use Rattle.node_state.specs.declared.state.Core.{Core}
use Rattle.node_state.specs.State.{state_of, led_groups, decisions_with}
use Rattle.node_state.specs.HandOn.{Answering}
use Rattle.node_state.specs.Deciding.{keep_decision, refused, is_idle_empty, join_refusal, keep_attrs, wait_join, decide_join, other_refusal, decide_change, decided}
use Rattle.node_state.specs.Ending.{Pass, quiet, group_begins, end_step}
use Rattle.entry_laws.proofs.closing_rows.Begins.{KeepsBegun, at_groups, at_ended}
use Rattle.entry_laws.proofs.closing_rows.Quiet.{at_fold, at_sent}
use Rattle.entry_laws.proofs.late_rows.At.{Turn, found, leads_row, leads_is, At, at_for, keeps_quiet}
use Rattle.entry_laws.proofs.late_rows.Leading.{MayLead, at_led, at_waits, at_begins}

-- each tally is claimed, with all ticks
abbrev pub Every : List ℕ → ℕ → Type 0
Every g less = less ≡ 0

abbrev pub NoGroup : List ℕ → Type 0
NoGroup g = ⊥

module _ (h : Turn) where
  module _ (T : List ℕ → ℕ → Type 0) (G : List ℕ → Type 0) (E : Type 0) where
    -- ---- deciding

    pub at_decision : (s : Core) (g : List ℕ) (p : ProviderId) (r : ℕ) (y : Option Why) → At h T G E s → At h T G E (keep_decision s g p r y)
    unfolding keep_decision
    at_decision s g p r y a = at_led h T G E s g (λ l. record l { decided = decisions_with (record { provider = p; request = r; why = y }) l.decided }) (λ l. (refl, refl)) a

    pub at_refused : (s : Core) (g : List ℕ) (p : ProviderId) (r : ℕ) (y : Why) → At h T G E s → At h T G E (refused s g p r y)
    unfolding refused
    at_refused s g p r y a = at_sent (keeps_quiet h T G E) (keep_decision s g p r (Some y)) p.node (body.Tell s.views.view g p r y) (at_decision s g p r (Some y) a)

    at_decided_join : (s : Core) (g : List ℕ) (p : ProviderId) (r : ℕ) (attrs : Attrs) (o : Option Why) → At h T G E s → At h T G E (decide_join s g p r attrs o)
    unfolding decide_join wait_join
    at_decided_join s g p r attrs None a =
        at_led h T G E (keep_decision s g p r None) g (λ l. record l { waiting = waits_join p l.waiting; join_attrs = keep_attrs l.join_attrs p attrs (is_idle_empty (state_of s g)) }) (λ l. (refl, refl)) (at_decision s g p r None a)
    at_decided_join s g p r attrs (Some y) a = at_refused s g p r y a

    at_decided_other : (f : Answering) (s : Core) (g : List ℕ) (p : ProviderId) (r : ℕ) (phases : Phases) (x : Proposal) (o : Option Why) → MayLead h T G E g → At h T G E s → At h T G E (decide_change f s g p r phases x o)
    unfolding decide_change
    at_decided_other f s g p r phases x None m a = at_begins h T G E f (keep_decision s g p r None) g x phases m (at_decision s g p r None a)
    at_decided_other f s g p r phases x (Some y) m a = at_refused s g p r y a

    pub at_decided : (f : Answering) (s : Core) (g : List ℕ) (p : ProviderId) (r : ℕ) (phases : Phases) (x : Proposal) → MayLead h T G E g → At h T G E s → At h T G E (decided f s g p r phases x)
    unfolding decided
    at_decided f s g p r phases (Join ps attrs n) m a = at_decided_join s g p r attrs (join_refusal s g p attrs) a
    at_decided f s g p r phases (Leave q k) m a = at_decided_other f s g p r phases (Leave q k) (other_refusal s g p (Leave q k)) m a
    at_decided f s g p r phases (Fail out) m a = at_decided_other f s g p r phases (Fail out) (other_refusal s g p (Fail out)) m a
    at_decided f s g p r phases (Expel q k out) m a = at_decided_other f s g p r phases (Expel q k out) (other_refusal s g p (Expel q k out)) m a
    at_decided f s g p r phases (State q k value) m a = at_decided_other f s g p r phases (State q k value) (other_refusal s g p (State q k value)) m a
    at_decided f s g p r phases (Message q k bytes) m a = at_decided_other f s g p r phases (Message q k bytes) (other_refusal s g p (Message q k bytes)) m a
    at_decided f s g p r phases (Attributes q k attrs) m a = at_decided_other f s g p r phases (Attributes q k attrs) (other_refusal s g p (Attributes q k attrs)) m a
    at_decided f s g p r phases (Reflect v i value) m a = at_decided_other f s g p r phases (Reflect v i value) (other_refusal s g p (Reflect v i value)) m a

    -- ---- what begins in a group that the node leads

    at_begun : (g : List ℕ) → MayLead h T G E g → KeepsBegun (At h T G E) g
    at_begun g m =
        record {
          leaves_failures = λ s b a. at_waits h T G E s g (failures_left b) a;
          leaves_joins = λ s b a. at_waits h T G E s g (joins_left b) a;
          refuses = λ s p r y a. at_refused s g p r y a;
          fails = λ f s out phases a. at_begins h T G E f s g (Fail out) phases m a;
          reflects = λ f s k v i from q a. at_begins h T G E f s g (Reflect v i (state_of s k).value) (state_of s g).attrs.source_phases m a;
          joins = λ f s a some k. at_begins h T G E f _ g _ _ m k;
        }

  -- the groups that a node leads
  abbrev pub Leads : Core → List ℕ → Type 0
  Leads s g = leads_row s (found s g) ≡ true

  module _ (T : List ℕ → ℕ → Type 0) (E : Type 0) where
    pub at_leads : (s : Core) → At h T NoGroup E s → At h T (Leads s) E s
    at_leads s a = at_for h T T NoGroup (Leads s) E E s (λ g less t. t) (λ g e. e) (λ e. e) a

    pub at_all : (G : List ℕ → Type 0) (s : Core) → At h T G E s → At h T NoGroup E s
    at_all G s a = at_for h T T G NoGroup E E s (λ g less t. t) (λ g z. absurd z) (λ e. e) a

    pub led_leads : (s : Core) → At h T NoGroup E s → (g : List ℕ) → Has g (led_groups s) → Leads s g
    led_leads s a g i = leads_is s g ∙ led_are_led s g a.order i

    -- what is done in each group that the node leads
    pub at_led_groups : (f : Core → List ℕ → Core) → ((G : List ℕ → Type 0) (s : Core) (g : List ℕ) → G g → At h T G E s → At h T G E (f s g)) → (s : Core) → At h T NoGroup E s → At h T NoGroup E (fold f s (led_groups s))
    at_led_groups f step s a =
        at_all (Leads s) (fold f s (led_groups s)) (at_fold (At h T (Leads s) E) f (led_groups s) (λ c g i k. step (Leads s) c g (led_leads s a g i) k) s (at_leads s a))

  -- where each tally is claimed
  pub every_may : (G : List ℕ → Type 0) (E : Type 0) (g : List ℕ) → G g → MayLead h Every G E g
  every_may G E g led = ((0, refl), λ less u. inl u, led)

  pub at_step_ended : (E : Type 0) (f : Answering) (s : Core) → At h Every NoGroup E s → At h Every NoGroup E (end_step f s)
  at_step_ended E f s a =
      at_ended (At h Every NoGroup E) f (λ most c k. at_all Every E (Leads c) (fold (λ (p : Pass) g. group_begins most f g p) (quiet c) (led_groups c)).core (at_groups (At h Every (Leads c) E) most f (led_groups c) (λ g i. at_begun Every (Leads c) E g (every_may (Leads c) E g (led_leads Every E c k g i))) (quiet c) (at_leads Every E c k))) s a
