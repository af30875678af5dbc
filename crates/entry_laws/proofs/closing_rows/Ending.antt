-- What a leader decides, and what begins at the end of a step.
use Rattle.std.proofs.Common.{◌≡◌, ℕ, List, Option, Some, None, true, refl, ◌∙◌}
use Rattle.std.specs.Prelude.{fold}
use Rattle.rsct_packet.specs.declared.ids.ProviderId.{ProviderId}
use Rattle.rsct_packet.specs.Search.{Has}
use Rattle.node_state.proofs.NameOrder.{led_are_led}
use Rattle.group_attr.specs.declared.attrs.Attrs.{Attrs}
use Rattle.group_attr.specs.declared.attrs.Phases.{Phases}
use Rattle.proposal_core.specs.declared.proposal.Proposal.{Proposal}
use Rattle.proposal_core.specs.declared.proposal.Proposal.TheVariants.{Join, Leave, Fail, Expel, State, Message, Attributes, Reflect}
use Rattle.batch_rules.specs.Waiting.{failures_left, joins_left, waits_join}
use Rattle.client_callbacks.specs.declared.told.Why.{Why}
use Rattle.node_state.specs.declared.packet.Body.TheVariants as body
use Rattle.node_state.specs.declared.state.Core.{Core}
use Rattle.node_state.specs.State.{state_of, led_groups, decisions_with}
use Rattle.node_state.specs.HandOn.{Answering}
use Rattle.node_state.specs.Deciding.{keep_decision, refused, is_idle_empty, join_refusal, keep_attrs, wait_join, decide_join, other_refusal, decide_change, decided}
use Rattle.node_state.specs.Ending.{Pass, quiet, group_begins, end_step}
use Rattle.entry_laws.proofs.closing_rows.Begins.{KeepsBegun, at_groups, at_ended}
use Rattle.entry_laws.proofs.closing_rows.Quiet.{at_fold}
use Rattle.entry_laws.proofs.closing_rows.At.{Frame, found, leads_row, leads_is, At, at_for, at_calm}
use Rattle.entry_laws.proofs.closing_rows.Calms.{calm_sent}
use Rattle.entry_laws.proofs.closing_rows.Leading.{at_led, at_waits, at_begins}

abbrev pub Every : List ℕ → Type 0
Every g = Unit {0}

abbrev pub NoGroup : List ℕ → Type 0
NoGroup g = ⊥

module _ (h : Frame) where
  module _ (T G : List ℕ → Type 0) where
    -- ---- deciding

    pub at_decision : (s : Core) (g : List ℕ) (p : ProviderId) (r : ℕ) (y : Option Why) → At h T G s → At h T G (keep_decision s g p r y)
    unfolding keep_decision
    at_decision s g p r y a = at_led h T G s g (λ l. record l { decided = decisions_with (record { provider = p; request = r; why = y }) l.decided }) (λ l. refl) (λ l. refl) a

    pub at_refused : (s : Core) (g : List ℕ) (p : ProviderId) (r : ℕ) (y : Why) → At h T G s → At h T G (refused s g p r y)
    unfolding refused
    at_refused s g p r y a = at_calm h T G (keep_decision s g p r (Some y)) _ (calm_sent (keep_decision s g p r (Some y)) p.node (body.Tell s.views.view g p r y)) (at_decision s g p r (Some y) a)

    at_decided_join : (s : Core) (g : List ℕ) (p : ProviderId) (r : ℕ) (attrs : Attrs) (o : Option Why) → At h T G s → At h T G (decide_join s g p r attrs o)
    unfolding decide_join wait_join
    at_decided_join s g p r attrs None a =
        at_led h T G (keep_decision s g p r None) g (λ l. record l { waiting = waits_join p l.waiting; join_attrs = keep_attrs l.join_attrs p attrs (is_idle_empty (state_of s g)) }) (λ l. refl) (λ l. refl) (at_decision s g p r None a)
    at_decided_join s g p r attrs (Some y) a = at_refused s g p r y a

    at_decided_other : (f : Answering) (s : Core) (g : List ℕ) (p : ProviderId) (r : ℕ) (phases : Phases) (x : Proposal) (o : Option Why) → T g → G g → At h T G s → At h T G (decide_change f s g p r phases x o)
    unfolding decide_change
    at_decided_other f s g p r phases x None t led a = at_begins h T G f (keep_decision s g p r None) g x phases t led (at_decision s g p r None a)
    at_decided_other f s g p r phases x (Some y) t led a = at_refused s g p r y a

    pub at_decided : (f : Answering) (s : Core) (g : List ℕ) (p : ProviderId) (r : ℕ) (phases : Phases) (x : Proposal) → T g → G g → At h T G s → At h T G (decided f s g p r phases x)
    unfolding decided
    at_decided f s g p r phases (Join ps attrs n) t led a = at_decided_join s g p r attrs (join_refusal s g p attrs) a
    at_decided f s g p r phases (Leave q k) t led a = at_decided_other f s g p r phases (Leave q k) (other_refusal s g p (Leave q k)) t led a
    at_decided f s g p r phases (Fail out) t led a = at_decided_other f s g p r phases (Fail out) (other_refusal s g p (Fail out)) t led a
    at_decided f s g p r phases (Expel q k out) t led a = at_decided_other f s g p r phases (Expel q k out) (other_refusal s g p (Expel q k out)) t led a
    at_decided f s g p r phases (State q k value) t led a = at_decided_other f s g p r phases (State q k value) (other_refusal s g p (State q k value)) t led a
    at_decided f s g p r phases (Message q k bytes) t led a = at_decided_other f s g p r phases (Message q k bytes) (other_refusal s g p (Message q k bytes)) t led a
    at_decided f s g p r phases (Attributes q k attrs) t led a = at_decided_other f s g p r phases (Attributes q k attrs) (other_refusal s g p (Attributes q k attrs)) t led a
    at_decided f s g p r phases (Reflect v i value) t led a = at_decided_other f s g p r phases (Reflect v i value) (other_refusal s g p (Reflect v i value)) t led a

    -- ---- what begins in a group that the node leads

    at_begun : (g : List ℕ) → T g → G g → KeepsBegun (At h T G) g
    at_begun g t led =
        record {
          leaves_failures = λ s b a. at_waits h T G s g (failures_left b) a;
          leaves_joins = λ s b a. at_waits h T G s g (joins_left b) a;
          refuses = λ s p r y a. at_refused s g p r y a;
          fails = λ f s out phases a. at_begins h T G f s g (Fail out) phases t led a;
          reflects = λ f s k v i from q a. at_begins h T G f s g (Reflect v i (state_of s k).value) (state_of s g).attrs.source_phases t led a;
          joins = λ f s a some k. at_begins h T G f _ g _ _ t led k;
        }

  -- the groups that a node leads
  abbrev pub Leads : Core → List ℕ → Type 0
  Leads s g = leads_row s (found s g) ≡ true

  pub at_leads : (s : Core) → At h Every NoGroup s → At h Every (Leads s) s
  at_leads s a = at_for h Every NoGroup Every (Leads s) s (λ g t. t) (λ g e. e) a

  pub at_all : (G : List ℕ → Type 0) (s : Core) → At h Every G s → At h Every NoGroup s
  at_all G s a = at_for h Every G Every NoGroup s (λ g t. t) (λ g z. absurd z) a

  pub led_leads : (s : Core) → At h Every NoGroup s → (g : List ℕ) → Has g (led_groups s) → Leads s g
  led_leads s a g i = leads_is s g ∙ led_are_led s g a.rows.order i

  -- what is done in each group that the node leads
  pub at_led_groups : (f : Core → List ℕ → Core) → ((G : List ℕ → Type 0) (s : Core) (g : List ℕ) → G g → At h Every G s → At h Every G (f s g)) → (s : Core) → At h Every NoGroup s → At h Every NoGroup (fold f s (led_groups s))
  at_led_groups f step s a =
      at_all (Leads s) (fold f s (led_groups s)) (at_fold (At h Every (Leads s)) f (led_groups s) (λ c g i k. step (Leads s) c g (led_leads s a g i) k) s (at_leads s a))

  pub at_step_ended : (f : Answering) (s : Core) → At h Every NoGroup s → At h Every NoGroup (end_step f s)
  at_step_ended f s a =
      at_ended (At h Every NoGroup) f (λ most c k. at_all (Leads c) (fold (λ (p : Pass) g. group_begins most f g p) (quiet c) (led_groups c)).core (at_groups (At h Every (Leads c)) most f (led_groups c) (λ g i. at_begun Every (Leads c) g tt (led_leads c k g i)) (quiet c) (at_leads c k))) s a
