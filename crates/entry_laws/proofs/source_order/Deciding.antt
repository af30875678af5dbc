-- What a leader decides.
use Rattle.std.proofs.Common.{◌≡◌, ℕ, List, [], Option, Some, None, refl, inl}
use Rattle.rsct_packet.specs.declared.ids.ProviderId.{ProviderId}
use Rattle.rsct_packet.specs.Search.{Has}
use Rattle.group_attr.specs.declared.attrs.Attrs.{Attrs}
use Rattle.group_attr.specs.declared.attrs.Phases.{Phases}
use Rattle.proposal_core.specs.declared.proposal.Proposal.{Proposal}
use Rattle.proposal_core.specs.declared.proposal.Proposal.TheVariants.{Join, Leave, Fail, Expel, State, Message, Attributes, Reflect}
use Rattle.batch_rules.specs.Waiting.{waits_join}
use Rattle.client_callbacks.specs.declared.told.Why.{Why}
use Rattle.node_state.specs.declared.packet.Body.TheVariants as body
use Rattle.node_state.specs.declared.state.Core.{Core}
use Rattle.node_state.specs.State.{with_led, state_of, decisions_with}
use Rattle.node_state.specs.HandOn.{Answering}
use Rattle.node_state.specs.Deciding.{keep_decision, refused, is_idle_empty, join_refusal, keep_attrs, wait_join, decide_join, other_refusal, decide_change, decided}
use Rattle.run_safety.specs.Requests.{requests_of}
use Rattle.entry_laws.proofs.closing_rows.Calms.{calm_sent}
use Rattle.entry_laws.specs.source_order.Meant.{Decided}
use Rattle.entry_laws.proofs.source_order.Holding.{Turn, so_far, Going, going_row, holds_joining}
use Rattle.entry_laws.proofs.source_order.At.{Plain, plain_well, At, at_calm, at_row_for}
use Rattle.entry_laws.proofs.source_order.Leading.{at_led, at_begins}

module _ (h : Turn) (P : Type 0) where
  abbrev Full : Core → Type 0
  Full s = At h P s

  pub at_decision : (s : Core) (g : List ℕ) (p : ProviderId) (r : ℕ) (y : Option Why) → Full s → Full (keep_decision s g p r y)
  unfolding keep_decision
  at_decision s g p r y a = at_led h P s g (λ l. record l { decided = decisions_with (record { provider = p; request = r; why = y }) l.decided }) (λ l. record { joins = λ q e. e; attrs = refl }) a

  pub at_refused : (s : Core) (g : List ℕ) (p : ProviderId) (r : ℕ) (y : Why) → Full s → Full (refused s g p r y)
  unfolding refused
  at_refused s g p r y a = at_calm h P (keep_decision s g p r (Some y)) _ (calm_sent (keep_decision s g p r (Some y)) p.node (body.Tell s.views.view g p r y)) (at_decision s g p r (Some y) a)

  -- a join waits that was decided
  at_decided_join : (s : Core) (g : List ℕ) (p : ProviderId) (r : ℕ) (attrs : Attrs) (o : Option Why) → Going h s → Decided (so_far h []) h.node h.view g p (is_idle_empty (state_of s g)) attrs → Full s → Full (decide_join s g p r attrs o)
  unfolding decide_join wait_join keep_decision with_led
  at_decided_join s g p r attrs None going decided a =
      let c : Core = keep_decision s g p r None in
      let k : Going h c = going_row h s g (λ row. record row { led = record (row.led) { decided = decisions_with (record { provider = p; request = r; why = None }) row.led.decided } }) (λ x. refl) (λ x. record { joins = λ q e. e; attrs = refl }) going in
      at_row_for h P c g (λ row. record row { led = record (row.led) { waiting = waits_join p row.led.waiting; join_attrs = keep_attrs row.led.join_attrs p attrs (is_idle_empty (state_of s g)) } }) (λ x. refl) (λ x. refl) (λ x. refl) (inl (holds_joining h c g p attrs (is_idle_empty (state_of s g)) decided k)) (at_decision s g p r None a)
  at_decided_join s g p r attrs (Some y) going decided a = at_refused s g p r y a

  at_decided_other : (f : Answering) (s : Core) (g : List ℕ) (p : ProviderId) (r : ℕ) (phases : Phases) (x : Proposal) (o : Option Why) → Plain x → Full s → Full (decide_change f s g p r phases x o)
  unfolding decide_change
  at_decided_other f s g p r phases x None plain a =
      let c : Core = keep_decision s g p r None in at_begins h P f c g x phases (plain_well _ _ _ g _ x plain) (at_decision s g p r None a)
  at_decided_other f s g p r phases x (Some y) plain a = at_refused s g p r y a

  -- nobody asks for a reflection
  pub at_decided : (f : Answering) (s : Core) (g : List ℕ) (p : ProviderId) (r : ℕ) (phases : Phases) (x : Proposal) → Has (p, r) (requests_of x) → Going h s → ((ps : List ProviderId) (attrs : Attrs) (n : Option ℕ) → x ≡ Join ps attrs n → Decided (so_far h []) h.node h.view g p (is_idle_empty (state_of s g)) attrs) → Full s → Full (decided f s g p r phases x)
  unfolding decided
  at_decided f s g p r phases (Join ps attrs n) asked going taken a = at_decided_join s g p r attrs (join_refusal s g p attrs) going (taken ps attrs n refl) a
  at_decided f s g p r phases (Leave q k) asked going taken a = at_decided_other f s g p r phases (Leave q k) (other_refusal s g p (Leave q k)) tt a
  at_decided f s g p r phases (Fail out) asked going taken a = absurd asked
  at_decided f s g p r phases (Expel q k out) asked going taken a = at_decided_other f s g p r phases (Expel q k out) (other_refusal s g p (Expel q k out)) tt a
  at_decided f s g p r phases (State q k value) asked going taken a = at_decided_other f s g p r phases (State q k value) (other_refusal s g p (State q k value)) tt a
  at_decided f s g p r phases (Message q k bytes) asked going taken a = at_decided_other f s g p r phases (Message q k bytes) (other_refusal s g p (Message q k bytes)) tt a
  at_decided f s g p r phases (Attributes q k attrs) asked going taken a = at_decided_other f s g p r phases (Attributes q k attrs) (other_refusal s g p (Attributes q k attrs)) tt a
  at_decided f s g p r phases (Reflect v i value) asked going taken a = absurd asked
