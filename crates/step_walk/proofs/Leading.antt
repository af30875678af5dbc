-- What is kept by each change keeps sending, delivering, appending and closing: a part of the walk with more evidence.
use Rattle.std.proofs.Common.{ℕ, List, Option, length, refl, inr}
use Rattle.group_attr.specs.declared.attrs.Phases.{Phases}
use Rattle.proposal_core.specs.declared.proposal.Proposal.{Proposal}
use Rattle.proposal_core.specs.declared.entry.Entry.{Entry}
use Rattle.proposal_core.specs.declared.group_state.GroupState.{GroupState}
use Rattle.session_state.specs.HandOn.{hearers}
use Rattle.node_state.specs.declared.packet.Body.{Body}
use Rattle.node_state.specs.declared.packet.Body.TheVariants as body
use Rattle.node_state.specs.declared.state.Core.{Core}
use Rattle.node_state.specs.Sending.{sent, send_all, network_to}
use Rattle.node_state.specs.HandOn.{Answering, fills, hand_on}
use Rattle.node_state.specs.Leading.{forget_least, new_members_wait, tally_set, tally_opened, closes}
use Rattle.node_state.specs.State.{with_led}
use Rattle.step_walk.proofs.Changes.{Any, Spoken, handing, Keeps}
use Rattle.step_walk.proofs.Evidence.{Saying, KeepsBeside, KeepsLed, KeepsEnding, Keeping}
use Rattle.step_walk.proofs.Asides.{at_fold, at_rest_handed, at_forgets_least, at_new_members}
use Rattle.step_walk.proofs.Appending.{at_closes}

pub spoken : (s : Core) (b : Body) → Saying s b → Spoken s b
spoken s (body.Ring x) saying = saying
spoken s (body.Request v g p r phases x) saying = saying
spoken s (body.Tell v g q r y) saying = saying
spoken s _ saying = tt

-- whatever begins
abbrev pub Anything : Core → List ℕ → Phases → Proposal → Type 0
Anything s g phases x = Unit {0}

pub anything_ends : (P : Core → Type 0) → KeepsEnding P Anything
anything_ends P =
    record { fails = λ s g p. tt; casts_out = λ s g h out from due p. tt; reflects = λ s g h v i from due p. tt; joins = λ s g p q. tt }

module _ (P : Core → Type 0) (Ok : List ℕ → Type 0) (k : Keeps P Ok) where
  pub beside_of : KeepsBeside P Ok
  beside_of = record { row = λ s g f ok beside p. k.row s g f ok beside.mild p; sends = λ s network to b saying p. k.sends s network to b (spoken s b saying) p; notes = k.notes }

  pub led_of : KeepsLed P (λ g. P) Anything (λ s. Ok)
  unfolding tally_set tally_opened with_led
  led_of =
      record {
        decides = k.decides;
        puts = λ s g e ns stable bs ok fits plain p. k.hands s g e ns stable bs ok p;
        turns = λ s g e ns stable bs ok fits turning p. k.hands s g e ns stable bs ok p;
        rests = λ s g ok p. k.row s g _ ok (record { name = λ x. refl; leader = λ x. refl; len = λ x. refl; state = λ x. refl; decided = λ x. refl; few = λ x w. w }) p;
        opens = λ s g ok p. k.row s g _ ok (record { name = λ x. refl; leader = λ x. refl; len = λ x. refl; state = λ x. refl; decided = λ x. refl; few = λ x w. w }) p;
      }

  pub on_sent_all : {s : Core} (ns : List ℕ) (b : Body) → ((t : Core) → Spoken t b) → P s → P (send_all s ns b)
  unfolding send_all sent
  on_sent_all ns b spoken p = at_fold P (λ t n. sent t n b) (λ t n q. k.sends t (network_to t n) n b (spoken t) q) ns p

  pub on_rest_handed : (f : Answering) (c : Core) (to : Option ℕ) (g : List ℕ) (i : ℕ) (before after : GroupState) (e : Entry) → P (handing c g i before after e (fills f (length c.records) c.sessions e after (hearers c.sessions g before e))) → P (hand_on f c to g i before after e)
  on_rest_handed f c to g i before after e p = at_rest_handed P Ok beside_of f c to g i before after e p

  pub on_forgets_least : {s : Core} (g : List ℕ) (ok : Ok g) → P s → P (forget_least s g)
  on_forgets_least g ok p = at_forgets_least P Ok beside_of g ok p

  pub on_new_members : {s : Core} (g : List ℕ) (ok : Ok g) (before after : GroupState) → P s → P (new_members_wait s g before after)
  on_new_members g ok before after p = at_new_members P Ok beside_of g ok before after p

  pub on_opened : {s : Core} (g : List ℕ) (ok : Ok g) → P s → P (tally_opened s g)
  on_opened {s} g ok p = led_of.opens s g ok p

  pub on_closes : (f : Answering) {s : Core} (g : List ℕ) (ok : Ok g) → P s → P (closes f s g)
  on_closes f g ok p = at_closes P (λ g. P) Anything Ok beside_of (λ g. beside_of) led_of f g ok p

-- nothing is asked of who leads
abbrev pub Nothing : Type 0
Nothing = Unit {0}

pub keeping_of : (P : Core → Type 0) → Keeps P Any → Keeping P (λ g. P) Anything Nothing
keeping_of P k =
    let l = led_of P Any k in
    record {
      order = λ s p. inr tt;
      order_between = λ g s p. inr tt;
      beside = beside_of P Any k;
      between = λ g. beside_of P Any k;
      led = record { decides = λ s g q r y ok fair p. l.decides s g q r y tt fair p; puts = λ s g e ns stable bs ok fits plain p. l.puts s g e ns stable bs tt fits plain p; turns = λ s g e ns stable bs ok fits turning p. l.turns s g e ns stable bs tt fits turning p; rests = λ s g ok p. l.rests s g tt p; opens = λ s g ok p. l.opens s g tt p };
    }
