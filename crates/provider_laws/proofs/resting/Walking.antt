-- In a whole step, up to its end, groups stay in the order of their names, and few joins and failures wait.
use Rattle.std.proofs.Common.{Some, refl}
use Rattle.view_state.specs.Bases.{bases_of}
use Rattle.session_state.specs.HandOn.{take_telling, handed_on}
use Rattle.session_state.specs.State.{outstanding}
use Rattle.node_state.specs.declared.happened.Happened.TheVariants as happened
use Rattle.node_state.specs.declared.packet.Body.TheVariants as body
use Rattle.node_state.specs.declared.state.Core.{Core}
use Rattle.node_state.specs.State.{with_row, set_leader, state_of, recorded, recorded_all, with_sessions}
use Rattle.node_state.specs.Sending.{send_on}
use Rattle.node_state.specs.HandOn.{Answering}
use Rattle.node_state.specs.Leading.{put}
use Rattle.node_state.specs.Deciding.{keep_decision, is_idle_empty}
use Rattle.node_state.specs.Applying.{level_set, number_of, view_entered, dissolved}
use Rattle.node_state.specs.Step.{NodeEvent}
use Rattle.step_walk.proofs.Changes.{Any, Whatever, viewing, KeepsCalls, KeepsParts, KeepsRing, KeepsRings, KeepsRules, KeepsViews}
use Rattle.step_walk.proofs.Parts.{on_hands}
use Rattle.step_walk.proofs.Ringing.{by_ring}
pub use Rattle.step_walk.proofs.Walking.{before_end, stepped_is}
use Rattle.step_walk.proofs.Walking.{whatever, on_called}
use Rattle.step_walk.proofs.Walking as walking
use Rattle.provider_laws.proofs.resting.Orderly.{Orderly, alike, on_row, on_led, based, on_joining, room_for}

parts : KeepsParts Orderly Any
unfolding send_on put recorded with_sessions
parts =
    record {
      sends = λ s network to b spoken k. alike s (send_on s network to b) refl k;
      puts = λ s g e ok k. alike (with_row s g _) (put s g e) refl (on_row g _ (λ x. refl, λ x w. w) k);
      hears = λ s g before after e bs x i h k. alike s (recorded s (happened.Heard x.provider s.views.view g i e after.members after.value)) refl k;
      casts = λ s p proto phase vote value message k. alike s (recorded s (happened.Cast p proto phase vote value message)) refl k;
      handed = λ s g before after e bs k. alike s (with_sessions s (handed_on s.sessions g before after e bs)) refl k;
    }

rules : KeepsRules Orderly Whatever
unfolding keep_decision set_leader recorded with_sessions
rules =
    record {
      keeps = record {
        row = λ s g f ok mild k. on_row g f (mild.name, mild.few) k;
        decides = λ s g q r y ok fair k. on_led g _ (λ l w. w) k;
        sends = parts.sends;
        notes = λ s n client v place t k. alike s (recorded s (happened.Noted n client v place t)) refl k;
        hands = on_hands Orderly Any parts;
      };
      names = λ s ns k. alike s (record s { names = ns }) refl k;
      reach = λ s x k. alike s (record s { reach = x }) refl k;
      leads = λ s g n k. on_row g (λ row. record row { leader = Some n }) (λ x. refl, λ x w. w) k;
      joins = λ s g q r a e k. on_joining g q r a (is_idle_empty (state_of s g)) (room_for s g q a e) k;
      tells = λ s q r y telling e k. alike s (recorded (with_sessions s (take_telling s.sessions q r y)) (happened.Told q r y)) refl k;
    }

ring : KeepsRing Orderly
unfolding send_on recorded
ring =
    record {
      rings = λ s rs k. alike s (record s { rings = rs }) refl k;
      sends = λ s network to x k. alike s (send_on s network to (body.Ring x)) refl k;
      records = λ s n network id ms b k. alike s (recorded s (happened.Ring n network id ms b)) refl k;
    }

views : KeepsViews Orderly
unfolding view_entered level_set recorded recorded_all with_sessions dissolved
views =
    record {
      views = λ s v k. alike s (record s { views = (viewing s v).views }) refl k;
      enters = λ s i k. based i (view_entered s i (bases_of i)) refl;
      dissolves = λ s q x e k. alike s (dissolved s x.provider (number_of (outstanding s.sessions x.provider))) refl k;
    }

calls : KeepsCalls Orderly
unfolding recorded with_sessions
calls =
    record {
      sessions = λ s t k. alike s (with_sessions s t) refl k;
      refuses = λ s n client fault k. alike s (recorded s (happened.Refused n client fault)) refl k;
      asks = λ s p r g x k. alike s (recorded s (happened.Asked p r g x)) refl k;
      casts = parts.casts;
    }

pub on_before_end : (f : Answering) {s : Core} (e : NodeEvent) → Orderly s → Orderly (before_end f s e)
on_before_end f {s} e p =
    let rings : KeepsRings Orderly Whatever = by_ring Orderly Whatever rules ring in
    walking.on_before_end Orderly Whatever rules rings views f s e (whatever e) (on_called Orderly Whatever rules rings views calls e p)
