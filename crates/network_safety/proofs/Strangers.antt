-- What cannot change a node changes nothing, since it rests between acts.
use Rattle.std.proofs.Common.{◌≡◌, [], Bool, true, false, Option, Some, None, refl, ap, ◌∙◌, inl, inr}
use Rattle.std.specs.Prelude.{◌==◌, ◌&&◌, ◌||◌, ◌⊎◌, fold, not}
use Rattle.rsct_packet.specs.Ids.{same_view, is_member}
use Rattle.node_state.specs.declared.packet.Body.{Body}
use Rattle.node_state.specs.declared.packet.Body.TheVariants as body
use Rattle.node_state.specs.declared.packet.Packet.{Packet}
use Rattle.node_state.specs.declared.state.Core.{Core}
use Rattle.node_state.specs.State.{frozen}
use Rattle.node_state.specs.HandOn.{Answering}
use Rattle.node_state.specs.Bytes.{packet_of, event_in, event_of}
use Rattle.node_state.specs.Following.{take_lookup, take_name, take_request, take_tell, take_entry, take_ack, take_vote, take_gone}
use Rattle.node_state.specs.Ending.{end_step}
use Rattle.node_state.specs.Step.{Given, at_work, is_used, used_if, take_body, packet_rule, stepped}
use Rattle.world_model.specs.World.{empty_world}
use Rattle.provider_laws.proofs.resting.Law.{Resting}
use Rattle.provider_laws.proofs.resting.Walking.{stepped_is}
use Rattle.network_model.specs.Network.{no_net, acted, net_after}
use Rattle.network_safety.specs.Strangers.{group_view, IsUnusedIf, IsNothingAt, StrangersChangeNothing, OtherDomainsAreUnused}
use Rattle.network_safety.proofs.Quiet.{nothing, rests_quiet, garbage_quiet}
use Rattle.network_safety.proofs.Stepping.{own_up}
use Rattle.network_safety.proofs.Law.{nothing_stands, AllGo, all_go}

-- ---- a packet

not_used : (s t : Core) (b : Bool) → b ≡ false → used_if s t b ≡ s
unfolding used_if
not_used s t true e = absurd (cc)
not_used s t false e = refl

unused : (f : Answering) (s : Core) (p : Packet) (b : Body) → IsUnusedIf s p (group_view b) → take_body f (at_work s) p b ≡ at_work s
unfolding take_body is_used frozen
unused f s p (body.Lookup v g) e = not_used (at_work s) (take_lookup (at_work s) p.from g) (is_used s p v) e
unused f s p (body.Name v g leader) e = not_used (at_work s) (take_name (at_work s) g leader) (is_used s p v) e
unused f s p (body.Request v g q r phases x) e = not_used (at_work s) (take_request f (at_work s) p.from g q r phases x) (is_used s p v) e
unused f s p (body.Tell v g q r why) e = not_used (at_work s) (take_tell (at_work s) q r why) (is_used s p v) e
unused f s p (body.Entry v g place stable x) e = not_used (at_work s) (take_entry f (at_work s) p.from g place stable x) (is_used s p v) e
unused f s p (body.Ack v g place) e = not_used (at_work s) (take_ack (at_work s) p.from g place) (is_used s p v) e
unused f s p (body.Vote v g proto phase q vote value message) e = not_used (at_work s) (take_vote f (at_work s) g proto phase q vote value message) (is_used s p v) e
unused f s p (body.Gone v g q) e = not_used (at_work s) (take_gone f (at_work s) g q) (is_used s p v) e
unused f s p _ e = absurd e

dropped : (f : Answering) (s : Core) (p : Packet) → (p.to == s.views.me ≡ false) ⊎ IsUnusedIf s p (group_view p.body) → packet_rule f (at_work s) p ≡ at_work s
unfolding packet_rule
dropped f s p (inl e) = ap (λ b. elim b as (λ _. Core) [ true ↦ take_body f (at_work s) p p.body | false ↦ at_work s ]) e
dropped f s p (inr u) = by (p.to == s.views.me)
  where
    by : (b : Bool) → elim b as (λ _. Core) [ true ↦ take_body f (at_work s) p p.body | false ↦ at_work s ] ≡ at_work s
    by true = unused f s p p.body u
    by false = refl

-- ---- a message

message_in : (f : Answering) (s : Core) (o : Option Packet) → Resting s → IsNothingAt s o → stepped f s (event_in o) ≡ at_work s
message_in f s None k h = garbage_quiet f s k
message_in f s (Some p) k h = stepped_is f s (Given p) ∙ ap (end_step f) (dropped f s p h) ∙ rests_quiet f s (at_work s) k (nothing s)

pub strangers_change_nothing : StrangersChangeNothing
unfolding net_after event_of
strangers_change_nothing c acts run n d at f message h =
    let g : AllGo c no_net [] acts = all_go c run.mode acts no_net [] (empty_world c) (nothing_stands c run.mode) run.may in
    message_in f d.core (packet_of message) (own_up (fold (acted c) no_net acts) g.world g.stand.wires n d at).rests h

-- ---- another domain

third_fails : (a b c d e : Bool) → c ≡ false → (a && b && c && d && e) ≡ false
third_fails a b c d e h = ap (λ z. a && b && z && d && e) h ∙ by a b
  where
    by : (a b : Bool) → (a && b && false && d && e) ≡ false
    by true true = refl
    by true false = refl
    by false b = refl

pub other_domains_are_unused : OtherDomainsAreUnused
unfolding is_used
other_domains_are_unused s p v level domain =
    let low : (p.level == 1) ≡ false = ap (λ n. n == 1) level in
    third_fails (same_view v s.views.view) (p.level == s.sessions.level) (p.level == 1 || p.domain == s.config.domain) (not (frozen s)) (is_member s.views.members p.from p.inc) (ap (λ b. b || p.domain == s.config.domain) low ∙ domain)
