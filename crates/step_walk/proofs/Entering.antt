-- What follows as a view is entered, and packets but those of views, keep what is kept by each change.
use Rattle.std.proofs.Common.{◌≡◌, List, []}
use Rattle.std.specs.Prelude.{fold}
use Rattle.view_state.specs.declared.install.Base.{Base}
use Rattle.view_state.specs.declared.packet.ViewPacket.{ViewPacket}
use Rattle.view_state.specs.declared.packet.ViewSend.{ViewSend}
use Rattle.node_state.specs.declared.packet.Body.{Body}
use Rattle.node_state.specs.declared.packet.Body.TheVariants as body
use Rattle.node_state.specs.declared.packet.Packet.{Packet}
use Rattle.node_state.specs.declared.state.Core.{Core}
use Rattle.node_state.specs.Sending.{sent, network_to}
use Rattle.node_state.specs.HandOn.{Answering}
use Rattle.node_state.specs.Applying.{Lacking, fill_lists, entering_noted, taken_sent, owed_sent, lead_groups}
use Rattle.node_state.specs.Step.{view_rule, take_body}
use Rattle.step_walk.proofs.Changes.{Any, KeepsRules, KeepsRings}
use Rattle.step_walk.proofs.Leading.{Anything, Nothing, beside_of}
use Rattle.step_walk.proofs.Asides.{at_fold}
use Rattle.step_walk.proofs.Rules.{packets_of}
use Rattle.step_walk.proofs.Stepping.{KeepsRinging, at_filled, at_rest, at_body}

module _ (P : Core → Type 0) (Given : Packet → Type 0) (rules : KeepsRules P Given) where
  pub on_filled : (f : Answering) {s : Core} (xs : List Lacking) → P s → P (fill_lists f s xs)
  on_filled f xs p = at_filled P (beside_of P Any rules.keeps) xs (λ s x e bs i j q. rules.keeps.hands s x.name e [] 0 bs tt q) f p

  pub on_views_sent : {s : Core} (xs : List ViewSend) → P s → P (fold (λ t (x : ViewSend). sent t x.to (body.View x.packet)) s xs)
  unfolding sent
  on_views_sent xs p = at_fold P (λ t (x : ViewSend). sent t x.to (body.View x.packet)) (λ t x q. rules.keeps.sends t (network_to t x.to) x.to (body.View x.packet) tt q) xs p

  pub on_rest : (f : Answering) {e : Core} (bs : List Base) → P e → P (lead_groups f (owed_sent (taken_sent (entering_noted e bs))))
  on_rest f bs p = at_rest P (λ g. P) Anything Nothing (λ s. Given) (packets_of P Given rules) f bs p

  module _ (rings : KeepsRings P Given) where
    pub ringing_of : KeepsRinging P (λ s. Given)
    ringing_of = record { ticks = rings.ticks; takes = rings.takes }

    pub on_body : (f : Answering) {s : Core} (q : Packet) (b : Body) → Given q → q.to ≡ s.views.me → q.body ≡ b → ((y : ViewPacket) → b ≡ body.View y → P (view_rule f s q.from q.inc y)) → P s → P (take_body f s q b)
    on_body f {s} q b given to is view p = at_body P (λ g. P) Anything Nothing (λ s. Given) (packets_of P Given rules) ringing_of f s q b given to is view p
