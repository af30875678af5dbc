-- A node rests between events: so a question, and its answer, change nothing at it.
use Rattle.std.proofs.Common.{◌≡◌, ℕ, List, [], ◌∷◌, Bool, true, false, refl, sym, ap, ◌∙◌, subst, inl, inr}
use Rattle.std.specs.Prelude.{◌==◌, ◌⊎◌}
use Rattle.rsct_packet.specs.Search.{Has}
use Rattle.node_state.specs.declared.config.Config.{Config}
use Rattle.node_state.specs.declared.packet.Body.{Body}
use Rattle.node_state.specs.declared.packet.Body.TheVariants as body
use Rattle.node_state.specs.declared.packet.Packet.{Packet}
use Rattle.node_state.specs.declared.state.Core.{Core}
use Rattle.node_state.specs.Sending.{packet_on, send_on}
use Rattle.node_state.specs.Status.{status_text}
use Rattle.node_state.specs.HandOn.{Answering}
use Rattle.node_state.specs.Ending.{end_step}
use Rattle.node_state.specs.Step.{NodeEvent, Given, Garbage, at_work, started, stepped, take_body, packet_rule}
use Rattle.provider_laws.proofs.resting.Walking.{stepped_is}
use Rattle.provider_laws.proofs.resting.Ending.{ended_same}
use Rattle.provider_laws.proofs.resting.Law.{Resting, resting_same, started_rests, stepped_rests}

-- ---- a node rests when it starts, and after each step

pub start_rests : (c : Config) (n j : ℕ) → Resting (at_work (started c n j))
start_rests c n j = resting_same (started c n j) (at_work (started c n j)) refl refl refl (started_rests c n j)

pub step_rests : (f : Answering) (s : Core) (e : NodeEvent) → Resting s → Resting (at_work (stepped f s e))
step_rests f s e k = resting_same (stepped f s e) (at_work (stepped f s e)) refl refl refl (stepped_rests f s e k.orderly)

-- ---- questions and answers

abbrev pub IsTalk : Body → Type 0
IsTalk (body.Query question what) = Unit {0}
IsTalk (body.Reply question text) = Unit {0}
IsTalk _ = ⊥

pub talk_or : (b : Body) → IsTalk b ⊎ (IsTalk b → ⊥)
talk_or (body.Query question what) = inl tt
talk_or (body.Reply question text) = inl tt
talk_or _ = inr (λ h. h)

-- a step that changes nothing, and may send an answer
pub record IsQuiet (s t : Core) : Type 0 where
  pub sends : List Packet
  pub answers : (p : Packet) → Has p sends → IsTalk p.body
  pub is : t ≡ record s { sends = sends; records = [] }

pub rests_quiet : (f : Answering) (s u : Core) → Resting s → IsQuiet s u → end_step f u ≡ u
rests_quiet f s u k q = ended_same f u (resting_same s u (ap (λ (z : Core). z.groups) q.is) (ap (λ (z : Core). z.views) q.is) (ap (λ (z : Core). z.config) q.is) k).rests

pub nothing : (s : Core) → IsQuiet s (at_work s)
nothing s = record { sends = []; answers = λ p h. absurd h; is = refl }

pub garbage_quiet : (f : Answering) (s : Core) → Resting s → stepped f s Garbage ≡ at_work s
garbage_quiet f s k = stepped_is f s Garbage ∙ rests_quiet f s (at_work s) k (nothing s)

row_quiet : (f : Answering) (s : Core) (p : Packet) (b : Body) → IsTalk b → IsQuiet s (take_body f (at_work s) p b)
unfolding take_body send_on packet_on
row_quiet f s p (body.Query question what) talk =
    record { sends = packet_on (at_work s) p.network p.from (body.Reply question (status_text (at_work s) what)) ∷ []; answers = answers; is = refl }
  where
    answers : (q : Packet) → Has q (packet_on (at_work s) p.network p.from (body.Reply question (status_text (at_work s) what)) ∷ []) → IsTalk q.body
    answers q (inl e) = subst (λ (z : Packet). IsTalk z.body) (sym e) tt
    answers q (inr h) = absurd h
row_quiet f s p (body.Reply question text) talk = nothing s
row_quiet f s p _ talk = absurd talk

other_quiet : (f : Answering) (s : Core) (p : Packet) (b : Bool) → (b ≡ true → IsTalk p.body) → IsQuiet s (elim b [ true ↦ take_body f (at_work s) p p.body | false ↦ at_work s ])
other_quiet f s p true talk = row_quiet f s p p.body (talk refl)
other_quiet f s p false talk = nothing s

-- a packet that talks, or is for another node
pub given_quiet : (f : Answering) (s : Core) (p : Packet) → Resting s → ((p.to == s.views.me) ≡ true → IsTalk p.body) → IsQuiet s (stepped f s (Given p))
unfolding packet_rule
given_quiet f s p k talk =
    let q : IsQuiet s (packet_rule f (at_work s) p) = other_quiet f s p (p.to == s.views.me) talk in
    subst (IsQuiet s) (sym (stepped_is f s (Given p) ∙ rests_quiet f s (packet_rule f (at_work s) p) k q)) q
