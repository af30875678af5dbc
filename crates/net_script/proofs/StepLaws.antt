-- Steps of nodes, whatever their clients answer.
use Rattle.std.proofs.Common.{◌≡◌, List, [], ◌∷◌, map, Option, Some, IsTrue, refl, sym, ap, ◌∙◌, subst}
use Rattle.session_state.specs.declared.state.Session.{Session}
use Rattle.session_clients.specs.Notices.{FillTheirScripts}
use Rattle.node_state.specs.declared.state.Core.{Core}
use Rattle.node_state.specs.HandOn.{Answering}
use Rattle.node_state.specs.Step.{NodeEvent, at_work, event_rule, stepped}
use Rattle.entry_delivery.specs.Received.{Handing}
use Rattle.entry_delivery.specs.Doing.{Does}
use Rattle.group_leading.proofs.AnswerLaws.{does_some}
use Rattle.node_core.specs.Event.{called}
use Rattle.node_core.specs.Node.{NodeView}
use Rattle.world_model.specs.World.{Script, by_scripts}
use Rattle.world_model.specs.World as world
use Rattle.net_script.specs.declared.steps.Left.{Left}
use Rattle.world_laws.specs.world_answers.Answers.{Items, AllWorded}
use Rattle.net_script.specs.Standing.{votes_by, votes_in, NodeStands, Leaves, StepDone, StepsAs}
use Rattle.net_script.proofs.CalledLaws.{is_within, called_lives}
use Rattle.net_script.proofs.VoteLaws.{scripts_agree}

from_work : (f : Answering) (s t : Core) (e : NodeEvent) → at_work s ≡ at_work t → stepped f s e ≡ stepped f t e
unfolding stepped
from_work f s t e h = ap (λ u. event_rule f u e) h

-- a row that is done by clients that vote by these scripts is what the definition gives
does_by_scripts : FillTheirScripts → (scripts : List Script) (P : List Handing → Type 0) (s t : Core) (row : Answering → Core) → Does (votes_in Some scripts s.sessions.sessions) P s t row → t ≡ row (by_scripts scripts)
does_by_scripts fill scripts P s t row d = d.does (by_scripts scripts) (scripts_agree fill scripts s.sessions.sessions d.asked d.filled)

worded_votes : (said : Items → Option Items) → AllWorded said → (scripts : List Script) (xs : List Session) → votes_in said scripts xs ≡ votes_in Some scripts xs
worded_votes said all scripts [] = refl
worded_votes said all scripts (x ∷ xs) = ap (λ v. v ∷ votes_in said scripts xs) (all _) ∙ ap (λ vs. votes_by Some scripts x ∷ vs) (worded_votes said all scripts xs)

module _ {C : Type 0} {script : C → Option Items} {said : Items → Option Items} where
  -- the sessions of a node are those of the one that it stands for
  pub same_lives : (n : NodeView C) (x : world.Node) → NodeStands script said n x → n.core.sessions.sessions ≡ x.core.sessions.sessions
  same_lives n x h = ap (λ (s : Core). s.sessions.sessions) h.core

  -- a step that clients did who vote by these scripts, where they vote by items, and whose sessions are those of a
  pub row_done : FillTheirScripts → (n m o : NodeView C) (l : Left) (x : world.Node) (scripts : List Script) (P : List Handing → Type 0) (a : Core) (e : NodeEvent) (f : Answering) → NodeStands script said n x
      → map script m.clients ≡ votes_in said scripts a.sessions.sessions → Does (map script m.clients) P a m.core (λ f. stepped f n.core e) → m.core ≡ stepped f n.core e → Leaves m o l n.core.views.me
      → StepDone script said f o l x scripts e
  row_done fill n m o l x scripts P a e f h votes d done left =
      let is : m.core ≡ stepped f x.core e = done ∙ from_work f n.core x.core e h.core in
      rw left.node (record {
        left = record {
          stands = record {
            core = ap at_work is;
            votes = votes ∙ ap (votes_in said scripts) (sym d.lives ∙ ap (λ (s : Core). s.sessions.sessions) is);
          };
          sends = left.sends ∙ ap (λ (s : Core). s.sends) is;
          records = left.records ∙ ap (λ (s : Core). s.records) is;
          me = ap (λ (s : Core). s.views.me) (sym is) ∙ (left.me ∙ ap (λ (s : Core). s.views.me) h.core);
        };
        worded = λ all.
            let said' : m.core ≡ stepped (by_scripts scripts) n.core e =
            does_by_scripts fill scripts P a m.core (λ f. stepped f n.core e) (subst (λ vs. Does vs P a m.core (λ f. stepped f n.core e)) (votes ∙ worded_votes said all scripts a.sessions.sessions) d)
            in
            sym is ∙ (said' ∙ from_work (by_scripts scripts) n.core x.core e h.core);
      })

  -- a step that neither begins nor ends a session
  pub step_done : FillTheirScripts → (n m o : NodeView C) (l : Left) (P : List Handing → Type 0) (e : NodeEvent) → IsTrue (is_within e) → map script m.clients ≡ map script n.clients
      → Does (map script n.clients) P (called (at_work n.core) e) m.core (λ f. stepped f n.core e) → Leaves m o l n.core.views.me → StepsAs script said n o l e
  step_done fill n m o l P e within same d left =
      let a : Core = called (at_work n.core) e in
      let some : (f : Answering) × (m.core ≡ stepped f n.core e) = does_some (map script n.clients) P a m.core (λ f. stepped f n.core e) d in (
        some.0,
        λ x h.
            row_done fill n m o l x x.scripts P a e some.0 h (same ∙ (h.votes ∙ ap (votes_in said x.scripts) (sym (called_lives n.core e within ∙ same_lives n x h)))) (subst (λ vs. Does vs P a m.core (λ f. stepped f n.core e)) (sym same) d) some.1 left,
      )
