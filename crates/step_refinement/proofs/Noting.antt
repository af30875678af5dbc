-- An event by which no node changes: no group sees what is noted.
use Rattle.std.proofs.Common.{ℕ, List, ◌∷◌, ◌++◌, refl, sym, ap, ◌∙◌}
use Rattle.std.specs.Prelude.{reverse}
use Rattle.rsct_packet.specs.Search.{Has}
use Rattle.rsct_packet.proofs.HasLaws.{append_has_right}
use Rattle.node_state.specs.declared.happened.Happened.{Happened}
use Rattle.node_state.specs.declared.happened.Happened.TheVariants as happened
use Rattle.world_model.specs.declared.event.Event.{Event}
use Rattle.run_safety.specs.Past.{records_of}
use Rattle.run_safety.specs.Sight.{lines_of}
use Rattle.run_safety.specs.Group.{Kept, Begins}
use Rattle.run_safety.proofs.Order.{lt_refl}
use Rattle.step_refinement.specs.Ghost.{Ghost}
use Rattle.step_refinement.specs.Tied.{Scene, opening_of, Rests}
use Rattle.step_refinement.specs.Runs.{IsNote, noted}
use Rattle.step_refinement.proofs.Goes.{sound_on, shows_on, node_if_on}
use Rattle.step_refinement.proofs.Works.{Passes, lines_none, now_still}
use Rattle.step_refinement.proofs.Begins.{turned, turned_goes, turned_still, turned_spares, turned_lives}
use Rattle.step_refinement.proofs.Turns.{turn_on, sent_on_more}

note_passes : (g : List ℕ) (r : Happened) → IsNote r → Passes g r
note_passes g (happened.Refused n client fault) k = (λ rs. refl, λ m o. refl)
note_passes g (happened.Shown n line) k = (λ rs. refl, λ m o. refl)
note_passes g _ k = absurd k

pub note_tied : (g : List ℕ) (w : Scene) (e : Event) (rs : List Happened) → ((r : Happened) → Has r rs → IsNote r) → Rests g w → Rests g (noted w e rs)
note_tied g w e rs notes t =
    record {
      ghost = turned x;
      life = turned_lives x (opening_of w.config) t.life;
      lines = ap (λ l. Kept Begins ∷ l) t.lines ∙ sym (lines_none g rs w.before (lines_of g w.before) (λ r h. (note_passes g r (notes r h)).0));
      nodes = λ m. node_if_on x (turned x) m (turned_spares x m) refl w.config g (w.incs m) (w.cores m) (t.nodes m);
      packets = λ p h. shows_on x (turned x) (turned_goes x) g p (t.packets p h);
      sound = sound_on x (turned x) (turned_still x) g t.sound;
      asks = t.asks;
      placed = λ m c q. now_still m rs (records_of w.before) (λ r h. (note_passes g r (notes r h)).1 m) ∙ t.placed m c q;
      nobody = t.nobody;
      turns = λ m c q. turn_on (records_of w.before) (reverse rs ++ records_of w.before) (λ r h. append_has_right r (reverse rs) (records_of w.before) h) c.views.view c.views.view (lt_refl c.views.view) c.sessions (t.turns m c q);
      sent = sent_on_more (records_of w.before) (reverse rs ++ records_of w.before) (λ r h. append_has_right r (reverse rs) (records_of w.before) h) x.ps x.ps (λ v p r y h. h) t.sent;
      begun = t.begun;
    }
  where
    x : Ghost
    x = t.ghost
