-- What the pieces of a step make of the tie: what is sent and recorded, and the moves.
use Rattle.std.proofs.Common.{◌≡◌, ◌≢◌, ℕ, List, [], ◌∷◌, ◌++◌, Option, Some, Bool, true, false, refl, sym, ap, ◌∙◌, subst, inl, inr, ⊎_elim, append_assoc}
use Rattle.std.specs.Prelude.{not, reverse}
use Rattle.std.proofs.lemmas.List.{reverse-append, append-nil}
use Rattle.rsct_packet.specs.Search.{Has}
use Rattle.rsct_packet.specs.declared.ids.ViewId.{ViewId}
use Rattle.view_state.specs.declared.views.Views.{Views}
use Rattle.node_state.specs.declared.config.Config.{Config}
use Rattle.node_state.specs.declared.happened.Happened.{Happened}
use Rattle.node_state.specs.declared.packet.Body.{Body}
use Rattle.node_state.specs.declared.packet.Packet.{Packet}
use Rattle.node_state.specs.declared.state.Core.{Core}
use Rattle.node_state.specs.Settings.{is_fixed}
use Rattle.node_state.specs.State.{row_of, recorded}
use Rattle.node_state.specs.Sending.{send_on, packet_on, sent}
use Rattle.run_safety.specs.Past.{History, earlier, place_after, view_now}
use Rattle.run_safety.specs.Sight.{lines_at, lines_with, lines_of}
use Rattle.run_safety.specs.Group.{Line, Kept, Begins}
use Rattle.step_refinement.specs.Ghost.{Ghost, Lives}
use Rattle.step_refinement.specs.Tied.{ShowsBody, Shows, NodeOf, NodeIsIf, Scene, Sound, opening_of, lines_now, Placed, Tied, Turns}
use Rattle.step_refinement.proofs.Goes.{Spares, node_if_on}
use Rattle.step_refinement.proofs.Changed.{has_pushed}
use Rattle.step_refinement.proofs.Turns.{turns_pushed}

-- no group sees such a record
abbrev pub Unseen : List ℕ → Happened → Type 0
Unseen g r = (rs : List Happened) → lines_at g rs r ≡ []

pub lines_pushed : (g : List ℕ) (rs : List Happened) (r : Happened) (before : History) (all : List Line) → lines_with g (reverse (rs ++ r ∷ [])) before all ≡ lines_at g (earlier (reverse rs) before) r ++ lines_with g (reverse rs) before all
lines_pushed g rs r before all = ap (λ z. lines_with g z before all) (reverse-append rs (r ∷ []))

pub lines_unseen : (g : List ℕ) (rs ys : List Happened) (before : History) (all : List Line) → ((r : Happened) → Has r rs → Unseen g r) → lines_with g (reverse rs ++ ys) before all ≡ lines_with g ys before all
lines_unseen g [] ys before all h = refl
lines_unseen g (r ∷ rs) ys before all h =
    let turned : reverse (r ∷ rs) ≡ reverse rs ++ (r ∷ []) = reverse-append (r ∷ []) rs in
    ap (λ z. lines_with g (z ++ ys) before all) turned ∙ ap (λ z. lines_with g z before all) (append_assoc (reverse rs) (r ∷ []) ys) ∙ lines_unseen g rs (r ∷ ys) before all (λ q i. h q (inr i)) ∙ ap (λ z. z ++ lines_with g ys before all) (h r (inl refl) (earlier ys before))

pub lines_none : (g : List ℕ) (rs : List Happened) (before : History) (all : List Line) → ((r : Happened) → Has r rs → Unseen g r) → lines_with g (reverse rs) before all ≡ Kept Begins ∷ all
lines_none g rs before all h = ap (λ z. lines_with g z before all) (sym (append-nil (reverse rs))) ∙ lines_unseen g rs [] before all h

-- where a node is, after one record more
pub now_pushed : (n : ℕ) (rs : List Happened) (r : Happened) (before : History) → view_now n (earlier (reverse (rs ++ r ∷ [])) before) ≡ place_after n r (view_now n (earlier (reverse rs) before))
now_pushed n rs r before = ap (λ z. view_now n (earlier z before)) (reverse-append rs (r ∷ []))

-- a record by which no node goes anywhere
abbrev pub Stays : ℕ → Happened → Type 0
Stays n r = (o : Option ViewId) → place_after n r o ≡ o

-- no group sees it, and no node goes anywhere by it
abbrev pub Passes : List ℕ → Happened → Type 0
Passes g r = Unseen g r × ((m : ℕ) → Stays m r)

pub placed_pushed : (w : Scene) (n : ℕ) (s : Core) (r : Happened) → ((m : ℕ) → Stays m r) → Placed w n s → (view_now n (earlier (reverse (s.records ++ r ∷ [])) w.before) ≡ Some s.views.view) × ((m : ℕ) (c : Core) → m ≢ n → w.cores m ≡ Some c → view_now m (earlier (reverse (s.records ++ r ∷ [])) w.before) ≡ Some c.views.view)
placed_pushed w n s r stays t =
    (now_pushed n s.records r w.before ∙ stays n (view_now n (earlier (reverse s.records) w.before)) ∙ t.0, λ m c ne e. now_pushed m s.records r w.before ∙ stays m (view_now m (earlier (reverse s.records) w.before)) ∙ t.1 m c ne e)

-- where a node is that goes nowhere by these records
pub now_still : (n : ℕ) (rs ys : List Happened) → ((r : Happened) → Has r rs → Stays n r) → view_now n (reverse rs ++ ys) ≡ view_now n ys
now_still n [] ys h = refl
now_still n (r ∷ rs) ys h =
    let turned : reverse (r ∷ rs) ≡ reverse rs ++ (r ∷ []) = reverse-append (r ∷ []) rs in
    ap (λ z. view_now n (z ++ ys)) turned ∙ ap (view_now n) (append_assoc (reverse rs) (r ∷ []) ys) ∙ now_still n rs (r ∷ ys) (λ q i. h q (inr i)) ∙ h r (inl refl) (view_now n ys)

-- where views are asked for, the mode is not fixed
pub asked_free : (g : List ℕ) (w : Scene) (n : ℕ) (s : Core) (t : Tied g w n s) → t.ghost.asks ≡ true → is_fixed w.config.mode ≡ false
asked_free g w n s t asks = by (is_fixed w.config.mode) (sym asks ∙ t.own.0.asks ∙ ap (λ (z : Config). not (is_fixed z.mode)) t.own.1)
  where
    by : (b : Bool) → true ≡ not b → b ≡ false
    by true q = absurd (cc)
    by false q = refl

module _ (g : List ℕ) (w : Scene) (n : ℕ) (s : Core) (t : Tied g w n s) where
  -- the step goes on as moves do
  abbrev pub tied_on : (s' : Core) (y : Ghost) → Lives (opening_of w.config) y → y.all ≡ lines_now g w s' → Placed w n s' → Turns w n s'.views.view s'.records s'.sessions y.ps → NodeIsIf w.config y g n (w.incs n) (Some s') → ((m : ℕ) → m ≢ n → Spares t.ghost y m) → ((m : ℕ) → m ≢ n → y.nodes m ≡ t.ghost.nodes m) → ((p : Packet) → Has p (s'.sends ++ w.sent) → Shows y g p) → Sound g y → Tied g w n s'
  tied_on s' y life lines placed turns own spares same packets sound =
      record {
        ghost = y;
        life = life;
        lines = lines;
        own = own;
        others = λ m ne. node_if_on t.ghost y m (spares m ne) (same m ne) w.config g (w.incs m) (w.cores m) (t.others m ne);
        packets = packets;
        sound = sound;
        placed = placed;
        nobody = t.nobody;
        turns = turns;
      }

  -- a packet is sent that shows nothing new, and nothing else of the group changes
  pub sent_on_kept : (network to : ℕ) (b : Body) → ShowsBody t.ghost g s.views.me s.views.inc to b → (u : Tied g w n (send_on s network to b)) × (u.ghost ≡ t.ghost)
  unfolding send_on packet_on row_of
  sent_on_kept network to b ok = (
    record {
      ghost = t.ghost;
      life = t.life;
      lines = t.lines;
      own = t.own;
      others = t.others;
      packets = λ p h. ⊎_elim (λ (e : p ≡ packet_on s network to b). subst (λ z. Shows t.ghost g z) (sym e) ok) (λ (k : Has p (s.sends ++ w.sent)). t.packets p k) (has_pushed p (packet_on s network to b) s.sends w.sent h);
      sound = t.sound;
      placed = t.placed;
      nobody = t.nobody;
      turns = t.turns;
    },
    refl,
  )

  pub tied_sent_on : (network to : ℕ) (b : Body) → ShowsBody t.ghost g s.views.me s.views.inc to b → Tied g w n (send_on s network to b)
  tied_sent_on network to b ok = (sent_on_kept network to b ok).0

  pub sent_kept : (to : ℕ) (b : Body) → ShowsBody t.ghost g s.views.me s.views.inc to b → (u : Tied g w n (sent s to b)) × (u.ghost ≡ t.ghost)
  unfolding sent
  sent_kept to b ok = sent_on_kept _ to b ok

  pub tied_sent : (to : ℕ) (b : Body) → ShowsBody t.ghost g s.views.me s.views.inc to b → Tied g w n (sent s to b)
  tied_sent to b ok = (sent_kept to b ok).0

  -- a record that no group sees
  pub tied_unseen : (r : Happened) → Passes g r → Tied g w n (recorded s r)
  unfolding recorded row_of
  tied_unseen r passes =
      record {
        ghost = t.ghost;
        life = t.life;
        lines = t.lines ∙ sym (lines_pushed g s.records r w.before (lines_of g w.before) ∙ ap (λ z. z ++ lines_now g w s) (passes.0 (earlier (reverse s.records) w.before)));
        own = t.own;
        others = t.others;
        packets = t.packets;
        sound = t.sound;
        placed = placed_pushed w n s r passes.1 t.placed;
        nobody = t.nobody;
        turns = turns_pushed w n s.views.view s.records s.sessions t.ghost.ps t.turns r;
      }

  -- what a node keeps of views, where no group sees it
  pub tied_views : (v : Views) → NodeOf t.ghost g n (is_fixed s.config.mode) v (row_of s g) s.groups s.sessions s.names → v.inc ≡ s.views.inc → Tied g w n (record s { views = v })
  unfolding row_of
  tied_views v k e =
      record {
        ghost = t.ghost;
        life = t.life;
        lines = t.lines;
        own = (k, t.own.1, e ∙ t.own.2);
        others = t.others;
        packets = t.packets;
        sound = t.sound;
        placed = (t.placed.0 ∙ ap (λ z. Some z) (sym t.own.0.stands.view ∙ k.stands.view), t.placed.1);
        nobody = t.nobody;
        turns = subst (λ z. Turns w n z s.records s.sessions t.ghost.ps) (sym t.own.0.stands.view ∙ k.stands.view) t.turns;
      }
