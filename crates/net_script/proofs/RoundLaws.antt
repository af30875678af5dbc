-- Rounds of ticks and flows.
use Rattle.std.proofs.Common.{◌≡◌, ℕ, suc, ◌+◌, ◌-◌, ◌<◌, ◌≤◌, List, [], ◌∷◌, map, Option, Result, Ok, Err, refl, ◌∙◌, ap, subst, arith}
use Rattle.client_callbacks.specs.Handed.{Handed}
use Rattle.node_core.specs.Node.{NodeView}
use Rattle.world_model.specs.World.{World}
use Rattle.world_model.specs.World as world
use Rattle.world_model.specs.declared.event.Event.TheVariants as event
use Rattle.world_model.specs.Play.{flow_limit}
use Rattle.world_laws.specs.world_answers.Answers.{Items}
use Rattle.world_laws.specs.world_answers.Plays.{AnsweredPlay, PlaysEach, PlaysFlow, PlaysTick, PlaysTicks, PlaysRounds}
use Rattle.world_laws.proofs.world_answers.Adding.{event_adds, flow_adds, rounds_add}
use Rattle.world_laws.proofs.world_answers.Going.{tick_goes, flow_goes, rounds_go, rounds_next, rounds_over}
use Rattle.net_script.specs.Standing.{NodesStand, number_in}
use Rattle.net_script.proofs.NodeLaws.{same_me}
use Rattle.transcript.specs.declared.kinds.Kinds.{Kinds}
use Rattle.net_script.specs.declared.stage.Stage.{Stage}
use Rattle.play_state.specs.declared.play_fault.PlayFault.{PlayFault}
use Rattle.net_script.specs.Stage.{At, Went, Stopped, LeadsTo}
use Rattle.net_script.proofs.StageLaws.{went_none, then_went, then_stopped, stopped_on}
use Rattle.net_script.proofs.ListLaws.{Playable}

numbers_same : {C : Type 0} (script : C → Option Items) (said : Items → Option Items) (ns : List (NodeView C)) (xs : List world.Node) → NodesStand script said ns xs → map number_in ns ≡ map (λ (x : world.Node). x.core.views.me) xs
numbers_same script said [] [] h = refl
numbers_same script said [] (x ∷ xs) h = absurd h
numbers_same script said (n ∷ ns) [] h = absurd h
numbers_same script said (n ∷ ns) (x ∷ xs) h = ap (λ k. k ∷ map number_in ns) (same_me script said n x h.0) ∙ ap (λ ks. x.core.views.me ∷ ks) (numbers_same script said ns xs h.1)

pub ticks_playable : (said : Items → Option Items) → Playable said ℕ (PlaysTick said)
ticks_playable said = record { goes = tick_goes said; adds = λ p n q h. event_adds p (event.Tick n) q h }

pub record Rounded {C : Type 0} (script : C → Option Items) (said : Items → Option Items) (R : C → List Handed → Type 0) (k : Kinds) (a b : Option (List ℕ)) (s t : Stage C) (p : AnsweredPlay) (v : World) (count left : ℕ) : Type 0 where
  pub played : AnsweredPlay
  pub went : Went script said R k a b s t p played v
  pub rest : (q : AnsweredPlay) → PlaysRounds said left played q → PlaysRounds said count p q

abbrev pub RoundsTo : {C : Type 0} → (C → Option Items) → (Items → Option Items) → (C → List Handed → Type 0) → Kinds → Option (List ℕ) → Option (List ℕ) → Stage C → Stage C → ℕ → ℕ → Type 0
RoundsTo script said R k a b s t count left = (p : AnsweredPlay) → (v : World) → At script said s p v → Rounded script said R k a b s t p v count left

module _ {C : Type 0} {script : C → Option Items} {said : Items → Option Items} {R : C → List Handed → Type 0} where
  -- the nodes that are up tick
  pub all_ticked : {U : Type 0} (r : Result U PlayFault) (k : Kinds) (a b : Option (List ℕ)) (s t : Stage C) (ns : List ℕ) → ns ≡ map number_in s.world.nodes
      → ((p : AnsweredPlay) → (v : World) → At script said s p v → LeadsTo script said R r k a b s t p (PlaysEach (PlaysTick said) p ns) v)
      → (p : AnsweredPlay) → (v : World) → At script said s p v → LeadsTo script said R r k a b s t p (PlaysTicks said p) v
  all_ticked r k a b s t ns e next p v h =
      let l : LeadsTo script said R r k a b s t p (PlaysEach (PlaysTick said) p ns) v = next p v h in
      record { play = l.play; made = subst (λ ms. PlaysEach (PlaysTick said) p ms l.play) (e ∙ numbers_same script said s.world.nodes p.world.nodes h.stands.nodes) l.made; outcome = l.outcome }

  -- ---- rounds

  pub rounds_begin : (k : Kinds) (a : Option (List ℕ)) (s : Stage C) (count left : ℕ) → left ≡ count → RoundsTo script said R k a a s s count left
  rounds_begin k a s count left e p v h = record { played = p; went = went_none k a s p v h; rest = λ q m. subst (λ n. PlaysRounds said n p q) e m }

  pub round_next : {U V : Type 0} {u : U} {w : V} (k : Kinds) (a b c d : Option (List ℕ)) (s m o t : Stage C) (count i : ℕ) → i < count → RoundsTo script said R k a b s m count (count - i)
      → ((q : AnsweredPlay) → (z : World) → At script said m q z → LeadsTo script said R (Ok u) k b c m o q (PlaysTicks said q) z) → ((q : AnsweredPlay) → (z : World) → At script said o q z → LeadsTo script said R (Ok w) k c d o t q (PlaysFlow said flow_limit q) z)
      → RoundsTo script said R k a d s t count (count - (i + 1))
  round_next {U} {V} {u} {w} k a b c d s m o t count i lt before ticked flowed p v h =
      let f : Rounded script said R k a b s m p v count (count - i) = before p v h in
      let x : LeadsTo script said R (Ok u) k b c m o f.played (PlaysTicks said f.played) f.went.world = ticked f.played f.went.world f.went.moved.at in
      let g : Went script said R k a c s o p x.play v = then_went k a b c s m o p f.played x.play v f.went x.outcome in
      let y : LeadsTo script said R (Ok w) k c d o t x.play (PlaysFlow said flow_limit x.play) g.world = flowed x.play g.world g.moved.at in
      let less : suc (count - (i + 1)) ≡ count - i = omega arith in
      record {
        played = y.play;
        went = then_went k a c d s o t p x.play y.play v g y.outcome;
        rest = λ q more. f.rest q (subst (λ n. PlaysRounds said n f.played q) less (rounds_next said (count - (i + 1)) f.played y.play q (x.play, x.made, y.made) more));
      }

  -- it stopped at a tick
  pub round_stops : {U : Type 0} (e : PlayFault) (k : Kinds) (a b c : Option (List ℕ)) (s m n : Stage C) (count i : ℕ) → i < count → RoundsTo script said R k a b s m count (count - i)
      → ((q : AnsweredPlay) → (z : World) → At script said m q z → LeadsTo {U = U} script said R (Err e) k b c m n q (PlaysTicks said q) z)
      → (p : AnsweredPlay) → (v : World) → At script said s p v → (q : AnsweredPlay) × PlaysRounds said count p q × Stopped e k a c s p q v
  round_stops {U} e k a b c s m n count i lt before next p v h =
      let f : Rounded script said R k a b s m p v count (count - i) = before p v h in
      let x : LeadsTo {U = U} script said R (Err e) k b c m n f.played (PlaysTicks said f.played) f.went.world = next f.played f.went.world f.went.moved.at in
      let less : suc (count - (i + 1)) ≡ count - i = omega arith in
      let y = flow_goes said flow_limit x.play in
      let q = rounds_go said (count - (i + 1)) y.0 in
      let one = flow_adds flow_limit x.play y.0 y.1 in
      let more = rounds_add (count - (i + 1)) y.0 q.0 q.1 in (
        q.0,
        f.rest q.0 (subst (λ n. PlaysRounds said n f.played q.0) less (rounds_next said (count - (i + 1)) f.played y.0 q.0 (x.play, x.made, y.1) q.1)),
        stopped_on e k a c s p y.0 q.0 v more.events (stopped_on e k a c s p x.play y.0 v one.events (then_stopped e k a b c s m p f.played x.play v f.went x.outcome) one.grew) more.grew,
      )

  -- it stopped in a flow
  pub round_stops_flowing : {U V : Type 0} {u : U} (e : PlayFault) (k : Kinds) (a b c d : Option (List ℕ)) (s m o n : Stage C) (count i : ℕ) → i < count → RoundsTo script said R k a b s m count (count - i)
      → ((q : AnsweredPlay) → (z : World) → At script said m q z → LeadsTo script said R (Ok u) k b c m o q (PlaysTicks said q) z) → ((q : AnsweredPlay) → (z : World) → At script said o q z → LeadsTo {U = V} script said R (Err e) k c d o n q (PlaysFlow said flow_limit q) z)
      → (p : AnsweredPlay) → (v : World) → At script said s p v → (q : AnsweredPlay) × PlaysRounds said count p q × Stopped e k a d s p q v
  round_stops_flowing {U} {V} {u} e k a b c d s m o n count i lt before ticked next p v h =
      let f : Rounded script said R k a b s m p v count (count - i) = before p v h in
      let x : LeadsTo script said R (Ok u) k b c m o f.played (PlaysTicks said f.played) f.went.world = ticked f.played f.went.world f.went.moved.at in
      let g : Went script said R k a c s o p x.play v = then_went k a b c s m o p f.played x.play v f.went x.outcome in
      let y : LeadsTo {U = V} script said R (Err e) k c d o n x.play (PlaysFlow said flow_limit x.play) g.world = next x.play g.world g.moved.at in
      let less : suc (count - (i + 1)) ≡ count - i = omega arith in
      let q = rounds_go said (count - (i + 1)) y.play in
      let more = rounds_add (count - (i + 1)) y.play q.0 q.1 in (
        q.0,
        f.rest q.0 (subst (λ n. PlaysRounds said n f.played q.0) less (rounds_next said (count - (i + 1)) f.played y.play q.0 (x.play, x.made, y.made) q.1)),
        stopped_on e k a d s p y.play q.0 v more.events (then_stopped e k a c d s o p x.play y.play v g y.outcome) more.grew,
      )

  pub rounds_end : {U : Type 0} (u : U) (k : Kinds) (a b : Option (List ℕ)) (s t : Stage C) (count i : ℕ) → count ≤ i → RoundsTo script said R k a b s t count (count - i)
      → (p : AnsweredPlay) → (v : World) → At script said s p v → LeadsTo script said R (Ok u) k a b s t p (PlaysRounds said count p) v
  rounds_end u k a b s t count i le before p v h =
      let f : Rounded script said R k a b s t p v count (count - i) = before p v h in
      let z : 0 ≡ count - i = omega arith in
      record { play = f.played; made = f.rest f.played (subst (λ n. PlaysRounds said n f.played f.played) z (rounds_over said f.played)); outcome = f.went }
