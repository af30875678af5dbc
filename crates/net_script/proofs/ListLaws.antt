-- A list of things to play, one after another: ticks or lines.
use Rattle.std.proofs.Common.{◌≡◌, ℕ, ◌+◌, ◌<◌, ◌≤◌, List, [], ◌∷◌, ◌++◌, length, drop, get_or, Option, Ok, Err, refl, sym, subst}
use Rattle.client_callbacks.specs.Handed.{Handed}
use Rattle.world_model.specs.World.{World}
use Rattle.world_laws.specs.world_answers.Answers.{Items}
use Rattle.world_laws.specs.world_answers.Plays.{AnsweredPlay, PlaysEach}
use Rattle.world_laws.proofs.world_answers.Adding.{Adds, each_adds}
use Rattle.world_laws.proofs.world_answers.Going.{each_goes}
use Rattle.transcript.specs.declared.kinds.Kinds.{Kinds}
use Rattle.net_script.specs.declared.stage.Stage.{Stage}
use Rattle.play_state.specs.declared.play_fault.PlayFault.{PlayFault}
use Rattle.play_state.specs.declared.play_fault.PlayFault.TheVariants as play_fault
use Rattle.net_script.specs.Stage.{At, Went, Stopped, LeadsTo}
use Rattle.net_script.proofs.TextLaws.{next_item, no_item}
use Rattle.net_script.proofs.StageLaws.{went_none, then_went, then_stopped, stopped_on, broke_none}

-- of what is to be played, the play is this far
pub record CameTo {C : Type 0} (script : C → Option Items) (said : Items → Option Items) (R : C → List Handed → Type 0) (k : Kinds) (a b : Option (List ℕ)) (s t : Stage C) (p : AnsweredPlay) (v : World) (X : Type 0) (M : AnsweredPlay → X → AnsweredPlay → Type 0) (all left : List X) : Type 0 where
  pub played : AnsweredPlay
  pub went : Went script said R k a b s t p played v
  pub rest : (q : AnsweredPlay) → PlaysEach M played left q → PlaysEach M p all q

abbrev pub ComesTo : {C : Type 0} → (C → Option Items) → (Items → Option Items) → (C → List Handed → Type 0) → Kinds → Option (List ℕ) → Option (List ℕ) → Stage C → Stage C → (X : Type 0) → (AnsweredPlay → X → AnsweredPlay → Type 0) → List X → List X → Type 0
ComesTo script said R k a b s t X M all left = (p : AnsweredPlay) → (v : World) → At script said s p v → CameTo script said R k a b s t p v X M all left

-- each of what is to be played can be played, and only adds events
pub record Playable (said : Items → Option Items) (X : Type 0) (M : AnsweredPlay → X → AnsweredPlay → Type 0) : Type 0 where
  pub goes : (p : AnsweredPlay) (x : X) → (q : AnsweredPlay) × M p x q
  pub adds : (p : AnsweredPlay) (x : X) (q : AnsweredPlay) → M p x q → Adds said p q

-- some, and then the rest
each_then : (X : Type 0) (M : AnsweredPlay → X → AnsweredPlay → Type 0) (p r q : AnsweredPlay) (xs ys : List X) → PlaysEach M p xs r → PlaysEach M r ys q → PlaysEach M p (xs ++ ys) q
each_then X M p r q [] ys e h = subst (λ z. PlaysEach M z ys q) e h
each_then X M p r q (x ∷ xs) ys g h = (g.0, g.1, each_then X M g.0 r q xs ys g.2 h)

module _ {C : Type 0} {script : C → Option Items} {said : Items → Option Items} {R : C → List Handed → Type 0} where
  pub list_begins : (k : Kinds) (a : Option (List ℕ)) (s : Stage C) (X : Type 0) (M : AnsweredPlay → X → AnsweredPlay → Type 0) (all : List X) → ComesTo script said R k a a s s X M all all
  list_begins k a s X M all p v h = record { played = p; went = went_none k a s p v h; rest = λ q m. m }

  pub list_next : {U : Type 0} {u : U} (k : Kinds) (a b c : Option (List ℕ)) (s m t : Stage C) (X : Type 0) (M : AnsweredPlay → X → AnsweredPlay → Type 0) (x : X) (all : List X) (i : ℕ) → i < length all → x ≡ get_or all i x
      → ComesTo script said R k a b s m X M all (drop i all) → ((q : AnsweredPlay) → (w : World) → At script said m q w → LeadsTo script said R (Ok u) k b c m t q (M q x) w) → ComesTo script said R k a c s t X M all (drop (i + 1) all)
  list_next {U} {u} k a b c s m t X M x all i lt is before next p v h =
      let g : CameTo script said R k a b s m p v X M all (drop i all) = before p v h in
      let l : LeadsTo script said R (Ok u) k b c m t g.played (M g.played x) g.went.world = next g.played g.went.world g.went.moved.at in
      record {
        played = l.play;
        went = then_went k a b c s m t p g.played l.play v g.went l.outcome;
        rest = λ q more. g.rest q (subst (λ xs. PlaysEach M g.played xs q) (sym (next_item i x all lt is)) (l.play, l.made, more));
      }

  pub list_stops : {U : Type 0} (e : PlayFault) (k : Kinds) (a b c : Option (List ℕ)) (s m n : Stage C) (X : Type 0) (M : AnsweredPlay → X → AnsweredPlay → Type 0) (x : X) (all : List X) (i : ℕ) → Playable said X M → i < length all → x ≡ get_or all i x
      → ComesTo script said R k a b s m X M all (drop i all) → ((q : AnsweredPlay) → (w : World) → At script said m q w → LeadsTo {U = U} script said R (Err e) k b c m n q (M q x) w)
      → (p : AnsweredPlay) → (v : World) → At script said s p v → (q : AnsweredPlay) × PlaysEach M p all q × Stopped e k a c s p q v
  list_stops {U} e k a b c s m n X M x all i playable lt is before next p v h =
      let g : CameTo script said R k a b s m p v X M all (drop i all) = before p v h in
      let l : LeadsTo {U = U} script said R (Err e) k b c m n g.played (M g.played x) g.went.world = next g.played g.went.world g.went.moved.at in
      let q = each_goes said M playable.goes l.play (drop (i + 1) all) in
      let more = each_adds M playable.adds l.play (drop (i + 1) all) q.0 q.1 in
      (q.0, g.rest q.0 (subst (λ xs. PlaysEach M g.played xs q.0) (sym (next_item i x all lt is)) (l.play, l.made, q.1)), stopped_on e k a c s p l.play q.0 v more.events (then_stopped e k a b c s m p g.played l.play v g.went l.outcome) more.grew)

  -- ---- some of what is left, and then the rest

  pub some_next : {U : Type 0} {u : U} (k : Kinds) (a b c : Option (List ℕ)) (s m t : Stage C) (X : Type 0) (M : AnsweredPlay → X → AnsweredPlay → Type 0) (all left xs rest : List X) → left ≡ xs ++ rest
      → ComesTo script said R k a b s m X M all left → ((q : AnsweredPlay) → (w : World) → At script said m q w → LeadsTo script said R (Ok u) k b c m t q (PlaysEach M q xs) w) → ComesTo script said R k a c s t X M all rest
  some_next {U} {u} k a b c s m t X M all left xs rest is before next p v h =
      let g : CameTo script said R k a b s m p v X M all left = before p v h in
      let l : LeadsTo script said R (Ok u) k b c m t g.played (PlaysEach M g.played xs) g.went.world = next g.played g.went.world g.went.moved.at in
      record {
        played = l.play;
        went = then_went k a b c s m t p g.played l.play v g.went l.outcome;
        rest = λ q more. g.rest q (subst (λ zs. PlaysEach M g.played zs q) (sym is) (each_then X M g.played l.play q xs rest l.made more));
      }

  pub some_stops : {U : Type 0} (e : PlayFault) (k : Kinds) (a b c : Option (List ℕ)) (s m n : Stage C) (X : Type 0) (M : AnsweredPlay → X → AnsweredPlay → Type 0) (all left xs rest : List X) → Playable said X M → left ≡ xs ++ rest
      → ComesTo script said R k a b s m X M all left → ((q : AnsweredPlay) → (w : World) → At script said m q w → LeadsTo {U = U} script said R (Err e) k b c m n q (PlaysEach M q xs) w)
      → (p : AnsweredPlay) → (v : World) → At script said s p v → (q : AnsweredPlay) × PlaysEach M p all q × Stopped e k a c s p q v
  some_stops {U} e k a b c s m n X M all left xs rest playable is before next p v h =
      let g : CameTo script said R k a b s m p v X M all left = before p v h in
      let l : LeadsTo {U = U} script said R (Err e) k b c m n g.played (PlaysEach M g.played xs) g.went.world = next g.played g.went.world g.went.moved.at in
      let q = each_goes said M playable.goes l.play rest in
      let more = each_adds M playable.adds l.play rest q.0 q.1 in
      (q.0, g.rest q.0 (subst (λ zs. PlaysEach M g.played zs q.0) (sym is) (each_then X M g.played l.play q.0 xs rest l.made q.1)), stopped_on e k a c s p l.play q.0 v more.events (then_stopped e k a b c s m p g.played l.play v g.went l.outcome) more.grew)

  -- memory has run out before the rest
  pub some_lost : (k : Kinds) (a b : Option (List ℕ)) (s m : Stage C) (X : Type 0) (M : AnsweredPlay → X → AnsweredPlay → Type 0) (all left : List X) → Playable said X M → ComesTo script said R k a b s m X M all left
      → (p : AnsweredPlay) → (v : World) → At script said s p v → (q : AnsweredPlay) × PlaysEach M p all q × Stopped play_fault.NoMemory k a b s p q v
  some_lost k a b s m X M all left playable before p v h =
      let g : CameTo script said R k a b s m p v X M all left = before p v h in
      let q = each_goes said M playable.goes g.played left in
      let more = each_adds M playable.adds g.played left q.0 q.1 in
      (q.0, g.rest q.0 q.1, then_stopped play_fault.NoMemory k a b b s m p g.played q.0 v g.went (broke_none k b m g.played q.0 g.went.world more.events more.grew))

  pub none_left : {U : Type 0} (u : U) (k : Kinds) (a b : Option (List ℕ)) (s t : Stage C) (X : Type 0) (M : AnsweredPlay → X → AnsweredPlay → Type 0) (all left : List X) → left ≡ [] → ComesTo script said R k a b s t X M all left
      → (p : AnsweredPlay) → (v : World) → At script said s p v → LeadsTo script said R (Ok u) k a b s t p (PlaysEach M p all) v
  none_left u k a b s t X M all left is before p v h =
      let g : CameTo script said R k a b s t p v X M all left = before p v h in
      record { play = g.played; made = g.rest g.played (subst (λ xs. PlaysEach M g.played xs g.played) (sym is) refl); outcome = g.went }

  pub list_ends : {U : Type 0} (u : U) (k : Kinds) (a b : Option (List ℕ)) (s t : Stage C) (X : Type 0) (M : AnsweredPlay → X → AnsweredPlay → Type 0) (all : List X) (i : ℕ) → length all ≤ i → ComesTo script said R k a b s t X M all (drop i all)
      → (p : AnsweredPlay) → (v : World) → At script said s p v → LeadsTo script said R (Ok u) k a b s t p (PlaysEach M p all) v
  list_ends u k a b s t X M all i le before = none_left u k a b s t X M all (drop i all) (no_item i all le) before
