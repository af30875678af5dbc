-- A play always goes on: the clients answer somehow, such as their words say.
use Rattle.std.proofs.Common.{◌≡◌, ℕ, zero, suc, Bool, true, false, List, [], ◌∷◌, Option, refl, sym, ap, ◌∙◌, subst}
use Rattle.std.specs.Prelude.{is_some}
use Rattle.world_model.specs.declared.event.Event.{Event}
use Rattle.world_model.specs.declared.event.Event.TheVariants as event
use Rattle.world_model.specs.declared.script.Line.{Line}
use Rattle.world_model.specs.declared.script.Line.TheVariants as line
use Rattle.world_model.specs.World.{by_scripts, node_at}
use Rattle.world_model.specs.Play.{flow_limit}
use Rattle.world_laws.specs.world_answers.Answers.{Items, scripts_at}
use Rattle.relay_model.specs.Relays.{Sent, Relayed, relays_by}
use Rattle.relay_model.specs.Play.{is_cut, relays}
use Rattle.relay_runs.specs.Runs.{SameRelayed}
use Rattle.relay_runs.specs.Laws.{PlaysGoOn}
use Rattle.relay_runs.specs.Plays.{AnsweredPlay, PlaysEvent, PlaysEach, TakesDatagram, TakesNext, PlaysFlow, PlaysTick, PlaysTicks, numbers_up, PlaysRound, PlaysRounds, PlaysLine, PlaysLines}

-- by which scripts clients vote does not depend on what waits
as_words_say : (r v : Relayed) (e : Event) → SameRelayed r v → relays_by (by_scripts (scripts_at r.world e)) v e ≡ relays v e
unfolding relays
as_words_say r v e h = ap (λ (z : Relayed). relays_by (by_scripts (scripts_at z.world e)) v e) (sym h)

module _ (said : Items → Option Items) where
  pub event_goes : (p : AnsweredPlay) (e : Event) → (q : AnsweredPlay) × PlaysEvent said p e q
  event_goes p e = (_, record { answers = by_scripts (scripts_at p.world.world e); made = refl; worded = λ all v h. as_words_say p.world v e h })

  -- ---- the flow

  datagram_goes : (p : AnsweredPlay) (x : Sent) (rest : List Sent) (up cut : Bool) → (q : AnsweredPlay) × TakesDatagram said p x rest up cut q
  datagram_goes p x rest false cut = (_, refl)
  datagram_goes p x rest true true = (_, refl)
  datagram_goes p x rest true false = event_goes p (event.Deliver x.from x.to x.number)

  next_goes : (More : AnsweredPlay → AnsweredPlay → Type 0) (p : AnsweredPlay) (xs : List Sent) → ((r : AnsweredPlay) → (q : AnsweredPlay) × More r q) → (q : AnsweredPlay) × TakesNext More said p q xs
  next_goes More p [] rest = (p, refl)
  next_goes More p (x ∷ xs) rest =
      let r = datagram_goes p x xs (is_some (node_at p.world.world x.to)) (is_cut p.cuts x) in
      let q = rest r.0 in
      (q.0, (r.0, r.1, q.1))

  pub flow_goes : (n : ℕ) (p : AnsweredPlay) → (q : AnsweredPlay) × PlaysFlow said n p q
  unfolding PlaysFlow
  flow_goes zero p = (p, refl)
  flow_goes (suc n) p = next_goes (PlaysFlow said n) p p.world.queue (λ r. flow_goes n r)

  -- there is one more datagram
  pub flow_next : (n : ℕ) (p : AnsweredPlay) (x : Sent) (xs : List Sent) (r q : AnsweredPlay) → p.world.queue ≡ x ∷ xs → TakesDatagram said p x xs (is_some (node_at p.world.world x.to)) (is_cut p.cuts x) r
      → PlaysFlow said n r q → PlaysFlow said (suc n) p q
  unfolding PlaysFlow
  flow_next n p x xs r q e one more = subst (TakesNext (PlaysFlow said n) said p q) (sym e) (r, one, more)

  -- no datagram is left
  pub flow_over : (n : ℕ) (p : AnsweredPlay) → p.world.queue ≡ [] → PlaysFlow said n p p
  unfolding PlaysFlow
  flow_over zero p e = refl
  flow_over (suc n) p e = subst (TakesNext (PlaysFlow said n) said p p) (sym e) refl

  -- ---- rounds and lines

  pub each_goes : {X : Type 0} (M : AnsweredPlay → X → AnsweredPlay → Type 0) → ((p : AnsweredPlay) (x : X) → (q : AnsweredPlay) × M p x q) → (p : AnsweredPlay) (xs : List X) → (q : AnsweredPlay) × PlaysEach M p xs q
  each_goes M one p [] = (p, refl)
  each_goes M one p (x ∷ xs) =
      let r = one p x in
      let q = each_goes M one r.0 xs in
      (q.0, (r.0, r.1, q.1))

  pub tick_goes : (p : AnsweredPlay) (n : ℕ) → (q : AnsweredPlay) × PlaysTick said p n q
  tick_goes p n = event_goes p (event.Tick n)

  pub ticks_go : (p : AnsweredPlay) → (q : AnsweredPlay) × PlaysTicks said p q
  ticks_go p = each_goes (PlaysTick said) tick_goes p (numbers_up p.world)

  pub rounds_go : (n : ℕ) (p : AnsweredPlay) → (q : AnsweredPlay) × PlaysRounds said n p q
  unfolding PlaysRounds
  rounds_go zero p = (p, refl)
  rounds_go (suc n) p =
      let r = ticks_go p in
      let t = flow_goes flow_limit r.0 in
      let q = rounds_go n t.0 in
      (q.0, (t.0, (r.0, r.1, t.1), q.1))

  pub line_goes : (p : AnsweredPlay) (l : Line) → (q : AnsweredPlay) × PlaysLine said p l q
  line_goes p (line.Plain e) = event_goes p e
  line_goes p (line.Drop a b) = (_, refl)
  line_goes p line.Flow = flow_goes flow_limit p
  line_goes p (line.Run k) = rounds_go k p
  line_goes p (line.Cut a b k) = (_, refl)
  line_goes p (line.Heal a b k) = (_, refl)

  pub lines_go : (p : AnsweredPlay) (ls : List Line) → (q : AnsweredPlay) × PlaysLines said p ls q
  lines_go p ls = each_goes (PlaysLine said) line_goes p ls

  -- one round more
  pub rounds_next : (n : ℕ) (p r q : AnsweredPlay) → PlaysRound said p r → PlaysRounds said n r q → PlaysRounds said (suc n) p q
  unfolding PlaysRounds
  rounds_next n p r q one more = (r, one, more)

  pub rounds_over : (p : AnsweredPlay) → PlaysRounds said zero p p
  unfolding PlaysRounds
  rounds_over p = refl

  pub flow_none : (p : AnsweredPlay) → PlaysFlow said zero p p
  unfolding PlaysFlow
  flow_none p = refl

pub plays_go_on : PlaysGoOn
plays_go_on said p ls = lines_go said p ls
