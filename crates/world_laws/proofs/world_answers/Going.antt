-- A play always goes on: the clients answer somehow, such as their words say.
use Rattle.std.proofs.Common.{◌≡◌, ℕ, zero, suc, Bool, true, false, List, [], ◌∷◌, Option, refl, sym, ap, ◌∙◌, subst}
use Rattle.std.specs.Prelude.{is_some}
use Rattle.world_model.specs.declared.event.Event.{Event}
use Rattle.world_model.specs.declared.event.Event.TheVariants as event
use Rattle.world_model.specs.declared.script.Line.{Line}
use Rattle.world_model.specs.declared.script.Line.TheVariants as line
use Rattle.world_model.specs.World.{Sent, World, by_scripts, node_at, happens}
use Rattle.world_model.specs.Play.{is_cut, flow_limit}
use Rattle.world_laws.specs.world_runs.Runs.{SameRun}
use Rattle.world_laws.specs.world_answers.Answers.{Items, happens_by, scripts_at, worded}
use Rattle.world_laws.specs.world_answers.Laws.{PlaysGoOn}
use Rattle.world_laws.specs.world_answers.Plays.{AnsweredPlay, PlaysEvent, PlaysEach, TakesPacket, TakesNext, PlaysFlow, PlaysTick, PlaysTicks, numbers_up, PlaysRound, PlaysRounds, PlaysLine, PlaysLines}
use Rattle.world_laws.proofs.world_answers.Words.{worded_goes}

alike_scripts : (w : World) (q : List Sent) (e : Event) → scripts_at (record w { queue = q }) e ≡ scripts_at w e
unfolding scripts_at node_at
alike_scripts w q (event.Start n) = refl
alike_scripts w q (event.Stop n) = refl
alike_scripts w q (event.Tick n) = refl
alike_scripts w q (event.Ask n mask) = refl
alike_scripts w q (event.Call n c) = refl
alike_scripts w q (event.Show n what) = refl
alike_scripts w q (event.Deliver a b k) = refl
alike_scripts w q (event.Garbage n bytes) = refl

-- by which scripts clients vote does not depend on what waits
same_scripts : (w v : World) (e : Event) → SameRun w v → scripts_at v e ≡ scripts_at w e
same_scripts w v e h = subst (λ z. scripts_at z e ≡ scripts_at w e) (sym h) (alike_scripts w v.queue e)

as_words_say : (w v : World) (e : Event) → SameRun w v → happens_by (by_scripts (scripts_at w e)) v e ≡ happens v e
as_words_say w v e h = ap (λ ss. happens_by (by_scripts ss) v e) (sym (same_scripts w v e h)) ∙ sym (worded_goes v e)

module _ (said : Items → Option Items) where
  pub event_goes : (p : AnsweredPlay) (e : Event) → (q : AnsweredPlay) × PlaysEvent said p e q
  event_goes p e = (_, record { answers = by_scripts (scripts_at p.world e); made = refl; worded = λ all v h. as_words_say p.world v e h })

  -- ---- the flow

  packet_goes : (p : AnsweredPlay) (x : Sent) (rest : List Sent) (up cut : Bool) → (q : AnsweredPlay) × TakesPacket said p x rest up cut q
  packet_goes p x rest false cut = (_, refl)
  packet_goes p x rest true true = (_, refl)
  packet_goes p x rest true false = event_goes p (event.Deliver x.packet.from x.packet.to x.number)

  next_goes : (More : AnsweredPlay → AnsweredPlay → Type 0) (p : AnsweredPlay) (xs : List Sent) → ((r : AnsweredPlay) → (q : AnsweredPlay) × More r q) → (q : AnsweredPlay) × TakesNext More said p q xs
  next_goes More p [] rest = (p, refl)
  next_goes More p (x ∷ xs) rest =
      let r = packet_goes p x xs (is_some (node_at p.world x.packet.to)) (is_cut p.cuts x.packet) in
      let q = rest r.0 in
      (q.0, (r.0, r.1, q.1))

  pub flow_goes : (n : ℕ) (p : AnsweredPlay) → (q : AnsweredPlay) × PlaysFlow said n p q
  unfolding PlaysFlow
  flow_goes zero p = (p, refl)
  flow_goes (suc n) p = next_goes (PlaysFlow said n) p p.world.queue (λ r. flow_goes n r)

  -- there is one more packet
  pub flow_next : (n : ℕ) (p : AnsweredPlay) (x : Sent) (xs : List Sent) (r q : AnsweredPlay) → p.world.queue ≡ x ∷ xs → TakesPacket said p x xs (is_some (node_at p.world x.packet.to)) (is_cut p.cuts x.packet) r
      → PlaysFlow said n r q → PlaysFlow said (suc n) p q
  unfolding PlaysFlow
  flow_next n p x xs r q e one more = subst (TakesNext (PlaysFlow said n) said p q) (sym e) (r, one, more)

  -- no packet is left
  pub flow_over : (n : ℕ) (p : AnsweredPlay) → p.world.queue ≡ [] → PlaysFlow said n p p
  unfolding PlaysFlow
  flow_over zero p e = refl
  flow_over (suc n) p e = subst (TakesNext (PlaysFlow said n) said p p) (sym e) refl

  -- ---- rounds and lines

  pub each_goes : {X : Type 0} (M : AnsweredPlay → X → AnsweredPlay → Type 0) → ((p : AnsweredPlay) (x : X) → (q : AnsweredPlay) × M p x q) → (p : AnsweredPlay) (xs : List X) → (q : AnsweredPlay) × PlaysEach M p xs q
  each_goes M one p [] = (p, refl)
  each_goes M one p (x ∷ xs) =
      let r = one p x in
      let q = each_goes M one r.0 xs in
      (q.0, (r.0, r.1, q.1))

  pub tick_goes : (p : AnsweredPlay) (n : ℕ) → (q : AnsweredPlay) × PlaysTick said p n q
  tick_goes p n = event_goes p (event.Tick n)

  pub ticks_go : (p : AnsweredPlay) → (q : AnsweredPlay) × PlaysTicks said p q
  ticks_go p = each_goes (PlaysTick said) tick_goes p (numbers_up p.world)

  pub rounds_go : (n : ℕ) (p : AnsweredPlay) → (q : AnsweredPlay) × PlaysRounds said n p q
  unfolding PlaysRounds
  rounds_go zero p = (p, refl)
  rounds_go (suc n) p =
      let r = ticks_go p in
      let t = flow_goes flow_limit r.0 in
      let q = rounds_go n t.0 in
      (q.0, (t.0, (r.0, r.1, t.1), q.1))

  pub line_goes : (p : AnsweredPlay) (l : Line) → (q : AnsweredPlay) × PlaysLine said p l q
  line_goes p (line.Plain e) = event_goes p e
  line_goes p (line.Drop a b) = (_, refl)
  line_goes p line.Flow = flow_goes flow_limit p
  line_goes p (line.Run k) = rounds_go k p
  line_goes p (line.Cut a b k) = (_, refl)
  line_goes p (line.Heal a b k) = (_, refl)

  pub lines_go : (p : AnsweredPlay) (ls : List Line) → (q : AnsweredPlay) × PlaysLines said p ls q
  lines_go p ls = each_goes (PlaysLine said) line_goes p ls

  -- one round more
  pub rounds_next : (n : ℕ) (p r q : AnsweredPlay) → PlaysRound said p r → PlaysRounds said n r q → PlaysRounds said (suc n) p q
  unfolding PlaysRounds
  rounds_next n p r q one more = (r, one, more)

  pub rounds_over : (p : AnsweredPlay) → PlaysRounds said zero p p
  unfolding PlaysRounds
  rounds_over p = refl

  pub flow_none : (p : AnsweredPlay) → PlaysFlow said zero p p
  unfolding PlaysFlow
  flow_none p = refl

pub plays_go_on : PlaysGoOn
plays_go_on said p ls = lines_go said p ls
