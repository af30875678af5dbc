-- A play of lines that may happen is a safe run, whatever its clients answer.
use Rattle.std.proofs.Common.{◌≡◌, ℕ, zero, suc, Bool, true, false, List, [], ◌∷◌, ◌++◌, fold, Option, Some, None, refl, sym, ◌∙◌, ap, subst}
use Rattle.std.specs.Prelude.{is_some}
use Rattle.rsct_packet.specs.Lists.{reverse_onto}
use Rattle.client_callbacks.specs.Handed.{Handed}
use Rattle.node_state.specs.declared.config.Config.{Config}
use Rattle.world_model.specs.declared.event.Event.{Event}
use Rattle.world_model.specs.declared.event.Event.TheVariants as event
use Rattle.world_model.specs.declared.script.Line.{Line}
use Rattle.world_model.specs.declared.script.Line.TheVariants as line
use Rattle.world_model.specs.declared.script.Script.{Script}
use Rattle.world_model.specs.World.{Sent, World, node_at, world_new}
use Rattle.world_model.specs.Kept.{Bytes, with_packet, sent_since, Ended}
use Rattle.world_model.specs.Play.{is_cut, flow_limit}
use Rattle.world_laws.specs.world_runs.Runs.{SameRun}
use Rattle.world_laws.proofs.world_runs.Backwards.{reversed_back}
use Rattle.world_laws.specs.world_answers.Answers.{Items, Answered, events_in, goes_on, answered_after, answered_records}
use Rattle.world_laws.specs.world_answers.Plays.{AnsweredPlay, starting, PlaysEvent, PlaysEach, TakesPacket, TakesNext, PlaysFlow, PlaysTick, numbers_up, PlaysRounds, PlaysLine, PlaysLines}
use Rattle.world_laws.specs.world_answers.Limits.{answered_within, answered_in, limited}
use Rattle.world_laws.proofs.world_answers.Adding.{lines_add}
use Rattle.world_safety.proofs.Moments.{front_may}
use Rattle.net_script.specs.Safe.{MayHappen, AllMayHappen, IsSafe, LineMay, LinesMay, MayPlay}
use Rattle.net_script.proofs.SafeLaws.{every_answer_is_safe}
use Rattle.net_script.specs.Ends.{records_in, FrontIsSafe}
use Rattle.run_hands.specs.Logs.{StatesAreFolds}
use Rattle.run_hands.proofs.FoldLaws.{states_are_folds}

event_may : (c : Config) (e : Event) → LineMay c.mode (line.Plain e) → MayHappen c e
event_may c (event.Start n) may = may
event_may c _ may = tt

all_turned : (c : Config) (xs : List Answered) (ys : List Answered) → AllMayHappen c (events_in xs) → AllMayHappen c (events_in ys) → AllMayHappen c (events_in (reverse_onto xs ys))
all_turned c [] ys a b = b
all_turned c (x ∷ xs) ys a b = all_turned c xs (x ∷ ys) a.1 (a.0, b)

-- the events so far may happen
abbrev AreFine : Config → AnsweredPlay → Type 0
AreFine c p = AllMayHappen c (events_in p.events)

module _ (said : Items → Option Items) (c : Config) where
  event_fine : (p : AnsweredPlay) (e : Event) (q : AnsweredPlay) → MayHappen c e → PlaysEvent said p e q → AreFine c p → AreFine c q
  event_fine p e q may h f = subst (AreFine c) (sym h.made) (may, f)

  packet_fine : (p : AnsweredPlay) (x : Sent) (rest : List Sent) (up cut : Bool) (q : AnsweredPlay) → TakesPacket said p x rest up cut q → AreFine c p → AreFine c q
  packet_fine p x rest false cut q e f = subst (AreFine c) (sym e) f
  packet_fine p x rest true true q e f = subst (AreFine c) (sym e) f
  packet_fine p x rest true false q h f = event_fine p (event.Deliver x.packet.from x.packet.to x.number) q tt h f

  next_fine : (More : AnsweredPlay → AnsweredPlay → Type 0) (p q : AnsweredPlay) (xs : List Sent) → ((r : AnsweredPlay) → More r q → AreFine c r → AreFine c q) → TakesNext More said p q xs → AreFine c p → AreFine c q
  next_fine More p q [] rest e f = subst (AreFine c) (sym e) f
  next_fine More p q (x ∷ xs) rest h f = rest h.0 h.2 (packet_fine p x xs (is_some (node_at p.world x.packet.to)) (is_cut p.cuts x.packet) h.0 h.1 f)

  flow_fine : (n : ℕ) (p q : AnsweredPlay) → PlaysFlow said n p q → AreFine c p → AreFine c q
  unfolding PlaysFlow
  flow_fine zero p q e f = subst (AreFine c) (sym e) f
  flow_fine (suc n) p q h f = next_fine (PlaysFlow said n) p q p.world.queue (λ r m g. flow_fine n r q m g) h f

  ticks_fine : (p : AnsweredPlay) (ns : List ℕ) (q : AnsweredPlay) → PlaysEach (PlaysTick said) p ns q → AreFine c p → AreFine c q
  ticks_fine p [] q e f = subst (AreFine c) (sym e) f
  ticks_fine p (n ∷ ns) q h f = ticks_fine h.0 ns q h.2 (event_fine p (event.Tick n) h.0 tt h.1 f)

  rounds_fine : (n : ℕ) (p q : AnsweredPlay) → PlaysRounds said n p q → AreFine c p → AreFine c q
  unfolding PlaysRounds
  rounds_fine zero p q e f = subst (AreFine c) (sym e) f
  rounds_fine (suc n) p q h f = rounds_fine n h.0 q h.2 (flow_fine flow_limit h.1.0 h.0 h.1.2 (ticks_fine p (numbers_up p.world) h.1.0 h.1.1 f))

  line_fine : (p : AnsweredPlay) (l : Line) (q : AnsweredPlay) → LineMay c.mode l → PlaysLine said p l q → AreFine c p → AreFine c q
  line_fine p (line.Plain e) q may h f = event_fine p e q (event_may c e may) h f
  line_fine p (line.Drop a b) q may e f = subst (AreFine c) (sym e) f
  line_fine p line.Flow q may h f = flow_fine flow_limit p q h f
  line_fine p (line.Run k) q may h f = rounds_fine k p q h f
  line_fine p (line.Cut a b k) q may e f = subst (AreFine c) (sym e) f
  line_fine p (line.Heal a b k) q may e f = subst (AreFine c) (sym e) f

  lines_fine : (p : AnsweredPlay) (ls : List Line) (q : AnsweredPlay) → LinesMay c.mode ls → PlaysLines said p ls q → AreFine c p → AreFine c q
  lines_fine p [] q may e f = subst (AreFine c) (sym e) f
  lines_fine p (l ∷ ls) q may h f = lines_fine h.0 ls q may.1 h.2 (line_fine p l h.0 may.0 h.1 f)

-- the events of a play come to its world, but for what waits there
same_records : (c : Config) (p : AnsweredPlay) (es : List Answered) → answered_in p ≡ es → SameRun p.world (fold goes_on (world_new c) es) → answered_records c (answered_in p) ≡ records_in p
unfolding answered_records answered_after
same_records c p es e same = ap (λ zs. reverse_onto (fold goes_on (world_new c) zs).trace []) e ∙ ap (λ (w : World). reverse_onto w.trace []) same

-- the events of a play of lines that may happen, in order, may happen
pub play_may : (said : Items → Option Items) (x : Script) (p : AnsweredPlay) → PlaysLines said (starting x.config) x.lines p → MayPlay x → AllMayHappen x.config (events_in (answered_in p))
play_may said x p h may = all_turned x.config p.events [] (lines_fine said x.config (starting x.config) x.lines p may.lines h tt) tt

pub answered_play_is_safe : (said : Items → Option Items) (x : Script) (p : AnsweredPlay) → PlaysLines said (starting x.config) x.lines p → MayPlay x → IsSafe x.config (answered_in p) (records_in p)
answered_play_is_safe said x p h may =
    let adds = lines_add (starting x.config) x.lines p h in
    let all : answered_in p ≡ adds.events = ap (λ zs. reverse_onto zs []) adds.grew ∙ reversed_back adds.events [] in
    subst (IsSafe x.config (answered_in p)) (same_records x.config p adds.events all (adds.comes (world_new x.config) refl)) (every_answer_is_safe x.config (answered_in p) (play_may said x p h may))

-- ---- up to the event that passes the limit

-- a front of these events comes to this world
record Front (w : World) (es : List Answered) (v : World) : Type 0 where
  front : List Answered
  rest : List Answered
  whole : es ≡ front ++ rest
  comes : v ≡ fold goes_on w front

-- it ends before the event, or goes on
abbrev ends_by : World → Ended → Option ℕ → Ended
ends_by w z (Some n) = record { world = w; passed = Some n }
ends_by w z None = z

limited_front : (limit sum : ℕ) (w : World) (es : List Answered) → Front w es (answered_within limit sum w es).world
unfolding answered_within
limited_front limit sum w [] = record { front = []; rest = []; whole = refl; comes = refl }
limited_front limit sum w (e ∷ es) =
    let v : World = goes_on w e in
    let b : Bytes = fold (with_packet limit) (record { sum = sum; passed = None }) (sent_since w v) in
    by (answered_within limit b.sum v es) b.passed (limited_front limit b.sum v es)
  where
    by : (z : Ended) (o : Option ℕ) → Front (goes_on w e) es z.world → Front w (e ∷ es) (ends_by w z o).world
    by z (Some n) f = record { front = []; rest = e ∷ es; whole = refl; comes = refl }
    by z None f = record { front = e ∷ f.front; rest = f.rest; whole = ap (λ zs. e ∷ zs) f.whole; comes = f.comes }

front_records : (c : Config) (es : List Answered) (v : World) → v ≡ fold goes_on (world_new c) es → answered_records c es ≡ reverse_onto v.trace []
unfolding answered_records answered_after
front_records c es v e = ap (λ (z : World). reverse_onto z.trace []) (sym e)

pub answered_front_is_safe : (said : Items → Option Items) (limit : ℕ) (x : Script) (p : AnsweredPlay) → PlaysLines said (starting x.config) x.lines p → MayPlay x → FrontIsSafe limit x.config p
answered_front_is_safe said limit x p h may =
    let f : Front (world_new x.config) (answered_in p) (limited limit x.config p).world = limited_front limit 0 (world_new x.config) (answered_in p) in
    let fine : AllMayHappen x.config (events_in f.front) = front_may x.config f.front f.rest (subst (λ es. AllMayHappen x.config (events_in es)) f.whole (play_may said x p h may)) in
    (f.front, f.rest, f.whole, subst (IsSafe x.config f.front) (front_records x.config f.front (limited limit x.config p).world f.comes) (every_answer_is_safe x.config f.front fine))

-- the states that come with what its clients hear are folds
pub answered_play_folds : {C : Type 0} (R : C → List Handed → Type 0) (said : Items → Option Items) (x : Script) (p : AnsweredPlay) → PlaysLines said (starting x.config) x.lines p → MayPlay x → StatesAreFolds R x.config (answered_in p)
answered_play_folds R said x p h may = states_are_folds R x.config (answered_in p) (play_may said x p h may)
