-- The parts of a play one after another.
use Rattle.std.proofs.Common.{◌≡◌, ℕ, List, [], ◌++◌, fold, Option, Result, Ok, Err, refl, sym, ◌∙◌, ap, subst, append-nil}
use Rattle.std.proofs.lemmas.List.Sums.{fold-append}
use Rattle.std.specs.Result.{IsErr, IsErrAnd}
use Rattle.std.specs.Io.KnownBytes.{Appends}
use Rattle.hags_io.specs.Edges.{GrowsByFront}
use Rattle.client_callbacks.specs.Handed.{Handed}
use Rattle.node_state.specs.declared.happened.Happened.{Happened}
use Rattle.world_model.specs.World.{World}
use Rattle.world_laws.proofs.world_answers.Limits.{runs_none, runs_then, runs_end, ends_on, tells_then, tells_on, tells_none}
use Rattle.world_laws.proofs.world_runs.Traces.{recorded_then}
use Rattle.world_laws.proofs.world_answers.Adding.{grew_then}
use Rattle.world_laws.specs.world_answers.Answers.{Items, Answered, goes_on}
use Rattle.world_laws.specs.world_answers.Plays.{AnsweredPlay}
use Rattle.world_laws.specs.world_answers.Limits.{AnsweredRuns, AnsweredEnds, AnsweredTells, Grew}
use Rattle.load_script.specs.declared.counts.Counts.{Counts}
use Rattle.load_script.specs.Counting.{counted}
use Rattle.load_script.proofs.CountLaws.{counted_then}
use Rattle.run_hands.specs.Hands.{LogsStand}
use Rattle.transcript.specs.declared.kinds.Kinds.{Kinds}
use Rattle.transcript.specs.Kinds.{kinds_text}
use Rattle.net_script.specs.declared.stage.Stage.{Stage}
use Rattle.play_state.specs.declared.play_fault.PlayFault.{PlayFault}
use Rattle.play_state.specs.declared.play_fault.PlayFault.TheVariants as play_fault
use Rattle.net_script.specs.Stage.{At, Moved, Went, Passed, Broke, Stopped, Outcome, LeadsTo}
use Rattle.net_script.proofs.PlayHands.{hears_then}
use Rattle.net_script.specs.Writing.{Writes}
use Rattle.net_script.proofs.TextLaws.{kinds_append, none_front, writes_none, writes_then, writes_all, writes_front}

writes_more : (k : Kinds) (a b c : Option (List ℕ)) (left rest last : List ℕ) (xs ys : List Happened) → Writes a left b rest (kinds_text k xs) → Writes b rest c last (kinds_text k ys) → Writes a left c last (kinds_text k (xs ++ ys))
writes_more k a b c left rest last xs ys p q = subst (Writes a left c last) (sym (kinds_append k xs ys)) (writes_then a b c left rest last (kinds_text k xs) (kinds_text k ys) p q)

all_more : (k : Kinds) (a b c : Option (List ℕ)) (left rest : List ℕ) (xs ys : List Happened) → Writes a left b rest (kinds_text k xs) → Appends b c (rest ++ kinds_text k ys) → Appends a c (left ++ kinds_text k (xs ++ ys))
all_more k a b c left rest xs ys p q = subst (λ t. Appends a c (left ++ t)) (sym (kinds_append k xs ys)) (writes_all a b c left rest (kinds_text k xs) (kinds_text k ys) p q)

front_more : (k : Kinds) (a b c : Option (List ℕ)) (left rest : List ℕ) (xs ys : List Happened) → Writes a left b rest (kinds_text k xs) → GrowsByFront b c (rest ++ kinds_text k ys) → GrowsByFront a c (left ++ kinds_text k (xs ++ ys))
front_more k a b c left rest xs ys p q =
    subst (λ t. GrowsByFront a c (left ++ t)) (ap (λ t. kinds_text k xs ++ t) (append-nil (kinds_text k ys)) ∙ sym (kinds_append k xs ys)) (writes_front a b c left rest (kinds_text k xs) (kinds_text k ys) [] p q)

-- nothing more was recorded
pub broke_at : {C : Type 0} (k : Kinds) (a b : Option (List ℕ)) (s : Stage C) (p q : AnsweredPlay) (v : World) (es : List Answered) → Grew p q es → GrowsByFront a b s.text.items → Broke k a b s p q v
unfolding kinds_text
broke_at k a b s p q v es h w = record { events = es; records = []; happens = h; tells = tells_none s.world.limit s.world.kept v es; front = subst (GrowsByFront a b) (sym (append-nil s.text.items)) w }

-- nothing was written
pub broke_none : {C : Type 0} (k : Kinds) (a : Option (List ℕ)) (s : Stage C) (p q : AnsweredPlay) (v : World) (es : List Answered) → Grew p q es → Broke k a a s p q v
broke_none k a s p q v es h = broke_at k a a s p q v es h (none_front a s.text.items)

-- where it stopped, whatever was to come
pub stopped_on : {C : Type 0} (e : PlayFault) (k : Kinds) (a b : Option (List ℕ)) (s : Stage C) (p q x : AnsweredPlay) (v : World) (es : List Answered) → Stopped e k a b s p q v → Grew q x es → Stopped e k a b s p x v
stopped_on (play_fault.Kept n) k a b s p q x v es g h =
    record { events = g.events ++ es; records = g.records; world = g.world; happens = grew_then p q x g.events es g.happens h; ends = ends_on s.world.limit s.world.kept n v g.world g.events g.ends es; recorded = g.recorded; written = g.written }
stopped_on play_fault.WriteFault k a b s p q x v es g h =
    record { events = g.events ++ es; records = g.records; happens = grew_then p q x g.events es g.happens h; tells = tells_on s.world.limit s.world.kept v g.events g.records g.tells es; front = g.front }
stopped_on play_fault.NoMemory k a b s p q x v es g h =
    record { events = g.events ++ es; records = g.records; happens = grew_then p q x g.events es g.happens h; tells = tells_on s.world.limit s.world.kept v g.events g.records g.tells es; front = g.front }

pub stopped_outcome : {C U : Type 0} (script : C → Option Items) (said : Items → Option Items) (R : C → List Handed → Type 0) (r : Result U PlayFault) (e : PlayFault) (k : Kinds) (a b : Option (List ℕ)) (s t : Stage C) (p q : AnsweredPlay) (v : World) → IsErr r × IsErrAnd r (λ f. f ≡ e) → Stopped e k a b s p q v → Outcome script said R r k a b s t p q v
stopped_outcome script said R (Ok u) e k a b s t p q v h g = absurd h.1
stopped_outcome script said R (Err f) e k a b s t p q v h g = subst (λ z. Stopped z k a b s p q v) (sym h.1) g

module _ {C : Type 0} {script : C → Option Items} {said : Items → Option Items} {R : C → List Handed → Type 0} where
  -- ---- nothing happens

  pub moved_none : (s : Stage C) (p : AnsweredPlay) (v : World) → At script said s p v → Moved script said R s s p p v v [] []
  moved_none s p v h = record { happens = refl; runs = runs_none s.world.limit s.world.kept v; limit = refl; recorded = refl; counts = refl; comes = refl; hears = λ old stand. (old, refl, stand); at = h }

  -- only what waits and what is cut off changes
  pub moved_still : (s t : Stage C) (p q : AnsweredPlay) (v : World) → q.events ≡ p.events → t.world.limit ≡ s.world.limit → t.world.kept ≡ s.world.kept → t.world.nodes ≡ s.world.nodes → t.counts ≡ s.counts → At script said t q v → Moved script said R s t p q v v [] []
  moved_still s t p q v e limit kept nodes counts h = record { happens = e; runs = subst (λ k. AnsweredRuns s.world.limit s.world.kept v [] k v) (sym kept) (runs_none s.world.limit s.world.kept v); limit = limit; recorded = refl; counts = counts; comes = refl; hears = λ old stand. (old, refl, subst (λ ns. LogsStand R ns old) (sym nodes) stand); at = h }

  pub went_still : (k : Kinds) (a : Option (List ℕ)) (s t : Stage C) (p q : AnsweredPlay) (v : World) → t.text.items ≡ s.text.items → Moved script said R s t p q v v [] [] → Went script said R k a a s t p q v
  unfolding kinds_text
  went_still k a s t p q v text h = record { events = []; records = []; world = v; moved = h; written = subst (λ (x : List ℕ). Writes a s.text.items a x []) (sym text) (writes_none a s.text.items) }

  pub went_none : (k : Kinds) (a : Option (List ℕ)) (s : Stage C) (p : AnsweredPlay) (v : World) → At script said s p v → Went script said R k a a s s p p v
  went_none k a s p v h = went_still k a s s p p v refl (moved_none s p v h)

  -- ---- an error as a function hands it on

  -- ---- one part after another

  pub then_went : (k : Kinds) (a b c : Option (List ℕ)) (s m t : Stage C) (p q x : AnsweredPlay) (v : World) → (f : Went script said R k a b s m p q v) → Went script said R k b c m t q x f.world → Went script said R k a c s t p x v
  then_went k a b c s m t p q x v f g = record {
    events = f.events ++ g.events;
    records = f.records ++ g.records;
    world = g.world;
    moved = record {
      happens = grew_then p q x f.events g.events f.moved.happens g.moved.happens;
      runs = runs_then s.world.limit s.world.kept m.world.kept t.world.kept v f.world g.world f.events g.events f.moved.runs (subst (λ l. AnsweredRuns l m.world.kept f.world g.events t.world.kept g.world) f.moved.limit g.moved.runs);
      limit = g.moved.limit ∙ f.moved.limit;
      recorded = recorded_then v f.world g.world f.records g.records f.moved.recorded g.moved.recorded;
      counts = g.moved.counts ∙ (ap (λ (c : Counts). counted c g.records) f.moved.counts ∙ sym (counted_then s.counts f.records g.records));
      comes = g.moved.comes ∙ (ap (λ z. fold goes_on z g.events) f.moved.comes ∙ sym (fold-append goes_on v f.events g.events));
      hears = hears_then R s.world.nodes m.world.nodes t.world.nodes v f.world f.events g.events f.moved.comes f.moved.hears g.moved.hears;
      at = g.moved.at;
    };
    written = writes_more k a b c s.text.items m.text.items t.text.items f.records g.records f.written g.written;
  }

  then_passed : (n : ℕ) (k : Kinds) (a b c : Option (List ℕ)) (s m : Stage C) (p q x : AnsweredPlay) (v : World) → (f : Went script said R k a b s m p q v) → Passed n k b c m q x f.world → Passed n k a c s p x v
  then_passed n k a b c s m p q x v f g = record {
    events = f.events ++ g.events;
    records = f.records ++ g.records;
    world = g.world;
    happens = grew_then p q x f.events g.events f.moved.happens g.happens;
    ends = runs_end s.world.limit s.world.kept m.world.kept n v f.world g.world f.events g.events f.moved.runs (subst (λ l. AnsweredEnds l m.world.kept f.world g.events n g.world) f.moved.limit g.ends);
    recorded = recorded_then v f.world g.world f.records g.records f.moved.recorded g.recorded;
    written = all_more k a b c s.text.items m.text.items f.records g.records f.written g.written;
  }

  then_broke : (k : Kinds) (a b c : Option (List ℕ)) (s m : Stage C) (p q x : AnsweredPlay) (v : World) → (f : Went script said R k a b s m p q v) → Broke k b c m q x f.world → Broke k a c s p x v
  then_broke k a b c s m p q x v f g = record {
    events = f.events ++ g.events;
    records = f.records ++ g.records;
    happens = grew_then p q x f.events g.events f.moved.happens g.happens;
    tells = tells_then s.world.limit s.world.kept m.world.kept v f.world f.events g.events f.records g.records f.moved.runs f.moved.recorded (subst (λ l. AnsweredTells l m.world.kept f.world g.events g.records) f.moved.limit g.tells);
    front = front_more k a b c s.text.items m.text.items f.records g.records f.written g.front;
  }

  pub then_stopped : (e : PlayFault) (k : Kinds) (a b c : Option (List ℕ)) (s m : Stage C) (p q x : AnsweredPlay) (v : World) → (f : Went script said R k a b s m p q v) → Stopped e k b c m q x f.world → Stopped e k a c s p x v
  then_stopped (play_fault.Kept n) k a b c s m p q x v f g = then_passed n k a b c s m p q x v f g
  then_stopped play_fault.WriteFault k a b c s m p q x v f g = then_broke k a b c s m p q x v f g
  then_stopped play_fault.NoMemory k a b c s m p q x v f g = then_broke k a b c s m p q x v f g

  pub then_outcome : {U : Type 0} (r : Result U PlayFault) (k : Kinds) (a b c : Option (List ℕ)) (s m t : Stage C) (p q x : AnsweredPlay) (v : World) → (f : Went script said R k a b s m p q v) → Outcome script said R r k b c m t q x f.world → Outcome script said R r k a c s t p x v
  then_outcome (Ok u) k a b c s m t p q x v f g = then_went k a b c s m t p q x v f g
  then_outcome (Err e) k a b c s m t p q x v f g = then_stopped e k a b c s m p q x v f g

-- an error as a function hands it on
pub leads_stopped : {C U : Type 0} (script : C → Option Items) (said : Items → Option Items) (R : C → List Handed → Type 0) (r : Result U PlayFault) (e : PlayFault) (k : Kinds) (a b : Option (List ℕ)) (s t : Stage C) (p : AnsweredPlay) (IsTo : AnsweredPlay → Type 0) (v : World)
    → IsErr r × IsErrAnd r (λ f. f ≡ e) → (q : AnsweredPlay) × IsTo q × Stopped e k a b s p q v → LeadsTo script said R r k a b s t p IsTo v
leads_stopped script said R r e k a b s t p IsTo v h g = record { play = g.0; made = g.1; outcome = stopped_outcome script said R r e k a b s t p g.0 v h g.2 }

pub leads_ended : {C U : Type 0} (script : C → Option Items) (said : Items → Option Items) (R : C → List Handed → Type 0) (e : PlayFault) (k : Kinds) (a b : Option (List ℕ)) (s t : Stage C) (p : AnsweredPlay) (IsTo : AnsweredPlay → Type 0) (v : World) → (q : AnsweredPlay) × IsTo q × Stopped e k a b s p q v → LeadsTo {U = U} script said R (Err e) k a b s t p IsTo v
leads_ended script said R e k a b s t p IsTo v g = record { play = g.0; made = g.1; outcome = g.2 }
