-- The play of a whole script, whatever its clients answer.
use Rattle.std.proofs.Common.{◌≡◌, ℕ, List, [], ◌++◌, Option, Some, None, Result, Ok, Err, refl, sym, ◌∙◌, ap, subst, append-nil}
use Rattle.std.specs.Result.{IsErr, IsErrAnd}
use Rattle.std.specs.Io.KnownBytes.{Appends}
use Rattle.hags_io.specs.Edges.{GrowsByFront}
use Rattle.rsct_packet.specs.Lists.{reverse_onto}
use Rattle.client_callbacks.specs.Handed.{Handed}
use Rattle.node_state.specs.declared.happened.Happened.{Happened}
use Rattle.node_state.specs.declared.config.Config.{Config}
use Rattle.world_model.specs.declared.script.Line.{Line}
use Rattle.world_model.specs.declared.script.Script.{Script}
use Rattle.world_model.specs.World.{World, empty_world, world_new}
use Rattle.world_model.specs.Kept.{Bytes, Ended}
use Rattle.world_laws.specs.world_runs.Runs.{Recorded}
use Rattle.world_laws.proofs.world_runs.Backwards.{reversed, reversed_back}
use Rattle.world_laws.proofs.world_runs.Whole.{new_sends_nothing}
use Rattle.world_laws.specs.world_answers.Answers.{Items, Answered}
use Rattle.world_laws.specs.world_answers.Plays.{AnsweredPlay, starting, PlaysLines}
use Rattle.world_laws.specs.world_answers.Limits.{answered_within, answered_in, limited, AnsweredRuns, AnsweredEnds, AnsweredTells, Grew}
use Rattle.world_laws.proofs.world_answers.Adding.{lines_add}
use Rattle.world_laws.proofs.world_answers.Going.{lines_go}
use Rattle.world_laws.proofs.world_answers.Limits.{tells_none}
use Rattle.net_script.specs.declared.world.World as kept
use Rattle.net_script.specs.Standing.{Goes, kept_empty}
use Rattle.play_state.specs.Posting.{bytes_after}
use Rattle.run_hands.specs.Hands.{LogsStand, RunHands, empty_logs}
use Rattle.transcript.specs.declared.kinds.Kinds.{Kinds}
use Rattle.transcript.specs.Kinds.{kinds_text}
use Rattle.net_script.specs.declared.stage.Stage.{Stage}
use Rattle.play_state.specs.declared.play_fault.PlayFault.{PlayFault}
use Rattle.play_state.specs.declared.play_fault.PlayFault.TheVariants as play_fault
use Rattle.play_state.specs.declared.play_fault.PutFault.{PutFault}
use Rattle.play_state.specs.declared.play_fault.PutFault.TheVariants as put_fault
use Rattle.play_state.specs.Faults.{fault_of_put}
use Rattle.net_script.specs.Stage.{At, Went, Passed, Broke, Stopped, LeadsTo}
use Rattle.net_script.specs.Ends.{records_in, records_within, StopsAs, EndsAs, ClientsStand, PlayedAs}
use Rattle.net_script.proofs.SafePlays.{answered_play_is_safe, answered_front_is_safe, answered_play_folds}
use Rattle.net_script.specs.Writing.{Writes}
use Rattle.net_script.proofs.TextLaws.{kinds_append, none_front, writes_none, writes_all, writes_front}

-- ---- the beginning

-- the play stands at its beginning, where the starts of nodes have recorded this
pub record Opened {C : Type 0} (script : C → Option Items) (said : Items → Option Items) (limit : ℕ) (s : Stage C) (c : Config) (rs : List Happened) : Type 0 where
  pub at : At script said s (starting c) (world_new c)
  pub limited : s.world.limit ≡ limit
  pub kept : s.world.kept ≡ 0
  pub trace : (world_new c).trace ≡ reverse_onto rs []

pub reversed_nothing : {A : Type 0} (xs : List A) → [] ≡ reverse_onto xs [] → xs ≡ []
reversed_nothing xs e = sym (reversed_back xs []) ∙ ap (λ zs. reverse_onto zs []) (sym e)

-- all records so far
all_so_far : (first rest : List Happened) (start : World) (trace : List Happened) → start.trace ≡ reverse_onto first [] → trace ≡ reverse_onto rest start.trace → reverse_onto trace [] ≡ first ++ rest
all_so_far first rest start trace e f =
    ap (λ zs. reverse_onto zs []) (f ∙ (ap (reverse_onto rest) e ∙ reversed first rest [])) ∙ reversed_back (first ++ rest) []

text_on : (kinds : Kinds) (a b c : Option (List ℕ)) (left : List ℕ) (first rest all : List Happened) → all ≡ first ++ rest → Writes a [] b left (kinds_text kinds first) → Appends b c (left ++ kinds_text kinds rest) → Appends a c (kinds_text kinds all)
text_on kinds a b c left first rest all e p q = subst (Appends a c) (sym (ap (kinds_text kinds) e ∙ kinds_append kinds first rest)) (writes_all a b c [] left (kinds_text kinds first) (kinds_text kinds rest) p q)

front_of : (kinds : Kinds) (a b c : Option (List ℕ)) (left : List ℕ) (first rest more all : List Happened) → all ≡ first ++ (rest ++ more) → Writes a [] b left (kinds_text kinds first) → GrowsByFront b c (left ++ kinds_text kinds rest) → GrowsByFront a c (kinds_text kinds all)
front_of kinds a b c left first rest more all e p q =
    subst (GrowsByFront a c)
    (ap (λ t. kinds_text kinds first ++ t) (sym (kinds_append kinds rest more)) ∙ (sym (kinds_append kinds first (rest ++ more)) ∙ ap (kinds_text kinds) (sym e)))
    (writes_front a b c [] left (kinds_text kinds first) (kinds_text kinds rest) (kinds_text kinds more) p q)

-- what is left at the end is put, or a front of it
ends_whole : (a b c : Option (List ℕ)) (left rest text : List ℕ) → Writes a left b rest text → Appends b c rest → Appends a c (left ++ text)
ends_whole a b c left rest text p q = subst (λ t. Appends a c (left ++ t)) (append-nil text) (writes_all a b c left rest text [] p (subst (Appends b c) (sym (append-nil rest)) q))

ends_front : (a b c : Option (List ℕ)) (left rest text : List ℕ) → Writes a left b rest text → GrowsByFront b c rest → GrowsByFront a c (left ++ text)
ends_front a b c left rest text p q = subst (λ t. GrowsByFront a c (left ++ t)) (append-nil text) (writes_front a b c left rest text [] [] p (subst (GrowsByFront b c) (sym (append-nil rest)) q))

-- ---- the run of the whole play

-- its events, in order
pub answered_all : (c : Config) (p : AnsweredPlay) (es : List Answered) → Grew (starting c) p es → answered_in p ≡ es
answered_all c p es h = ap (λ zs. reverse_onto zs []) h ∙ reversed_back es []

ended_by : (limit : ℕ) (c : Config) (p : AnsweredPlay) (es : List Answered) → Grew (starting c) p es → limited limit c p ≡ answered_within limit 0 (world_new c) (es ++ [])
ended_by limit c p es h = ap (answered_within limit 0 (world_new c)) (answered_all c p es h ∙ sym (append-nil es))

whole_runs : (limit total : ℕ) (c : Config) (p : AnsweredPlay) (es : List Answered) (v : World) → Grew (starting c) p es → AnsweredRuns limit 0 (world_new c) es total v → limited limit c p ≡ record { world = v; passed = None }
unfolding answered_within
whole_runs limit total c p es v h runs = ended_by limit c p es h ∙ runs []

whole_ends : (limit n : ℕ) (c : Config) (p : AnsweredPlay) (es : List Answered) (v : World) → Grew (starting c) p es → AnsweredEnds limit 0 (world_new c) es n v → limited limit c p ≡ record { world = v; passed = Some n }
whole_ends limit n c p es v h ends = ended_by limit c p es h ∙ ends []

whole_tells : (limit : ℕ) (c : Config) (p : AnsweredPlay) (es : List Answered) (rs : List Happened) → Grew (starting c) p es → AnsweredTells limit 0 (world_new c) es rs → (more : List Happened) × Recorded (world_new c) (limited limit c p).world (rs ++ more)
whole_tells limit c p es rs h tells =
    let t = tells [] in
    (t.0, ap (λ (z : Ended). z.world.trace) (ended_by limit c p es h) ∙ (t.1 ∙ reversed rs t.0 (world_new c).trace))

-- a front of what the starts record
pub first_front : (said : Items → Option Items) (kinds : Kinds) (a b : Option (List ℕ)) (limit : ℕ) (c : Config) (ls : List Line) (first : List Happened) → (world_new c).trace ≡ reverse_onto first [] → GrowsByFront a b (kinds_text kinds first)
    → (p : AnsweredPlay) × PlaysLines said (starting c) ls p × GrowsByFront a b (kinds_text kinds (records_within limit c p))
unfolding kinds_text
first_front said kinds a b limit c ls first trace g =
    let p = lines_go said (starting c) ls in
    let adds = lines_add (starting c) ls p.0 p.1 in
    let more = whole_tells limit c p.0 adds.events [] adds.grew (tells_none limit 0 (world_new c) adds.events) in
    let all : records_within limit c p.0 ≡ [] ++ (first ++ more.0) = all_so_far first more.0 (world_new c) (limited limit c p.0).world.trace trace more.1 in
    (p.0, p.1, front_of kinds a a b [] [] first more.0 (records_within limit c p.0) all (writes_none a []) g)

module _ {C : Type 0} {script : C → Option Items} {said : Items → Option Items} where
  -- what the starts have recorded
  pub first_trace : (c : Config) (limit : ℕ) (k : kept.World C) (none rs : List Happened) → none ≡ [] → Goes script said (kept_empty c limit) k none rs (empty_world c) (world_new c) → (world_new c).trace ≡ reverse_onto rs []
  first_trace c limit k none rs empty g = g.trace ∙ ap (λ xs. reverse_onto xs []) (ap (λ xs. xs ++ g.records) (sym empty) ∙ sym g.out)

  pub opened : (c : Config) (limit : ℕ) (s : Stage C) (none rs : List Happened) → none ≡ [] → s.cuts ≡ [] → Goes script said (kept_empty c limit) s.world none rs (empty_world c) (world_new c) → Opened script said limit s c rs
  opened c limit s none rs empty uncut g =
      let unsent : g.sent ≡ [] = reversed_nothing g.sent (sym (new_sends_nothing c) ∙ g.sends) in
      record {
        at = record { stands = g.stands; cuts = sym uncut; same = refl };
        limited = g.limit;
        kept = sym (ap (λ (b : Bytes). b.sum) (ap (bytes_after limit 0) (sym unsent) ∙ g.within));
        trace = first_trace c limit s.world none rs empty g;
      }

  -- ---- it ended early

  play_passed : (n : ℕ) (kinds : Kinds) (a b c : Option (List ℕ)) (limit : ℕ) (s : Stage C) (f : Config) (p : AnsweredPlay) (first : List Happened) → Opened script said limit s f first → Writes a [] b s.text.items (kinds_text kinds first)
      → Passed n kinds b c s (starting f) p (world_new f) → StopsAs (play_fault.Kept n) kinds limit f p a c
  play_passed n kinds a b c limit s f p first o begun w =
      let ends : AnsweredEnds limit 0 (world_new f) w.events n w.world = subst (λ k. AnsweredEnds limit k (world_new f) w.events n w.world) o.kept (subst (λ l. AnsweredEnds l s.world.kept (world_new f) w.events n w.world) o.limited w.ends) in
      let whole : limited limit f p ≡ record { world = w.world; passed = Some n } = whole_ends limit n f p w.events w.world w.happens ends in
      let trace : (limited limit f p).world.trace ≡ reverse_onto w.records (world_new f).trace = ap (λ (z : Ended). z.world.trace) whole ∙ w.recorded in
      (ap (λ (z : Ended). z.passed) whole, text_on kinds a b c s.text.items first w.records (records_within limit f p) (all_so_far first w.records (world_new f) (limited limit f p).world.trace o.trace trace) begun w.written)

  broke_front : (kinds : Kinds) (a b c : Option (List ℕ)) (limit : ℕ) (s : Stage C) (f : Config) (p : AnsweredPlay) (first : List Happened) → Opened script said limit s f first → Writes a [] b s.text.items (kinds_text kinds first)
      → Broke kinds b c s (starting f) p (world_new f) → GrowsByFront a c (kinds_text kinds (records_within limit f p))
  broke_front kinds a b c limit s f p first o begun w =
      let tells : AnsweredTells limit 0 (world_new f) w.events w.records = subst (λ k. AnsweredTells limit k (world_new f) w.events w.records) o.kept (subst (λ l. AnsweredTells l s.world.kept (world_new f) w.events w.records) o.limited w.tells) in
      let more = whole_tells limit f p w.events w.records w.happens tells in
      let all : records_within limit f p ≡ first ++ (w.records ++ more.0) = all_so_far first (w.records ++ more.0) (world_new f) (limited limit f p).world.trace o.trace more.1 in
      front_of kinds a b c s.text.items first w.records more.0 (records_within limit f p) all begun w.front

  play_stopped : (e : PlayFault) (kinds : Kinds) (a b c : Option (List ℕ)) (limit : ℕ) (s : Stage C) (f : Config) (p : AnsweredPlay) (first : List Happened) → Opened script said limit s f first → Writes a [] b s.text.items (kinds_text kinds first)
      → Stopped e kinds b c s (starting f) p (world_new f) → StopsAs e kinds limit f p a c
  play_stopped (play_fault.Kept n) kinds a b c limit s f p first o begun w = play_passed n kinds a b c limit s f p first o begun w
  play_stopped play_fault.WriteFault kinds a b c limit s f p first o begun w = broke_front kinds a b c limit s f p first o begun w
  play_stopped play_fault.NoMemory kinds a b c limit s f p first o begun w = broke_front kinds a b c limit s f p first o begun w

module _ {C : Type 0} {script : C → Option Items} {said : Items → Option Items} {R : C → List Handed → Type 0} where
  -- ---- all was played

  -- its run is within the limit
  play_within : (kinds : Kinds) (b c : Option (List ℕ)) (limit : ℕ) (s t : Stage C) (f : Config) (p : AnsweredPlay) (first : List Happened) → Opened script said limit s f first
      → (w : Went script said R kinds b c s t (starting f) p (world_new f)) → limited limit f p ≡ record { world = w.world; passed = None }
  play_within kinds b c limit s t f p first o w =
      let runs : AnsweredRuns limit 0 (world_new f) w.events t.world.kept w.world = subst (λ k. AnsweredRuns limit k (world_new f) w.events t.world.kept w.world) o.kept (subst (λ l. AnsweredRuns l s.world.kept (world_new f) w.events t.world.kept w.world) o.limited w.moved.runs) in
      whole_runs limit t.world.kept f p w.events w.world w.moved.happens runs

  -- the records of its run
  play_records : (kinds : Kinds) (b c : Option (List ℕ)) (limit : ℕ) (s t : Stage C) (f : Config) (p : AnsweredPlay) (first : List Happened) → Opened script said limit s f first
      → (w : Went script said R kinds b c s t (starting f) p (world_new f)) → records_in p ≡ first ++ w.records
  play_records kinds b c limit s t f p first o w =
      let trace : p.world.trace ≡ reverse_onto w.records (world_new f).trace = sym (ap (λ (z : World). z.trace) w.moved.at.same) ∙ w.moved.recorded in
      all_so_far first w.records (world_new f) p.world.trace o.trace trace

  records_whole : (kinds : Kinds) (b c : Option (List ℕ)) (limit : ℕ) (s t : Stage C) (f : Config) (p : AnsweredPlay) (first : List Happened) → Opened script said limit s f first
      → Went script said R kinds b c s t (starting f) p (world_new f) → records_within limit f p ≡ records_in p
  records_whole kinds b c limit s t f p first o w = ap (λ (z : Ended). reverse_onto z.world.trace []) (play_within kinds b c limit s t f p first o w) ∙ ap (λ (z : World). reverse_onto z.trace []) w.moved.at.same

  play_done : (kinds : Kinds) (a b c d : Option (List ℕ)) (limit : ℕ) (s t : Stage C) (f : Config) (p : AnsweredPlay) (first : List Happened) → Opened script said limit s f first → Writes a [] b s.text.items (kinds_text kinds first)
      → Went script said R kinds b c s t (starting f) p (world_new f) → Appends c d t.text.items → EndsAs script said (Ok t.world) kinds limit f p a d
  play_done kinds a b c d limit s t f p first o begun w put = (
    ap (λ (z : Ended). z.passed) (play_within kinds b c limit s t f p first o w),
    records_whole kinds b c limit s t f p first o w,
    text_on kinds a b d s.text.items first w.records (records_in p) (play_records kinds b c limit s t f p first o w) begun (ends_whole b c d s.text.items t.text.items (kinds_text kinds w.records) w.written put),
    w.moved.at.stands,
  )

  -- it could not be written to its end
  play_cut : (kinds : Kinds) (a b c d : Option (List ℕ)) (limit : ℕ) (s t : Stage C) (f : Config) (p : AnsweredPlay) (first : List Happened) → Opened script said limit s f first → Writes a [] b s.text.items (kinds_text kinds first)
      → Went script said R kinds b c s t (starting f) p (world_new f) → GrowsByFront c d t.text.items → GrowsByFront a d (kinds_text kinds (records_within limit f p))
  play_cut kinds a b c d limit s t f p first o begun w put =
      let all : records_within limit f p ≡ first ++ (w.records ++ []) = records_whole kinds b c limit s t f p first o w ∙ (play_records kinds b c limit s t f p first o w ∙ ap (λ rs. first ++ rs) (sym (append-nil w.records))) in
      front_of kinds a b d s.text.items first w.records [] (records_within limit f p) all begun (ends_front b c d s.text.items t.text.items (kinds_text kinds w.records) w.written put)

  clients_stand : (kinds : Kinds) (b c : Option (List ℕ)) (s t : Stage C) (f : Config) (p : AnsweredPlay) → LogsStand R s.world.nodes (empty_logs (world_new f)) → Went script said R kinds b c s t (starting f) p (world_new f) → ClientsStand R (Ok t.world) f p
  clients_stand kinds b c s t f p empty w =
      let x = w.moved.hears (empty_logs (world_new f)) empty in
      (x.0, subst (λ es. RunHands R (world_new f) es (empty_logs (world_new f)) x.0) (sym (answered_all f p w.events w.moved.happens)) x.1, x.2)

  -- ---- as the play of the lines ended

  pub played_done : {U : Type 0} {u : U} (kinds : Kinds) (a b c d : Option (List ℕ)) (limit : ℕ) (s t : Stage C) (x : Script) (first : List Happened) → Opened script said limit s x.config first → LogsStand R s.world.nodes (empty_logs (world_new x.config)) → Writes a [] b s.text.items (kinds_text kinds first)
      → ((p : AnsweredPlay) → (v : World) → At script said s p v → LeadsTo script said R (Ok u) kinds b c s t p (PlaysLines said p x.lines) v) → Appends c d t.text.items → PlayedAs script said R (Ok t.world) kinds limit x a d
  played_done kinds a b c d limit s t x first o empty begun next put =
      let l = next (starting x.config) (world_new x.config) o.at in
      record { play = l.play; lines = l.made; ends = play_done kinds a b c d limit s t x.config l.play first o begun l.outcome put; hands = clients_stand kinds b c s t x.config l.play empty l.outcome; safe = answered_play_is_safe said x l.play l.made; safe_front = answered_front_is_safe said limit x l.play l.made; folds = answered_play_folds R said x l.play l.made }

  pub played_stopped : {U : Type 0} (e : PlayFault) (kinds : Kinds) (a b c : Option (List ℕ)) (limit : ℕ) (s t : Stage C) (x : Script) (first : List Happened) → Opened script said limit s x.config first → Writes a [] b s.text.items (kinds_text kinds first)
      → ((p : AnsweredPlay) → (v : World) → At script said s p v → LeadsTo {U = U} script said R (Err e) kinds b c s t p (PlaysLines said p x.lines) v) → PlayedAs script said R (Err e) kinds limit x a c
  played_stopped e kinds a b c limit s t x first o begun next =
      let l = next (starting x.config) (world_new x.config) o.at in
      record { play = l.play; lines = l.made; ends = play_stopped e kinds a b c limit s x.config l.play first o begun l.outcome; hands = tt; safe = answered_play_is_safe said x l.play l.made; safe_front = answered_front_is_safe said limit x l.play l.made; folds = answered_play_folds R said x l.play l.made }

-- ---- it ended before the first line

front_stops : (f : PutFault) (kinds : Kinds) (limit : ℕ) (c : Config) (p : AnsweredPlay) (a b : Option (List ℕ)) → GrowsByFront a b (kinds_text kinds (records_within limit c p)) → StopsAs (fault_of_put f) kinds limit c p a b
front_stops put_fault.WriteFault kinds limit c p a b g = g
front_stops put_fault.NoMemory kinds limit c p a b g = g

ended_err : {C : Type 0} (script : C → Option Items) (said : Items → Option Items) (r : Result (kept.World C) PlayFault) (f : PlayFault) (kinds : Kinds) (limit : ℕ) (c : Config) (p : AnsweredPlay) (a b : Option (List ℕ)) → IsErr r × IsErrAnd r (λ e. e ≡ f)
    → StopsAs f kinds limit c p a b → EndsAs script said r kinds limit c p a b
ended_err script said (Ok w) f kinds limit c p a b h g = absurd h.1
ended_err script said (Err e) f kinds limit c p a b h g = subst (λ z. StopsAs z kinds limit c p a b) (sym h.1) g

ended_hands : {C : Type 0} (R : C → List Handed → Type 0) (r : Result (kept.World C) PlayFault) (c : Config) (p : AnsweredPlay) → IsErr r → ClientsStand R r c p
ended_hands R (Ok w) c p h = absurd cc
ended_hands R (Err e) c p h = tt

-- some nodes could not start
pub starts_stopped : {C : Type 0} (script : C → Option Items) (said : Items → Option Items) (R : C → List Handed → Type 0) (r : Result (kept.World C) PlayFault) (kinds : Kinds) (limit : ℕ) (x : Script) (a : Option (List ℕ)) → IsErr r × IsErrAnd r (λ e. e ≡ play_fault.NoMemory)
    → PlayedAs script said R r kinds limit x a a
starts_stopped script said R r kinds limit x a h =
    let p = lines_go said (starting x.config) x.lines in
    record { play = p.0; lines = p.1; ends = ended_err script said r play_fault.NoMemory kinds limit x.config p.0 a a h (none_front a (kinds_text kinds (records_within limit x.config p.0))); hands = ended_hands R r x.config p.0 h.0; safe = answered_play_is_safe said x p.0 p.1; safe_front = answered_front_is_safe said limit x p.0 p.1; folds = answered_play_folds R said x p.0 p.1 }

-- what they recorded could not be written
pub starts_cut : {C : Type 0} (script : C → Option Items) (said : Items → Option Items) (R : C → List Handed → Type 0) (r : Result (kept.World C) PlayFault) (f : PutFault) (kinds : Kinds) (limit : ℕ) (x : Script) (a b : Option (List ℕ)) (first : List Happened) → IsErr r × IsErrAnd r (λ e. e ≡ fault_of_put f)
    → (world_new x.config).trace ≡ reverse_onto first [] → GrowsByFront a b (kinds_text kinds first) → PlayedAs script said R r kinds limit x a b
starts_cut script said R r f kinds limit x a b first h trace g =
    let p = first_front said kinds a b limit x.config x.lines first trace g in
    record { play = p.0; lines = p.1; ends = ended_err script said r (fault_of_put f) kinds limit x.config p.0 a b h (front_stops f kinds limit x.config p.0 a b p.2); hands = ended_hands R r x.config p.0 h.0; safe = answered_play_is_safe said x p.0 p.1; safe_front = answered_front_is_safe said limit x p.0 p.1; folds = answered_play_folds R said x p.0 p.1 }

-- what was left at the end could not be written
pub played_cut : {C U : Type 0} {script : C → Option Items} {said : Items → Option Items} {R : C → List Handed → Type 0} {u : U} (r : Result (kept.World C) PlayFault) (e : PutFault) (kinds : Kinds) (a b c d : Option (List ℕ)) (limit : ℕ) (s t : Stage C) (x : Script) (first : List Happened) → IsErr r × IsErrAnd r (λ z. z ≡ fault_of_put e)
    → Opened script said limit s x.config first → Writes a [] b s.text.items (kinds_text kinds first)
    → ((p : AnsweredPlay) → (v : World) → At script said s p v → LeadsTo script said R (Ok u) kinds b c s t p (PlaysLines said p x.lines) v) → GrowsByFront c d t.text.items → PlayedAs script said R r kinds limit x a d
played_cut {script = script} {said = said} {R = R} r e kinds a b c d limit s t x first h o begun next put =
    let l = next (starting x.config) (world_new x.config) o.at in
    record { play = l.play; lines = l.made; ends = ended_err script said r (fault_of_put e) kinds limit x.config l.play a d h (front_stops e kinds limit x.config l.play a d (play_cut kinds a b c d limit s t x.config l.play first o begun l.outcome put)); hands = ended_hands R r x.config l.play h.0; safe = answered_play_is_safe said x l.play l.made; safe_front = answered_front_is_safe said limit x l.play l.made; folds = answered_play_folds R said x l.play l.made }
