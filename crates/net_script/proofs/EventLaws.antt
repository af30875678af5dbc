-- A plain event of a play.
use Rattle.std.proofs.Common.{◌≡◌, ℕ, List, [], ◌∷◌, ◌++◌, Option, Ok, refl, sym, ◌∙◌, ap, subst, append-nil}
use Rattle.std.specs.Io.KnownBytes.{Appends}
use Rattle.hags_io.specs.Edges.{GrowsByFront}
use Rattle.rsct_packet.specs.Lists.{reverse_onto}
use Rattle.client_callbacks.specs.Handed.{Handed}
use Rattle.node_state.specs.declared.happened.Happened.{Happened}
use Rattle.node_state.specs.declared.packet.Packet.{Packet}
use Rattle.world_model.specs.declared.event.Event.{Event}
use Rattle.world_model.specs.World.{World, happens}
use Rattle.world_laws.specs.world_runs.Runs.{SameRun, Recorded}
use Rattle.world_laws.proofs.world_answers.Limits.{one_runs, one_ends, tells_of_runs}
use Rattle.world_laws.proofs.world_answers.Waits.{same_goes}
use Rattle.world_laws.proofs.world_answers.Adding.{event_adds}
use Rattle.world_laws.proofs.world_answers.Going.{event_goes}
use Rattle.play_state.specs.declared.world_fault.WorldFault.{WorldFault}
use Rattle.play_state.specs.declared.world_fault.WorldFault.TheVariants as world_fault
use Rattle.node_state.specs.HandOn.{Answering}
use Rattle.world_laws.specs.world_answers.Answers.{Items, Answered, happens_by, goes_on}
use Rattle.world_laws.specs.world_answers.Plays.{AnsweredPlay, with_answers, PlaysEvent}
use Rattle.load_script.specs.Counting.{counted}
use Rattle.net_script.specs.declared.world.World as kept
use Rattle.net_script.specs.Standing.{Holds, Goes, Passes, Comes}
use Rattle.net_script.specs.Hearing.{Hears}
use Rattle.transcript.specs.declared.kinds.Kinds.{Kinds}
use Rattle.transcript.specs.Kinds.{kinds_text}
use Rattle.net_script.specs.declared.stage.Stage.{Stage}
use Rattle.play_state.specs.declared.play_fault.PutFault.{PutFault}
use Rattle.play_state.specs.declared.play_fault.PutFault.TheVariants as put_fault
use Rattle.play_state.specs.declared.play_fault.PlayFault.{PlayFault}
use Rattle.play_state.specs.declared.play_fault.PlayFault.TheVariants as play_fault
use Rattle.play_state.specs.Faults.{fault_of_put}
use Rattle.net_script.specs.Writing.{Writes, EndsBy}
use Rattle.net_script.specs.Stage.{At, RunHears, Moved, Broke, Stopped, LeadsTo}
use Rattle.net_script.proofs.PlayHands.{hands_same}
use Rattle.net_script.proofs.StageLaws.{broke_at}

-- what is sent where nothing waits is sent where something does
sent_same : (w v : World) (e : Answered) (ps : List Packet) → SameRun w v → (goes_on w e).sent ≡ reverse_onto ps w.sent → (goes_on v e).sent ≡ reverse_onto ps v.sent
sent_same w v e ps h s = ap (λ (z : World). z.sent) (same_goes w v e h) ∙ (s ∙ ap (λ (z : World). reverse_onto ps z.sent) (sym h))

trace_same : (w v : World) (e : Answered) (rs : List Happened) → SameRun w v → (goes_on w e).trace ≡ reverse_onto rs w.trace → (goes_on v e).trace ≡ reverse_onto rs v.trace
trace_same w v e rs h s = ap (λ (z : World). z.trace) (same_goes w v e h) ∙ (s ∙ ap (λ (z : World). reverse_onto rs z.trace) (sym h))

abbrev answered : Event → Answering → Answered
answered e a = record { event = e; answers = a }

-- an event did not happen, for want of memory or since what was left could not be written
event_broken : {C : Type 0} (said : Items → Option Items) (k : Kinds) (a b : Option (List ℕ)) (s : Stage C) (p : AnsweredPlay) (v : World) (e : Event) → GrowsByFront a b s.text.items → (q : AnsweredPlay) × PlaysEvent said p e q × Broke k a b s p q v
event_broken said k a b s p v e w =
    let q = event_goes said p e in
    (q.0, q.1, broke_at k a b s p q.0 v (event_adds p e q.0 q.1).events (event_adds p e q.0 q.1).grew w)

module _ {C : Type 0} {script : C → Option Items} {said : Items → Option Items} where
  holds_same : (s : Stage C) (p : AnsweredPlay) (v u : World) → At script said s p v → SameRun p.world u → Holds script said s.world u
  holds_same s p v u h same = subst (Holds script said s.world) (sym same) (record { nodes = h.stands.nodes; pairs = h.stands.packets.0 })

  -- what comes of an event is played
  pub event_played : {P : World → World → Type 0} (s : Stage C) (p : AnsweredPlay) (v : World) (e : Event) → At script said s p v → (g : Comes script said s.world P (λ f w. happens_by f w e) (λ w. happens w e)) → PlaysEvent said p e (with_answers p e g.answers)
  event_played s p v e h g = record { answers = g.answers; made = refl; worded = λ all u same. g.worded all u (holds_same s p v u h same) }

  -- an event did not happen
  pub event_stops : (r : PlayFault) (f : WorldFault) (k : Kinds) (a b : Option (List ℕ)) (s : Stage C) (p : AnsweredPlay) (v : World) (e : Event) → At script said s p v
      → ((n : ℕ) → f ≡ world_fault.TooMuchKept n → Comes script said s.world (Passes n s.world) (λ f w. happens_by f w e) (λ w. happens w e))
      → EndsBy r f a b s.text.items → (q : AnsweredPlay) × PlaysEvent said p e q × Stopped r k a b s p q v
  unfolding kinds_text
  event_stops play_fault.NoMemory f k a b s p v e h g w = event_broken said k a b s p v e w
  event_stops play_fault.WriteFault f k a b s p v e h g w = event_broken said k a b s p v e w
  event_stops (play_fault.Kept n) f k a b s p v e h g w =
      let comes : Comes script said s.world (Passes n s.world) (λ f w. happens_by f w e) (λ w. happens w e) = g n w.0 in
      let x : Answered = answered e comes.answers in
      let past : Passes n s.world p.world (goes_on p.world x) = comes.comes p.world h.stands in (
        with_answers p e comes.answers,
        event_played s p v e h comes,
        record {
          events = x ∷ [];
          records = [];
          world = v;
          happens = refl;
          ends = one_ends s.world.limit s.world.kept n v x past.sent (sent_same p.world v x past.sent h.same past.sends) past.passed;
          recorded = refl;
          written = subst (Appends a b) (sym (append-nil s.text.items)) w.1;
        },
      )

  -- what an event hands to clients
  event_hears : (R : C → List Handed → Type 0) (s : Stage C) (d : kept.World C) (p : AnsweredPlay) (v : World) (e : Event) (a : Answering) (none rs : List Happened) → none ≡ [] → At script said s p v → Recorded v (happens_by a v e) rs → Hears R script said s.world d none rs e
      → RunHears R s.world.nodes d.nodes v (answered e a ∷ [])
  event_hears R s d p v e a none rs empty h recorded hears old stand =
      let x = hears p.world h.stands old stand in
      let all : rs ≡ x.0 = x.2 ∙ ap (λ xs. xs ++ x.0) empty in
      (x.1, (x.0, x.1, recorded ∙ ap (λ xs. reverse_onto xs v.trace) all, hands_same p.world v e x.0 old x.1 h.same x.3, (d.nodes, x.4), refl), x.4)

module _ {C : Type 0} {script : C → Option Items} {said : Items → Option Items} {R : C → List Handed → Type 0} where
  -- an event happened within the limit
  pub event_moved : (s t : Stage C) (p : AnsweredPlay) (v : World) (e : Event) (none rs : List Happened) → none ≡ [] → At script said s p v → t.cuts ≡ s.cuts → t.counts ≡ counted s.counts rs
      → (g : Comes script said s.world (Goes script said s.world t.world none rs) (λ f w. happens_by f w e) (λ w. happens w e))
      → Hears R script said s.world t.world none rs e → Moved script said R s t p (with_answers p e g.answers) v (happens_by g.answers v e) (answered e g.answers ∷ []) rs
  event_moved s t p v e none rs empty h cuts counts comes hears =
      let x : Answered = answered e comes.answers in
      let g : Goes script said s.world t.world none rs p.world (goes_on p.world x) = comes.comes p.world h.stands in
      let recorded : Recorded v (goes_on v x) rs = trace_same p.world v x rs h.same (g.trace ∙ ap (λ xs. reverse_onto xs p.world.trace) (ap (λ xs. xs ++ g.records) (sym empty) ∙ sym g.out)) in
      record {
        happens = refl;
        runs = one_runs s.world.limit s.world.kept t.world.kept v x g.sent (sent_same p.world v x g.sent h.same g.sends) g.within;
        limit = g.limit;
        recorded = recorded;
        counts = counts;
        comes = refl;
        hears = event_hears R s t.world p v e comes.answers none rs empty h recorded hears;
        at = record { stands = g.stands; cuts = h.cuts ∙ sym cuts; same = same_goes p.world v x h.same };
      }

  -- and was written
  pub event_went : {U : Type 0} (u : U) (k : Kinds) (a b : Option (List ℕ)) (s t : Stage C) (p : AnsweredPlay) (v : World) (e : Event) (none rs : List Happened) → none ≡ [] → At script said s p v → t.cuts ≡ s.cuts → t.counts ≡ counted s.counts rs
      → Comes script said s.world (Goes script said s.world t.world none rs) (λ f w. happens_by f w e) (λ w. happens w e) → Hears R script said s.world t.world none rs e → Writes a s.text.items b t.text.items (kinds_text k rs)
      → LeadsTo script said R (Ok u) k a b s t p (PlaysEvent said p e) v
  event_went u k a b s t p v e none rs empty h cuts counts g hears w = record {
    play = with_answers p e g.answers;
    made = event_played s p v e h g;
    outcome = record { events = answered e g.answers ∷ []; records = rs; world = happens_by g.answers v e; moved = event_moved s t p v e none rs empty h cuts counts g hears; written = w };
  }

  event_broke : (k : Kinds) (a b : Option (List ℕ)) (s t : Stage C) (p q : AnsweredPlay) (v u : World) (es : List Answered) (rs : List Happened) → Moved script said R s t p q v u es rs → GrowsByFront a b (s.text.items ++ kinds_text k rs) → Broke k a b s p q v
  event_broke k a b s t p q v u es rs m w =
      record { events = es; records = rs; happens = m.happens; tells = tells_of_runs s.world.limit s.world.kept t.world.kept v u es rs m.runs m.recorded; front = w }

  put_broke : (f : PutFault) (k : Kinds) (a b : Option (List ℕ)) (s t : Stage C) (p q : AnsweredPlay) (v u : World) (es : List Answered) (rs : List Happened) → Moved script said R s t p q v u es rs → GrowsByFront a b (s.text.items ++ kinds_text k rs) → Stopped (fault_of_put f) k a b s p q v
  put_broke put_fault.WriteFault k a b s t p q v u es rs m w = event_broke k a b s t p q v u es rs m w
  put_broke put_fault.NoMemory k a b s t p q v u es rs m w = event_broke k a b s t p q v u es rs m w

module _ {C : Type 0} {script : C → Option Items} {said : Items → Option Items} where
  -- it happened, and was not counted or written whole
  pub event_put_stops : (R : C → List Handed → Type 0) (f : PutFault) (k : Kinds) (a b : Option (List ℕ)) (s : Stage C) (d : kept.World C) (p : AnsweredPlay) (v : World) (e : Event) (none rs : List Happened) → none ≡ [] → At script said s p v
      → Comes script said s.world (Goes script said s.world d none rs) (λ f w. happens_by f w e) (λ w. happens w e) → Hears R script said s.world d none rs e → GrowsByFront a b (s.text.items ++ kinds_text k rs)
      → (q : AnsweredPlay) × PlaysEvent said p e q × Stopped (fault_of_put f) k a b s p q v
  event_put_stops R f k a b s d p v e none rs empty h g hears w =
      let t : Stage C = record s { world = d; counts = counted s.counts rs } in (
        with_answers p e g.answers,
        event_played s p v e h g,
        put_broke {R = R} f k a b s t p (with_answers p e g.answers) v (happens_by g.answers v e) (answered e g.answers ∷ []) rs (event_moved s t p v e none rs empty h refl refl g hears) w,
      )
