-- Each entry of a run begins as is meant, where it is first put.
use Rattle.std.proofs.Common.{◌≡◌, ◌⊎◌, ℕ, ◌+◌, List, [], ◌∷◌, Option, Some, refl, sym, ap, ◌∙◌, inl, inr}
use Rattle.std.specs.Prelude.{reverse}
use Rattle.rsct_packet.specs.declared.ids.ProviderId.{ProviderId}
use Rattle.rsct_packet.specs.declared.ids.ViewId.{ViewId}
use Rattle.rsct_packet.specs.Search.{Has}
use Rattle.rsct_packet.proofs.HasLaws.{reverse_has}
use Rattle.proposal_core.specs.declared.entry.Entry.{Entry}
use Rattle.session_state.specs.declared.state.Request.{Request}
use Rattle.view_state.specs.Views.{views_new}
use Rattle.node_state.specs.declared.call.CallLine.{CallLine}
use Rattle.node_state.specs.declared.config.Config.{Config}
use Rattle.node_state.specs.declared.happened.Happened.{Happened}
use Rattle.node_state.specs.declared.happened.Happened.TheVariants as happened
use Rattle.node_state.specs.declared.packet.Packet.{Packet}
use Rattle.node_state.specs.declared.state.Core.{Core}
use Rattle.node_state.specs.State.{with_sessions}
use Rattle.node_state.specs.HandOn.{Answering}
use Rattle.node_state.specs.Applying.{level_set}
use Rattle.node_state.specs.Calls.{take_call}
use Rattle.node_state.specs.Step.{NodeEvent, Ticks, Asks, Given, Calls, Garbage, at_work, started, stepped}
use Rattle.world_model.specs.Run.{Happening}
use Rattle.world_model.specs.declared.event.Event.{Event}
use Rattle.world_model.specs.declared.event.Event.TheVariants.{Call}
use Rattle.run_safety.specs.Bases.{Bases}
use Rattle.run_safety.specs.Past.{History, EachEvent, Within}
use Rattle.step_refinement.specs.Tied.{Scene, Rests}
use Rattle.step_refinement.specs.Rules.{Arises, ended, over}
use Rattle.run_induction.proofs.Idle.{Idle, within_idle}
use Rattle.run_induction.proofs.Laws.{UpClaim, UpLaw, ups_hold}
use Rattle.run_induction.proofs.Ran.{Ran}
use Rattle.row_laws.specs.failed_rows.Scenes.{Names}
use Rattle.row_laws.proofs.failed_rows.Law.{playing, played_ran, rests_in}
use Rattle.row_laws.proofs.failed_rows.Origin.{root_of}
use Rattle.entry_laws.proofs.closing_rows.Entered.{Since, since_within}
use Rattle.entry_laws.proofs.closing_rows.Evident.{ToldNow, told_less, AgainIn, again_each}
use Rattle.entry_laws.proofs.closing_rows.Law.{bases_in, logs_in, told_in}
use Rattle.call_laws.specs.Calls.{AskedByCall, CallsAreSaid}
use Rattle.call_laws.proofs.Law.{tokens, telling}
use Rattle.call_laws.proofs.Walked.{walked_stepped}
use Rattle.begin_laws.specs.Begins.{EntriesBeginAsMeant, EntriesOfScenesBeginAsMeant, RecordBegins}
use Rattle.begin_laws.proofs.At.{RecordFact}
use Rattle.begin_laws.proofs.Calls.{New, Leaves, call_leaves}
use Rattle.begin_laws.proofs.Known.{IsAsked}
use Rattle.begin_laws.proofs.Requests.{asked_by, Carries, Asks as AsksOn, asks_stepped}
use Rattle.begin_laws.proofs.Steps.{at_stepped}

-- ---- what is first put

abbrev pub EventFacts : Happening → History → Type 0
EventFacts e before = Within (RecordFact e.event) e.records before

-- it holds of each record of each event
abbrev pub AllFacts : History → Type 0
AllFacts h = EachEvent EventFacts h

fact_begins : (e : Happening) (r : Happened) (now : List Happened) (before : History) → RecordFact e.event now before r → RecordBegins e now before r
fact_begins e (happened.Put n v g i entry) now before (inl k) = λ first. k
fact_begins e (happened.Put n v g i entry) now before (inr k) = λ first. absurd (first (k.0, entry, k.1))
fact_begins e (happened.Up n j) now before k = tt
fact_begins e (happened.Down n) now before k = tt
fact_begins e (happened.In n v ms) now before k = tt
fact_begins e (happened.Base n v g old len st) now before k = tt
fact_begins e (happened.Ring n network ring ms next) now before k = tt
fact_begins e (happened.Heard p v g i entry ms value) now before k = tt
fact_begins e (happened.Cast p proto phase vote value message) now before k = tt
fact_begins e (happened.Asked p r g x) now before k = tt
fact_begins e (happened.Told p r why) now before k = tt
fact_begins e (happened.Noted n client v place note) now before k = tt
fact_begins e (happened.Refused n client fault) now before k = tt
fact_begins e (happened.Shown n line) now before k = tt

within_begins : (e : Happening) (now : List Happened) (before : History) → Within (RecordFact e.event) now before → Within (RecordBegins e) now before
within_begins e [] before k = tt
within_begins e (r ∷ now) before k = (fact_begins e r now before k.0, within_begins e now before k.1)

all_begin : (h : History) → AllFacts h → EntriesBeginAsMeant h
all_begin [] k = tt
all_begin (e ∷ before) k = (within_begins e e.records before k.0, all_begin before k.1)

-- ---- what a step has recorded

-- a put of an event in which its node enters a view later was put before
again_fact : (o : Option Event) (r : Happened) (now : List Happened) (before : History) → ((g : List ℕ) → AgainIn g now before r) → RecordFact o now before r
again_fact o (happened.Put n v g i e) now before k = inr (k g refl)
again_fact o _ now before k = tt

all_again : (o : Option Event) (now : List Happened) (before : History) → Within (λ a b r. (g : List ℕ) → AgainIn g a b r) now before → Within (RecordFact o) now before
all_again o [] before k = tt
all_again o (r ∷ now) before k = (again_fact o r now before k.0, all_again o now before k.1)

facts_evident : (o : Option Event) (bases : List ℕ → Bases) (log : List ℕ → ViewId → List Entry) (h : History) (now : List Happened) → ToldNow bases log now h → Since (RecordFact o) now h → Within (RecordFact o) now h
facts_evident o bases log h now t k =
    since_within (RecordFact o) (RecordFact o) h (λ rs. ToldNow bases log rs h) (λ r rs c. told_less bases log r rs h c) (λ r rs c z. z) (λ n v ms rs c. (tt, all_again o rs h (again_each bases log rs h (told_less bases log (happened.In n v ms) rs h c) (λ g. (c g).in_order.0)))) now t k

idle_fact : (o : Option Event) (r : Happened) (now : List Happened) (before : History) → Idle r → RecordFact o now before r
idle_fact o (happened.Put n v g i e) now before z = absurd z
idle_fact o _ now before z = tt

-- ---- what is outstanding

abbrev Outstanding : History → List Request → Type 0
Outstanding h qs = (q : Request) → Has q qs → IsAsked h q

abbrev Sent : History → Packet → Type 0
Sent h x = (q : Request) → asked_by x.body ≡ Some q → IsAsked h q

asked_on : (e : Happening) (h : History) (q : Request) → IsAsked h q → IsAsked (e ∷ h) q
asked_on e h q k none = inr (k none)

-- a node asks for nothing before a client has called
started_outstanding : (h : History) (c : Config) (n j : ℕ) → Outstanding h (started c n j).sessions.requests
unfolding started with_sessions level_set views_new
started_outstanding h c n j q i = absurd i

-- after the call of a step, or as any other step begins
record Root (s : Core) (e : NodeEvent) : Type 0 where
  requests : (q : Request) → Has q (root_of (at_work s) e).sessions.requests → Has q s.sessions.requests ⊎ ((d : CallLine) × (e ≡ Calls d) × New d (root_of (at_work s) e).records q)
  sends : (p : Packet) → Has p (root_of (at_work s) e).sends → Carries (root_of (at_work s) e).sessions p.body

rooted : (s : Core) (e : NodeEvent) → Root s e
rooted s Ticks = record { requests = λ q i. inl i; sends = λ p i. absurd i }
rooted s (Asks mask) = record { requests = λ q i. inl i; sends = λ p i. absurd i }
rooted s (Given p) = record { requests = λ q i. inl i; sends = λ p i. absurd i }
rooted s Garbage = record { requests = λ q i. inl i; sends = λ p i. absurd i }
rooted s (Calls d) = record { requests = λ q i. by q (l.requests q i); sends = l.sends }
  where
    l : Leaves (at_work s) d (take_call (at_work s) d)
    l = call_leaves d (at_work s) refl

    by : (q : Request) → Has q s.sessions.requests ⊎ New d (take_call (at_work s) d).records q → Has q s.sessions.requests ⊎ ((c : CallLine) × (Calls d ≡ Calls c) × New c (take_call (at_work s) d).records q)
    by q (inl i) = inl i
    by q (inr k) = inr (d, refl, k)

module _ (c : Config) (w : Scene) (n : ℕ) (f : Answering) (s : Core) (e : NodeEvent) (v : Event) (next : Ran playing c (ended w n v (stepped f s e))) (says : Names n e v) (own : Outstanding w.before s.sessions.requests) where
  abbrev t : Core
  t = stepped f s e

  abbrev root : Core
  root = root_of (at_work s) e

  walked : AsksOn root t
  walked = asks_stepped f s e (rooted s e).sends

  said : CallsAreSaid (over v t) w.before
  said = (ups_hold playing c tokens (telling c) (ended w n v t) next).lines.0

  -- the node of a provider whose request is recorded is the caller's
  named : (d : CallLine) (p : ProviderId) → v ≡ Call n d → (line : CallLine) → Some v ≡ Some (Call p.node line) → Some v ≡ Some (Call p.node d)
  named d p is line called = ap (λ (z : Event). Some z) (is ∙ ap (λ m. Call m d) (sym node))
    where
      at : (a b : Event) → Some a ≡ Some b → a ≡ b
      at a b e = cc

      same : (a b : ℕ) (x y : CallLine) → Call a x ≡ Call b y → a ≡ b
      same a b x y e = cc

      node : p.node ≡ n
      node = same p.node n line d (sym (at v (Call p.node line) called) ∙ is)

  asked : (q : Request) → Has q root.sessions.requests → IsAsked (over v t ∷ w.before) q
  asked q i = by ((rooted s e).requests q i)
    where
      by : Has q s.sessions.requests ⊎ ((d : CallLine) × (e ≡ Calls d) × New d root.records q) → IsAsked (over v t ∷ w.before) q
      by (inl j) = asked_on (over v t) w.before q (own q j)
      by (inr k) = λ none. inl (record { line = k.0; is = named k.0 q.provider (says k.0 k.1) a.line a.is; asks = (k.2).0 none; recorded = there })
        where
          there : Has (happened.Asked q.provider q.request q.group q.proposal) (over v t).records
          there = reverse_has (happened.Asked q.provider q.request q.group q.proposal) t.records ((walked_stepped f s e).grown (happened.Asked q.provider q.request q.group q.proposal) (k.2).1)

          a : AskedByCall (Some v) w.before q.provider q.request q.group q.proposal
          a = said.asked q.provider q.request q.group q.proposal there

  sends_asked : (x : Packet) → Has x t.sends → Sent (over v t ∷ w.before) x
  sends_asked x i q is = asked q (walked.sends x i q is)

  left_asked : Outstanding (over v t ∷ w.before) t.sessions.requests
  left_asked q i = asked q (walked.requests q i)

-- ---- every scene

abbrev pub begins : UpClaim
begins = record { sent = Sent; node = λ m inc ps h s. Outstanding h s.sessions.requests; lines = AllFacts }

pub beginning : (c : Config) → UpLaw playing c begins
beginning c =
    record {
      none = tt;
      sent_on = λ e h x k q is. asked_on e h q (k q is);
      stays = λ w e t o m s up all k q i. asked_on e w.before q (k q i);
      comes = λ w e t o m came down. started_outstanding (e ∷ w.before) c m (w.incs m + 1);
      lines_on = λ w e t o k. (within_idle (RecordFact e.event) (idle_fact e.event) e.records w.before o.idle, k);
      steps = λ w n f s e v r next up arises says h k.
          record {
            sends = sends_asked c w n f s e v next says k;
            node = left_asked c w n f s e v next says k;
            others = λ m ne d is b q i. asked_on (over v (stepped f s e)) w.before q (b q i);
            lines = (step_facts w n f s e v up (rests_in c w r) (rests_in c (ended w n v (stepped f s e)) next) arises h.sent, h.lines);
          };
    }
  where
    step_facts : (w : Scene) (n : ℕ) (f : Answering) (s : Core) (e : NodeEvent) (v : Event) → w.cores n ≡ Some s → ((g : List ℕ) → Rests g w) → ((g : List ℕ) → Rests g (ended w n v (stepped f s e))) → Arises w e → ((x : Packet) → Has x w.sent → Sent w.before x) → EventFacts (over v (stepped f s e)) w.before
    step_facts w n f s e v up rests after arises were =
        let now : Scene = ended w n v (stepped f s e) in
        facts_evident (Some v) (bases_in now after) (logs_in now after) w.before (reverse (stepped f s e).records) (λ g. told_in now after g) ((at_stepped w n f s e v up rests arises were).facts refl)

pub entries_of_scenes_begin_as_meant : EntriesOfScenesBeginAsMeant
entries_of_scenes_begin_as_meant c w k = all_begin w.before (ups_hold playing c begins (beginning c) w (played_ran c w k)).lines
