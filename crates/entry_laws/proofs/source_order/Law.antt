-- Each scene that events lead to.
use Rattle.std.proofs.Common.{◌≡◌, ◌⊎◌, ℕ, ◌+◌, List, [], ◌∷◌, Option, Some, take, true, false, refl, sym, ap, ◌∙◌, subst, inl, inr}
use Rattle.std.specs.Prelude.{reverse, slice_get}
use Rattle.std.specs.Option.{unwrap_or}
use Rattle.std.proofs.lemmas.Bool.{eq-eqb}
use Rattle.rsct_packet.specs.declared.ids.ViewId.{ViewId}
use Rattle.rsct_packet.specs.Search.{Has}
use Rattle.proposal_core.specs.declared.entry.Entry.{Entry}
use Rattle.node_state.specs.declared.group.GroupRow.{GroupRow}
use Rattle.node_state.specs.declared.config.Config.{Config}
use Rattle.node_state.specs.declared.happened.Happened.{Happened}
use Rattle.node_state.specs.declared.happened.Happened.TheVariants as happened
use Rattle.node_state.specs.declared.packet.Body.{Body}
use Rattle.node_state.specs.declared.packet.Body.TheVariants as body
use Rattle.node_state.specs.declared.packet.Packet.{Packet}
use Rattle.node_state.specs.declared.state.Core.{Core}
use Rattle.node_state.specs.HandOn.{Answering}
use Rattle.name_server.specs.Names.{node_of, looked_up, lookup}
use Rattle.node_state.specs.State.{frozen, coordinates, with_sessions}
use Rattle.node_state.specs.Sending.{network_to, packet_on, send_on, sent}
use Rattle.node_state.specs.Following.{take_lookup}
use Rattle.node_state.specs.Step.{NodeEvent, Given, is_used, used_if, take_body, packet_rule, at_work, started, stepped}
use Rattle.world_model.specs.declared.event.Event.{Event}
use Rattle.world_model.specs.Run.{Happening}
use Rattle.proposal_core.specs.Fold.{fits}
use Rattle.run_safety.specs.Past.{records_of, History, Within}
use Rattle.run_safety.specs.Sight.{lines_of}
use Rattle.run_safety.specs.Bases.{Bases, state_of_list}
use Rattle.run_safety.specs.Group.{Put, kept}
use Rattle.run_safety.proofs.Lives.{whole}
use Rattle.step_refinement.specs.Tied.{Scene, NodeIsIf, opening_of, Rests}
use Rattle.step_refinement.specs.Rules.{acted, over, ended, Arises}
use Rattle.step_refinement.specs.Runs.{Reached, Nothing, AllStart, Starts, Stops, Steps, Notes}
use Rattle.step_refinement.proofs.RunLaw.{reached_rests}
use Rattle.entry_laws.proofs.closing_rows.Evident.{ToldNow, told_less, AgainIn, again_each, put_back}
use Rattle.entry_laws.proofs.closing_rows.Law.{bases_in, logs_in, told_in}
use Rattle.run_induction.proofs.Idle.{Idle, within_idle}
use Rattle.run_induction.proofs.Ran as runs
use Rattle.run_induction.proofs.Ran.{Telling, Ran, ran_reached}
use Rattle.run_induction.proofs.Renoted.{Renoted, with_history, renoted, records_same, each_same}
use Rattle.run_induction.proofs.Laws.{UpClaim, UpDone, UpLaw, ups_hold, up_holds}
use Rattle.entry_laws.proofs.closing_rows.Entered.{Since, since_within}
use Rattle.entry_laws.specs.source_order.Meant.{DeliveryNoted, DeliveriesAreNoted}
use Rattle.entry_laws.specs.source_order.Sources.{ReflectionsRise, ReflectionsClimb, JoinsCarryLengths, JoinsOverSources, RecordedBase, RecordRises, RecordCarries, RecordClimbs, OverSource, ReflectionsAlwaysRise, ReflectionsAlwaysClimb, OfBegun, Rises, JoinsAlwaysCarryLengths, FirstsAlwaysFollowSources, JoinsAlwaysOverSources}
use Rattle.entry_laws.proofs.source_order.Holding as held
use Rattle.entry_laws.proofs.source_order.Holding.{so_far, Apart, RowHolds, row_on}
use Rattle.entry_laws.proofs.source_order.At.{RecordFact, At}
use Rattle.entry_laws.proofs.source_order.Steps.{looked_by, turn_of, at_stepped}
use Rattle.entry_laws.proofs.source_order.Evident.{of_begun, RightBegun, AllFacts, rights_of, puts_right, firsts_follow}
use Rattle.entry_laws.proofs.source_order.Renoted.{note_of, is_noted, rises_same, carries_same, climbs_same}
use Rattle.entry_laws.proofs.source_order.Climbs.{all_climb}
use Rattle.entry_laws.proofs.source_order.Basing.{bases_settled}
use Rattle.entry_laws.proofs.source_order.Sourced.{joins_over}

-- ---- what a step has recorded

-- a put of an event in which its node enters a view later was put before
evident_again : (o : Option Event) (r : Happened) (now : List Happened) (before : History) → ((g : List ℕ) → AgainIn g now before r) → RecordFact o now before r
evident_again o (happened.Put n v g i e) now before k = inr (k g refl)
evident_again o _ now before k = tt

all_again : (o : Option Event) (now : List Happened) (before : History) → Within (λ a b r. (g : List ℕ) → AgainIn g a b r) now before → Within (RecordFact o) now before
all_again o [] before k = tt
all_again o (r ∷ now) before k = (evident_again o r now before k.0, all_again o now before k.1)

facts_evident : (o : Option Event) (bases : List ℕ → Bases) (log : List ℕ → ViewId → List Entry) (h : History) (now : List Happened) → ToldNow bases log now h → Since (RecordFact o) now h → Within (RecordFact o) now h
facts_evident o bases log h now t k =
    since_within (RecordFact o) (RecordFact o) h (λ rs. ToldNow bases log rs h) (λ r rs c. told_less bases log r rs h c) (λ r rs c z. z) (λ n v ms rs c. (tt, all_again o rs h (again_each bases log rs h (told_less bases log (happened.In n v ms) rs h c) (λ g. (c g).in_order.0)))) now t k

-- ---- events

-- runs in which each delivery is noted as such
abbrev pub delivering : Telling
delivering = record { steps = DeliveryNoted; others = λ w v. Unit {0} }

pub noted_ran : (c : Config) (w : Scene) (k : Reached c w) → DeliveriesAreNoted c w k → Ran delivering c w
noted_ran c _ Nothing noted = runs.Nothing
noted_ran c _ (AllStart fixed) noted = runs.AllStart fixed
noted_ran c _ (Starts w n e k free real down) noted = runs.Starts w n e (noted_ran c w k noted) free real down tt
noted_ran c _ (Stops w n e s k up) noted = runs.Stops w n e s (noted_ran c w k noted) up tt
noted_ran c _ (Steps w n f s e v k up arises) noted = runs.Steps w n f s e v (noted_ran c w k noted.1) up arises noted.0
noted_ran c _ (Notes w e rs k notes) noted = runs.Notes w e rs (noted_ran c w k noted) notes tt

-- what a node holds between two events
abbrev Keeps : History → ℕ → Core → Type 0
Keeps h n s = (row : GroupRow) → Has row s.groups → RowHolds h n s.views.view row

-- nothing is said of what was sent
abbrev holding : UpClaim
holding = record { sent = λ h x. Unit {0}; node = λ m inc ps h s. Keeps h m s; lines = AllFacts }

keeps_later : (e : Happening) (h : History) (n : ℕ) (s : Core) → Keeps h n s → Keeps (e ∷ h) n s
keeps_later e h n s x row i = row_on h (e ∷ h) n s.views.view row (λ g p idle a d. inr d) (x row i)

started_keeps : (h : History) (n : ℕ) (c : Config) (m j : ℕ) → Keeps h n (started c m j)
unfolding started with_sessions
started_keeps h n c m j row i = absurd i

idle_fact : (o : Option Event) (r : Happened) (now : List Happened) (before : History) → Idle r → RecordFact o now before r
idle_fact o (happened.Put n v g i e) now before z = absurd z
idle_fact o _ now before z = tt

-- a step
step_done : (w : Scene) (n : ℕ) (f : Answering) (s : Core) (e : NodeEvent) (v : Event) → w.cores n ≡ Some s → ((g : List ℕ) → Rests g w) → ((g : List ℕ) → Rests g (ended w n v (stepped f s e))) → Arises w e → DeliveryNoted n e v → AllFacts w.before → Keeps w.before n s → UpDone holding w n v (stepped f s e)
step_done w n f s e v up rests after arises noted facts k =
    record {
      sends = λ x i. tt;
      node = own a.holds;
      others = λ m ne d is x. keeps_later (over v t) w.before m d x;
      lines = (facts_evident (Some v) (bases_in now after) (logs_in now after) w.before (reverse t.records) (λ g. told_in now after g) a.facts, facts);
    }
  where
    t : Core
    t = stepped f s e

    now : Scene
    now = ended w n v t

    a : At (turn_of v w n (at_work s) e (acted f (at_work s) e).sends) (Unit {0}) t
    a = at_stepped w n f s e v up rests arises noted k

    own : held.Holds (turn_of v w n (at_work s) e (acted f (at_work s) e).sends) t → Keeps now.before n t
    own (inl g) row i =
        subst (λ u. RowHolds now.before n u row) (sym g.view) (row_on (so_far (turn_of v w n (at_work s) e (acted f (at_work s) e).sends) []) now.before n s.views.view row (λ h p idle b d. d) (g.waits row i))
    own (inr z) row i = let b = z.none row i in (subst Apart (sym b.0) tt, λ p e. absurd (b.1 p e))

rests_of : (c : Config) (w : Scene) → Ran delivering c w → (g : List ℕ) → Rests g w
rests_of c w r g = reached_rests c w (ran_reached delivering c w r) g

keeping : (c : Config) → UpLaw delivering c holding
keeping c =
    record {
      none = tt;
      sent_on = λ e h x k. tt;
      stays = λ w e t o m s up all k. keeps_later e w.before m s k;
      comes = λ w e t o m came down. started_keeps (e ∷ w.before) m c m (w.incs m + 1);
      lines_on = λ w e t o k. (within_idle (RecordFact e.event) (idle_fact e.event) e.records w.before o.idle, k);
      steps = λ w n f s e v r next up arises noted h k. step_done w n f s e v up (rests_of c w r) (rests_of c (ended w n v (stepped f s e)) next) arises noted h.lines k;
    }

facts_hold : (c : Config) (w : Scene) → Ran delivering c w → AllFacts w.before
facts_hold c w r = (ups_hold delivering c holding (keeping c) w r).lines

node_keeps : (c : Config) (w : Scene) (k : Reached c w) → DeliveriesAreNoted c w k → (n : ℕ) (s : Core) → w.cores n ≡ Some s → Keeps w.before n s
node_keeps c w k noted n s up = up_holds delivering c holding (keeping c) w (noted_ran c w k noted) n s up

-- each run may be noted so
again : (c : Config) (w : Scene) → Reached c w → Renoted delivering c w
again c w k = renoted delivering note_of is_noted (λ w v. tt) c w k

-- ---- the laws

right : (c : Config) (w : Scene) → Ran delivering c w → ReflectionsRise w.before × JoinsCarryLengths w.before
right c w r =
    let rests : (g : List ℕ) → Rests g w = rests_of c w r in
    puts_right (bases_in w rests) (logs_in w rests) w.before (λ g. told_in w rests g) (facts_hold c w r)

pub reflections_rise : ReflectionsAlwaysRise
reflections_rise c w k =
    let z : Renoted delivering c w = again c w k in
    each_same RecordRises rises_same z.history w.before z.same (right c (with_history w z.history) z.ran).0

pub joins_carry_lengths : JoinsAlwaysCarryLengths
joins_carry_lengths c w k =
    let z : Renoted delivering c w = again c w k in
    each_same RecordCarries carries_same z.history w.before z.same (right c (with_history w z.history) z.ran).1

pub firsts_follow_sources : FirstsAlwaysFollowSources
firsts_follow_sources c w k noted = firsts_follow w.before (facts_hold c w (noted_ran c w k noted))

-- an entry of a view's whole list was put by someone
logged_put : (g : List ℕ) (h : History) (m : ℕ) (v : ViewId) (i : ℕ) (e : Entry) → Has (Put m v i e) (kept (lines_of g h)) → Has (happened.Put m v g i e) (records_of h)
logged_put g [] m v i e j = absurd j
logged_put g (x ∷ before) m v i e j = put_back g m v i e x.records before j

climb : (c : Config) (w : Scene) → Ran delivering c w → ReflectionsClimb w.before
climb c w r = all_climb bases log good (λ g. bases_settled (opening_of w.config) (rests g).ghost (rests g).life (λ v i e q. (good g v i e q).1)) w.before (λ g. told_in w rests g)
  where
    rests : (g : List ℕ) → Rests g w
    rests = rests_of c w r

    bases : List ℕ → Bases
    bases g = (rests g).ghost.bases

    log : List ℕ → ViewId → List Entry
    log g = (whole (rests g).life).log

    good : (g : List ℕ) (v : ViewId) (i : ℕ) (e : Entry) → slice_get (log g v) i ≡ Some e → (fits (state_of_list (bases g) v (take i (log g v))) e ≡ true) × OfBegun (Rises (state_of_list (bases g) v (take i (log g v)))) e
    good g v i e q =
        let o = whole (rests g).life in
        let p = o.firsts.put v i e q in
        let there : slice_get (log g v) i ≡ Some p.1 = o.good.inv.records (Put p.0 v i p.1) p.2 in
        let same : p.1 ≡ e = let z : Some p.1 ≡ Some e = sym there ∙ q in cc in
        let put : Has (happened.Put p.0 v g i p.1) (records_of w.before) = logged_put g w.before p.0 v i p.1 (subst (λ l. Has (Put p.0 v i p.1) (kept l)) (rests g).lines p.2) in
        let right = rights_of bases log w.before (λ h. told_in w rests h) (facts_hold c w r) p.0 v g i p.1 put in (
          o.tallied.fitting v i e q,
          subst (OfBegun (Rises (state_of_list (bases g) v (take i (log g v))))) same (of_begun (RightBegun bases log g v i) (Rises (state_of_list (bases g) v (take i (log g v)))) (λ x z. z.0) p.1 right),
        )

pub reflections_climb : ReflectionsAlwaysClimb
reflections_climb c w k =
    let z : Renoted delivering c w = again c w k in
    each_same RecordClimbs climbs_same z.history w.before z.same (climb c (with_history w z.history) z.ran)

over_sources : (c : Config) (w : Scene) → Ran delivering c w → JoinsOverSources w.before
over_sources c w r =
    let rests : (g : List ℕ) → Rests g w = rests_of c w r in
    joins_over (bases_in w rests) (logs_in w rests) w.before (λ g. told_in w rests g) (facts_hold c w r)

pub joins_over_sources : JoinsAlwaysOverSources
joins_over_sources c w k =
    let z : Renoted delivering c w = again c w k in
    subst (λ rs. (n : ℕ) (v : ViewId) (g : List ℕ) (i : ℕ) (e : Entry) → Has (happened.Put n v g i e) rs → OfBegun (OverSource v rs) e) (records_same z.history w.before z.same) (over_sources c (with_history w z.history) z.ran)

-- ---- the coordinator's table

-- who stands in the table of a coordinator after a step stood there before, or asks now, or leads a base of a view that is entered
pub names_come : (c : Config) (w : Scene) (k : Reached c w) → DeliveriesAreNoted c w k → (n : ℕ) (f : Answering) (s : Core) (e : NodeEvent) (v : Event) → w.cores n ≡ Some s → Arises w e → DeliveryNoted n e v → (g : List ℕ) (m : ℕ) → node_of g (stepped f s e).names ≡ Some m → (((stepped f s e).views.view ≡ s.views.view) × ((node_of g s.names ≡ Some m) ⊎ (looked_by (at_work s) e ≡ Some (g, m)))) ⊎ RecordedBase (stepped f s e).views.me (stepped f s e).views.view g (reverse (stepped f s e).records)
names_come c w k noted n f s e v up arises delivered g m is =
    by (at_stepped w n f s e v up (λ h. reached_rests c w k h) arises delivered (node_keeps c w k noted n s up)).holds
  where
    by : held.Holds (turn_of v w n (at_work s) e (acted f (at_work s) e).sends) (stepped f s e) → (((stepped f s e).views.view ≡ s.views.view) × ((node_of g s.names ≡ Some m) ⊎ (looked_by (at_work s) e ≡ Some (g, m)))) ⊎ RecordedBase (stepped f s e).views.me (stepped f s e).views.view g (reverse (stepped f s e).records)
    by (inl x) = inl (x.view, x.named g m is)
    by (inr x) = inr (x.named g m is)

-- a coordinator that is given a LOOKUP sends NAME
pub lookup_is_named : (c : Config) (w : Scene) (k : Reached c w) → DeliveriesAreNoted c w k → (n : ℕ) (f : Answering) (s : Core) (p : Packet) (v : Event) → w.cores n ≡ Some s → Has p w.sent → DeliveryNoted n (Given p) v → (u : ViewId) (g : List ℕ) → p.to ≡ n → p.body ≡ body.Lookup u g → is_used s p u ≡ true → coordinates s ≡ true → (q : Packet) × Has q (stepped f s (Given p)).sends × (q.body ≡ body.Name s.views.view g (unwrap_or (looked_up g p.from s.names) 0))
unfolding packet_rule take_body used_if take_lookup sent send_on packet_on is_used coordinates frozen
lookup_is_named c w k noted n f s p v up arises delivered u g to is used coord =
    (q, (at_stepped w n f s (Given p) v up (λ h. reached_rests c w k h) arises delivered (node_keeps c w k noted n s up)).sends q there, refl)
  where
    me : s.views.me ≡ n
    me = (subst (NodeIsIf w.config (reached_rests c w k []).ghost [] n (w.incs n)) up ((reached_rests c w k []).nodes n)).0.stands.me

    named : Body
    named = body.Name s.views.view g (unwrap_or (looked_up g p.from s.names) 0)

    after : Core
    after = sent (record (at_work s) { names = lookup g p.from s.names }) p.from named

    q : Packet
    q = packet_on (record (at_work s) { names = lookup g p.from s.names }) (network_to (record (at_work s) { names = lookup g p.from s.names }) p.from) p.from named

    taken : acted f (at_work s) (Given p) ≡ after
    taken =
        ap (λ b. elim b as (λ _. Core) [ true ↦ take_body f (at_work s) p p.body | false ↦ at_work s ]) (eq-eqb p.to s.views.me (to ∙ sym me)) ∙ ap (take_body f (at_work s) p) is ∙ ap (used_if (at_work s) (take_lookup (at_work s) p.from g)) used ∙ ap (λ b. elim b as (λ _. Core) [ false ↦ at_work s | true ↦ after ]) coord

    there : Has q (acted f (at_work s) (Given p)).sends
    there = subst (λ z. Has q z.sends) (sym taken) (inl refl)
