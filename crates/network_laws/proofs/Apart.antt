-- Each node by itself: its acts alone make its daemon, what it sends and what it records; and what it records are the records of
-- its daemons' lives.
use Rattle.std.proofs.Common.{◌≡◌, ◌≢◌, ◌+◌, ◌-◌, ℕ, zero, suc, List, [], ◌∷◌, ◌++◌, length, drop, Bool, true, false, Option, Some, None, refl, sym, ap, ◌∙◌, subst, append-nil, append_assoc}
use Rattle.std.specs.Prelude.{filter, flat_map, map, if◌then◌else◌}
use Rattle.std.proofs.Math.Seq.{drop-append_seam}
use Rattle.std.proofs.lemmas.Bool.{eqb-true, eqb-false}
use Rattle.node_state.specs.declared.config.Config.{Config}
use Rattle.node_state.specs.declared.happened.Happened.{Happened}
use Rattle.node_state.specs.declared.happened.Happened.TheVariants as happened
use Rattle.node_state.specs.Step.{started}
use Rattle.step_refinement.specs.Rules.{at_node}
use Rattle.step_refinement.proofs.Changed.{set_here, set_there}
use Rattle.daemon_model.specs.declared.options.Service.{Service}
use Rattle.daemon_model.specs.Sent.{Exchange}
use Rattle.daemon_model.specs.Daemon.{Daemon, begun_for, serves_nobody}
use Rattle.daemon_model.specs.Actions.{Action, did, did_all}
use Rattle.network_model.specs.Network.{Act, Begins, Does, Ends, Net, no_net, made_since, noted_since, went_on, starts, ends, idles, begins, does_if, acted}
use Rattle.network_model.specs.Lives.{LifeIn, daemon_of, end_of, acts_of, is_at, noted_if, records_at, idle_records, down_of, lives_records, NodesRecordTheirLives}
use Rattle.network_laws.proofs.Going.{More, noted_is, begun_records, begun_calls, did_more}

-- ---- one node by itself: its daemon, and the incarnation in which the last one started

pub record At : Type 0 where
  pub daemon : Option Daemon
  pub last : ℕ

-- before anything happened
abbrev pub nothing_at : At
nothing_at = record { daemon = None; last = 0 }

unfoldable pub at_of : ℕ → Net → At
at_of n net = record { daemon = net.daemons n; last = net.incarnations n }

unfoldable pub with_daemon : At → (Daemon → Daemon) → Option Daemon → At
with_daemon s f None = s
with_daemon s f (Some d) = record s { daemon = Some (f d) }

pub noted_by : (Daemon → Daemon) → Option Daemon → List Happened
noted_by f None = []
noted_by f (Some d) = noted_since d (f d)

unfoldable pub made_by : (Daemon → Daemon) → Option Daemon → List Exchange
made_by f None = []
made_by f (Some d) = made_since d (f d)

-- an act of the node
unfoldable pub acted_at : Config → ℕ → At → Act → At
acted_at c n s (Begins node incarnation moment service) = record { daemon = Some (begun_for service c n incarnation moment); last = incarnation }
acted_at c n s (Does node action) = with_daemon s (λ d. did d action) s.daemon
acted_at c n s (Ends node) = record s { daemon = None }

pub noted_at : Config → ℕ → At → Act → List Happened
noted_at c n s (Begins node incarnation moment service) =
    idle_records c n s.last (incarnation - 1 - s.last) ++ (begun_for service c n incarnation moment).records
noted_at c n s (Does node action) = noted_by (λ d. did d action) s.daemon
noted_at c n s (Ends node) = happened.Down n ∷ []

-- what it receives and sends
unfoldable pub made_at : At → Act → List Exchange
made_at s (Begins node incarnation moment service) = []
made_at s (Does node action) = made_by (λ d. did d action) s.daemon
made_at s (Ends node) = []

all_at : Config → ℕ → At → List Act → List Happened
all_at c n s [] = []
all_at c n s (a ∷ acts) = noted_at c n s a ++ all_at c n (acted_at c n s a) acts

-- ---- an act of the network, at the node

pub record Same (c : Config) (n : ℕ) (net : Net) (a : Act) : Type 0 where
  pub state : at_of n (acted c net a) ≡ acted_at c n (at_of n net) a
  pub records : (acted c net a).records ≡ net.records ++ noted_at c n (at_of n net) a
  pub wire : (acted c net a).wire ≡ net.wire ++ made_at (at_of n net) a

idles_records : (c : Config) (n k : ℕ) (net : Net) → (idles c n k net).records ≡ net.records ++ idle_records c n (net.incarnations n) k
unfolding idles idle_records starts ends
idles_records c n zero net = sym (append-nil net.records)
idles_records c n (suc k) net =
    idles_records c n k (ends n (starts serves_nobody c n (net.incarnations n + 1) 0 net))
    ∙ ap (λ i. ((net.records ++ (begun_for serves_nobody c n (net.incarnations n + 1) 0).records) ++ happened.Down n ∷ []) ++ idle_records c n i k) (set_here net.incarnations n (net.incarnations n + 1))
    ∙ ap (λ xs. ((net.records ++ xs) ++ happened.Down n ∷ []) ++ idle_records c n (net.incarnations n + 1) k) (begun_records serves_nobody c n (net.incarnations n + 1) 0)
    ∙ append_assoc (net.records ++ (started c n (net.incarnations n + 1)).records) (happened.Down n ∷ []) (idle_records c n (net.incarnations n + 1) k)
    ∙ append_assoc net.records (started c n (net.incarnations n + 1)).records (happened.Down n ∷ idle_records c n (net.incarnations n + 1) k)

started_wire : (service : Service) (c : Config) (n inc moment : ℕ) (net : Net) → (starts service c n inc moment net).wire ≡ net.wire
unfolding starts
started_wire service c n inc moment net = ap (λ xs. net.wire ++ xs) (begun_calls service c n inc moment) ∙ append-nil net.wire

idles_wire : (c : Config) (n k : ℕ) (net : Net) → (idles c n k net).wire ≡ net.wire
unfolding idles ends
idles_wire c n zero net = refl
idles_wire c n (suc k) net =
    idles_wire c n k (ends n (starts serves_nobody c n (net.incarnations n + 1) 0 net)) ∙ started_wire serves_nobody c n (net.incarnations n + 1) 0 net

begin_same : (c : Config) (n incarnation moment : ℕ) (service : Service) (net : Net) → Same c n net (Begins n incarnation moment service)
unfolding acted begins starts at_of acted_at noted_at made_at
begin_same c n incarnation moment service net =
    let idled : Net = idles c n (incarnation - 1 - net.incarnations n) net in
    record {
      state = λ i. record { daemon = set_here idled.daemons n (Some (begun_for service c n incarnation moment)) i; last = set_here idled.incarnations n incarnation i };
      records = ap (λ xs. xs ++ (begun_for service c n incarnation moment).records) (idles_records c n (incarnation - 1 - net.incarnations n) net) ∙ append_assoc net.records (idle_records c n (net.incarnations n) (incarnation - 1 - net.incarnations n)) (begun_for service c n incarnation moment).records;
      wire = started_wire service c n incarnation moment idled ∙ idles_wire c n (incarnation - 1 - net.incarnations n) net ∙ sym (append-nil net.wire);
    }

does_state : (f : Daemon → Daemon) (n : ℕ) (net : Net) (o : Option Daemon) → net.daemons n ≡ o → at_of n (does_if f n o net) ≡ with_daemon (at_of n net) f o
unfolding at_of with_daemon went_on
does_state f n net None e = refl
does_state f n net (Some d) e = λ i. record { daemon = set_here net.daemons n (Some (f d)) i; last = net.incarnations n }

does_records : (f : Daemon → Daemon) (n : ℕ) (net : Net) (o : Option Daemon) → (does_if f n o net).records ≡ net.records ++ noted_by f o
unfolding noted_by went_on
does_records f n net None = sym (append-nil net.records)
does_records f n net (Some d) = refl

does_wire : (f : Daemon → Daemon) (n : ℕ) (net : Net) (o : Option Daemon) → (does_if f n o net).wire ≡ net.wire ++ made_by f o
unfolding made_by went_on
does_wire f n net None = sym (append-nil net.wire)
does_wire f n net (Some d) = refl

does_same : (c : Config) (n : ℕ) (a : Action) (net : Net) → Same c n net (Does n a)
unfolding acted acted_at noted_at made_at at_of
does_same c n a net =
    record {
      state = does_state (λ d. did d a) n net (net.daemons n) refl;
      records = does_records (λ d. did d a) n net (net.daemons n);
      wire = does_wire (λ d. did d a) n net (net.daemons n);
    }

end_same : (c : Config) (n : ℕ) (net : Net) → Same c n net (Ends n)
unfolding acted ends acted_at noted_at made_at at_of
end_same c n net =
    record { state = λ i. record { daemon = set_here net.daemons n None i; last = net.incarnations n }; records = refl; wire = sym (append-nil net.wire) }

pub act_same : (c : Config) (n : ℕ) (net : Net) (a : Act) → is_at n a ≡ true → Same c n net a
unfolding acted_at noted_at made_at
act_same c n net (Begins m incarnation moment service) e =
    let is : m ≡ n = eqb-true m n e in
    subst (λ j. Same c n net (Begins j incarnation moment service)) (sym is) (begin_same c n incarnation moment service net)
act_same c n net (Does m x) e = let is : m ≡ n = eqb-true m n e in subst (λ j. Same c n net (Does j x)) (sym is) (does_same c n x net)
act_same c n net (Ends m) e = let is : m ≡ n = eqb-true m n e in subst (λ j. Same c n net (Ends j)) (sym is) (end_same c n net)

-- an act of another node
idles_other : (c : Config) (m n k : ℕ) (net : Net) → n ≢ m → at_of n (idles c m k net) ≡ at_of n net
unfolding idles starts ends at_of
idles_other c m n zero net ne = refl
idles_other c m n (suc k) net ne =
    let up : ℕ → Option Daemon = at_node net.daemons m (Some (begun_for serves_nobody c m (net.incarnations m + 1) 0)) in
    idles_other c m n k (ends m (starts serves_nobody c m (net.incarnations m + 1) 0 net)) ne
    ∙ (λ i. record { daemon = (set_there up m None n ne ∙ set_there net.daemons m (Some (begun_for serves_nobody c m (net.incarnations m + 1) 0)) n ne) i; last = set_there net.incarnations m (net.incarnations m + 1) n ne i })

does_other : (f : Daemon → Daemon) (m n : ℕ) (net : Net) (o : Option Daemon) → n ≢ m → at_of n (does_if f m o net) ≡ at_of n net
unfolding at_of went_on
does_other f m n net None ne = refl
does_other f m n net (Some d) ne = λ i. record { daemon = set_there net.daemons m (Some (f d)) n ne i; last = net.incarnations n }

pub act_other : (c : Config) (n : ℕ) (net : Net) (a : Act) → is_at n a ≡ false → at_of n (acted c net a) ≡ at_of n net
unfolding acted begins starts ends at_of
act_other c n net (Begins m incarnation moment service) e =
    let ne : n ≢ m = λ is. eqb-false m n e (sym is) in
    let idled : Net = idles c m (incarnation - 1 - net.incarnations m) net in
    (λ i. record { daemon = set_there idled.daemons m (Some (begun_for service c m incarnation moment)) n ne i; last = set_there idled.incarnations m incarnation n ne i })
    ∙ idles_other c m n (incarnation - 1 - net.incarnations m) net ne
act_other c n net (Does m x) e = does_other (λ d. did d x) m n net (net.daemons m) (λ is. eqb-false m n e (sym is))
act_other c n net (Ends m) e =
    let ne : n ≢ m = λ is. eqb-false m n e (sym is) in
    λ i. record { daemon = set_there net.daemons m None n ne i; last = net.incarnations n }

-- ---- all acts, at the node

all_same : (c : Config) (n : ℕ) (acts : List Act) (net : Net) → records_at c n net acts ≡ all_at c n (at_of n net) (filter (is_at n) acts)
unfolding records_at all_at
all_same c n [] net = refl
all_same c n (a ∷ acts) net = by (is_at n a) refl (all_same c n acts (acted c net a))
  where
    by : (b : Bool) → is_at n a ≡ b → records_at c n (acted c net a) acts ≡ all_at c n (at_of n (acted c net a)) (filter (is_at n) acts)
        → noted_if b net (acted c net a) ++ records_at c n (acted c net a) acts ≡ all_at c n (at_of n net) (if b then a ∷ filter (is_at n) acts else filter (is_at n) acts)
    by true e rest =
        let s : Same c n net a = act_same c n net a e in
        ap (λ xs. drop (length net.records) xs ++ records_at c n (acted c net a) acts) s.records ∙ ap (λ xs. xs ++ records_at c n (acted c net a) acts) (drop-append_seam net.records (noted_at c n (at_of n net) a))
        ∙ ap (λ xs. noted_at c n (at_of n net) a ++ xs) (rest ∙ ap (λ s. all_at c n s (filter (is_at n) acts)) s.state)
    by false e rest = rest ∙ ap (λ s. all_at c n s (filter (is_at n) acts)) (act_other c n net a e)

-- ---- a life

-- a daemon goes on, act after act, and then come other acts
does_at : (c : Config) (n last : ℕ) (xs : List Action) (d : Daemon) (rest : List Act)
    → d.records ++ all_at c n (record { daemon = Some d; last = last }) (map (Does n) xs ++ rest) ≡ (did_all d xs).records ++ all_at c n (record { daemon = Some (did_all d xs); last = last }) rest
unfolding all_at did_all acted_at noted_at with_daemon noted_by
does_at c n last [] d rest = refl
does_at c n last (x ∷ xs) d rest =
    let m : More d (did d x) = did_more d x in
    let later : List Happened = all_at c n (record { daemon = Some (did d x); last = last }) (map (Does n) xs ++ rest) in
    sym (append_assoc d.records (noted_since d (did d x)) later) ∙ ap (λ ys. (d.records ++ ys) ++ later) (noted_is d (did d x) m.records m.recorded) ∙ ap (λ ys. ys ++ later) (sym m.recorded) ∙ does_at c n last xs (did d x) rest

-- where it ended the node is down, and else the daemon is up
rest_at : Config → ℕ → ℕ → Daemon → Bool → At
rest_at c n last d true = record { daemon = None; last = last }
rest_at c n last d false = record { daemon = Some d; last = last }

ends_at : (c : Config) (n last : ℕ) (d : Daemon) (ended : Bool) (rest : List Act)
    → all_at c n (record { daemon = Some d; last = last }) (end_of n ended ++ rest) ≡ down_of n ended ++ all_at c n (rest_at c n last d ended) rest
unfolding all_at acted_at noted_at rest_at
ends_at c n last d true rest = refl
ends_at c n last d false rest = refl

life_at : (c : Config) (n : ℕ) (s : At) (l : LifeIn) (rest : List Act) → all_at c n s (acts_of n l ++ rest)
    ≡ idle_records c n s.last (l.incarnation - 1 - s.last) ++ ((daemon_of c n l).records ++ (down_of n l.ended ++ all_at c n (rest_at c n l.incarnation (daemon_of c n l) l.ended) rest))
unfolding acts_of all_at acted_at noted_at daemon_of
life_at c n s l rest =
    let b : Daemon = begun_for l.service c n l.incarnation l.start in
    let idle : List Happened = idle_records c n s.last (l.incarnation - 1 - s.last) in
    let up : Daemon → At = λ d. record { daemon = Some d; last = l.incarnation } in
    append_assoc idle b.records (all_at c n (up b) ((map (Does n) l.actions ++ end_of n l.ended) ++ rest))
    ∙ ap (λ zs. idle ++ (b.records ++ all_at c n (up b) zs)) (append_assoc (map (Does n) l.actions) (end_of n l.ended) rest) ∙ ap (λ ys. idle ++ ys) (does_at c n l.incarnation l.actions b (end_of n l.ended ++ rest))
    ∙ ap (λ zs. idle ++ ((did_all b l.actions).records ++ zs)) (ends_at c n l.incarnation (did_all b l.actions) l.ended rest)

-- whatever daemon is up as they begin
lives_at : (c : Config) (n : ℕ) (ls : List LifeIn) (s : At) → all_at c n s (flat_map (acts_of n) ls) ≡ lives_records c n s.last ls
unfolding all_at lives_records rest_at
lives_at c n [] s = refl
lives_at c n (l ∷ ls) s =
    life_at c n s l (flat_map (acts_of n) ls)
    ∙ ap (λ ys. idle_records c n s.last (l.incarnation - 1 - s.last) ++ ((daemon_of c n l).records ++ (down_of n l.ended ++ ys))) (lives_at c n ls (rest_at c n l.incarnation (daemon_of c n l) l.ended) ∙ ap (λ i. lives_records c n i ls) (last_is (daemon_of c n l) l.ended))
  where
    last_is : (d : Daemon) (ended : Bool) → (rest_at c n l.incarnation d ended).last ≡ l.incarnation
    last_is d true = refl
    last_is d false = refl

pub nodes_record_their_lives : NodesRecordTheirLives
unfolding at_of
nodes_record_their_lives c acts lives are n =
    all_same c n acts no_net ∙ ap (all_at c n nothing_at) (are n) ∙ lives_at c n (lives n) nothing_at
