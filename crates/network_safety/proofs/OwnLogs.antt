-- What the daemons of a node write are the records of their lives, one after another.
use Rattle.std.proofs.Common.{◌≡◌, ℕ, List, [], ◌∷◌, ◌++◌, Bool, true, false, Some, None, refl, sym, ap, ◌∙◌, append_assoc}
use Rattle.std.specs.Prelude.{filter, flat_map, map, if◌then◌else◌}
use Rattle.std.proofs.lemmas.Bool.{eqb-true}
use Rattle.node_state.specs.declared.config.Config.{Config}
use Rattle.node_state.specs.declared.happened.Happened.{Happened}
use Rattle.daemon_model.specs.Daemon.{Daemon, begun_for}
use Rattle.daemon_model.specs.Actions.{Action, did, did_all}
use Rattle.network_model.specs.Network.{Act, Begins, Does, Ends, Net, no_net, noted_since, acted}
use Rattle.network_model.specs.Lives.{LifeIn, daemon_of, end_of, acts_of, is_at}
use Rattle.network_laws.proofs.Going.{More, noted_is, did_more}
use Rattle.network_laws.proofs.Apart.{At, nothing_at, at_of, with_daemon, acted_at, Same, act_same, act_other}
use Rattle.network_safety.specs.Logs.{written_if, written, kept_if, logged_at, life_logs, NodesLogTheirLives}

-- ---- an act, at its node

written_at : Config → ℕ → At → Act → List Happened
written_at c n s (Begins node incarnation moment service) = (begun_for service c n incarnation moment).records
written_at c n s (Does node action) = written_if (λ d. did d action) s.daemon
written_at c n s (Ends node) = []

its_written : (c : Config) (n : ℕ) (net : Net) (a : Act) → is_at n a ≡ true → written c net a ≡ written_at c n (at_of n net) a
unfolding written written_at at_of
its_written c n net (Begins m incarnation moment service) e = ap (λ j. (begun_for service c j incarnation moment).records) (eqb-true m n e)
its_written c n net (Does m x) e = ap (λ j. written_if (λ d. did d x) (net.daemons j)) (eqb-true m n e)
its_written c n net (Ends m) e = refl

all_written : Config → ℕ → At → List Act → List Happened
all_written c n s [] = []
all_written c n s (a ∷ acts) = written_at c n s a ++ all_written c n (acted_at c n s a) acts

same_written : (c : Config) (n : ℕ) (acts : List Act) (net : Net) → logged_at c n net acts ≡ all_written c n (at_of n net) (filter (is_at n) acts)
unfolding logged_at all_written
same_written c n [] net = refl
same_written c n (a ∷ acts) net = by (is_at n a) refl (same_written c n acts (acted c net a))
  where
    by : (b : Bool) → is_at n a ≡ b → logged_at c n (acted c net a) acts ≡ all_written c n (at_of n (acted c net a)) (filter (is_at n) acts)
        → kept_if b (written c net a) ++ logged_at c n (acted c net a) acts ≡ all_written c n (at_of n net) (if b then a ∷ filter (is_at n) acts else filter (is_at n) acts)
    by true e rest =
        let s : Same c n net a = act_same c n net a e in
        ap (λ xs. xs ++ logged_at c n (acted c net a) acts) (its_written c n net a e) ∙ ap (λ xs. written_at c n (at_of n net) a ++ xs) (rest ∙ ap (λ s. all_written c n s (filter (is_at n) acts)) s.state)
    by false e rest = rest ∙ ap (λ s. all_written c n s (filter (is_at n) acts)) (act_other c n net a e)

-- ---- a life

-- a daemon goes on, act after act, and then come other acts
does_at : (c : Config) (n last : ℕ) (xs : List Action) (d : Daemon) (rest : List Act)
    → d.records ++ all_written c n (record { daemon = Some d; last = last }) (map (Does n) xs ++ rest) ≡ (did_all d xs).records ++ all_written c n (record { daemon = Some (did_all d xs); last = last }) rest
unfolding all_written written_at did_all acted_at with_daemon
does_at c n last [] d rest = refl
does_at c n last (x ∷ xs) d rest =
    let m : More d (did d x) = did_more d x in
    let later : List Happened = all_written c n (record { daemon = Some (did d x); last = last }) (map (Does n) xs ++ rest) in
    sym (append_assoc d.records (noted_since d (did d x)) later) ∙ ap (λ ys. (d.records ++ ys) ++ later) (noted_is d (did d x) m.records m.recorded) ∙ ap (λ ys. ys ++ later) (sym m.recorded) ∙ does_at c n last xs (did d x) rest

-- where it ended the node is down, and else the daemon is up; the end is not written
rest_at : ℕ → Daemon → Bool → At
rest_at last d true = record { daemon = None; last = last }
rest_at last d false = record { daemon = Some d; last = last }

ends_at : (c : Config) (n last : ℕ) (d : Daemon) (ended : Bool) (rest : List Act) → all_written c n (record { daemon = Some d; last = last }) (end_of n ended ++ rest) ≡ all_written c n (rest_at last d ended) rest
unfolding all_written written_at acted_at rest_at
ends_at c n last d true rest = refl
ends_at c n last d false rest = refl

life_at : (c : Config) (n : ℕ) (s : At) (l : LifeIn) (rest : List Act) → all_written c n s (acts_of n l ++ rest) ≡ (daemon_of c n l).records ++ all_written c n (rest_at l.incarnation (daemon_of c n l) l.ended) rest
unfolding acts_of all_written written_at acted_at daemon_of
life_at c n s l rest =
    let b : Daemon = begun_for l.service c n l.incarnation l.start in
    let up : Daemon → At = λ d. record { daemon = Some d; last = l.incarnation } in
    ap (λ zs. b.records ++ all_written c n (up b) zs) (append_assoc (map (Does n) l.actions) (end_of n l.ended) rest) ∙ does_at c n l.incarnation l.actions b (end_of n l.ended ++ rest)
    ∙ ap (λ zs. (did_all b l.actions).records ++ zs) (ends_at c n l.incarnation (did_all b l.actions) l.ended rest)

-- whatever daemon is up as they begin
lives_at : (c : Config) (n : ℕ) (ls : List LifeIn) (s : At) → all_written c n s (flat_map (acts_of n) ls) ≡ life_logs c n ls
unfolding all_written
lives_at c n [] s = refl
lives_at c n (l ∷ ls) s =
    life_at c n s l (flat_map (acts_of n) ls)
    ∙ ap (λ ys. (daemon_of c n l).records ++ ys) (lives_at c n ls (rest_at l.incarnation (daemon_of c n l) l.ended))

pub nodes_log_their_lives : NodesLogTheirLives
unfolding at_of
nodes_log_their_lives c acts lives are n =
    same_written c n acts no_net ∙ ap (all_written c n nothing_at) (are n) ∙ lives_at c n (lives n) nothing_at
