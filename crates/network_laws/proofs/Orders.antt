-- Every execution of a network has an order: that of its times.
use Rattle.std.proofs.Common.{◌≡◌, ◌≢◌, ◌≤◌, ◌<◌, ℕ, zero, suc, List, [], ◌∷◌, ◌++◌, Bool, true, false, Option, Some, None, refl, sym, ap, ap₂, ◌∙◌, subst, inl, inr, arith, append-nil, append_assoc}
use Rattle.std.specs.Prelude.{◌==◌, ◌⊎◌, nat_le, filter, flat_map, map, not, is_none, if◌then◌else◌}
use Rattle.std.proofs.lemmas.Bool.{cases_eq, eq-eqb, ne_eqb, leb-true, leb-false}
use Rattle.std.proofs.lemmas.List.{map-append}
use Rattle.std.proofs.lemmas.List.Elements.{filter-append}
use Rattle.rsct_packet.specs.Ids.{last_u32}
use Rattle.rsct_packet.specs.Search.{Has}
use Rattle.rsct_packet.proofs.HasLaws.{has_filter, filter_has, has_append, append_has_left, append_has_right, has_map}
use Rattle.hags_io.specs.declared.link.LinkCall.{LinkCall}
use Rattle.hags_io.specs.declared.link.LinkCall.TheVariants as call
use Rattle.node_state.specs.declared.config.Config.{Config}
use Rattle.daemon_model.specs.Sent.{Exchange}
use Rattle.daemon_model.specs.Daemon.{Daemon, begun_for}
use Rattle.daemon_model.specs.Actions.{Action, Opens, Ticks, EndsKey, Mends, Hears, did}
use Rattle.network_model.specs.Network.{Act, Begins, Does, Ends, Net, no_net, made_since, acted}
use Rattle.network_model.specs.Lives.{end_of, acts_of, is_at, AreLives}
use Rattle.network_model.specs.Fits.{IsSend, WasSent, MayCome, IsSpelledSend, MayDo, OfUp, MayAct, AllMayAct}
use Rattle.network_model.specs.Executions.{IsLinear, Timed, what_of, NeverBack, TimedLife, untimed, done_at, ended_at, timed_acts, made_when, made_from, made_in, WasSentBefore, EndsBefore, OneByOne, MayHear, Execution, at_its, Ordered, EveryExecutionHasAnOrder}
use Rattle.network_laws.proofs.Apart.{At, nothing_at, at_of, with_daemon, made_by, acted_at, made_at, Same, act_same, act_other}
use Rattle.network_laws.proofs.Sorting.{sorted, refl_later, sorted_order, sorted_filter}

node_of : Act → ℕ
node_of (Begins n incarnation moment service) = n
node_of (Does n action) = n
node_of (Ends n) = n

its_own : (a : Act) → is_at (node_of a) a ≡ true
unfolding node_of
its_own (Begins n incarnation moment service) = eq-eqb n n refl
its_own (Does n action) = eq-eqb n n refl
its_own (Ends n) = eq-eqb n n refl

-- what holds of what comes by whichever way of having been sent
pub comes_as : (S R : List ℕ → Type 0) → ((b : List ℕ) → S b → R b) → (got : LinkCall) → MayCome S got → MayCome R got
comes_as S R f (call.Received network b) (inl h) = inl (f b h)
comes_as S R f (call.Received network b) (inr h) = inr h
comes_as S R f (call.Sent node network b out) h = h
comes_as S R f call.Quiet h = h
comes_as S R f call.Failed h = h

-- ---- the acts of all nodes, node after node

module _ {T : Type 0} (at : ℕ → List (Timed T Act)) where
  upto : ℕ → List (Timed T Act)
  upto zero = at zero
  upto (suc k) = upto k ++ at (suc k)

  module _ (own : (n : ℕ) → filter (at_its n) (at n) ≡ at n) (other : (n m : ℕ) → n ≢ m → filter (at_its n) (at m) ≡ []) where
    beyond : (k n : ℕ) → k < n → filter (at_its n) (upto k) ≡ []
    unfolding upto
    beyond zero n less = other n zero (λ e. absurd (omega (arith, less, e)))
    beyond (suc k) n less =
        filter-append (at_its n) (upto k) (at (suc k)) ∙ ap (λ xs. xs ++ filter (at_its n) (at (suc k))) (beyond k n (omega (arith, less))) ∙ other n (suc k) (λ e. absurd (omega (arith, less, e)))

    within : (k n : ℕ) → n ≤ k → filter (at_its n) (upto k) ≡ at n
    unfolding upto
    within zero n le = let e : n ≡ zero = omega (arith, le) in subst (λ m. filter (at_its n) (at m) ≡ at n) e (own n)
    within (suc k) n le = elim (cases_eq n (suc k)) [
      | inl e ↦ filter-append (at_its n) (upto k) (at (suc k)) ∙ ap (λ xs. xs ++ filter (at_its n) (at (suc k))) (beyond k n (omega (arith, e))) ∙ subst (λ m. filter (at_its n) (at m) ≡ at n) e (own n)
      | inr ne ↦ filter-append (at_its n) (upto k) (at (suc k)) ∙ ap (λ xs. filter (at_its n) (upto k) ++ xs) (other n (suc k) ne) ∙ append-nil (filter (at_its n) (upto k)) ∙ within k n (omega (arith, le, ne))
    ]

module _ {T : Type 0} where
  -- ---- whose acts they are

  each_at : ℕ → Bool → List (Timed T Act) → Type 0
  each_at n b xs = (a : Timed T Act) → Has a xs → at_its n a ≡ b

  all_pass : (n : ℕ) (xs : List (Timed T Act)) → each_at n true xs → filter (at_its n) xs ≡ xs
  unfolding each_at
  all_pass n [] h = refl
  all_pass n (x ∷ xs) h = ap (λ b. if b then x ∷ filter (at_its n) xs else filter (at_its n) xs) (h x (inl refl)) ∙ ap (λ ys. x ∷ ys) (all_pass n xs (λ a i. h a (inr i)))

  none_pass : (n : ℕ) (xs : List (Timed T Act)) → each_at n false xs → filter (at_its n) xs ≡ []
  unfolding each_at
  none_pass n [] h = refl
  none_pass n (x ∷ xs) h = ap (λ b. if b then x ∷ filter (at_its n) xs else filter (at_its n) xs) (h x (inl refl)) ∙ none_pass n xs (λ a i. h a (inr i))

  both_at : (n : ℕ) (b : Bool) (xs ys : List (Timed T Act)) → each_at n b xs → each_at n b ys → each_at n b (xs ++ ys)
  unfolding each_at
  both_at n b xs ys p q a h = elim (has_append a xs ys h) [ inl i ↦ p a i | inr i ↦ q a i ]

  done_each : (n m : ℕ) (b : Bool) → m == n ≡ b → (xs : List (Timed T Action)) → each_at n b (map (done_at m) xs)
  unfolding each_at
  done_each n m b e [] a h = absurd h
  done_each n m b e (x ∷ xs) a (inl is) = ap (at_its n) is ∙ e
  done_each n m b e (x ∷ xs) a (inr h) = done_each n m b e xs a h

  ended_each : (n m : ℕ) (b : Bool) → m == n ≡ b → (o : Option T) → each_at n b (ended_at m o)
  unfolding each_at
  ended_each n m b e None a h = absurd h
  ended_each n m b e (Some t) a (inl is) = ap (at_its n) is ∙ e
  ended_each n m b e (Some t) a (inr h) = absurd h

  life_each : (n m : ℕ) (b : Bool) → m == n ≡ b → (l : TimedLife T) → each_at n b (timed_acts m l)
  unfolding each_at
  life_each n m b e l a (inl is) = ap (at_its n) is ∙ e
  life_each n m b e l a (inr h) = both_at n b (map (done_at m) l.actions) (ended_at m l.ended) (done_each n m b e l.actions) (ended_each n m b e l.ended) a h

  lives_each : (n m : ℕ) (b : Bool) → m == n ≡ b → (ls : List (TimedLife T)) → each_at n b (flat_map (timed_acts m) ls)
  unfolding each_at
  lives_each n m b e [] a h = absurd h
  lives_each n m b e (l ∷ ls) a h = both_at n b (timed_acts m l) (flat_map (timed_acts m) ls) (life_each n m b e l) (lives_each n m b e ls) a h

  -- the act of a daemon stands in one of its lives
  record IsDone (ls : List (TimedLife T)) (t : T) (x : Action) : Type 0 where
    life : TimedLife T
    lived : Has life ls
    action : Timed T Action
    among : Has action life.actions
    time : t ≡ action.time
    what : x ≡ action.what

  end_no_deed : (n : ℕ) (o : Option T) (t : T) (x : Action) (m : ℕ) → Has (record { time = t; what = Does m x }) (ended_at n o) → ⊥
  end_no_deed n None t x m h = absurd h
  end_no_deed n (Some s) t x m (inl e) = let f : Does m x ≡ Ends n = ap what_of e in absurd (cc)
  end_no_deed n (Some s) t x m (inr h) = absurd h

  is_done : (n m : ℕ) (ls : List (TimedLife T)) (t : T) (x : Action) → Has (record { time = t; what = Does m x }) (flat_map (timed_acts n) ls) → IsDone ls t x
  is_done n m [] t x h = absurd h
  is_done n m (l ∷ ls) t x h = elim (has_append (record { time = t; what = Does m x }) (timed_acts n l) (flat_map (timed_acts n) ls) h) [ inl i ↦ here i | inr i ↦ there (is_done n m ls t x i) ]
    where
      made : (a : Timed T Action) × Has a l.actions × (record { time = t; what = Does m x } ≡ done_at n a) → IsDone (l ∷ ls) t x
      made r =
          let e : record { time = t; what = Does m x } ≡ done_at n r.0 = r.2 in
          let f : Does m x ≡ Does n r.0.what = ap what_of e in
          record { life = l; lived = inl refl; action = r.0; among = r.1; time = ap (λ (z : Timed T Act). z.time) e; what = (cc) }

      here : Has (record { time = t; what = Does m x }) (timed_acts n l) → IsDone (l ∷ ls) t x
      here (inl e) = let f : Does m x ≡ Begins n l.incarnation l.start l.service = ap what_of e in absurd (cc)
      here (inr i) = elim (has_append (record { time = t; what = Does m x }) (map (done_at n) l.actions) (ended_at n l.ended) i) [
        | inl j ↦ made (has_map (done_at n) (record { time = t; what = Does m x }) l.actions j)
        | inr j ↦ absurd (end_no_deed n l.ended t x m j)
      ]

      there : IsDone ls t x → IsDone (l ∷ ls) t x
      there d = record { life = d.life; lived = inr d.lived; action = d.action; among = d.among; time = d.time; what = d.what }

-- ---- what a node may do by itself

IsUpAt : Option Daemon → Type 0
IsUpAt None = ⊥
IsUpAt (Some d) = Unit {0}

MayBeAt : ℕ → At → Act → Type 0
MayBeAt n s (Begins m incarnation moment service) = (1 ≤ n) × (n ≤ 32) × (s.daemon ≡ None) × (s.last < incarnation) × (incarnation ≤ last_u32)
MayBeAt n s (Does m x) = IsUpAt s.daemon
MayBeAt n s (Ends m) = IsUpAt s.daemon

module _ {T : Type 0} (c : Config) where
  -- ---- what a node's acts send from now on, and when

  later_made : ℕ → At → List (Timed T Act) → List (Timed T Exchange)
  later_made n s [] = []
  later_made n s (a ∷ more) = map (made_when a.time) (made_at s a.what) ++ later_made n (acted_at c n s a.what) more

  made_time : (t : T) (x : Timed T Exchange) (xs : List Exchange) → Has x (map (made_when t) xs) → (x.time ≡ t) × Has x.what xs
  made_time t x [] h = absurd h
  made_time t x (y ∷ ys) (inl e) = (ap (λ (z : Timed T Exchange). z.time) e, inl (ap what_of e))
  made_time t x (y ∷ ys) (inr h) = let r = made_time t x ys h in (r.0, inr r.1)

  later_time : (n : ℕ) (s : At) (more : List (Timed T Act)) (x : Timed T Exchange) → Has x (later_made n s more) → (a : Timed T Act) × Has a more × (x.time ≡ a.time)
  unfolding later_made
  later_time n s [] x h = absurd h
  later_time n s (a ∷ more) x h = elim (has_append x (map (made_when a.time) (made_at s a.what)) (later_made n (acted_at c n s a.what) more) h) [
    | inl i ↦ (a, inl refl, (made_time a.time x (made_at s a.what) i).0)
    | inr i ↦ (let r = later_time n (acted_at c n s a.what) more x i in (r.0, inr r.1, r.2))
  ]

  -- what is made behind some acts, whatever the node is there
  skip_made : (n : ℕ) (x : Timed T Exchange) (rest : List (Timed T Act)) → ((s : At) → Has x (later_made n s rest)) → (more : List (Timed T Act)) (s : At) → Has x (later_made n s (more ++ rest))
  unfolding later_made
  skip_made n x rest h [] s = h s
  skip_made n x rest h (a ∷ more) s =
      append_has_right x (map (made_when a.time) (made_at s a.what)) (later_made n (acted_at c n s a.what) (more ++ rest)) (skip_made n x rest h more (acted_at c n s a.what))

  done_made : (n last : ℕ) (d : Daemon) (more : List (Timed T Action)) (rest : List (Timed T Act)) (x : Timed T Exchange) → Has x (made_from d more) → Has x (later_made n (record { daemon = Some d; last = last }) (map (done_at n) more ++ rest))
  unfolding later_made made_from acted_at with_daemon made_at made_by
  done_made n last d [] rest x h = absurd h
  done_made n last d (a ∷ more) rest x h = elim (has_append x (map (made_when a.time) (made_since d (did d a.what))) (made_from (did d a.what) more) h) [
    | inl i ↦ append_has_left x (map (made_when a.time) (made_since d (did d a.what))) (later_made n (record { daemon = Some (did d a.what); last = last }) (map (done_at n) more ++ rest)) i
    | inr i ↦ append_has_right x (map (made_when a.time) (made_since d (did d a.what))) (later_made n (record { daemon = Some (did d a.what); last = last }) (map (done_at n) more ++ rest)) (done_made n last (did d a.what) more rest x i)
  ]

  life_made : (n : ℕ) (l : TimedLife T) (rest : List (Timed T Act)) (x : Timed T Exchange) → Has x (made_in c n l) → (s : At) → Has x (later_made n s (timed_acts n l ++ rest))
  unfolding later_made acted_at made_at
  life_made n l rest x h s =
      let b : Daemon = begun_for l.service c n l.incarnation l.start in
      subst (λ zs. Has x (later_made n (record { daemon = Some b; last = l.incarnation }) zs)) (sym (append_assoc (map (done_at n) l.actions) (ended_at n l.ended) rest)) (done_made n l.incarnation b l.actions (ended_at n l.ended ++ rest) x h)

  lives_made : (n : ℕ) (ls : List (TimedLife T)) (l : TimedLife T) → Has l ls → (x : Timed T Exchange) → Has x (made_in c n l) → (s : At) → Has x (later_made n s (flat_map (timed_acts n) ls))
  lives_made n [] l h x i s = absurd h
  lives_made n (k ∷ ls) l (inl e) x i s = life_made n k (flat_map (timed_acts n) ls) x (subst (λ z. Has x (made_in c n z)) e i) s
  lives_made n (k ∷ ls) l (inr h) x i s = skip_made n x (flat_map (timed_acts n) ls) (lives_made n ls l h x i) (timed_acts n k) s

  AllMayBe : ℕ → At → List (Timed T Act) → Type 0
  AllMayBe n s [] = Unit {0}
  AllMayBe n s (a ∷ more) = MayBeAt n s a.what × AllMayBe n (acted_at c n s a.what) more

  done_may : (n last : ℕ) (rest : List (Timed T Act)) → ((d : Daemon) → AllMayBe n (record { daemon = Some d; last = last }) rest) → (more : List (Timed T Action)) (d : Daemon) → AllMayBe n (record { daemon = Some d; last = last }) (map (done_at n) more ++ rest)
  unfolding AllMayBe MayBeAt IsUpAt acted_at with_daemon
  done_may n last rest h [] d = h d
  done_may n last rest h (a ∷ more) d = (tt, done_may n last rest h more (did d a.what))

  lives_may : (n : ℕ) (ls : List (TimedLife T)) (last : ℕ) → ((l : TimedLife T) → Has l ls → (1 ≤ n) × (n ≤ 32)) → OneByOne last ls → AllMayBe n (record { daemon = None; last = last }) (flat_map (timed_acts n) ls)
  unfolding AllMayBe MayBeAt IsUpAt acted_at
  lives_may n [] last nodes one = tt
  lives_may n (l ∷ ls) last nodes one =
      let node = nodes l (inl refl) in (
        (node.0, node.1, refl, one.0, one.1),
        subst (AllMayBe n (record { daemon = Some (begun_for l.service c n l.incarnation l.start); last = l.incarnation })) (sym (append_assoc (map (done_at n) l.actions) (ended_at n l.ended) (flat_map (timed_acts n) ls)))
            (done_may n l.incarnation (ended_at n l.ended ++ flat_map (timed_acts n) ls) (λ d. ends l.ended ls one.2 d (λ m. lives_may n ls l.incarnation (λ k i. nodes k (inr i)) one.3)) l.actions (begun_for l.service c n l.incarnation l.start)),
      )
    where
      ends : (o : Option T) (later : List (TimedLife T)) → EndsBefore o later → (d : Daemon) → (ℕ → AllMayBe n (record { daemon = None; last = l.incarnation }) (flat_map (timed_acts n) later)) → AllMayBe n (record { daemon = Some d; last = l.incarnation }) (ended_at n o ++ flat_map (timed_acts n) later)
      ends None [] h d rest = tt
      ends None (k ∷ ks) h d rest = absurd h
      ends (Some t) later h d rest = (tt, rest 0)

-- a record of an act, by its parts
by_parts : {T : Type 0} (a : Timed T Act) (w : Act) → a.what ≡ w → a ≡ record { time = a.time; what = w }
by_parts a w e = λ i. record { time = a.time; what = e i }

-- ---- acts in the order of their times

module _ {T : Type 0} (no_later : T → T → Bool) (linear : IsLinear T no_later) (P : Exchange → Type 0) (c : Config) where
  -- an act that is still to come sends these bytes, and begins earlier than this time
  record IsLater (net : Net) (rest : List (Timed T Act)) (t : T) (b : List ℕ) : Type 0 where
    node : ℕ
    send : Timed T Exchange
    made : Has send (later_made c node (at_of node net) (filter (at_its node) rest))
    earlier : no_later t send.time ≡ false
    is : IsSend b send.what.call
    holds : P send.what

  -- they were sent, or are sent before that time
  Ready : Net → List (Timed T Act) → T → List ℕ → Type 0
  Ready net rest t b = WasSent P b net.wire ⊎ IsLater net rest t b

  MayBring : Net → List (Timed T Act) → T → Action → Type 0
  MayBring net rest t (Hears got f) = MayCome (Ready net rest t) got
  MayBring net rest t (Opens o) = Unit {0}
  MayBring net rest t (Ticks moment f) = Unit {0}
  MayBring net rest t (EndsKey key f) = Unit {0}
  MayBring net rest t (Mends f) = Unit {0}

  MayBringIf : Net → List (Timed T Act) → T → Act → Type 0
  MayBringIf net rest t (Does n x) = MayBring net rest t x
  MayBringIf net rest t (Begins n incarnation moment service) = Unit {0}
  MayBringIf net rest t (Ends n) = Unit {0}

  -- the acts that are still to come, in a network
  record Going (net : Net) (rest : List (Timed T Act)) : Type 0 where
    order : NeverBack no_later rest
    own : (n : ℕ) → AllMayBe c n (at_of n net) (filter (at_its n) rest)
    ready : (a : Timed T Act) → Has a rest → MayBringIf net rest a.time a.what

  -- ---- the first of them

  module _ (a : Timed T Act) (more : List (Timed T Act)) (net : Net) (g : Going net (a ∷ more)) where
    -- what an act sends that is still to come, it does not send earlier
    not_later : (b : List ℕ) → IsLater net (a ∷ more) a.time b → ⊥
    not_later b l =
        let r = later_time c l.node (at_of l.node net) (filter (at_its l.node) (a ∷ more)) l.send l.made in
        by r.0 r.2 (has_filter (at_its l.node) r.0 (a ∷ more) r.1).0
      where
        by : (x : Timed T Act) → l.send.time ≡ x.time → Has x (a ∷ more) → ⊥
        by x e (inl is) = let q : no_later a.time l.send.time ≡ true = subst (λ t. no_later a.time t ≡ true) (sym (e ∙ ap (λ (z : Timed T Act). z.time) is)) (refl_later no_later linear a.time) in absurd (let z : false ≡ true = sym l.earlier ∙ q in cc)
        by x e (inr i) = let q : no_later a.time l.send.time ≡ true = subst (λ t. no_later a.time t ≡ true) (sym e) (g.order.0 x i) in absurd (let z : false ≡ true = sym l.earlier ∙ q in cc)

    was_sent : (b : List ℕ) → Ready net (a ∷ more) a.time b → WasSent P b net.wire
    unfolding Ready
    was_sent b (inl s) = s
    was_sent b (inr l) = absurd (not_later b l)

    may_do : (x : Action) → MayBring net (a ∷ more) a.time x → MayDo P net.wire x
    unfolding MayBring
    may_do (Opens o) h = tt
    may_do (Ticks moment f) h = tt
    may_do (EndsKey key f) h = tt
    may_do (Mends f) h = tt
    may_do (Hears got f) h = comes_as (Ready net (a ∷ more) a.time) (λ b. WasSent P b net.wire) was_sent got h

    of_up : (M : Type 0) (o : Option Daemon) → IsUpAt o → M → OfUp (λ d. M) o
    unfolding IsUpAt
    of_up M None up m = absurd up
    of_up M (Some d) up m = m

    may_by : (x : Act) → MayBeAt (node_of x) (at_of (node_of x) net) x → MayBringIf net (a ∷ more) a.time x → MayAct P net x
    unfolding MayBeAt node_of at_of MayBringIf
    may_by (Begins n incarnation moment service) may h = record { some = may.0; most = may.1; down = may.2; later = may.3; fits = may.4 }
    may_by (Does n x) may h = of_up (MayDo P net.wire x) (net.daemons n) may (may_do x h)
    may_by (Ends n) may h = of_up (Unit {0}) (net.daemons n) may tt

    at_its_node : MayBeAt (node_of a.what) (at_of (node_of a.what) net) a.what
    unfolding AllMayBe
    at_its_node =
        let n : ℕ = node_of a.what in
        let k : AllMayBe c n (at_of n net) (a ∷ filter (at_its n) more) = subst (λ b. AllMayBe c n (at_of n net) (if b then a ∷ filter (at_its n) more else filter (at_its n) more)) (its_own a.what) (g.own n) in
        k.0

    first_may : MayAct P net a.what
    first_may = may_by a.what at_its_node (g.ready a (inl refl))

    -- ---- and those behind it

    abbrev after : Net
    after = acted c net a.what

    own_after : (m : ℕ) → AllMayBe c m (at_of m after) (filter (at_its m) more)
    unfolding AllMayBe
    own_after m = by (at_its m a) refl (g.own m)
      where
        by : (b : Bool) → at_its m a ≡ b → AllMayBe c m (at_of m net) (if b then a ∷ filter (at_its m) more else filter (at_its m) more) → AllMayBe c m (at_of m after) (filter (at_its m) more)
        by true e k = subst (λ s. AllMayBe c m s (filter (at_its m) more)) (sym (act_same c m net a.what e).state) k.1
        by false e k = subst (λ s. AllMayBe c m s (filter (at_its m) more)) (sym (act_other c m net a.what e)) k

    sent_after : (b : List ℕ) → WasSent P b net.wire → WasSent P b after.wire
    sent_after b s =
        record { send = s.send; among = subst (Has s.send) (sym (act_same c (node_of a.what) net a.what (its_own a.what)).wire) (append_has_left s.send net.wire (made_at (at_of (node_of a.what) net) a.what) s.among); is = s.is; holds = s.holds }

    ready_after : (t : T) (b : List ℕ) → Ready net (a ∷ more) t b → Ready after more t b
    unfolding Ready later_made
    ready_after t b (inl s) = inl (sent_after b s)
    ready_after t b (inr l) = by (at_its l.node a) refl l.made
      where
        by : (p : Bool) → at_its l.node a ≡ p → Has l.send (later_made c l.node (at_of l.node net) (if p then a ∷ filter (at_its l.node) more else filter (at_its l.node) more)) → WasSent P b after.wire ⊎ IsLater after more t b
        by true e h =
            let s : Same c l.node net a.what = act_same c l.node net a.what e in
            elim (has_append l.send (map (made_when a.time) (made_at (at_of l.node net) a.what)) (later_made c l.node (acted_at c l.node (at_of l.node net) a.what) (filter (at_its l.node) more)) h) [
              | inl i ↦ inl (record { send = l.send.what; among = subst (Has l.send.what) (sym s.wire) (append_has_right l.send.what net.wire (made_at (at_of l.node net) a.what) (made_time c a.time l.send (made_at (at_of l.node net) a.what) i).1); is = l.is; holds = l.holds })
              | inr i ↦ inr (record { node = l.node; send = l.send; made = subst (λ z. Has l.send (later_made c l.node z (filter (at_its l.node) more))) (sym s.state) i; earlier = l.earlier; is = l.is; holds = l.holds })
            ]
        by false e h =
            inr (record { node = l.node; send = l.send; made = subst (λ z. Has l.send (later_made c l.node z (filter (at_its l.node) more))) (sym (act_other c l.node net a.what e)) h; earlier = l.earlier; is = l.is; holds = l.holds })

    brings_after : (t : T) (x : Act) → MayBringIf net (a ∷ more) t x → MayBringIf after more t x
    unfolding MayBringIf MayBring
    brings_after t (Begins n incarnation moment service) h = tt
    brings_after t (Ends n) h = tt
    brings_after t (Does n (Opens o)) h = tt
    brings_after t (Does n (Ticks moment f)) h = tt
    brings_after t (Does n (EndsKey key f)) h = tt
    brings_after t (Does n (Mends f)) h = tt
    brings_after t (Does n (Hears got f)) h = comes_as (Ready net (a ∷ more) t) (Ready after more t) (ready_after t) got h

    going_after : Going after more
    going_after = record { order = g.order.1; own = own_after; ready = λ b i. brings_after b.time b.what (g.ready b (inr i)) }

  all_may : (rest : List (Timed T Act)) (net : Net) → Going net rest → AllMayAct P c net (map what_of rest)
  all_may [] net g = tt
  all_may (a ∷ more) net g = (first_may a more net g, all_may more (acted c net a.what) (going_after a more net g))

  -- ---- an execution

  module _ (lives : ℕ → List (TimedLife T)) (x : Execution T no_later P c lives) where
    at : ℕ → List (Timed T Act)
    at n = flat_map (timed_acts n) (lives n)

    all : List (Timed T Act)
    all = upto at 32

    none_beyond : (n : ℕ) → 32 < n → (ls : List (TimedLife T)) → ((l : TimedLife T) → Has l ls → (1 ≤ n) × (n ≤ 32)) → flat_map (timed_acts n) ls ≡ []
    none_beyond n less [] h = refl
    none_beyond n less (l ∷ ls) h = let q = h l (inl refl) in let le : n ≤ 32 = q.1 in absurd (omega (arith, less, le))

    own_all : (n : ℕ) → filter (at_its n) all ≡ at n
    unfolding all at each_at
    own_all n = by (nat_le n 32) refl
      where
        own : (m : ℕ) → filter (at_its m) (at m) ≡ at m
        own m = all_pass m (flat_map (timed_acts m) (lives m)) (lives_each m m true (eq-eqb m m refl) (lives m))

        other : (m k : ℕ) → m ≢ k → filter (at_its m) (at k) ≡ []
        other m k ne = none_pass m (flat_map (timed_acts k) (lives k)) (lives_each m k false (ne_eqb k m (λ e. ne (sym e))) (lives k))

        by : (b : Bool) → nat_le n 32 ≡ b → filter (at_its n) (upto at 32) ≡ at n
        by true e = within at own other 32 n (leb-true n 32 e)
        by false e = let less : 32 < n = omega (arith, leb-false n 32 e) in beyond at own other 32 n less ∙ sym (none_beyond n less (lives n) (x.nodes n))

    acts : List (Timed T Act)
    acts = sorted no_later linear all

    own_acts : (n : ℕ) → filter (at_its n) acts ≡ at n
    unfolding acts at
    own_acts n = sorted_filter no_later linear (at_its n) all (subst (NeverBack no_later) (sym (own_all n)) (x.in_order n)) ∙ own_all n

    sent_ready : (t : T) (b : List ℕ) → WasSentBefore T no_later P c lives t b → Ready no_net acts t b
    unfolding Ready at_of at
    sent_ready t b s =
        inr (record { node = s.node; send = s.send; made = subst (λ zs. Has s.send (later_made c s.node nothing_at zs)) (sym (own_acts s.node)) (lives_made c s.node (lives s.node) s.life s.lived s.send s.made nothing_at); earlier = s.earlier; is = s.is; holds = s.holds })

    hears_ready : (t : T) (y : Action) → MayHear T no_later P c lives t y → MayBring no_net acts t y
    unfolding MayBring
    hears_ready t (Opens o) h = tt
    hears_ready t (Ticks moment f) h = tt
    hears_ready t (EndsKey key f) h = tt
    hears_ready t (Mends f) h = tt
    hears_ready t (Hears got f) h = comes_as (WasSentBefore T no_later P c lives t) (Ready no_net acts t) (sent_ready t) got h

    done_ready : (n : ℕ) (t : T) (y : Action) → IsDone (lives n) t y → MayBring no_net acts t y
    done_ready n t y d =
        let h : MayHear T no_later P c lives d.action.time d.action.what = x.received n d.life d.lived d.action d.among in
        hears_ready t y (subst (λ z. MayHear T no_later P c lives t z) (sym d.what) (subst (λ s. MayHear T no_later P c lives s d.action.what) (sym d.time) h))

    act_ready : (a : Timed T Act) → Has a acts → (w : Act) → a.what ≡ w → MayBringIf no_net acts a.time w
    unfolding MayBringIf at
    act_ready a i (Begins n incarnation moment service) e = tt
    act_ready a i (Ends n) e = tt
    act_ready a i (Does n y) e =
        let here : at_its n a ≡ true = ap (is_at n) e ∙ eq-eqb n n refl in
        let j : Has a (flat_map (timed_acts n) (lives n)) = subst (Has a) (own_acts n) (filter_has (at_its n) a acts i here) in
        done_ready n a.time y (is_done n n (lives n) a.time y (subst (λ z. Has z (flat_map (timed_acts n) (lives n))) (by_parts a (Does n y) e) j))

    begins : Going no_net acts
    unfolding at_of at acts
    begins = record {
      order = sorted_order no_later linear all;
      own = λ n. subst (AllMayBe c n nothing_at) (sym (own_acts n)) (lives_may c n (lives n) 0 (x.nodes n) (x.one_by_one n));
      ready = λ a i. act_ready a i a.what refl;
    }

    pub has_an_order : Ordered T no_later P c lives
    unfolding acts at
    has_an_order = record { acts = acts; in_order = begins.order; own = own_acts; run = record { mode = x.mode; may = all_may acts no_net begins } }

-- ---- the acts of each node are its lives

untimed_done : {T : Type 0} (n : ℕ) (xs : List (Timed T Action)) → map what_of (map (done_at n) xs) ≡ map (Does n) (map what_of xs)
untimed_done n [] = refl
untimed_done n (x ∷ xs) = ap (λ zs. Does n x.what ∷ zs) (untimed_done n xs)

untimed_end : {T : Type 0} (n : ℕ) (o : Option T) → map what_of (ended_at n o) ≡ end_of n (not (is_none o))
untimed_end n None = refl
untimed_end n (Some t) = refl

untimed_acts : {T : Type 0} (n : ℕ) (l : TimedLife T) → map what_of (timed_acts n l) ≡ acts_of n (untimed l)
unfolding acts_of
untimed_acts n l =
    ap (λ zs. Begins n l.incarnation l.start l.service ∷ zs) (map-append what_of (map (done_at n) l.actions) (ended_at n l.ended) ∙ ap₂ (λ xs ys. xs ++ ys) (untimed_done n l.actions) (untimed_end n l.ended))

untimed_lives : {T : Type 0} (n : ℕ) (ls : List (TimedLife T)) → map what_of (flat_map (timed_acts n) ls) ≡ flat_map (acts_of n) (map untimed ls)
untimed_lives n [] = refl
untimed_lives n (l ∷ ls) = map-append what_of (timed_acts n l) (flat_map (timed_acts n) ls) ∙ ap₂ (λ xs ys. xs ++ ys) (untimed_acts n l) (untimed_lives n ls)

untimed_filter : {T : Type 0} (n : ℕ) (xs : List (Timed T Act)) → filter (is_at n) (map what_of xs) ≡ map what_of (filter (at_its n) xs)
untimed_filter n [] = refl
untimed_filter n (x ∷ xs) = by (is_at n x.what) (untimed_filter n xs)
  where
    by : (b : Bool) → filter (is_at n) (map what_of xs) ≡ map what_of (filter (at_its n) xs) → (if b then x.what ∷ filter (is_at n) (map what_of xs) else filter (is_at n) (map what_of xs)) ≡ map what_of (if b then x ∷ filter (at_its n) xs else filter (at_its n) xs)
    by true e = ap (λ zs. x.what ∷ zs) e
    by false e = e

pub are_lives : {T : Type 0} (lives : ℕ → List (TimedLife T)) (acts : List (Timed T Act)) → ((n : ℕ) → filter (at_its n) acts ≡ flat_map (timed_acts n) (lives n)) → AreLives (map what_of acts) (λ n. map untimed (lives n))
are_lives lives acts own n = untimed_filter n acts ∙ ap (map what_of) (own n) ∙ untimed_lives n (lives n)

pub executions_have_an_order : (T : Type 0) → EveryExecutionHasAnOrder T
executions_have_an_order T no_later linear c lives x = has_an_order no_later linear IsSpelledSend c lives x
